-- A look-up finds a code exactly where the words have the text.
use Rattle.std.proofs.Common.{◌≡◌, ℕ, List, [], ◌∷◌, Bool, true, false, refl}
use Rattle.std.specs.Prelude.{is_some}
use Rattle.std.specs.Map.{lookup}
use Rattle.std.specs.List.{list_any}
use Rattle.case_table.specs.Entries.{words_of}

some_hit : (test : List ℕ → Bool) (entry : List ℕ × ℕ) (entries : List (List ℕ × ℕ)) (hit : Bool) → test entry.0 ≡ hit
    → is_some (lookup test entries) ≡ list_any test (words_of entries) → is_some (lookup test (entry ∷ entries)) ≡ list_any test (words_of (entry ∷ entries))
some_hit test entry entries true is more = rw is refl
some_hit test entry entries false is more = rw is more

pub some_among : (test : List ℕ → Bool) (entries : List (List ℕ × ℕ)) → is_some (lookup test entries) ≡ list_any test (words_of entries)
some_among test [] = refl
some_among test (entry ∷ entries) = some_hit test entry entries (test entry.0) refl (some_among test entries)
