-- White space and fixed texts: what stands before them ends there.
use Rattle.std.proofs.Common.{◌≡◌, ◌≢◌, ℕ, Bool, true, false, List, [], ◌∷◌, ◌++◌, Some, refl, sym, ap, subst, ◌∙◌}
use Rattle.std.specs.List.{list_all}
use Rattle.std.proofs.lemmas.Bool.{and_parts, and_from}
use Rattle.text_scan.specs.declared.class.Class.TheVariants.{Blank}
use Rattle.text_scan.specs.Classes.{has}
use Rattle.text_scan.specs.Fronts.{Passes, StopsAt, front_of, rest_of}
use Rattle.text_scan.specs.Follows.{Follows}
use Rattle.text_scan.proofs.Fronts.{front-rest, front_passes, rest-append}
use Rattle.text_scan.proofs.Steps.{guard_some}
use Rattle.xml_text.specs.Reading.{gap_at}

-- a run that holds no white space ends before the block
pub block_stops : (test : ℕ → Bool) (block text rest : List ℕ) → ((byte : ℕ) → has Blank byte ≡ true → test byte ≡ false) → StopsAt test (block ++ rest) → Follows block text rest → StopsAt test text
block_stops test block text rest apart ends follows = subst (StopsAt test) (sym follows.whole) (at_gap follows.gap follows.white)
  where
    at_gap : (gap : List ℕ) → Passes (has Blank) gap → StopsAt test (gap ++ (block ++ rest))
    at_gap [] white = ends
    at_gap (byte ∷ gap) white = apart byte (and_parts (has Blank byte) (list_all (has Blank) gap) white).0

-- white space of one byte or more
pub record IsGap (gap text behind : List ℕ) : Type 0 where
  pub some : gap ≢ []
  pub white : Passes (has Blank) gap
  pub whole : text ≡ gap ++ behind

pub gap_takes : (text behind : List ℕ) → gap_at text ≡ Some behind → (gap : List ℕ) × IsGap gap text behind
unfolding gap_at
gap_takes [] behind e = absurd cc
gap_takes (first ∷ others) behind e =
    let blank = guard_some (has Blank first) (rest_of (has Blank) others) behind e in
    let gap = front_of (has Blank) others in (
      first ∷ gap,
      record {
        some = some_is_some first gap;
        white = and_from (has Blank first) (list_all (has Blank) gap) blank.0 (front_passes (has Blank) others);
        whole = ap (λ (t : List ℕ). first ∷ t) (sym (front-rest (has Blank) others) ∙ ap (λ (t : List ℕ). gap ++ t) blank.1);
      },
    )
  where
    some_is_some : (byte : ℕ) (bytes : List ℕ) → byte ∷ bytes ≢ []
    some_is_some byte bytes e = cc

gap_read : (gap behind : List ℕ) → gap ≢ [] → Passes (has Blank) gap → StopsAt (has Blank) behind → gap_at (gap ++ behind) ≡ Some behind
unfolding gap_at
gap_read [] behind some white ends = absurd (some refl)
gap_read (byte ∷ gap) behind some white ends =
    let parts = and_parts (has Blank byte) (list_all (has Blank) gap) white in
    rw (parts.0, rest-append (has Blank) gap behind parts.1 ends) refl

pub gap_again : (gap text behind : List ℕ) → IsGap gap text behind → StopsAt (has Blank) behind → gap_at text ≡ Some behind
gap_again gap text behind is ends = ap gap_at is.whole ∙ gap_read gap behind is.some is.white ends
