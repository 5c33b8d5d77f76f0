-- What the code leaves of a list of children, or of a map of them: keys are set first, and then the new name.
use Rattle.std.proofs.Common.{◌≡◌, ℕ, Bool, true, false, cond, ◌||◌, List, [], ◌∷◌, map, Option, None, Some, Result, Ok, Err, refl, sym, ap, ap₂, ◌∙◌, inl, inr}
use Rattle.std.specs.List.{list_any}
use Rattle.std.specs.Str.{bytes_eq}
use Rattle.glob_select.specs.Matching.{matches}
use Rattle.patch_changes.proofs.Closed.{any-map, changed_all, changed_child, changes-none, changes-some, is_chosen, step_under}
use Rattle.patch_changes.specs.Listed.{Element, Renames, allowed, comes_to, entry_comes_to, key_comes_to, keyed, new_entry, nothing, twice, under_new}
use Rattle.patch_edits.specs.Edits.{Edited}
use Rattle.patch_model.specs.Acts.{KeyList, PatternItems}
use Rattle.patch_sem.specs.declared.fault.PatchFault.{PatchFault}
use Rattle.patch_sem.specs.declared.fault.PatchFault.TheVariants.{AddExists, NoMatch}
use Rattle.patch_sem.specs.Copying.{renamed_step}
use Rattle.patch_sem.specs.Selecting.{is_named, selects}
use Rattle.patch_sem.specs.Settings.{container_of, keys_set, keys_with}
use Rattle.patch_sem.specs.Steps.{Outcome, ◌>>=◌, refused_if}
use Rattle.svd_model.specs.declared.device.Field.{Field}
use Rattle.svd_model.specs.declared.device.Peripheral.{Peripheral}
use Rattle.svd_model.specs.declared.sibling.Sibling.{Sibling}
use Rattle.svd_model.specs.Keys.{Key}
use Rattle.svd_model.specs.Steps.{Kind, Step}
use Rattle.svd_model.specs.Trees.{field_under, peripheral_under}
use Rattle.svd_rows.proofs.Lists.{map-map, map_agree}
use Rattle.svd_rows.specs.Forest.{Tree, siblings}

-- ---- lists of elements

module _ (pattern : PatternItems) (texts : KeyList) where
  abbrev set_in : Element → Tree Step Key
  set_in x = record { keys = keys_with (keys_set (container_of x.0.kind) texts) x.1.keys; below = x.1.below }

  keyed-step : (x : Element) → (keyed pattern texts x).0 ≡ x.0
  keyed-step x = cases (selects pattern x.0)
    where
      cases : (b : Bool) → (cond b (x.0, set_in x) x).0 ≡ x.0
      cases true = refl
      cases false = refl

  -- keys, and then the name
  both-steps : (name : Option (List ℕ)) (x : Element) → under_new pattern name (keyed pattern texts x) ≡ changed_child pattern texts name x
  both-steps name x = cases name (selects pattern x.0) refl
    where
      cases : (name : Option (List ℕ)) (b : Bool) → selects pattern x.0 ≡ b → under_new pattern name (cond b (x.0, set_in x) x) ≡ cond b (step_under name x.0, set_in x) x
      cases None true is = refl
      cases None false is = refl
      cases (Some new) true is = ap (λ (c : Bool). cond c (renamed_step new x.0, set_in x) (x.0, set_in x)) is
      cases (Some new) false is = ap (λ (c : Bool). cond c (renamed_step new x.0, x.1) x) is

pub twice-map : {A B : Type 0} (test : B → Bool) (g : A → B) (before : Bool) (xs : List A) → twice test before (map g xs) ≡ twice (λ x. test (g x)) before xs
twice-map test g before [] = refl
twice-map test g before (x ∷ xs) = ap₂ (λ (a b : Bool). cond (test (g x)) (before || a) b) (twice-map test g true xs) (twice-map test g before xs)

twice-agree : {A : Type 0} (test other : A → Bool) → ((x : A) → test x ≡ other x) → (before : Bool) (xs : List A) → twice test before xs ≡ twice other before xs
twice-agree test other same before [] = refl
twice-agree test other same before (x ∷ xs) =
    ap (λ (c : Bool). cond c (before || twice test true xs) (twice test before xs)) (same x)
    ∙ ap₂ (λ (a b : Bool). cond (other x) (before || a) b) (twice-agree test other same true xs) (twice-agree test other same before xs)

-- ---- lists of what stands for elements

module _ {A : Type 0} (line : ℕ) (pattern : PatternItems) (texts : KeyList) (name : Option (List ℕ)) (seen : A → Element) (key : A → Sibling) (tells : (x : A) → selects pattern (seen x).0 ≡ matches pattern (key x).name) (tells_name : (new : List ℕ) (x : A) → is_named new (seen x).0 ≡ bytes_eq new (key x).name) where
  abbrev comes : List ℕ → A → Bool
  comes new x = key_comes_to pattern new (key x)

  chosen-same : (xs : List A) → list_any (is_chosen pattern) (map seen xs) ≡ list_any (λ x. matches pattern (key x).name) xs
  chosen-same xs = any-map (is_chosen pattern) seen xs ∙ each xs
    where
      each : (xs : List A) → list_any (λ x. selects pattern (seen x).0) xs ≡ list_any (λ x. matches pattern (key x).name) xs
      each [] = refl
      each (x ∷ xs) = ap₂ (λ (a b : Bool). a || b) (tells x) (each xs)

  -- nothing matches
  pub list-none : (old : List A) → list_any (λ x. matches pattern (key x).name) old ≡ false → changed_all line pattern texts name (map seen old) ≡ Err (NoMatch line)
  list-none old none = changes-none line pattern texts name (map seen old) (chosen-same old ∙ none)

  comes-same : (new : List ℕ) (old mid : List A) → map seen mid ≡ map (λ x. keyed pattern texts (seen x)) old → twice (comes new) false mid ≡ twice (comes_to pattern new) false (map seen old)
  comes-same new old mid is =
      twice-agree (comes new) (λ x. comes_to pattern new (seen x)) (λ x. sym (ap₂ (λ (a b : Bool). a || b) (tells x) (tells_name new x))) false mid
      ∙ sym (twice-map (comes_to pattern new) seen false mid)
      ∙ ap (twice (comes_to pattern new) false) is
      ∙ twice-map (comes_to pattern new) (λ x. keyed pattern texts (seen x)) false old
      ∙ twice-agree (λ x. comes_to pattern new (keyed pattern texts (seen x))) (λ x. comes_to pattern new (seen x)) (λ x. ap (λ (step : Step). selects pattern step || is_named new step) (keyed-step pattern texts (seen x))) false old
      ∙ sym (twice-map (comes_to pattern new) seen false old)

  allowed-same : (old mid : List A) → map seen mid ≡ map (λ x. keyed pattern texts (seen x)) old → allowed line comes name mid ≡ allowed line (comes_to pattern) name (map seen old)
  allowed-same old mid is = cases name
    where
      cases : (name : Option (List ℕ)) → allowed line comes name mid ≡ allowed line (comes_to pattern) name (map seen old)
      cases None = refl
      cases (Some new) = ap (λ (b : Bool). refused_if b (AddExists line new) nothing) (comes-same new old mid is)

  list-made : (old mid new : List A) → map seen mid ≡ map (λ x. keyed pattern texts (seen x)) old → map seen new ≡ map (λ x. under_new pattern name (seen x)) mid → map (changed_child pattern texts name) (map seen old) ≡ map seen new
  list-made old mid new is put =
      map-map (changed_child pattern texts name) seen old
      ∙ map_agree (λ x. changed_child pattern texts name (seen x)) (λ x. under_new pattern name (keyed pattern texts (seen x))) (λ x. sym (both-steps pattern texts name (seen x))) old
      ∙ sym (map-map (under_new pattern name) (λ x. keyed pattern texts (seen x)) old)
      ∙ ap (map (under_new pattern name)) (sym is)
      ∙ map-map (under_new pattern name) seen mid
      ∙ sym put

  -- what is left of a list of children
  pub list-changed : (old mid new : List A) (result : Result (Unit {0}) PatchFault) → list_any (λ x. matches pattern (key x).name) old ≡ true → map seen mid ≡ map (λ x. keyed pattern texts (seen x)) old
      → Renames (allowed line comes name mid) (map seen new ≡ map (λ x. under_new pattern name (seen x)) mid) result → Edited (changed_all line pattern texts name (map seen old)) (siblings (map seen new)) result
  list-changed old mid new result some is e = cases result e
    where
      comes_out : changed_all line pattern texts name (map seen old) ≡ (allowed line comes name mid >>= (λ done. Ok (siblings (map (changed_child pattern texts name) (map seen old)))))
      comes_out =
          changes-some line pattern texts name (map seen old) (chosen-same old ∙ some)
          ∙ ap (λ (one : Outcome (Unit {0})). one >>= (λ done. Ok (siblings (map (changed_child pattern texts name) (map seen old))))) (sym (allowed-same old mid is))

      cases : (result : Result (Unit {0}) PatchFault) → Renames (allowed line comes name mid) (map seen new ≡ map (λ x. under_new pattern name (seen x)) mid) result → Edited (changed_all line pattern texts name (map seen old)) (siblings (map seen new)) result
      cases (Ok done) made =
          comes_out
          ∙ ap (λ (one : Outcome (Unit {0})). one >>= (λ done. Ok (siblings (map (changed_child pattern texts name) (map seen old))))) made.0
          ∙ ap (λ (all : List Element). Ok (siblings all)) (list-made old mid new is made.1)
      cases (Err found) (inl memory) = inl memory
      cases (Err found) (inr is_it) =
          inr (comes_out ∙ ap (λ (one : Outcome (Unit {0})). one >>= (λ done. Ok (siblings (map (changed_child pattern texts name) (map seen old))))) is_it)

-- ---- maps

pub renames-as : (allows : Outcome (Unit {0})) (Made Other : Type 0) (result : Result (Unit {0}) PatchFault) → (Made → Other) → Renames allows Made result → Renames allows Other result
renames-as allows Made Other (Ok done) turn e = (e.0, turn e.1)
renames-as allows Made Other (Err fault) turn e = e

module _ {V : Type 0} (pattern : PatternItems) (name : Option (List ℕ)) (kind : Kind) (tree : V → Tree Step Key) where
  abbrev pub element : (Sibling × V) → Element
  element entry = (record { kind = kind; name = entry.0.name; number = entry.0.number }, tree entry.1)

  entry-under : (tells : (entry : Sibling × V) → selects pattern (element entry).0 ≡ matches pattern entry.0.name) (entry : Sibling × V) → element (new_entry pattern name entry) ≡ under_new pattern name (element entry)
  entry-under tells entry = cases name
    where
      pick : (new : List ℕ) (a b : Bool) → a ≡ b → element (cond b (record { name = new; number = 0 }) entry.0, entry.1) ≡ cond a (renamed_step new (element entry).0, tree entry.1) (element entry)
      pick new true true is = refl
      pick new false false is = refl
      pick new true false is = cc
      pick new false true is = cc

      cases : (name : Option (List ℕ)) → element (new_entry pattern name entry) ≡ under_new pattern name (element entry)
      cases None = refl
      cases (Some new) = pick new (selects pattern (element entry).0) (matches pattern entry.0.name) (tells entry)

  -- the elements of a map whose entries are under other keys
  pub entries-under : (tells : (entry : Sibling × V) → selects pattern (element entry).0 ≡ matches pattern entry.0.name) (mid new : List (Sibling × V)) → new ≡ map (new_entry pattern name) mid → map element new ≡ map (λ entry. under_new pattern name (element entry)) mid
  entries-under tells mid new is =
      ap (map element) is ∙ map-map element (new_entry pattern name) mid ∙ map_agree (λ entry. element (new_entry pattern name entry)) (λ entry. under_new pattern name (element entry)) (entry-under tells) mid

-- what is left of a map of children
pub map-changed : {V : Type 0} (line : ℕ) (pattern : PatternItems) (texts : KeyList) (name : Option (List ℕ)) (kind : Kind) (tree : V → Tree Step Key) → ((entry : Sibling × V) → selects pattern (element pattern name kind tree entry).0 ≡ matches pattern entry.0.name) → ((new : List ℕ) (entry : Sibling × V) → is_named new (element pattern name kind tree entry).0 ≡ bytes_eq new entry.0.name)
    → (old mid new : List (Sibling × V)) (result : Result (Unit {0}) PatchFault) → list_any (λ entry. matches pattern entry.0.name) old ≡ true → map (element pattern name kind tree) mid ≡ map (λ entry. keyed pattern texts (element pattern name kind tree entry)) old
    → Renames (allowed line (entry_comes_to pattern) name mid) (new ≡ map (new_entry pattern name) mid) result → Edited (changed_all line pattern texts name (map (element pattern name kind tree) old)) (siblings (map (element pattern name kind tree) new)) result
map-changed line pattern texts name kind tree tells tells_name old mid new result some is e =
    list-changed line pattern texts name (element pattern name kind tree) (λ entry. entry.0) tells tells_name old mid new result some is
    (renames-as (allowed line (entry_comes_to pattern) name mid) (new ≡ map (new_entry pattern name) mid) (map (element pattern name kind tree) new ≡ map (λ entry. under_new pattern name (element pattern name kind tree entry)) mid) result
    (entries-under pattern name kind tree tells mid new) e)

pub peripheral_named : (new : List ℕ) (entry : Sibling × Peripheral) → is_named new (peripheral_under entry).0 ≡ bytes_eq new entry.0.name
unfolding is_named
peripheral_named new entry = refl

pub field_named : (new : List ℕ) (entry : Sibling × Field) → is_named new (field_under entry).0 ≡ bytes_eq new entry.0.name
unfolding is_named
field_named new entry = refl

-- where there is no new name, the entries stay under their keys
pub unnamed-entries : {V : Type 0} (line : ℕ) (pattern : PatternItems) (name : Option (List ℕ)) (entries : List (Sibling × V)) → ((new : List ℕ) → name ≡ Some new → ⊥) → (allowed line (entry_comes_to pattern) name entries ≡ nothing) × (entries ≡ map (new_entry pattern name) entries)
unnamed-entries {V = V} line pattern None entries none = (refl, each entries)
  where
    each : (entries : List (Sibling × V)) → entries ≡ map (new_entry pattern None) entries
    each [] = refl
    each (entry ∷ entries) = ap (λ (all : List (Sibling × V)). entry ∷ all) (each entries)
unnamed-entries line pattern (Some new) entries none = absurd (none new refl)
