-- `_modify` below one element in a closed form: each matching child by itself, unless two would have the new name.
use Rattle.std.proofs.Common.{◌≡◌, ℕ, Bool, true, false, cond, ◌&&◌, ◌||◌, List, [], ◌∷◌, ◌++◌, map, filter, Option, None, Some, Ok, Err, refl, sym, ap, ap₂, ◌∙◌}
use Rattle.std.specs.Cmp.Lexicographic.{bytes_decides}
use Rattle.std.specs.List.{list_any}
use Rattle.patch_changes.proofs.Changing.{matched-known}
use Rattle.patch_changes.proofs.Siblings.{any-append}
use Rattle.patch_changes.specs.Changes.{changed_behind, new_keys, new_step}
use Rattle.patch_changes.specs.Listed.{Element, allowed, comes_to, twice}
use Rattle.patch_edits.specs.Deletions.{matched}
use Rattle.patch_edits.specs.Visits.{Below}
use Rattle.patch_model.specs.Acts.{KeyList, PatternItems}
use Rattle.patch_sem.specs.declared.fault.PatchFault.{PatchFault}
use Rattle.patch_sem.specs.declared.fault.PatchFault.TheVariants.{AddExists, NoMatch}
use Rattle.patch_sem.specs.Copying.{renamed_step}
use Rattle.patch_sem.specs.Selecting.{is_named, is_patched, selects}
use Rattle.patch_sem.specs.Settings.{container_of, keys_set, keys_with}
use Rattle.patch_sem.specs.Steps.{Outcome, ◌>>=◌, refused_if, unless_none}
use Rattle.svd_model.specs.Keys.{Key}
use Rattle.svd_model.specs.Steps.{Step}
use Rattle.svd_rows.proofs.Siblings.{steps-siblings}
use Rattle.svd_rows.specs.Forest.{node, siblings, steps}

-- ---- each child by itself

abbrev pub step_under : Option (List ℕ) → Step → Step
step_under None step = step
step_under (Some name) step = renamed_step name step

abbrev pub changed_child : PatternItems → KeyList → Option (List ℕ) → Element → Element
changed_child pattern texts name child =
    cond (selects pattern child.0) (step_under name child.0, record { keys = keys_with (keys_set (container_of child.0.kind) texts) child.1.keys; below = child.1.below }) child

abbrev pub is_chosen : PatternItems → Element → Bool
is_chosen pattern child = selects pattern child.0

pub any-map : {A B : Type 0} (test : B → Bool) (g : A → B) (xs : List A) → list_any test (map g xs) ≡ list_any (λ x. test (g x)) xs
any-map test g [] = refl
any-map test g (x ∷ xs) = ap (λ (b : Bool). test (g x) || b) (any-map test g xs)

refused-next : {A B : Type 0} (test : Bool) (fault : PatchFault) (x : A) (next : A → Outcome B) → (refused_if test fault (Ok x) >>= next) ≡ refused_if test fault (next x)
refused-next true fault x next = refl
refused-next false fault x next = refl

or-false : (b : Bool) → (b || false) ≡ b
or-false true = refl
or-false false = refl

or-true : (b : Bool) → (b || true) ≡ true
or-true true = refl
or-true false = refl

-- ---- without a new name

module _ (line : ℕ) (pattern : PatternItems) (texts : KeyList) where
  abbrev Unnamed : List Element → Type 0
  Unnamed xs = (before : List Step) → changed_behind line pattern texts None before (siblings xs) ≡ Ok (siblings (map (changed_child pattern texts None) xs))

  unnamed : (xs : List Element) → Unnamed xs
  unfolding changed_behind siblings
  unnamed [] before = refl
  unnamed (x ∷ xs) before = cases (selects pattern x.0) (unnamed xs)
    where
      cases : (b : Bool) → Unnamed xs
          → (new_step b line None (before ++ steps (siblings xs)) x.0 >>= (λ new. changed_behind line pattern texts None (before ++ new ∷ []) (siblings xs) >>= (λ rest. Ok (node new (new_keys b texts x.0 x.1.keys) x.1.below rest))))
          ≡ Ok (siblings (cond b (x.0, record { keys = keys_with (keys_set (container_of x.0.kind) texts) x.1.keys; below = x.1.below }) x ∷ map (changed_child pattern texts None) xs))
      cases true more = ap (λ (made : Outcome Below). made >>= (λ rest. Ok (node x.0 (keys_with (keys_set (container_of x.0.kind) texts) x.1.keys) x.1.below rest))) (more (before ++ x.0 ∷ []))
      cases false more = ap (λ (made : Outcome Below). made >>= (λ rest. Ok (node x.0 x.1.keys x.1.below rest))) (more (before ++ x.0 ∷ []))

-- ---- under a new name

named-itself : (name : List ℕ) (step : Step) → is_patched step.kind ≡ true → is_named name (renamed_step name step) ≡ true
unfolding is_named
named-itself name step known = ap₂ (λ (a b : Bool). a && b) known ((bytes_decides name name).1 refl)

same-other : (before chosen has : Bool) → (chosen && (chosen || has)) ≡ (chosen && (before || (chosen || has)))
same-other true true has = refl
same-other false true has = refl
same-other before false has = refl

module _ (line : ℕ) (pattern : PatternItems) (texts : KeyList) (name : List ℕ) where
  abbrev fault : PatchFault
  fault = AddExists line name

  abbrev chosen : List Element → Bool
  chosen xs = list_any (is_chosen pattern) xs

  abbrev has : List Element → Bool
  has xs = list_any (λ (x : Element). is_named name x.0) xs

  abbrev two : Bool → List Element → Bool
  two before xs = twice (comes_to pattern name) before xs

  abbrev out : List Element → Below
  out xs = siblings (map (changed_child pattern texts (Some name)) xs)

  two-after : (xs : List Element) → two true xs ≡ (chosen xs || has xs)
  two-after [] = refl
  two-after (x ∷ xs) = cases (selects pattern x.0) (is_named name x.0) (two-after xs)
    where
      cases : (s n : Bool) → two true xs ≡ (chosen xs || has xs) → cond (s || n) (true || two true xs) (two true xs) ≡ ((s || chosen xs) || (n || has xs))
      cases true n more = refl
      cases false true more = sym (or-true (chosen xs))
      cases false false more = more

  -- what is said of the siblings that are still to come, whatever stands before them
  abbrev Goes : List Element → Type 0
  Goes xs =
      (before : List Step) → changed_behind line pattern texts (Some name) before (siblings xs) ≡ refused_if (chosen xs && two (list_any (is_named name) before) xs) fault (Ok (out xs))

  abbrev put : Element → Step → List Key → Below → Outcome Below
  put x new keys rest = Ok (node new keys x.1.below rest)

  -- behind one more sibling
  behind-one : (x : Element) (xs : List Element) (before : List Step) (new : Step) (keys : List Key) (n : Bool) → is_named name new ≡ n → Goes xs
      → (changed_behind line pattern texts (Some name) (before ++ new ∷ []) (siblings xs) >>= put x new keys) ≡ refused_if (chosen xs && two (list_any (is_named name) before || n) xs) fault (put x new keys (out xs))
  behind-one x xs before new keys n is goes =
      ap (λ (made : Outcome Below). made >>= put x new keys)
      (goes (before ++ new ∷ [])
      ∙ ap (λ (b : Bool). refused_if (chosen xs && two b xs) fault (Ok (out xs)))
      (any-append (is_named name) before (new ∷ []) ∙ ap (λ (b : Bool). list_any (is_named name) before || b) (ap (λ (b : Bool). b || false) is ∙ or-false n)))
      ∙ refused-next (chosen xs && two (list_any (is_named name) before || n) xs) fault (out xs) (put x new keys)

  -- one that stays
  passed-by : (b n : Bool) (xs : List Element) → (chosen xs && two (b || n) xs) ≡ (chosen xs && cond n (b || two true xs) (two b xs))
  passed-by b false xs = ap (λ (c : Bool). chosen xs && two c xs) (or-false b)
  passed-by b true xs =
      ap (λ (c : Bool). chosen xs && two c xs) (or-true b)
      ∙ ap (λ (c : Bool). chosen xs && c) (two-after xs)
      ∙ same-other b (chosen xs) (has xs)
      ∙ ap (λ (c : Bool). chosen xs && (b || c)) (sym (two-after xs))

  -- one that is renamed
  settled : (b m r : Bool) (new : Step) (next : Step → Outcome Below) (done : Below) → next new ≡ refused_if (r && (r || m)) fault (Ok done) → (refused_if (b || m) fault (Ok new) >>= next) ≡ refused_if (b || (r || m)) fault (Ok done)
  settled true m r new next done e = refl
  settled false true true new next done e = refl
  settled false true false new next done e = refl
  settled false false true new next done e = e
  settled false false false new next done e = e

  others-named : (before : List Step) (xs : List Element) → list_any (is_named name) (before ++ steps (siblings xs)) ≡ (list_any (is_named name) before || has xs)
  others-named before xs =
      any-append (is_named name) before (steps (siblings xs))
      ∙ ap (λ (b : Bool). list_any (is_named name) before || b) (ap (list_any (is_named name)) (steps-siblings xs) ∙ any-map (is_named name) (λ (x : Element). x.0) xs)

  abbrev set_keys : Element → List Key
  set_keys x = keys_with (keys_set (container_of x.0.kind) texts) x.1.keys

  each-child : (xs : List Element) → Goes xs
  unfolding changed_behind siblings
  each-child [] before = refl
  each-child (x ∷ xs) before = cases (selects pattern x.0) refl (is_named name x.0) refl (each-child xs)
    where
      b : Bool
      b = list_any (is_named name) before

      cases : (s : Bool) → selects pattern x.0 ≡ s → (n : Bool) → is_named name x.0 ≡ n → Goes xs
          → (new_step s line (Some name) (before ++ steps (siblings xs)) x.0 >>= (λ new. changed_behind line pattern texts (Some name) (before ++ new ∷ []) (siblings xs) >>= put x new (new_keys s texts x.0 x.1.keys)))
          ≡ refused_if ((s || chosen xs) && cond (s || n) (list_any (is_named name) before || two true xs) (two (list_any (is_named name) before) xs)) fault (Ok (siblings (cond s (renamed_step name x.0, record { keys = set_keys x; below = x.1.below }) x ∷ map (changed_child pattern texts (Some name)) xs)))
      cases false is n told goes =
          behind-one x xs before x.0 x.1.keys n told goes
          ∙ ap (λ (c : Bool). refused_if c fault (put x x.0 x.1.keys (out xs))) (passed-by b n xs)
      cases true is n told goes =
          ap (λ (c : Bool). refused_if c fault (Ok (renamed_step name x.0)) >>= (λ new. changed_behind line pattern texts (Some name) (before ++ new ∷ []) (siblings xs) >>= put x new (set_keys x))) (others-named before xs)
          ∙ settled b (has xs) (chosen xs) (renamed_step name x.0) (λ new. changed_behind line pattern texts (Some name) (before ++ new ∷ []) (siblings xs) >>= put x new (set_keys x)) (node (renamed_step name x.0) (set_keys x) x.1.below (out xs))
          (behind-one x xs before (renamed_step name x.0) (set_keys x) true (named-itself name x.0 (matched-known pattern x.0 is)) goes
          ∙ ap (λ (c : Bool). refused_if c fault (put x (renamed_step name x.0) (set_keys x) (out xs))) (ap (λ (c : Bool). chosen xs && two c xs) (or-true b) ∙ ap (λ (c : Bool). chosen xs && c) (two-after xs)))
          ∙ ap (λ (c : Bool). refused_if (b || c) fault (put x (renamed_step name x.0) (set_keys x) (out xs))) (sym (two-after xs))

-- ---- all children of an element

unless-chosen : (line : ℕ) (pattern : PatternItems) (xs : List Element) (made : Outcome Below) → unless_none line (matched pattern (siblings xs)) made ≡ cond (list_any (is_chosen pattern) xs) made (Err (NoMatch line))
unless-chosen line pattern xs made =
    ap (λ (all : List Step). unless_none line (filter (selects pattern) all) made) (steps-siblings xs) ∙ each xs
  where
    each : (xs : List Element) → unless_none line (filter (selects pattern) (map (λ x. x.0) xs)) made ≡ cond (list_any (is_chosen pattern) xs) made (Err (NoMatch line))
    each [] = refl
    each (x ∷ xs) = cases (selects pattern x.0) (each xs)
      where
        cases : (b : Bool) → unless_none line (filter (selects pattern) (map (λ y. y.0) xs)) made ≡ cond (list_any (is_chosen pattern) xs) made (Err (NoMatch line))
            → unless_none line (cond b (x.0 ∷ filter (selects pattern) (map (λ y. y.0) xs)) (filter (selects pattern) (map (λ y. y.0) xs))) made ≡ cond (b || list_any (is_chosen pattern) xs) made (Err (NoMatch line))
        cases true more = refl
        cases false more = more

abbrev pub changed_all : ℕ → PatternItems → KeyList → Option (List ℕ) → List Element → Outcome Below
changed_all line pattern texts name xs =
    unless_none line (matched pattern (siblings xs)) (changed_behind line pattern texts name [] (siblings xs))

-- nothing matches
pub changes-none : (line : ℕ) (pattern : PatternItems) (texts : KeyList) (name : Option (List ℕ)) (xs : List Element) → list_any (is_chosen pattern) xs ≡ false → changed_all line pattern texts name xs ≡ Err (NoMatch line)
changes-none line pattern texts name xs none =
    unless-chosen line pattern xs (changed_behind line pattern texts name [] (siblings xs))
    ∙ ap (λ (b : Bool). cond b (changed_behind line pattern texts name [] (siblings xs)) (Err (NoMatch line))) none

-- something does
pub changes-some : (line : ℕ) (pattern : PatternItems) (texts : KeyList) (name : Option (List ℕ)) (xs : List Element) → list_any (is_chosen pattern) xs ≡ true
    → changed_all line pattern texts name xs ≡ (allowed line (comes_to pattern) name xs >>= (λ done. Ok (siblings (map (changed_child pattern texts name) xs))))
changes-some line pattern texts name xs some =
    unless-chosen line pattern xs (changed_behind line pattern texts name [] (siblings xs))
    ∙ ap (λ (b : Bool). cond b (changed_behind line pattern texts name [] (siblings xs)) (Err (NoMatch line))) some
    ∙ cases name
  where
    cases : (name : Option (List ℕ)) → changed_behind line pattern texts name [] (siblings xs) ≡ (allowed line (comes_to pattern) name xs >>= (λ done. Ok (siblings (map (changed_child pattern texts name) xs))))
    cases None = unnamed line pattern texts xs []
    cases (Some new) =
        each-child line pattern texts new xs []
        ∙ ap (λ (b : Bool). refused_if (b && twice (comes_to pattern new) false xs) (AddExists line new) (Ok (siblings (map (changed_child pattern texts (Some new)) xs)))) some
        ∙ sym (refused-next (twice (comes_to pattern new) false xs) (AddExists line new) tt (λ done. Ok (siblings (map (changed_child pattern texts (Some new)) xs))))
