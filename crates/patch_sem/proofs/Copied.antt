-- A copy, and then all but the copy.
use Rattle.std.proofs.Common.{◌≡◌, ℕ, Bool, true, false, cond, not, ◌&&◌, ◌||◌, List, [], ◌∷◌, ◌++◌, map, filter, find, Option, Some, None, Ok, Err, refl, sym, ap, ap₂, ◌∙◌, subst, append-nil}
use Rattle.std.specs.Cmp.Lexicographic.{bytes_decides}
use Rattle.std.specs.List.{list_any}
use Rattle.std.specs.Str.{bytes_eq}
use Rattle.std.proofs.lemmas.Bool.{and_parts, or_parts}
use Rattle.std.proofs.lemmas.List.Elements.{filter-append}
use Rattle.glob_select.specs.Matching.{matches}
use Rattle.patch_model.specs.Acts.{KeyList, PatternItems}
use Rattle.svd_model.proofs.Steps.{same_step-tells}
use Rattle.svd_model.specs.Keys.{Key, rank}
use Rattle.svd_model.specs.Steps.{Step, same_step}
use Rattle.svd_rows.proofs.Deleting.{rows-without_children}
use Rattle.svd_rows.proofs.LookUps.{children_of-rows}
use Rattle.svd_rows.specs.Edits.{replaced, within}
use Rattle.svd_rows.specs.Forest.{Forest, Tree, leaf, node, join, steps}
use Rattle.svd_rows.specs.LookUps.{children_of}
use Rattle.svd_rows.specs.Paths.{begins, fits, is_at, is_within}
use Rattle.svd_rows.specs.RowEdits.{added, has_rank, is_below_rank, moved, renamed_path, some_pass, with_key, without}
use Rattle.svd_rows.specs.Rows.{Row, Said, states, rows}
use Rattle.patch_sem.proofs.Renamed.{was_false}
use Rattle.patch_sem.specs.declared.fault.PatchFault.{PatchFault}
use Rattle.patch_sem.specs.declared.fault.PatchFault.TheVariants.{AddExists, CopyMissing}
use Rattle.patch_sem.specs.Copying.{copied_from, copying, group_of, renamed_step}
use Rattle.patch_sem.specs.Selecting.{Rows, is_named, is_patched, selects}
use Rattle.patch_sem.specs.Settings.{container_of, keys_set, with_keys}
use Rattle.patch_sem.specs.Steps.{Outcome, refused_if}

-- ---- filters and additions

module _ {X : Type 0} (kept : X → Bool) where
  same_behind : (x : X) (xs ys : List X) → filter kept xs ≡ filter kept ys → filter kept (x ∷ xs) ≡ filter kept (x ∷ ys)
  same_behind x xs ys e = ap (λ r. cond (kept x) (x ∷ r) r) e

  filter-added : (test : X → Bool) (new : List X) → filter kept new ≡ [] → (xs : List X) → filter kept (added test new xs) ≡ filter kept xs
  unfolding added
  filter-added test new none [] = refl
  filter-added test new none (x ∷ xs) = cases (some_pass test xs) (test x) (filter-added test new none xs)
    where
      cases : (a b : Bool) → filter kept (added test new xs) ≡ filter kept xs → filter kept (cond a (x ∷ added test new xs) (cond b (x ∷ (new ++ xs)) (x ∷ xs))) ≡ filter kept (x ∷ xs)
      cases true b more = same_behind x (added test new xs) xs more
      cases false true more = same_behind x (new ++ xs) xs (filter-append kept new xs ∙ ap (λ r. r ++ filter kept xs) none)
      cases false false more = refl

  -- what is kept passes the other test
  filter-filter : (other : X → Bool) → ((x : X) → kept x ≡ true → other x ≡ true) → (xs : List X) → filter kept (filter other xs) ≡ filter kept xs
  filter-filter other less [] = refl
  filter-filter other less (x ∷ xs) = cases (kept x) (other x) refl refl (filter-filter other less xs)
    where
      cases : (a b : Bool) → kept x ≡ a → other x ≡ b → filter kept (filter other xs) ≡ filter kept xs → filter kept (cond b (x ∷ filter other xs) (filter other xs)) ≡ cond a (x ∷ filter kept xs) (filter kept xs)
      cases true true is also more = rw is (ap (λ r. x ∷ r) more)
      cases true false is also more = absurd (differ (sym also ∙ less x is))
        where
          differ : false ≡ true → ⊥
          differ e = cc
      cases false true is also more = rw is more
      cases false false is also more = more

-- ---- rows without those of one name

module _ (test : Step → Bool) (new : Step) (passes : test new ≡ true) where
  abbrev kept : Row Step Key → Bool
  kept row = not (begins (test ∷ []) row.path)

  goes : (path : List Step) → fits (same_step new ∷ []) path ≡ true → begins (test ∷ []) path ≡ true
  unfolding fits begins
  goes [] e = absurd cc
  goes (step ∷ []) e = ap (λ (b : Bool). b && true) (ap test (sym (same_step-tells.alone new step (and_parts (same_step new step) true e).0)) ∙ passes)
  goes (step ∷ (next ∷ path)) e = absurd (differ (sym (nothing (same_step new step)) ∙ e))
    where
      nothing : (b : Bool) → (b && false) ≡ false
      nothing true = refl
      nothing false = refl

      differ : false ≡ true → ⊥
      differ e = cc

  stays : (row : Row Step Key) (n : ℕ) (a : Bool) → fits (same_step new ∷ []) row.path ≡ a → kept row ≡ true → not (a && has_rank rank n row.said) ≡ true
  stays row n true at is = absurd (differ (sym (ap not (goes row.path at)) ∙ is))
    where
      differ : false ≡ true → ⊥
      differ e = cc
  stays row n false at is = refl

  own_goes : (said : Said Key) → kept (record { path = new ∷ []; said = said }) ≡ false
  unfolding begins
  own_goes said = ap (λ (b : Bool). not (b && true)) passes

  one_key : (key : Key) (all : Rows) → filter kept (with_key same_step rank (new ∷ []) key all) ≡ filter kept all
  unfolding with_key
  one_key key all =
      filter-added kept (λ row. is_at (same_step new ∷ []) row && is_below_rank rank (rank key) row.said) (record { path = new ∷ []; said = states key } ∷ [])
      (ap (λ (b : Bool). cond b (record { path = new ∷ []; said = states key } ∷ []) []) (own_goes (states key)))
      (filter (λ row. not (is_at (same_step new ∷ []) row && has_rank rank (rank key) row.said)) all)
      ∙ filter-filter kept (λ row. not (is_at (same_step new ∷ []) row && has_rank rank (rank key) row.said)) (λ row. stays row (rank key) (is_at (same_step new ∷ []) row) refl) all

  keys_out : (keys : List Key) (all : Rows) → filter kept (with_keys (new ∷ []) keys all) ≡ filter kept all
  unfolding with_keys
  keys_out [] all = refl
  keys_out (key ∷ keys) all = keys_out keys (with_key same_step rank (new ∷ []) key all) ∙ one_key key all

  -- all rows of the copy go
  group_goes : (old : Step) (all : Rows) → filter kept (group_of old new all) ≡ []
  unfolding group_of renamed_path begins
  group_goes old [] = refl
  group_goes old (row ∷ all) = at row.path row.said (group_goes old all)
    where
      at : (path : List Step) (said : Said Key) → filter kept (group_of old new all) ≡ [] → filter kept (map (moved (renamed_path [] (λ _. new))) (cond (begins (same_step old ∷ []) path) (record { path = path; said = said } ∷ filter (is_within (same_step old ∷ [])) all) (filter (is_within (same_step old ∷ [])) all))) ≡ []
      at [] said more = more
      at (step ∷ path) said more = cases (same_step old step && true)
        where
          cases : (b : Bool) → filter kept (map (moved (renamed_path [] (λ _. new))) (cond b (record { path = step ∷ path; said = said } ∷ filter (is_within (same_step old ∷ [])) all) (filter (is_within (same_step old ∷ [])) all))) ≡ []
          cases true = ap (λ (b : Bool). cond (not (b && true)) (record { path = new ∷ path; said = said } ∷ filter kept (group_of old new all)) (filter kept (group_of old new all))) passes ∙ more
          cases false = more

-- where no child passes, nothing is left out
none_replaced : (test : Step → Bool) (f : Forest Step Key) → list_any test (steps f) ≡ false → replaced test (λ step child. leaf) f ≡ f
unfolding replaced steps
none_replaced test leaf free = refl
none_replaced test (node s ks c n) free =
    let parts = or_parts (test s) (list_any test (steps n)) free in
    ap (λ (b : Bool). cond b (join leaf (replaced test (λ step child. leaf) n)) (node s ks c (replaced test (λ step child. leaf) n))) parts.0
    ∙ ap (node s ks c) (none_replaced test n parts.1)

all_stay : (test : Step → Bool) (tree : Tree Step Key) → list_any test (children_of (rows tree)) ≡ false → without (test ∷ []) (rows tree) ≡ rows tree
unfolding within
all_stay test tree free =
    sym (rows-without_children [] test tree)
    ∙ ap (λ (below : Forest Step Key). rows (record { keys = tree.keys; below = below })) (none_replaced test tree.below (subst (λ (all : List Step). list_any test all ≡ false) (children_of-rows tree) free))

-- ---- the copy

same_test : (pattern : PatternItems) (name : List ℕ) → ((other : List ℕ) → matches pattern other ≡ bytes_eq name other) → (step : Step) → is_named name step ≡ selects pattern step
unfolding is_named selects
same_test pattern name alike step = ap (λ (b : Bool). is_patched step.kind && b) (sym (alike step.name))

same_any : {X : Type 0} (one other : X → Bool) → ((x : X) → one x ≡ other x) → (xs : List X) → list_any one xs ≡ list_any other xs
same_any one other same [] = refl
same_any one other same (x ∷ xs) = ap₂ (λ (a b : Bool). a || b) (same x) (same_any one other same xs)

found_passes : {X : Type 0} (test : X → Bool) (xs : List X) (x : X) → find test xs ≡ Some x → test x ≡ true
found_passes test [] x e = absurd (no e)
  where
    no : None ≡ Some x → ⊥
    no e = cc
found_passes test (y ∷ ys) x e = cases (test y) refl e (found_passes test ys x)
  where
    cases : (b : Bool) → test y ≡ b → cond b (Some y) (find test ys) ≡ Some x → (find test ys ≡ Some x → test x ≡ true) → test x ≡ true
    cases true is found more = ap test (sym (some found)) ∙ is
      where
        some : Some y ≡ Some x → y ≡ x
        some e = cc
    cases false is found more = more found

kind_known : (step : Step) (from : List ℕ) → is_named from step ≡ true → is_patched step.kind ≡ true
unfolding is_named
kind_known step from is = (and_parts (is_patched step.kind) (bytes_eq from step.name) is).0

named_so : (name : List ℕ) (old : Step) → is_patched old.kind ≡ true → is_named name (renamed_step name old) ≡ true
unfolding is_named
named_so name old known = ap₂ (λ (a b : Bool). a && b) known ((bytes_decides name name).1 refl)

went_on : {A : Type 0} (test : Bool) (fault : PatchFault) (rest : Outcome A) (x : A) → refused_if test fault rest ≡ Ok x → rest ≡ Ok x
went_on true fault rest x e = absurd (no e)
  where
    no : Err fault ≡ Ok x → ⊥
    no e = cc
went_on false fault rest x e = e

left_out : (test : Step → Bool) (new : Step) → test new ≡ true → (old : Step) (keys : List Key) (tree : Tree Step Key) → list_any test (children_of (rows tree)) ≡ false → without (test ∷ []) (with_keys (new ∷ []) keys (rows tree ++ group_of old new (rows tree))) ≡ rows tree
unfolding without
left_out test new passes old keys tree free =
    keys_out test new passes keys (rows tree ++ group_of old new (rows tree))
    ∙ filter-append (λ row. not (begins (test ∷ []) row.path)) (rows tree) (group_of old new (rows tree))
    ∙ ap₂ (λ (a b : Rows). a ++ b) (all_stay test tree free) (group_goes test new passes old (rows tree))
    ∙ append-nil (rows tree)

abbrev given : Rows → Outcome Rows
given all = Ok all

given_is : (one other : Rows) → given one ≡ given other → one ≡ other
given_is one other e = cc

copied-left_out : (name from : List ℕ) (line : ℕ) (keys : KeyList) (test : Step → Bool) (tree : Tree Step Key) (new : Rows) (step : Option Step)
    → find (is_named from) (children_of (rows tree)) ≡ step
    → ((old : Step) → is_patched old.kind ≡ true → test (renamed_step name old) ≡ true)
    → list_any test (children_of (rows tree)) ≡ false
    → copied_from line name from keys step (rows tree) ≡ Ok new
    → without (test ∷ []) new ≡ rows tree
copied-left_out name from line keys test tree new None found passes free e = absurd (no e)
  where
    no : Err (CopyMissing line from) ≡ Ok new → ⊥
    no e = cc
copied-left_out name from line keys test tree new (Some old) found passes free e =
    let known = passes old (kind_known old from (found_passes (is_named from) (children_of (rows tree)) old found)) in
    let keys_here = keys_set (container_of old.kind) keys in
    ap (without (test ∷ [])) (sym (given_is (with_keys (renamed_step name old ∷ []) keys_here (rows tree ++ group_of old (renamed_step name old) (rows tree))) new e))
    ∙ left_out test (renamed_step name old) known old keys_here tree free

pub copy-left_out : (line : ℕ) (name from : List ℕ) (keys : KeyList) (pattern : PatternItems) (tree : Tree Step Key) (new : Rows) → ((other : List ℕ) → matches pattern other ≡ bytes_eq name other) → copying line name from keys (rows tree) ≡ Ok new → without (selects pattern ∷ []) new ≡ rows tree
unfolding copying
copy-left_out line name from keys pattern tree new alike e =
    let taken = list_any (is_named name) (children_of (rows tree)) in
    let rest = copied_from line name from keys (find (is_named from) (children_of (rows tree))) (rows tree) in
    let free = was_false taken (AddExists line name) rest new e in
    copied-left_out name from line keys (selects pattern) tree new (find (is_named from) (children_of (rows tree))) refl
    (λ old known. sym (same_test pattern name alike (renamed_step name old)) ∙ named_so name old known)
    (sym (same_any (is_named name) (selects pattern) (same_test pattern name alike) (children_of (rows tree))) ∙ free)
    (went_on taken (AddExists line name) rest new e)
