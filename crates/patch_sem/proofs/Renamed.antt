-- A child that is renamed, and renamed back.
use Rattle.std.proofs.Common.{◌≡◌, ℕ, Bool, true, false, cond, not, ◌&&◌, List, [], ◌∷◌, map, Some, Ok, Err, refl, sym, ap, ap₂, ◌∙◌, subst}
use Rattle.std.specs.Cmp.Lexicographic.{bytes_decides}
use Rattle.std.specs.List.{list_any}
use Rattle.std.proofs.lemmas.Bool.{or_parts, or_from}
use Rattle.svd_model.proofs.Steps.{same_step-tells}
use Rattle.svd_model.specs.Keys.{Key}
use Rattle.svd_model.specs.Steps.{Step, same_step}
use Rattle.svd_rows.proofs.LookUps.{children_of-rows}
use Rattle.svd_rows.proofs.Renaming.{rows-with_renamed}
use Rattle.svd_rows.specs.Edits.{renamed, with_renamed, within}
use Rattle.svd_rows.specs.Forest.{Forest, Tree, leaf, node, steps}
use Rattle.svd_rows.specs.LookUps.{children_of}
use Rattle.svd_rows.specs.RowEdits.{moved, other_step, renamed_path}
use Rattle.svd_rows.specs.Rows.{rows}
use Rattle.patch_sem.proofs.Outcomes.{not_refused}
use Rattle.patch_sem.specs.declared.fault.PatchFault.{PatchFault}
use Rattle.patch_sem.specs.declared.fault.PatchFault.TheVariants.{AddExists}
use Rattle.patch_sem.specs.Copying.{renamed_step}
use Rattle.patch_sem.specs.Modifying.{is_of_sibling, renaming, under_name}
use Rattle.patch_sem.specs.Selecting.{Rows, is_named, is_patched}
use Rattle.patch_sem.specs.Steps.{Outcome, refused_if}

-- what a test that refuses must have said
pub was_false : {A : Type 0} (test : Bool) (fault : PatchFault) (rest : Outcome A) (x : A) → refused_if test fault rest ≡ Ok x → test ≡ false
was_false true fault rest x e = absurd (no e)
  where
    no : Err fault ≡ Ok x → ⊥
    no e = cc
was_false false fault rest x e = refl

not_refused_by : {A : Type 0} (test : Bool) (fault : PatchFault) (rest : Outcome A) → test ≡ false → refused_if test fault rest ≡ rest
not_refused_by test fault rest is = rw is refl

rows_renamed : (new : Step → Step) (tree : Tree Step Key) → rows (with_renamed new tree) ≡ map (moved (renamed_path [] new)) (rows tree)
unfolding within
rows_renamed new tree = rows-with_renamed [] new tree

steps_renamed : (new : Step → Step) (f : Forest Step Key) → steps (renamed new f) ≡ map new (steps f)
unfolding steps renamed
steps_renamed new leaf = refl
steps_renamed new (node s ks c n) = ap (λ r. new s ∷ r) (steps_renamed new n)

module _ (step : Step) (name : List ℕ) (known : is_patched step.kind ≡ true) (first : step.number ≡ 0) where
  abbrev forth : Step → Step
  forth = other_step same_step step (renamed_step name step)

  abbrev back : Step → Step
  back = other_step same_step (renamed_step name step) (renamed_step step.name (renamed_step name step))

  -- the step under its own name is the step
  whole : renamed_step step.name (renamed_step name step) ≡ step
  whole = λ i. record { kind = step.kind; name = step.name; number = sym first i }

  new_is_named : is_named name (renamed_step name step) ≡ true
  unfolding is_named
  new_is_named = ap₂ (λ (a b : Bool). a && b) known ((bytes_decides name name).1 refl)

  -- a sibling that doesn't have the new name isn't the renamed child
  isnt_new : (s : Step) (a : Bool) → is_named name s ≡ a → (a && true) ≡ false → same_step (renamed_step name step) s ≡ false
  isnt_new s true is free = absurd cc
  isnt_new s false is free = at (same_step (renamed_step name step) s) refl
    where
      at : (b : Bool) → same_step (renamed_step name step) s ≡ b → b ≡ false
      at true e = absurd (not_both (sym (ap (is_named name) (same_step-tells.alone (renamed_step name step) s e)) ∙ new_is_named))
        where
          not_both : is_named name s ≡ true → ⊥
          not_both e = absurd (differ (sym is ∙ e))
            where
              differ : false ≡ true → ⊥
              differ e = cc
      at false e = refl

  alone : (b : Bool) → (b && true) ≡ false → b ≡ false
  alone true e = e
  alone false e = e

  nothing : (b : Bool) → (b && false) ≡ false
  nothing true = refl
  nothing false = refl

  at_back : (s : Step) → same_step (renamed_step name step) s ≡ false → back s ≡ s
  at_back s isnt = rw isnt refl

  back_of_new : back (renamed_step name step) ≡ renamed_step step.name (renamed_step name step)
  back_of_new = rw (same_step-tells.itself (renamed_step name step)) refl

  there_and_back : (s : Step) (a : Bool) → same_step step s ≡ a → (is_named name s && not a) ≡ false → back (cond a (renamed_step name step) s) ≡ s
  there_and_back s true is free = back_of_new ∙ whole ∙ same_step-tells.alone step s is
  there_and_back s false is free = at_back s (isnt_new s (is_named name s) refl free)

  all_back : (f : Forest Step Key) → list_any (is_of_sibling name step) (steps f) ≡ false → renamed back (renamed forth f) ≡ f
  unfolding renamed steps
  all_back leaf free = refl
  all_back (node s ks c n) free =
      let parts = or_parts (is_of_sibling name step s) (list_any (is_of_sibling name step) (steps n)) free in
      ap₂ (λ t g. node t ks c g) (there_and_back s (same_step step s) refl parts.0) (all_back n parts.1)

  no_sibling : (s : Step) (a : Bool) → same_step step s ≡ a → (is_named step.name s && not a) ≡ false → is_of_sibling step.name (renamed_step name step) (cond a (renamed_step name step) s) ≡ false
  no_sibling s true is free =
      ap (λ (b : Bool). is_named step.name (renamed_step name step) && not b) (same_step-tells.itself (renamed_step name step)) ∙ nothing (is_named step.name (renamed_step name step))
  no_sibling s false is free = ap (λ (b : Bool). b && not (same_step (renamed_step name step) s)) (alone (is_named step.name s) free)

  no_siblings : (f : Forest Step Key) → list_any (is_of_sibling step.name step) (steps f) ≡ false → list_any (is_of_sibling step.name (renamed_step name step)) (map forth (steps f)) ≡ false
  unfolding steps
  no_siblings leaf free = refl
  no_siblings (node s ks c n) free =
      let parts = or_parts (is_of_sibling step.name step s) (list_any (is_of_sibling step.name step) (steps n)) free in
      or_from (is_of_sibling step.name (renamed_step name step) (forth s)) (list_any (is_of_sibling step.name (renamed_step name step)) (map forth (steps n)))
      (no_sibling s (same_step step s) refl parts.0) (no_siblings n parts.1)

  pub renamed_back-at : (again : ℕ) (tree : Tree Step Key) (new : Rows) → list_any (is_of_sibling step.name step) (children_of (rows tree)) ≡ false → list_any (is_of_sibling name step) (children_of (rows tree)) ≡ false → under_name step name (rows tree) ≡ new → renaming again (renamed_step name step) (Some step.name) new ≡ Ok (rows tree)
  renamed_back-at again tree new unique free is =
      let made : new ≡ rows (with_renamed forth tree) = sym is ∙ sym (rows_renamed forth tree) in
      let inner = subst (λ (all : List Step). list_any (is_of_sibling name step) all ≡ false) (children_of-rows tree) free in
      let own = subst (λ (all : List Step). list_any (is_of_sibling step.name step) all ≡ false) (children_of-rows tree) unique in
      ap (λ (all : Rows). renaming again (renamed_step name step) (Some step.name) all) made
      ∙ not_refused_by (list_any (is_of_sibling step.name (renamed_step name step)) (children_of (rows (with_renamed forth tree)))) (AddExists again step.name)
      (Ok (under_name (renamed_step name step) step.name (rows (with_renamed forth tree))))
      (ap (list_any (is_of_sibling step.name (renamed_step name step))) (children_of-rows (with_renamed forth tree) ∙ steps_renamed forth tree.below) ∙ no_siblings tree.below own)
      ∙ ap Ok (sym (rows_renamed back (with_renamed forth tree)) ∙ ap (λ (below : Forest Step Key). rows (record { keys = tree.keys; below = below })) (all_back tree.below inner))

pub renamed-back : (line again : ℕ) (step : Step) (name : List ℕ) (tree : Tree Step Key) (new : Rows) → is_patched step.kind ≡ true → step.number ≡ 0 → list_any (is_of_sibling step.name step) (children_of (rows tree)) ≡ false → renaming line step (Some name) (rows tree) ≡ Ok new → renaming again (renamed_step name step) (Some step.name) new ≡ Ok (rows tree)
renamed-back line again step name tree new known first unique e =
    renamed_back-at step name known first again tree new unique
    (was_false (list_any (is_of_sibling name step) (children_of (rows tree))) (AddExists line name) (Ok (under_name step name (rows tree))) new e)
    (not_refused (list_any (is_of_sibling name step) (children_of (rows tree))) (AddExists line name) (under_name step name (rows tree)) new e)
