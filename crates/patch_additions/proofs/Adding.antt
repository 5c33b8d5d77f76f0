-- An addition in the tree is the addition among the rows.
use Rattle.std.proofs.Common.{◌≡◌, ℕ, Bool, true, false, List, [], ◌++◌, map, Option, Some, None, Ok, refl, sym, ap, ap₂, ◌∙◌, append_assoc}
use Rattle.std.specs.List.{list_any}
use Rattle.patch_model.specs.Acts.{Added, AddedOne, PatternItems, added, adds_one, no_more}
use Rattle.patch_sem.specs.declared.fault.PatchFault.TheVariants.{AddExists}
use Rattle.patch_sem.specs.Additions.{adding, first_missing, held_by, keys_made, made_in, made_rows, unless_missing}
use Rattle.patch_sem.specs.Patching.{done_at}
use Rattle.patch_sem.specs.Selecting.{Rows, is_named}
use Rattle.patch_sem.specs.Steps.{Outcome, ◌>>=◌, refused_if}
use Rattle.patch_edits.proofs.Contexts.{tree_with}
use Rattle.patch_edits.specs.Commands.{order_at}
use Rattle.patch_edits.specs.Visits.{Below}
use Rattle.patch_growth.proofs.Walks.{Agrees}
use Rattle.patch_additions.specs.Made.{adds_child, made_forest, made_tree}
use Rattle.patch_growth.specs.Growths.{Growth, child_named, new_child, put_new}
use Rattle.svd_model.specs.Keys.{Key}
use Rattle.svd_model.specs.Steps.{Kind, Step, peripheral, cluster, register, field, set, value}
use Rattle.svd_rows.proofs.LookUps.{children_of-rows}
use Rattle.svd_rows.proofs.Rows.{forest_rows-join}
use Rattle.svd_rows.specs.Forest.{join, leaf, steps}
use Rattle.svd_rows.specs.Rows.{forest_rows, own, rows, under}

-- the rows of what an element holds
held-rows : (kind : Kind) (registers fields : Below) (r q : Rows) → r ≡ forest_rows registers → q ≡ forest_rows fields → held_by kind [] r q ≡ forest_rows (held_by kind leaf registers fields)
unfolding forest_rows
held-rows peripheral registers fields r q one other = one
held-rows cluster registers fields r q one other = refl
held-rows register registers fields r q one other = other
held-rows field registers fields r q one other = refl
held-rows set registers fields r q one other = refl
held-rows value registers fields r q one other = refl

-- the rows of elements that are made side by side are those of their trees
pub made-rows : (kind : Kind) (all : Added) → made_rows kind all ≡ forest_rows (made_forest kind all)
unfolding made_rows made_forest forest_rows
made-rows kind no_more = refl
made-rows kind (added name keys registers fields others) =
    ap₂ (λ (held more : Rows). map (under (record { kind = kind; name = name; number = 0 })) (own (keys_made kind keys) ++ held) ++ more)
    (held-rows kind (made_forest register registers) (made_forest field fields) (made_rows register registers) (made_rows field fields) (made-rows register registers) (made-rows field fields))
    (made-rows kind others)

-- one of them under its name
one-made : (kind : Kind) (one : AddedOne) → made_forest kind (added one.name one.keys one.registers one.fields no_more) ≡ child_named one.name (kind, made_tree kind one)
unfolding made_forest
one-made kind one = refl

module _ (line : ℕ) (one : AddedOne) where
  abbrev growth : Growth
  growth = adds_child line one

  abbrev put : List Key → Below → Below → Outcome Rows
  put keys f more = Ok (rows (tree_with keys (join f more)))

  behind-rows : (kind : Kind) (keys : List Key) (f : Below) → rows (tree_with keys f) ++ made_rows kind (added one.name one.keys one.registers one.fields no_more) ≡ rows (tree_with keys (join f (child_named one.name (kind, made_tree kind one))))
  unfolding rows
  behind-rows kind keys f =
      append_assoc (own keys) (forest_rows f) (made_rows kind (added one.name one.keys one.registers one.fields no_more))
      ∙ ap (λ (r : Rows). own keys ++ r)
      (ap (λ (r : Rows). forest_rows f ++ r) (made-rows kind (added one.name one.keys one.registers one.fields no_more) ∙ ap forest_rows (one-made kind one))
      ∙ sym (forest_rows-join f (child_named one.name (kind, made_tree kind one))))

  added-same : (kind : Option Kind) (keys : List Key) (f : Below) → adding line (made_in kind) one.name one.keys one.registers one.fields (rows (tree_with keys f)) ≡ (new_child growth kind f >>= put keys f)
  unfolding adding
  added-same kind keys f =
      ap₂ (λ (all : List Step) (left : Rows). refused_if (list_any (is_named one.name) all) (AddExists line one.name) (unless_missing line missing (Ok left))) (children_of-rows (tree_with keys f)) (behind-rows (made_in kind) keys f)
      ∙ cases (list_any (is_named one.name) (steps f)) missing
    where
      missing : Option (List ℕ)
      missing = first_missing (made_in kind) (added one.name one.keys one.registers one.fields no_more)

      cases : (b : Bool) (m : Option (List ℕ)) → refused_if b (AddExists line one.name) (unless_missing line m (Ok (rows (tree_with keys (join f (child_named one.name (made_in kind, made_tree (made_in kind) one)))))))
          ≡ (refused_if b (AddExists line one.name) (unless_missing line m (Ok (made_in kind, made_tree (made_in kind) one)) >>= (λ child. Ok (child_named one.name child))) >>= put keys f)
      cases true m = refl
      cases false None = refl
      cases false (Some key) = refl

  pub addition-agrees : (parents : List PatternItems) → Agrees (order_at line parents (adds_one one)) growth
  unfolding done_at put_new
  addition-agrees parents None keys f distinct typed = added-same None keys f
  addition-agrees parents (Some peripheral) keys f distinct typed = added-same (Some peripheral) keys f
  addition-agrees parents (Some cluster) keys f distinct typed = added-same (Some cluster) keys f
  addition-agrees parents (Some register) keys f distinct typed = added-same (Some register) keys f
  addition-agrees parents (Some field) keys f distinct typed = refl
  addition-agrees parents (Some set) keys f distinct typed = added-same (Some set) keys f
  addition-agrees parents (Some value) keys f distinct typed = added-same (Some value) keys f
