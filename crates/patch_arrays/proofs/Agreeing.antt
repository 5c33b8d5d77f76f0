-- An array in the tree is that among the rows.
use Rattle.std.proofs.Common.{◌≡◌, ℕ, Bool, true, false, not, ◌&&◌, List, [], ◌∷◌, map, filter, find, length, Option, None, Some, option_map, Ok, refl, sym, ap, ap₂, ◌∙◌, append-nil}
use Rattle.std.specs.List.{AllByRecursion, list_any}
use Rattle.std.proofs.lemmas.List.{length-map}
use Rattle.patch_edits.proofs.Contexts.{tree_with}
use Rattle.patch_edits.proofs.Walks.{Agrees}
use Rattle.patch_edits.specs.Commands.{order_at}
use Rattle.patch_edits.specs.Visits.{Below}
use Rattle.patch_model.specs.Acts.{PatternItems, arrays}
use Rattle.patch_sem.specs.declared.fault.PatchFault.TheVariants.{AddExists}
use Rattle.patch_sem.specs.Arrays.{arrayed, arraying, array_of as rows_arrayed, by_offset, first_step, keys_of_child, first_unlike, first_uneven, is_one_of, is_told, is_unlike, members, ordered_by, placed, unless_uneven, unless_unlike, with_array as with_rows_arrayed}
use Rattle.patch_sem.specs.Copying.{group_of, renamed_step}
use Rattle.patch_sem.specs.Likeness.{same_rows}
use Rattle.patch_sem.specs.Patching.{done_at}
use Rattle.patch_sem.specs.Selecting.{Rows, is_named, selects}
use Rattle.patch_sem.specs.Settings.{with_keys}
use Rattle.patch_sem.specs.Steps.{◌>>=◌, refused_if, unless_none}
use Rattle.patch_arrays.proofs.Each.{any-each, each_kept, each_so, filter-each, find-each, map-each, option_map-map}
use Rattle.patch_arrays.proofs.Elements.{chosen-each, children-known, distinct-steps, group-known, inside-known, keys-known, known-each, siblings-elements, step_in}
use Rattle.patch_arrays.proofs.Exchanging.{exchange-rows}
use Rattle.patch_arrays.proofs.Keys.{key-put}
use Rattle.patch_arrays.proofs.Ordering.{all_ordered, ordered_map}
use Rattle.patch_arrays.specs.Arranging.{Element, arranged, array_of, arrayed_below, arraying_in, differs, elements, exact, first_differing, is_member, is_taken, offset_of, placed_step, put_key, with_array}
use Rattle.svd_model.specs.Facts.{is_dim}
use Rattle.svd_model.specs.Keys.{Key, dim_count, dim_increment, rank}
use Rattle.svd_model.specs.Stating.{start_of}
use Rattle.svd_model.specs.Steps.{Step, peripheral, cluster, register, field, set, value, same_kind, same_step}
use Rattle.svd_rows.proofs.Lists.{map-map}
use Rattle.svd_rows.specs.Elements.{IsDistinct}
use Rattle.svd_rows.specs.Forest.{Tree, siblings}
use Rattle.svd_rows.specs.LookUps.{children_of}
use Rattle.svd_rows.specs.Paths.{is_within}
use Rattle.svd_rows.specs.RowEdits.{exchanged, moved, renamed_path, with_key}
use Rattle.svd_rows.specs.Rows.{forest_rows, rows, under, under_path}
use Rattle.svd_rows.specs.Standing.{Stands}

-- refusals one after the other, and what is made where none comes
outcome-or : (line : ℕ) (name : List ℕ) (steps : List Element) (taken : Bool) (uneven : Option ((Step × ℕ) × (Step × ℕ))) (unlike : Option (Step × Step)) (made : Below) (give : Below → Rows)
    → unless_none line (map step_in steps) (refused_if taken (AddExists line name) (unless_uneven line uneven (unless_unlike line unlike (Ok (give made)))))
    ≡ (unless_none line steps (refused_if taken (AddExists line name) (unless_uneven line uneven (unless_unlike line unlike (Ok made)))) >>= (λ new. Ok (give new)))
outcome-or line name [] taken uneven unlike made give = refl
outcome-or line name (step ∷ steps) true uneven unlike made give = refl
outcome-or line name (step ∷ steps) false (Some pair) unlike made give = refl
outcome-or line name (step ∷ steps) false None (Some pair) made give = refl
outcome-or line name (step ∷ steps) false None None made give = refl

moved-under : (old new : Step) (all : Rows) → map (moved (renamed_path [] (λ _. new))) (map (under_path (old ∷ [])) all) ≡ map (under new) all
unfolding under_path under renamed_path
moved-under old new all = map-map (moved (renamed_path [] (λ _. new))) (under_path (old ∷ [])) all

alone : (s : Step) (tree : Tree Step Key) → forest_rows (siblings ((s, tree) ∷ [])) ≡ map (under s) (rows tree)
unfolding forest_rows siblings rows
alone s tree = append-nil (map (under s) (rows tree))

module _ (line : ℕ) (pattern : PatternItems) (name : List ℕ) (keys : List Key) (f : Below) (distinct : IsDistinct same_step f) where
  abbrev all : Rows
  all = rows (tree_with keys f)

  abbrev els : List Element
  els = elements f

  abbrev Known : Element → Type 0
  Known e = Stands same_step (e.0 ∷ []) (tree_with keys f) e.1

  known : AllByRecursion Known els
  known = known-each keys f distinct

  abbrev taken_in : List Element
  taken_in = filter (is_member pattern) els

  members-same : members pattern all ≡ map step_in taken_in
  unfolding members
  members-same =
      ap (filter (λ step. selects pattern step && not (list_any is_dim (keys_of_child all step)))) (children-known keys f)
      ∙ filter-each (λ step. selects pattern step && not (list_any is_dim (keys_of_child all step))) (is_member pattern) step_in els
      (each_so Known (λ e. (selects pattern e.0 && not (list_any is_dim (keys_of_child all e.0))) ≡ is_member pattern e) (λ e k. ap (λ (ks : List Key). selects pattern e.0 && not (list_any is_dim ks)) (keys-known keys f e k)) els known)

  by_offset-same : by_offset pattern all ≡ map placed_step (arranged pattern els)
  unfolding by_offset
  by_offset-same =
      ap (λ (steps : List Step). ordered_by (λ member. member.1) (map (placed all) steps)) members-same
      ∙ ap (ordered_by (λ member. member.1))
      (map-map (placed all) step_in taken_in
      ∙ map-each (λ e. placed all e.0) placed_step taken_in
      (each_so Known (λ e. placed all e.0 ≡ placed_step e) (λ e k. ap (λ (ks : List Key). (e.0, start_of ks None)) (keys-known keys f e k)) taken_in (each_kept Known (is_member pattern) els known)))
      ∙ sym (ordered_map placed_step (λ member. member.1) taken_in)

  abbrev order : List Element
  order = arranged pattern els

  known-order : AllByRecursion Known order
  known-order = all_ordered Known offset_of taken_in (each_kept Known (is_member pattern) els known)

  members-each : AllByRecursion (λ e. is_one_of (map step_in taken_in) e.0 ≡ is_member pattern e) els
  members-each = chosen-each (is_member pattern) els (distinct-steps f distinct)

  taken-same : list_any (λ step. is_named name step && not (is_one_of (map step_in taken_in) step)) (children_of all) ≡ is_taken pattern name els
  taken-same =
      ap (list_any (λ step. is_named name step && not (is_one_of (map step_in taken_in) step))) (children-known keys f)
      ∙ any-each (λ step. is_named name step && not (is_one_of (map step_in taken_in) step)) (λ e. is_named name e.0 && not (is_member pattern e)) step_in els
      (each_so (λ e. is_one_of (map step_in taken_in) e.0 ≡ is_member pattern e) (λ e. (is_named name e.0 && not (is_one_of (map step_in taken_in) e.0)) ≡ (is_named name e.0 && not (is_member pattern e))) (λ e is. ap (λ (b : Bool). is_named name e.0 && not b) is) els members-each)

  unlike-told : (first e : Element) → Known first → Known e → is_unlike all first.0 e.0 ≡ differs first e
  unlike-told first e one other =
      ap₂ (λ (a b : Rows). not (same_kind first.0.kind e.0.kind && same_rows (filter is_told a) (filter is_told b))) (inside-known keys f first one) (inside-known keys f e other)

  unlike-same : (some : List Element) → AllByRecursion Known some → first_unlike all (map placed_step some) ≡ first_differing some
  unlike-same [] each = refl
  unlike-same (first ∷ others) each =
      ap (option_map (λ (other : Step × ℕ). (first.0, other.0)))
      (find-each (λ (other : Step × ℕ). is_unlike all first.0 other.0) (differs first) placed_step others (each_so Known (λ e. is_unlike all first.0 e.0 ≡ differs first e) (λ e k. unlike-told first e each.0 k) others each.1))
      ∙ option_map-map (λ (other : Step × ℕ). (first.0, other.0)) placed_step (find (differs first) others)

  group-same : (e : Element) (new : Step) → Known e → group_of e.0 new all ≡ map (under new) (rows e.1)
  unfolding group_of
  group-same e new k = ap (map (moved (renamed_path [] (λ _. new)))) (group-known keys f e k) ∙ moved-under e.0 new (rows e.1)

  array-same : (some : List Element) → AllByRecursion Known some → rows_arrayed name (map placed_step some) all ≡ forest_rows (siblings (array_of exact name some))
  unfolding with_keys forest_rows siblings
  array-same [] each = refl
  array-same (first ∷ others) each =
      ap (λ (n : ℕ). with_keys (new ∷ []) (dim_count n ∷ dim_increment step ∷ []) (group_of first.0 new all)) (length-map (first ∷ others) placed_step)
      ∙ ap (with_keys (new ∷ []) (dim_count (length (first ∷ others)) ∷ dim_increment step ∷ [])) (group-same first new each.0)
      ∙ ap (with_key same_step rank (new ∷ []) (dim_increment step)) (key-put (dim_count (length (first ∷ others))) new first.1)
      ∙ key-put (dim_increment step) new (record { keys = put_key (dim_count (length (first ∷ others))) first.1.keys; below = first.1.below })
      ∙ sym (alone new (record { keys = put_key (dim_increment step) (put_key (dim_count (length (first ∷ others))) first.1.keys); below = first.1.below }))
    where
      new : Step
      new = renamed_step name first.0

      step : ℕ
      step = first_step (map placed_step (first ∷ others))

  with_array-same : with_rows_arrayed name (map step_in taken_in) (map placed_step order) all ≡ rows (tree_with keys (siblings (with_array exact pattern name els)))
  with_array-same =
      ap (λ (new : Rows). exchanged (λ row. is_within (is_one_of (map step_in taken_in) ∷ []) row) new all) (array-same order known-order)
      ∙ ap (λ (g : Below). exchanged (λ row. is_within (is_one_of (map step_in taken_in) ∷ []) row) (forest_rows (siblings (array_of exact name order))) (rows (tree_with keys g))) (sym (siblings-elements f))
      ∙ exchange-rows (is_one_of (map step_in taken_in)) (is_member pattern) keys (array_of exact name order) els members-each

  pub arraying-same : arraying line pattern name all ≡ (arraying_in exact line pattern name els >>= (λ new. Ok (rows (tree_with keys new))))
  unfolding arraying
  arraying-same =
      ap₂ (λ (steps : List Step) (ordered : List (Step × ℕ)). arrayed line name steps ordered all) members-same by_offset-same
      ∙ ap₂ (λ (taken : Bool) (unlike : Option (Step × Step)). unless_none line (map step_in taken_in) (refused_if taken (AddExists line name) (unless_uneven line (first_uneven (map placed_step order)) (unless_unlike line unlike (Ok (with_rows_arrayed name (map step_in taken_in) (map placed_step order) all))))))
      taken-same (unlike-same order known-order)
      ∙ ap (λ (left : Rows). unless_none line (map step_in taken_in) (refused_if (is_taken pattern name els) (AddExists line name) (unless_uneven line (first_uneven (map placed_step order)) (unless_unlike line (first_differing order) (Ok left))))) with_array-same
      ∙ outcome-or line name taken_in (is_taken pattern name els) (first_uneven (map placed_step order)) (first_differing order) (siblings (with_array exact pattern name els)) (λ new. rows (tree_with keys new))

pub array-agrees : (line : ℕ) (pattern : PatternItems) (name : List ℕ) (parents : List PatternItems) → Agrees (order_at line parents (arrays pattern name)) (arrayed_below exact line pattern name)
unfolding done_at arrayed_below
array-agrees line pattern name parents None keys f distinct = arraying-same line pattern name keys f distinct
array-agrees line pattern name parents (Some peripheral) keys f distinct = arraying-same line pattern name keys f distinct
array-agrees line pattern name parents (Some cluster) keys f distinct = arraying-same line pattern name keys f distinct
array-agrees line pattern name parents (Some register) keys f distinct = arraying-same line pattern name keys f distinct
array-agrees line pattern name parents (Some field) keys f distinct = refl
array-agrees line pattern name parents (Some set) keys f distinct = arraying-same line pattern name keys f distinct
array-agrees line pattern name parents (Some value) keys f distinct = arraying-same line pattern name keys f distinct
