-- The keys of a device, set in its tree and among its rows.
use Rattle.std.proofs.Common.{◌≡◌, ◌≤◌, ◌<◌, ℕ, List, [], ◌∷◌, set, length, Some, Ok, refl, sym, ap, ap₂, ◌∙◌, subst, arith, length-set}
use Rattle.patch_edits.proofs.Contexts.{in_limit, inside-context, put-context, tree_with}
use Rattle.patch_edits.specs.Commands.{order_at}
use Rattle.patch_edits.specs.Visits.{Below}
use Rattle.patch_model.specs.Acts.{KeyList, PatternItems, modifies_device}
use Rattle.patch_sem.specs.Patching.{applied, applied_at, applied_to, done_at, put_inside, within_limit}
use Rattle.patch_sem.specs.Selecting.{Rows, last_kind}
use Rattle.patch_sem.specs.Settings.{keys_set, keys_with, with_keys}
use Rattle.patch_sem.specs.Steps.{Outcome, ◌>>=◌}
use Rattle.patch_settings.proofs.Placing.{IsPlaced-set, rank-below, stated-placed}
use Rattle.patch_settings.specs.Places.{KeyPlaces, placed}
use Rattle.patch_settings.specs.Setting.{IsSet}
use Rattle.svd_model.proofs.Steps.{same_step-finer, same_step-tells}
use Rattle.svd_model.specs.Counting.{elements_in}
use Rattle.svd_model.specs.Facts.{IsElement, IsFolded, element_limit, elements_of, is_counted}
use Rattle.svd_model.specs.Keys.{Key, rank}
use Rattle.svd_model.specs.Steps.{Step, same_key, same_step}
use Rattle.svd_rows.proofs.Counting.{count-rows}
use Rattle.svd_rows.proofs.Facts.{IsDistinct-finer}
use Rattle.svd_rows.proofs.Keys.{rows-with_keys}
use Rattle.svd_rows.proofs.Places.{stated-ranked, stated-set}
use Rattle.svd_rows.proofs.Standing.{element_at-stands}
use Rattle.svd_rows.specs.Elements.{Every, IsDistinct, element_at}
use Rattle.svd_rows.specs.Edits.{within}
use Rattle.svd_rows.specs.Forest.{Tree}
use Rattle.svd_rows.specs.LookUps.{inside}
use Rattle.svd_rows.specs.Ranks.{IsPlaced, stated}
use Rattle.svd_rows.specs.Rows.{rows}
use Rattle.svd_rows.specs.Standing.{Stands}
use Rattle.svd_schema.specs.declared.container.Container.TheVariants as container

module _ (f : Below) (distinct : IsDistinct same_step f) where
  -- an element stands at its own start
  whole : (keys : List Key) → Stands same_step [] (tree_with keys f) (tree_with keys f)
  unfolding element_at
  whole keys = element_at-stands same_step same_step-tells [] (tree_with keys f) (tree_with keys f) distinct refl

  one-set : (places : KeyPlaces) (one : Key) → IsPlaced rank 0 places → length places ≡ 18 → rows (tree_with (stated (set places (rank one) (Some one))) f) ≡ with_keys [] (one ∷ []) (rows (tree_with (stated places) f))
  unfolding within with_keys
  one-set places one is long =
      ap (λ (keys : List Key). rows (tree_with keys f)) (stated-set rank 0 one places (rank one) is (below (rank one) (length places) (rank-below one) long) (omega arith))
      ∙ rows-with_keys same_step same_step-tells rank [] one (tree_with (stated places) f) (tree_with (stated places) f) (whole (stated places)) (stated-ranked rank 0 places is)
    where
      below : (n k : ℕ) → n < 18 → k ≡ 18 → n < k
      below n k less e = omega (arith, less, e)

  -- keys that are set among the rows are set in the tree
  keys-set : (keys : List Key) (places : KeyPlaces) → IsPlaced rank 0 places → length places ≡ 18 → with_keys [] keys (rows (tree_with (stated places) f)) ≡ rows (tree_with (stated (placed keys places)) f)
  unfolding with_keys placed
  keys-set [] places is long = refl
  keys-set (one ∷ keys) places is long =
      ap (with_keys [] keys) (sym (one-set places one is long))
      ∙ keys-set keys (set places (rank one) (Some one)) (IsPlaced-set 0 places (rank one) one is (omega arith)) (length-set places (rank one) (Some one) ∙ long)

  -- what is seen of the whole from its start is the whole
  seen : (keys : List Key) → inside same_step [] (rows (tree_with keys f)) ≡ rows (tree_with keys f)
  seen keys =
      ap (inside same_step []) (whole keys).stands
      ∙ inside-context [] (rows (tree_with keys f)) (whole keys).before (whole keys).after (whole keys).elsewhere_before (whole keys).elsewhere_after

  put : (keys new : List Key) → put_inside [] (rows (tree_with new f)) (rows (tree_with keys f)) ≡ rows (tree_with new f)
  unfolding within
  put keys new =
      ap (put_inside [] (rows (tree_with new f))) (whole keys).stands
      ∙ put-context [] keys f (rows (tree_with new f)) (whole keys).before (whole keys).after (whole keys).elsewhere_before (whole keys).elsewhere_after
      ∙ sym ((whole keys).edited (λ (tree : Tree Step Key). tree_with new f))

  limited : (keys : List Key) → elements_in f ≤ element_limit → within_limit (rows (tree_with keys f)) ≡ Ok (rows (tree_with keys f))
  unfolding elements_of
  limited keys few = in_limit (rows (tree_with keys f)) (subst (λ (n : ℕ). n ≤ element_limit) (sym (count-rows is_counted (tree_with keys f))) few)

  applied-device : (line : ℕ) (parents : List PatternItems) (texts : KeyList) (places : KeyPlaces) → IsPlaced rank 0 places → length places ≡ 18 → elements_in f ≤ element_limit
      → applied (order_at line parents (modifies_device texts)) (rows (tree_with (stated places) f)) ≡ Ok (rows (tree_with (keys_with (keys_set container.Device texts) (stated places)) f))
  unfolding applied applied_to applied_at done_at last_kind
  applied-device line parents texts places is long few =
      ap (λ (all : Rows). within_limit (put_inside [] (with_keys [] (keys_set container.Device texts) all) (rows (tree_with (stated places) f))) >>= (λ new. Ok new)) (seen (stated places))
      ∙ ap (λ (all : Rows). within_limit (put_inside [] all (rows (tree_with (stated places) f))) >>= (λ new. Ok new))
      (keys-set (keys_set container.Device texts) places is long ∙ ap (λ (keys : List Key). rows (tree_with keys f)) (stated-placed (keys_set container.Device texts) places is long))
      ∙ ap (λ (all : Rows). within_limit all >>= (λ new. Ok new)) (put (stated places) (keys_with (keys_set container.Device texts) (stated places)))
      ∙ ap (λ (made : Outcome Rows). made >>= (λ new. Ok new)) (limited (keys_with (keys_set container.Device texts) (stated places)) few)

-- a device in which keys are set is what the command leaves of its rows
pub device-modified : (OfField : List Key → Type 0) (line : ℕ) (parents : List PatternItems) (texts : KeyList) (places : KeyPlaces) (old new : Tree Step Key) → IsPlaced rank 0 places → length places ≡ 18 → old.keys ≡ stated places → IsFolded OfField old → IsSet container.Device texts old new
    → applied (order_at line parents (modifies_device texts)) (rows old) ≡ Ok (rows new)
device-modified OfField line parents texts places old new is long keys folded changed =
    ap (λ (ks : List Key). applied (order_at line parents (modifies_device texts)) (rows (tree_with ks old.below))) keys
    ∙ applied-device old.below (IsDistinct-finer same_key same_step same_step-finer old.below folded.distinct) line parents texts places is long folded.few
    ∙ ap₂ (λ (ks : List Key) (f : Below). Ok (rows (tree_with ks f))) (ap (keys_with (keys_set container.Device texts)) (sym keys) ∙ sym changed.keys) (sym changed.below)

pub device-kept : (OfField : List Key → Type 0) (texts : KeyList) (old new : Tree Step Key) → IsFolded OfField old → IsSet container.Device texts old new → IsFolded OfField new
device-kept OfField texts old new folded changed = record {
  distinct = subst (IsDistinct same_key) (sym changed.below) folded.distinct;
  elements = subst (Every (IsElement OfField)) (sym changed.below) folded.elements;
  few = subst (λ (f : Below). elements_in f ≤ element_limit) (sym changed.below) folded.few;
}
