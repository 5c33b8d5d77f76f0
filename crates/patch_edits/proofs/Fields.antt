-- A walk that comes to fields: nothing below them is a child for a patch.
use Rattle.std.proofs.Common.{◌≡◌, ℕ, ◌+◌, Bool, List, [], ◌∷◌, length, map, Option, Some, Ok, Err, refl, ap, ◌∙◌}
use Rattle.patch_model.specs.Acts.{PatternItems}
use Rattle.patch_sem.specs.declared.fault.PatchFault.{PatchFault}
use Rattle.patch_sem.specs.Selecting.{selects}
use Rattle.patch_sem.specs.Steps.{Outcome, ◌>>=◌}
use Rattle.patch_edits.specs.Visits.{Below, each, only_if, visited}
use Rattle.svd_model.specs.declared.device.Field.{Field}
use Rattle.svd_model.specs.declared.sibling.Sibling.{Sibling}
use Rattle.svd_model.specs.Keys.{Key}
use Rattle.svd_model.specs.Steps.{Kind, Step, field, set}
use Rattle.svd_model.specs.Trees.{field_tree, field_under, numbered, set_tree}
use Rattle.svd_rows.specs.Forest.{Tree, node, siblings}

abbrev Entry : Type 0
Entry = Sibling × Field

-- sets are passed by
sets-stay : (pattern : PatternItems) (edit : Kind → Below → Outcome Below) (n : ℕ) (sets : List (List ℕ × Tree Step Key)) → each (selects pattern) edit (numbered set n sets) ≡ Ok (numbered set n sets)
unfolding each numbered selects
sets-stay pattern edit n [] = refl
sets-stay pattern edit n (one ∷ others) = ap (λ (made : Outcome Below). made >>= (λ others. Ok (node (record { kind = set; name = one.0; number = n }) one.1.keys one.1.below others))) (sets-stay pattern edit (n + 1) others)

-- what is left decides as all do
pub record Decides (first : PatternItems) (edit : Kind → Below → Outcome Below) (left all : List Entry) : Type 0 where
  pub fault : (fault : PatchFault) → each (selects first) edit (siblings (map field_under left)) ≡ Err fault → each (selects first) edit (siblings (map field_under all)) ≡ Err fault
  pub same : each (selects first) edit (siblings (map field_under left)) ≡ Ok (siblings (map field_under left)) → each (selects first) edit (siblings (map field_under all)) ≡ Ok (siblings (map field_under all))

pub decides-all : (first : PatternItems) (edit : Kind → Below → Outcome Below) (all : List Entry) → Decides first edit all all
decides-all first edit all = record { fault = λ fault e. e; same = λ e. e }

pub decides-none : (first : PatternItems) (edit : Kind → Below → Outcome Below) (all : List Entry) → Decides first edit [] all → each (selects first) edit (siblings (map field_under all)) ≡ Ok (siblings (map field_under all))
unfolding each siblings
decides-none first edit all decides = decides.same refl

abbrev pub one : PatternItems → (Kind → Below → Outcome Below) → Entry → Outcome Below
one first edit x = only_if (selects first (field_under x).0) (edit field (field_under x).1.below) (field_under x).1.below

each-next : (first : PatternItems) (edit : Kind → Below → Outcome Below) (x : Entry) (left : List Entry) → each (selects first) edit (siblings (map field_under (x ∷ left))) ≡ (one first edit x >>= (λ below. each (selects first) edit (siblings (map field_under left)) >>= (λ others. Ok (node (field_under x).0 (field_under x).1.keys below others))))
unfolding each siblings
each-next first edit x left = refl

node-is : (x : Entry) (left : List Entry) → node (field_under x).0 (field_under x).1.keys (field_under x).1.below (siblings (map field_under left)) ≡ siblings (map field_under (x ∷ left))
unfolding siblings
node-is x left = refl

pub decides-more : (first : PatternItems) (edit : Kind → Below → Outcome Below) (x : Entry) (left all : List Entry) → one first edit x ≡ Ok (field_under x).1.below → Decides first edit (x ∷ left) all → Decides first edit left all
decides-more first edit x left all stays decides = record {
  fault = λ fault e. decides.fault fault (next ∙ ap put e);
  same = λ e. decides.same (next ∙ ap put e ∙ ap Ok (node-is x left));
}
  where
    put : Outcome Below → Outcome Below
    put made = made >>= (λ others. Ok (node (field_under x).0 (field_under x).1.keys (field_under x).1.below others))

    next : each (selects first) edit (siblings (map field_under (x ∷ left))) ≡ put (each (selects first) edit (siblings (map field_under left)))
    next = each-next first edit x left ∙ ap (λ (made : Outcome Below). made >>= (λ below. each (selects first) edit (siblings (map field_under left)) >>= (λ others. Ok (node (field_under x).0 (field_under x).1.keys below others)))) stays

pub decides-fault : (first : PatternItems) (edit : Kind → Below → Outcome Below) (x : Entry) (left all : List Entry) (fault : PatchFault) → one first edit x ≡ Err fault → Decides first edit (x ∷ left) all → each (selects first) edit (siblings (map field_under all)) ≡ Err fault
decides-fault first edit x left all fault is decides =
    decides.fault fault (each-next first edit x left ∙ ap (λ (made : Outcome Below). made >>= (λ below. each (selects first) edit (siblings (map field_under left)) >>= (λ others. Ok (node (field_under x).0 (field_under x).1.keys below others)))) is)

-- a pattern opens nothing in a field
pub opened : (next : PatternItems) (rest : List (Step → Bool)) (edit : Option Kind → Below → Outcome Below) (element : Field) → visited edit (selects next ∷ rest) (Some field) (field_tree element).below ≡ Ok (field_tree element).below
unfolding visited
opened next rest edit element = sets-stay next (λ inner. visited edit rest (Some inner)) 0 (map set_tree element.values.items)

-- a command finds nothing there
pub at_field : (edit : Option Kind → Below → Outcome Below) (below : Below) (fault : PatchFault) → edit (Some field) below ≡ Err fault → visited edit [] (Some field) below ≡ Err fault
unfolding visited
at_field edit below fault e = e

pub no_more_patterns : (patterns : List PatternItems) → length patterns ≡ 0 → patterns ≡ []
no_more_patterns [] e = refl
no_more_patterns (one ∷ others) e = cc
