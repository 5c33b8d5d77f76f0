-- Elements that are made one after the other.
use Rattle.std.proofs.Common.{◌≡◌, ℕ, ◌+◌, Bool, true, false, cond, ◌&&◌, nat_eq, List, [], ◌∷◌, ◌++◌, map, Option, Some, None, refl, sym, ap, ap₂, ◌∙◌}
use Rattle.std.specs.Option.{option_or}
use Rattle.std.specs.Str.{bytes_eq}
use Rattle.std.proofs.lemmas.List.{map-append}
use Rattle.indexmap.specs.IndexMap.{insert_entry}
use Rattle.patch_additions.specs.declared.addition.Unmade.{Unmade}
use Rattle.patch_additions.specs.declared.addition.Unmade.TheVariants.{Lacks, Memory}
use Rattle.patch_additions.specs.Additions.{IsUnmade, built_tree, key_text, lack_of, put_field, put_fields, put_registers}
use Rattle.patch_edits.proofs.Passed.{join-leaf, join-one}
use Rattle.patch_model.specs.Acts.{AddedOne, added_of}
use Rattle.patch_sem.specs.Additions.{first_missing, held_by, keys_made, needed}
use Rattle.svd_model.proofs.Copies.{sibling_eq}
use Rattle.svd_model.specs.declared.device.Field.{Field}
use Rattle.svd_model.proofs.Trees.{child_tree-register, item_under-roll}
use Rattle.svd_model.specs.declared.device.Child.TheVariants as children
use Rattle.svd_model.specs.declared.device.Item.{Item, roll-Item}
use Rattle.svd_model.specs.declared.device.Register.{Register}
use Rattle.svd_model.specs.declared.sibling.Sibling.{Sibling}
use Rattle.svd_model.specs.Keys.{Key}
use Rattle.svd_model.specs.Steps.{Kind, Step, register, field}
use Rattle.svd_model.specs.Trees.{field_tree, field_under, item_under, register_tree, step_of}
use Rattle.svd_rows.specs.Forest.{Tree, join, leaf, node, siblings}

-- what is left lacks what all lack
abbrev pub SameLack : Kind → List AddedOne → List AddedOne → Type 0
SameLack kind all left = first_missing kind (added_of all) ≡ first_missing kind (added_of left)

lack-more : (a b rest : Option (List ℕ)) → option_or a b ≡ None → option_or a (option_or b rest) ≡ rest
lack-more None None rest e = refl
lack-more None (Some x) rest e = absurd cc
lack-more (Some x) b rest e = absurd cc

lack-here : (a b rest : Option (List ℕ)) (key : List ℕ) → option_or a b ≡ Some key → option_or a (option_or b rest) ≡ Some key
lack-here None None rest key e = absurd cc
lack-here None (Some x) rest key e = e
lack-here (Some x) b rest key e = e

module _ (kind : Kind) (all : List AddedOne) (one : AddedOne) (rest left : List AddedOne) (is : left ≡ one ∷ rest) (same : SameLack kind all left) where
  -- nothing lacks in the first
  pub lacks-more : lack_of kind one ≡ None → SameLack kind all rest
  unfolding first_missing
  lacks-more none =
      same ∙ ap (λ (l : List AddedOne). first_missing kind (added_of l)) is
      ∙ lack-more (needed kind (keys_made kind one.keys)) (held_by kind None (first_missing register one.registers) (first_missing field one.fields)) (first_missing kind (added_of rest)) none

  -- what the first lacks
  pub lacks-here : (key : List ℕ) → lack_of kind one ≡ Some key → first_missing kind (added_of all) ≡ Some key
  unfolding first_missing
  lacks-here key some =
      same ∙ ap (λ (l : List AddedOne). first_missing kind (added_of l)) is
      ∙ lack-here (needed kind (keys_made kind one.keys)) (held_by kind None (first_missing register one.registers) (first_missing field one.fields)) (first_missing kind (added_of rest)) key some

  -- why the first isn't made
  pub lacks-why : (why : Unmade) → IsUnmade (lack_of kind one) why → IsUnmade (first_missing kind (added_of all)) why
  lacks-why (Lacks key) lacks = lacks-here (key_text key) lacks
  lacks-why Memory lacks = tt

pub lacks-none : (kind : Kind) (all left : List AddedOne) → left ≡ [] → SameLack kind all left → first_missing kind (added_of all) ≡ None
unfolding first_missing
lacks-none kind all left is same = same ∙ ap (λ (l : List AddedOne). first_missing kind (added_of l)) is

-- ---- fields in a map

put-entry : (es : List (Sibling × Field)) (key : Sibling) (value : Field) → key.number ≡ 0 → siblings (map field_under (insert_entry sibling_eq es key value)) ≡ put_field key.name (field_tree value) (siblings (map field_under es))
unfolding siblings put_field
put-entry [] key value zeroth = ap (λ (n : ℕ). node (record { kind = field; name = key.name; number = n }) (field_tree value).keys (field_tree value).below leaf) zeroth
put-entry (e ∷ es) key value zeroth =
    cases (sibling_eq key e.0) (put-entry es key value zeroth)
    ∙ ap (λ (n : ℕ). cond (bytes_eq key.name e.0.name && nat_eq n e.0.number) (node (field_under e).0 (field_tree value).keys (field_tree value).below (siblings (map field_under es))) (node (field_under e).0 (field_under e).1.keys (field_under e).1.below (put_field key.name (field_tree value) (siblings (map field_under es))))) zeroth
  where
    cases : (b : Bool) → siblings (map field_under (insert_entry sibling_eq es key value)) ≡ put_field key.name (field_tree value) (siblings (map field_under es))
        → siblings (map field_under (cond b ((e.0, value) ∷ es) (e ∷ insert_entry sibling_eq es key value))) ≡ cond b (node (field_under e).0 (field_tree value).keys (field_tree value).below (siblings (map field_under es))) (node (field_under e).0 (field_under e).1.keys (field_under e).1.below (put_field key.name (field_tree value) (siblings (map field_under es))))
    cases true more = refl
    cases false more = ap (node (field_under e).0 (field_under e).1.keys (field_under e).1.below) more

-- the fields that are left, put to those that are made, are all
abbrev pub PutSoFar : List AddedOne → List (Sibling × Field) → List AddedOne → Type 0
PutSoFar all made left = put_fields (added_of all) leaf ≡ put_fields (added_of left) (siblings (map field_under made))

pub put-start : (all : List AddedOne) → PutSoFar all [] all
unfolding siblings
put-start all = refl

pub put-more : (all : List AddedOne) (made new : List (Sibling × Field)) (one : AddedOne) (rest left : List AddedOne) (key : Sibling) (value : Field) → left ≡ one ∷ rest → (key.name ≡ one.name) × (key.number ≡ 0) → field_tree value ≡ built_tree field one → new ≡ insert_entry sibling_eq made key value → PutSoFar all made left → PutSoFar all new rest
unfolding put_fields
put-more all made new one rest left key value is named tree inserted so_far =
    so_far
    ∙ ap (λ (l : List AddedOne). put_fields (added_of l) (siblings (map field_under made))) is
    ∙ ap (put_fields (added_of rest))
    (ap₂ (λ (name : List ℕ) (t : Tree Step Key). put_field name t (siblings (map field_under made))) (sym named.0) (sym tree)
    ∙ sym (put-entry made key value named.1)
    ∙ ap (λ es. siblings (map field_under es)) (sym inserted))

pub put-end : (all : List AddedOne) (made : List (Sibling × Field)) (left : List AddedOne) → left ≡ [] → PutSoFar all made left → siblings (map field_under made) ≡ put_fields (added_of all) leaf
unfolding put_fields
put-end all made left is so_far = sym (so_far ∙ ap (λ (l : List AddedOne). put_fields (added_of l) (siblings (map field_under made))) is)

-- ---- registers in a list

abbrev pub MadeSoFar : {A : Type 0} → (A → Step × Tree Step Key) → List AddedOne → List A → List AddedOne → Type 0
MadeSoFar seen all made left = put_registers (added_of all) ≡ join (siblings (map seen made)) (put_registers (added_of left))

module _ {A : Type 0} (seen : A → Step × Tree Step Key) where
  pub made-start : (all : List AddedOne) → MadeSoFar seen all [] all
  unfolding siblings join
  made-start all = refl

  pub made-more : (all : List AddedOne) (made : List A) (one : AddedOne) (rest left : List AddedOne) (x : A) → left ≡ one ∷ rest → seen x ≡ (record { kind = register; name = one.name; number = 0 }, built_tree register one) → MadeSoFar seen all made left → MadeSoFar seen all (made ++ x ∷ []) rest
  unfolding put_registers
  made-more all made one rest left x is seen_is so_far =
      so_far
      ∙ ap (λ (l : List AddedOne). join (siblings (map seen made)) (put_registers (added_of l))) is
      ∙ ap (λ (y : Step × Tree Step Key). join (siblings (map seen made)) (node y.0 y.1.keys y.1.below (put_registers (added_of rest)))) (sym seen_is)
      ∙ sym (join-one (map seen made) (seen x) (put_registers (added_of rest)))
      ∙ ap (λ xs. join (siblings xs) (put_registers (added_of rest))) (sym (map-append seen made (x ∷ [])))

  pub made-end : (all : List AddedOne) (made : List A) (left : List AddedOne) → left ≡ [] → MadeSoFar seen all made left → siblings (map seen made) ≡ put_registers (added_of all)
  unfolding put_registers
  made-end all made left is so_far = sym (so_far ∙ ap (λ (l : List AddedOne). join (siblings (map seen made)) (put_registers (added_of l))) is ∙ join-leaf (siblings (map seen made)))

-- a register with its key, as an item
pub register-item : (one : AddedOne) (key : Sibling) (made : Register) → (key.name ≡ one.name) × (key.number ≡ 0) → register_tree made ≡ built_tree register one → item_under (roll-Item (record { key = key; child = children.Register made })) ≡ (record { kind = register; name = one.name; number = 0 }, built_tree register one)
register-item one key made named tree =
    item_under-roll (record { key = key; child = children.Register made })
    ∙ ap (λ (t : Kind × Tree Step Key). (step_of t.0 key, t.1)) (child_tree-register made ∙ ap (λ (t : Tree Step Key). (register, t)) tree)
    ∙ ap₂ (λ (name : List ℕ) (n : ℕ). (record { kind = register; name = name; number = n }, built_tree register one)) named.0 named.1

-- ---- the invariants

-- fields that are made, and additions that are left
abbrev pub FieldsSoFar : List AddedOne → List (Sibling × Field) → List AddedOne → Type 0
FieldsSoFar all made left = SameLack field all left × PutSoFar all made left

-- registers that are made, and additions that are left
abbrev pub RegistersSoFar : List AddedOne → List Item → List AddedOne → Type 0
RegistersSoFar all made left = SameLack register all left × MadeSoFar item_under all made left
