-- Elements that are added, one after the other, and what their keys are held to.
use Rattle.std.proofs.Common.{◌≡◌, ℕ, true, false, List, [], ◌∷◌, ◌++◌, map, Option, Some, codes, refl, ap, subst}
use Rattle.std.specs.Str.{bytes_eq}
use Rattle.yaml_block.specs.Trees.{Tree, EntryTrees, nothing, scalar, list, mapping, entry}
use Rattle.patch_form.specs.declared.form.KeyKind.{KeyKind}
use Rattle.patch_form.specs.declared.form.KeyKind.TheVariants.{Children}
use Rattle.patch_model.specs.declared.act.Addition.{Addition, roll-Addition}
use Rattle.patch_model.specs.declared.act.Additions.{Additions, out-Additions, roll-Additions}
use Rattle.patch_model.specs.declared.act.Addition.TheOpen.{Addition-F, Additions-F}
use Rattle.patch_model.specs.declared.act.Addition.TheFolds.{fold-roll-Addition, fold-roll-Additions, fold_out-Additions}
use Rattle.patch_model.specs.Acts.{Added, AddedOne, added, added_of, addition_layer, addition_under, additions_layer, additions_under, no_more}
use Rattle.patch_form.specs.Unmet.{AllMet}
use Rattle.patch_form.specs.Demands.{addition_demands, each_key, element_demands, key_demands, place_demands}
use Rattle.patch_model.specs.Held.{AreAdditionsMet, AreKeysMet, addition_entry}
use Rattle.patch_model.specs.Orders.{added_at, added_below}
use Rattle.patch_form.specs.Words.{key_kind, element_keys}
use Rattle.patch_model.proofs.Copying.{met_left, met_right}

-- the elements, and behind them more
abbrev pub joined : List AddedOne → Added → Added
joined [] more = more
joined (one ∷ others) more = added one.name one.keys one.registers one.fields (joined others more)

pub joined-none : (made : List AddedOne) → joined made no_more ≡ added_of made
joined-none [] = refl
joined-none (one ∷ others) = ap (added one.name one.keys one.registers one.fields) (joined-none others)

pub joined-more : (made : List AddedOne) (one : AddedOne) (more : Added) → joined (made ++ one ∷ []) more ≡ joined made (added one.name one.keys one.registers one.fields more)
joined-more [] one more = refl
joined-more (first ∷ others) one more = ap (added first.name first.keys first.registers first.fields) (joined-more others one more)

pub keys_met : (line : ℕ) (tree : Tree) → AllMet (element_demands line tree) → AreKeysMet tree
keys_met line nothing met = tt
keys_met line (scalar text) met = tt
keys_met line (list items) met = tt
keys_met line (mapping named) met = met_left (each_key named) (place_demands line named) met

value_met : (line : ℕ) (tree : Tree) → AllMet (key_demands (Some Children) line tree) → AreAdditionsMet tree
value_met line nothing met = tt
value_met line (scalar text) met = tt
value_met line (list items) met = tt
value_met line (mapping named) met = met

module _ (line : ℕ) (key : List ℕ) (tree : Tree) (others : EntryTrees) (met : AllMet (each_key (entry line key tree others))) where
  pub children_met : key_kind key ≡ Some Children → AreAdditionsMet tree
  children_met is = value_met line tree (subst (λ (kind : Option KeyKind). AllMet (key_demands kind line tree)) is (met_left (key_demands (key_kind key) line tree) (each_key others) met))

  pub others_met : AllMet (each_key others)
  others_met = met_right (key_demands (key_kind key) line tree) (each_key others) met

pub registers_kind : key_kind (codes "registers") ≡ Some Children
unfolding key_kind element_keys
registers_kind = refl

pub fields_kind : key_kind (codes "fields") ≡ Some Children
unfolding key_kind element_keys
fields_kind = refl

-- the first entry of a key

module _ (key : List ℕ) (line : ℕ) (other : List ℕ) (tree : Tree) (others : EntryTrees) where
  pub at-found : bytes_eq other key ≡ true → added_at key (entry line other tree others) ≡ added_below tree
  at-found is = rw is refl

  pub at-passed : bytes_eq other key ≡ false → added_at key (entry line other tree others) ≡ added_at key others
  at-passed is = rw is refl

-- a new name with its keys is met, and so are those behind it

module _ (line : ℕ) (name : List ℕ) (tree : Tree) (others : EntryTrees) (met : AllMet (addition_demands (entry line name tree others))) where
  pub entry_met : AllMet (addition_entry line name tree)
  entry_met = (met.0, met_left (element_demands line tree) (addition_demands others) met.1)

  pub rest_met : AllMet (addition_demands others)
  rest_met = met_right (element_demands line tree) (addition_demands others) met.1

-- what the declared types say of one that was made

pub addition_under-roll : (element : Addition-F Addition Additions) → addition_under (roll-Addition element) ≡ record { name = element.name; keys = element.keys; registers = added_of (additions_under element.registers); fields = added_of (additions_under element.fields) }
unfolding addition_under additions_under
addition_under-roll element = fold-roll-Addition AddedOne (List AddedOne) addition_layer additions_layer element

pub additions_under-roll : (element : Additions-F Addition Additions) → additions_under (roll-Additions element) ≡ map addition_under element.items.items
unfolding addition_under additions_under
additions_under-roll element = fold-roll-Additions AddedOne (List AddedOne) addition_layer additions_layer element

pub additions_under-is : (made : Additions) → additions_under made ≡ map addition_under (out-Additions made).items.items
unfolding addition_under additions_under
additions_under-is made = fold_out-Additions AddedOne (List AddedOne) addition_layer additions_layer made
