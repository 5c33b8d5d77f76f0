-- Modules in their order, and the children of a block, one by one.
use Rattle.std.proofs.Common.{◌≡◌, Bool, true, false, ◌&&◌, List, [], ◌∷◌, ◌++◌, refl, ap}
use Rattle.std.specs.List.{list_all}
use Rattle.std.proofs.lemmas.Bool.{false≢true}
use Rattle.frag_tree.specs.declared.krate.Version.TheVariants.{Two}
use Rattle.frag_tree.specs.Trees.{Modules, ModuleTree, before, ended, in_line, one_block, one_register}
use Rattle.frag_tree.specs.Validity.{valid_head, valid_modules, valid_register}
use Rattle.svd_model.specs.declared.props.Props.{Props}
use Rattle.svd_model.specs.Keys.{Key}
use Rattle.svd_model.specs.Steps.{Step}
use Rattle.svd_rows.specs.Forest.{Tree, siblings}
use Rattle.crate_form.specs.Children.{children_of}
use Rattle.crate_form.specs.Elements.{child_at, module_at}
use Rattle.crate_form.specs.Modules.{modules_of}
use Rattle.crate_form.specs.Parts.{valid_unit}

-- ---- modules in front of others

unfoldable pub joined : List ModuleTree → Modules → Modules
joined [] others = others
joined (unit ∷ units) others = before unit (joined units others)

pub joined_more : (units : List ModuleTree) (unit : ModuleTree) (others : Modules) → joined (units ++ unit ∷ []) others ≡ joined units (before unit others)
unfolding joined
joined_more [] unit others = refl
joined_more (first ∷ units) unit others = ap (before first) (joined_more units unit others)

pub joined_none : (others : Modules) → joined [] others ≡ others
unfolding joined
joined_none others = refl

pub joined_ended : (units : List ModuleTree) → joined units ended ≡ in_line units
unfolding joined in_line
joined_ended [] = refl
joined_ended (unit ∷ units) = ap (before unit) (joined_ended units)

-- ---- valid ones

and_one : (a b c : Bool) → (a && b) ≡ true → (b ≡ true → c ≡ true) → (a && c) ≡ true
and_one true b c h then_c = then_c h
and_one false b c h then_c = absurd (false≢true h)

and_two : (a b c d : Bool) → ((a && b) && c) ≡ true → (c ≡ true → d ≡ true) → (a && (b && d)) ≡ true
and_two true b c d h then_d = and_one b c d h then_d
and_two false b c d h then_d = absurd (false≢true h)

pub valid_line : (units : List ModuleTree) → list_all valid_unit units ≡ true → valid_modules Two (in_line units) ≡ true
unfolding in_line valid_modules
valid_line [] all = refl
valid_line (one_register unit ∷ units) all = and_one (valid_register Two unit) (list_all valid_unit units) (valid_modules Two (in_line units)) all (valid_line units)
valid_line (one_block unit ∷ units) all = and_two (valid_head unit.head) (valid_modules Two unit.inside) (list_all valid_unit units) (valid_modules Two (in_line units)) all (valid_line units)

pub valid_more : {A : Type 0} (test : A → Bool) (xs : List A) (x : A) → list_all test xs ≡ true → test x ≡ true → list_all test (xs ++ x ∷ []) ≡ true
valid_more test [] x all one = ap (λ b. b && true) one
valid_more test (first ∷ xs) x all one = and_one (test first) (list_all test xs) (list_all test (xs ++ x ∷ [])) all (λ rest. valid_more test xs x rest one)

-- ---- one and the others

module _ (outer : Props) where
  pub children-first : (x : Step × Tree Step Key) (xs : List (Step × Tree Step Key)) → children_of outer (siblings (x ∷ xs)) ≡ child_at outer x ∷ children_of outer (siblings xs)
  unfolding children_of siblings
  children-first x xs = refl

  pub children-none : children_of outer (siblings []) ≡ []
  unfolding children_of siblings
  children-none = refl

  pub modules-first : (x : Step × Tree Step Key) (xs : List (Step × Tree Step Key)) → modules_of outer (siblings (x ∷ xs)) ≡ before (module_at outer x) (modules_of outer (siblings xs))
  unfolding modules_of siblings
  modules-first x xs = refl

  pub modules-none : modules_of outer (siblings []) ≡ ended
  unfolding modules_of siblings
  modules-none = refl
