-- A key that stands in an element is read from the first element of its name; one that doesn't stand there has no value and no fault.
use Rattle.std.proofs.Common.{◌≡◌, ℕ, List, [], ◌∷◌, ◌++◌, append-nil, filter, find, Bool, true, false, refl, sym, ap, ◌∙◌, Option, Some, None}
use Rattle.std.specs.Prelude.{is_none, is_some, not}
use Rattle.svd_schema.specs.declared.key.Key.{Key}
use Rattle.svd_schema.specs.Names.{key_name}
use Rattle.svd_keys.specs.declared.fault.BadKind.{BadKind}
use Rattle.svd_keys.specs.declared.fault.PlacedFault.{PlacedFault}
use Rattle.svd_keys.specs.Children.{Tree, child, members, has_name, strays, double_of, doubles, unknown_in_keys, when}
use Rattle.svd_keys.specs.Earliest.{least}
use Rattle.svd_keys.specs.Texts.{value_text}
use Rattle.svd_keys.specs.Values.{IsRead, value_of, bad_value, bad_form, key_faults}

none-next : (name : List ℕ) (first : Tree) (others : List Tree) (is : Bool) → has_name name first ≡ is → None ≡ find (has_name name) (first ∷ others)
    → (None ≡ find (has_name name) others → [] ≡ filter (has_name name) others) → [] ≡ filter (has_name name) (first ∷ others)
none-next name first others true is none more = let some : None ≡ Some first = rw is at none in cc
none-next name first others false is none more = rw is (more (rw is at none))

none-named : (name : List ℕ) (trees : List Tree) → None ≡ find (has_name name) trees → [] ≡ filter (has_name name) trees
none-named name [] none = refl
none-named name (first ∷ others) none = none-next name first others (has_name name first) refl none (none-named name others)

pub no_strays : (name : List ℕ) (tree : Tree) → None ≡ child name tree → [] ≡ strays name tree
unfolding strays double_of unknown_in_keys doubles child
no_strays name tree none = rw (← (none-named name (members tree.1) none)) refl

pub absent : {X : Type 0} (form : List ℕ → Option X) (kind : BadKind) (key : Key) (tree : Tree) → None ≡ child (key_name key) tree → IsRead form kind key tree None None
unfolding value_of key_faults bad_form least
absent form kind key tree none = record {
  value_is = rw (← none) refl;
  fault_is = ap least (no_strays (key_name key) tree none) ∙ sym (ap least (ap (λ found. strays (key_name key) tree ++ bad_form form kind found) (sym none) ∙ append-nil (strays (key_name key) tree)));
}

pub present : {X : Type 0} (form : List ℕ → Option X) (kind : BadKind) (key : Key) (tree found : Tree) (value : Option X) (fault : Option PlacedFault) → Some found ≡ child (key_name key) tree → value ≡ form (value_text found.0)
    → fault ≡ least (strays (key_name key) tree ++ when (is_none value) (bad_value kind found)) → IsRead form kind key tree value fault
unfolding value_of key_faults bad_form
present form kind key tree found value fault some is told = record {
  value_is = is ∙ rw (← some) refl;
  fault_is = told ∙ ap (λ v. least (strays (key_name key) tree ++ when (is_none v) (bad_value kind found))) is ∙ ap (λ child. least (strays (key_name key) tree ++ bad_form form kind child)) some;
}

pub none_is : {X : Type 0} (value : Option X) (bad : Bool) → is_some value ≡ not bad → bad ≡ is_none value
none_is None true is = refl
none_is None false is = cc
none_is (Some value) true is = cc
none_is (Some value) false is = refl
