-- The first of what is missing, and its fault.
use Rattle.std.proofs.Common.{◌≡◌, ℕ, List, [], ◌∷◌, ◌++◌, map, true, false, nat_le, refl, sym, ap, ◌∙◌, arith, Option, Some, None, option_map}
use Rattle.std.specs.Option.{option_or}
use Rattle.std.proofs.lemmas.Bool.Decides.{nat_tests}
use Rattle.svd_schema.specs.declared.key.Key.TheVariants as key
use Rattle.svd_schema.specs.declared.container.Container.{Container}
use Rattle.svd_keys.specs.declared.fault.Required.{Required}
use Rattle.svd_keys.specs.Children.{Tree}
use Rattle.svd_keys.specs.Earliest.{earlier, least}
use Rattle.svd_keys.specs.Missing.{missing, missing_faults, missing_of, missing_value, is_default, lack_key}
use Rattle.svd_keys.specs.Runs.{first_of}

pub first-append : {X : Type 0} (xs ys : List X) → option_or (first_of xs) (first_of ys) ≡ first_of (xs ++ ys)
first-append [] ys = refl
first-append (x ∷ xs) ys = refl

pub either-first : {X : Type 0} (one other found : Option X) (xs ys : List X) → found ≡ option_or one other → one ≡ first_of xs → other ≡ first_of ys → found ≡ first_of (xs ++ ys)
either-first one other found xs ys is first second = is ∙ (λ i. option_or (first i) (second i)) ∙ first-append xs ys

at_one : (tree : Tree) (wanted : Required) (others : List Required) → earlier (Some (missing tree wanted)) (least (map (missing tree) others)) ≡ Some (missing tree wanted)
unfolding least earlier
at_one tree wanted [] = refl
at_one tree wanted (next ∷ others) = ap (earlier (Some (missing tree wanted))) (at_one tree next others) ∙ rw (same tree.0.ends_at) refl
  where
    same : (n : ℕ) → nat_le n n ≡ true
    same n = grind (arith, nat_tests)

first-missing : (tree : Tree) (list : List Required) → option_map (missing tree) (first_of list) ≡ least (map (missing tree) list)
unfolding least
first-missing tree [] = refl
first-missing tree (wanted ∷ others) = sym (at_one tree wanted others)

pub none-missing : (container : Container) (tree : Tree) → None ≡ first_of (missing_of container tree) → None ≡ least (missing_faults container tree)
unfolding missing_faults
none-missing container tree none = ap (option_map (missing tree)) none ∙ first-missing tree (missing_of container tree)

pub some-missing : (container : Container) (tree : Tree) (wanted : Required) → Some wanted ≡ first_of (missing_of container tree) → Some (missing tree wanted) ≡ least (missing_faults container tree)
unfolding missing_faults
some-missing container tree wanted some = ap (option_map (missing tree)) some ∙ first-missing tree (missing_of container tree)

pub default-value : (tree : Tree) → is_default tree ≡ true → None ≡ first_of (missing_value tree)
unfolding missing_value
default-value tree is = rw is refl

pub other-value : (tree : Tree) → is_default tree ≡ false → first_of (lack_key key.Value tree) ≡ first_of (missing_value tree)
unfolding missing_value
other-value tree is = rw is refl
