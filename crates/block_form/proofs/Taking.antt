-- The children that become fields of a struct.
use Rattle.std.proofs.Common.{◌≡◌, ℕ, ◌%◌, ◌≤◌, Bool, true, false, ◌&&◌, ◌==◌, List, [], ◌∷◌, arith, refl, if◌then◌else◌, nat_le}
use Rattle.std.proofs.lemmas.Bool.Decides.{nat_tests}
use Rattle.std.specs.Bool.{⊤}
use Rattle.std.specs.List.{AllByRecursion}
use Rattle.frag_sem.proofs.Lists.{both_true}
use Rattle.block_form.specs.declared.child.Child.{Child}
use Rattle.block_form.specs.Children.{array_fits, child_end}
use Rattle.block_form.specs.Fields.{becomes_field, taken_from}
use Rattle.block_form.specs.Forms.{taken_of}
use Rattle.block_form.specs.Order.{by_offset}
use Rattle.block_form.proofs.Ordering.{all_ordered}

at_most : (m n : ℕ) → nat_le m n ≡ true → m ≤ n
at_most m n h = grind (arith, nat_tests)

pub equal : (m n : ℕ) → (m == n) ≡ true → m ≡ n
equal m n h = grind (arith, nat_tests)

-- what a child is that becomes a field behind what ends here
pub record Becomes (end : ℕ) (child : Child) : Type 0 where
  pub reaches : end ≤ child.offset
  pub aligned : child.offset % child.align ≡ 0
  pub steps : array_fits child.size child.array ≡ true

pub becomes : (end : ℕ) (child : Child) → becomes_field end child ≡ true → Becomes end child
becomes end child h =
    let first = both_true (nat_le end child.offset) ((child.offset % child.align == 0) && array_fits child.size child.array) h in
    let second = both_true (child.offset % child.align == 0) (array_fits child.size child.array) first.1 in
    record { reaches = at_most end child.offset first.0; aligned = equal (child.offset % child.align) 0 second.0; steps = second.1 }

-- each becomes a field behind those before it
unfoldable pub AreFields : ℕ → List Child → Type 0
AreFields end [] = ⊤
AreFields end (child ∷ others) = Becomes end child × AreFields (child_end child) others

pub are_fields : (end : ℕ) (children : List Child) → AreFields end (taken_from end children)
unfolding AreFields taken_from
are_fields end [] = tt
are_fields end (child ∷ others) = by (becomes_field end child) refl (are_fields (child_end child) others) (are_fields end others)
  where
    by : (b : Bool) → becomes_field end child ≡ b → AreFields (child_end child) (taken_from (child_end child) others) → AreFields end (taken_from end others)
        → AreFields end (if b then child ∷ taken_from (child_end child) others else taken_from end others)
    by true e with without = (becomes end child e, with)
    by false e with without = without

pub all_steps : (end : ℕ) (children : List Child) → AreFields end children → AllByRecursion (λ child. array_fits child.size child.array ≡ true) children
unfolding AreFields
all_steps end [] are = tt
all_steps end (child ∷ others) are = (are.0.steps, all_steps (child_end child) others are.1)

-- what all have, those have that become fields
pub all_taken : (P : Child → Type 0) (end : ℕ) (children : List Child) → AllByRecursion P children → AllByRecursion P (taken_from end children)
unfolding taken_from
all_taken P end [] all = tt
all_taken P end (child ∷ others) all = by (becomes_field end child) (all_taken P (child_end child) others all.1) (all_taken P end others all.1)
  where
    by : (b : Bool) → AllByRecursion P (taken_from (child_end child) others) → AllByRecursion P (taken_from end others) → AllByRecursion P (if b then child ∷ taken_from (child_end child) others else taken_from end others)
    by true with without = (all.0, with)
    by false with without = without

pub taken_have : (P : Child → Type 0) (children : List Child) → AllByRecursion P children → AllByRecursion P (taken_of children)
taken_have P children all = all_taken P 0 (by_offset children) (all_ordered P (λ child. child.offset) children all)

-- what comes to something else for each, does so for all
pub all_are : (P Q : Child → Type 0) (children : List Child) → ((child : Child) → P child → Q child) → AllByRecursion P children → AllByRecursion Q children
all_are P Q [] each all = tt
all_are P Q (child ∷ others) each all = (each child all.0, all_are P Q others each all.1)
