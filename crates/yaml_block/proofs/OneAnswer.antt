-- No bytes are found to be two things.
use Rattle.std.proofs.Common.{◌≡◌, ℕ, List, Option, Some, None, Result, Ok, Err, refl, ap, ◌∙◌}
use Rattle.yaml_block.specs.declared.fault.BlockFault.{BlockFault}
use Rattle.yaml_block.specs.declared.fault.BlockFault.TheVariants.{Syntax, TooDeep, DoubleKey, Memory}
use Rattle.yaml_block.specs.Answers.{Fits, IsBroken, IsFound, first_deep, first_double}
use Rattle.yaml_block.specs.Lines.{found_in}
use Rattle.yaml_block.specs.Trees.{Tree}
use Rattle.yaml_block.proofs.Meanings.{one_meant}
use Rattle.yaml_block.proofs.UpTo.{broken_at, fits_unbroken}

not_both : {X P : Type 0} (found : Option X) (x : X) → found ≡ Some x → found ≡ None → P
not_both found x some none = absurd cc

same_line : (one other : Option ℕ) (x y : ℕ) → one ≡ Some x → other ≡ Some y → one ≡ other → x ≡ y
same_line one other x y is also same = cc

module _ (bytes : List ℕ) where
  same_tree : (one other : Tree) → Fits (found_in bytes) one → Fits (found_in bytes) other → one ≡ other
  same_tree one other first second = one_meant one other (found_in bytes).lines first.blocks second.blocks

  broken_fits : {P : Type 0} (line : ℕ) (tree : Tree) → IsBroken bytes line → Fits (found_in bytes) tree → P
  broken_fits line tree broken fits = not_both _ line (broken_at bytes line broken) (fits_unbroken (found_in bytes) tree fits)

  deep_shallow : {P : Type 0} (line : ℕ) (one other : Tree) → Fits (found_in bytes) one → first_deep one ≡ Some line → Fits (found_in bytes) other → first_deep other ≡ None → P
  deep_shallow line one other fits deep second shallow = not_both (first_deep one) line deep (ap first_deep (same_tree one other fits second) ∙ shallow)

  double_unique : {P : Type 0} (line : ℕ) (one other : Tree) → Fits (found_in bytes) one → first_double one ≡ Some line → Fits (found_in bytes) other → first_double other ≡ None → P
  double_unique line one other fits double second unique = not_both (first_double one) line double (ap first_double (same_tree one other fits second) ∙ unique)

  pub one_found : (one other : Result Tree BlockFault) → IsFound bytes one → IsFound bytes other → one ≡ other
  one_found (Ok tree) (Ok other) is also = ap Ok (same_tree tree other is.fits also.fits)
  one_found (Ok tree) (Err (Syntax line)) is also = broken_fits line tree also is.fits
  one_found (Ok tree) (Err (TooDeep line)) is also = deep_shallow line also.tree tree also.fits also.deep is.fits is.shallow
  one_found (Ok tree) (Err (DoubleKey line)) is also = double_unique line also.tree tree also.fits also.double is.fits is.unique
  one_found (Ok tree) (Err Memory) is also = absurd also
  one_found (Err (Syntax line)) (Ok tree) is also = broken_fits line tree is also.fits
  one_found (Err (Syntax line)) (Err (Syntax other)) is also =
      ap (λ n. Err (Syntax n)) (same_line _ _ line other (broken_at bytes line is) (broken_at bytes other also) refl)
  one_found (Err (Syntax line)) (Err (TooDeep other)) is also = broken_fits line also.tree is also.fits
  one_found (Err (Syntax line)) (Err (DoubleKey other)) is also = broken_fits line also.tree is also.fits
  one_found (Err (Syntax line)) (Err Memory) is also = absurd also
  one_found (Err (TooDeep line)) (Ok tree) is also = deep_shallow line is.tree tree is.fits is.deep also.fits also.shallow
  one_found (Err (TooDeep line)) (Err (Syntax other)) is also = broken_fits other is.tree also is.fits
  one_found (Err (TooDeep line)) (Err (TooDeep other)) is also =
      ap (λ n. Err (TooDeep n)) (same_line _ _ line other is.deep also.deep (ap first_deep (same_tree is.tree also.tree is.fits also.fits)))
  one_found (Err (TooDeep line)) (Err (DoubleKey other)) is also = deep_shallow line is.tree also.tree is.fits is.deep also.fits also.shallow
  one_found (Err (TooDeep line)) (Err Memory) is also = absurd also
  one_found (Err (DoubleKey line)) (Ok tree) is also = double_unique line is.tree tree is.fits is.double also.fits also.unique
  one_found (Err (DoubleKey line)) (Err (Syntax other)) is also = broken_fits other is.tree also is.fits
  one_found (Err (DoubleKey line)) (Err (TooDeep other)) is also = deep_shallow other also.tree is.tree also.fits also.deep is.fits is.shallow
  one_found (Err (DoubleKey line)) (Err (DoubleKey other)) is also =
      ap (λ n. Err (DoubleKey n)) (same_line _ _ line other is.double also.double (ap first_double (same_tree is.tree also.tree is.fits also.fits)))
  one_found (Err (DoubleKey line)) (Err Memory) is also = absurd also
  one_found (Err Memory) other is also = absurd is
