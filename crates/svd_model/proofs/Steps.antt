-- The tests of steps.
use Rattle.std.proofs.Common.{◌≡◌, false, ◌&&◌, nat_eq, refl, eqb-true, eq-eqb}
use Rattle.std.specs.Cmp.Lexicographic.{bytes_decides}
use Rattle.std.specs.Str.{bytes_eq}
use Rattle.std.proofs.lemmas.Bool.{and_parts, and_from, and_right}
use Rattle.svd_model.specs.Steps.{Step, Kind, peripheral, cluster, register, field, set, value, kind_number, same_kind, same_step, same_key}
use Rattle.svd_rows.specs.Paths.{IsSame}

kind_of : (one other : Kind) → kind_number one ≡ kind_number other → one ≡ other
kind_of peripheral peripheral e = refl
kind_of cluster cluster e = refl
kind_of register register e = refl
kind_of field field e = refl
kind_of set set e = refl
kind_of value value e = refl
kind_of _ _ e = absurd cc

-- the test tells whether two steps are equal
pub same_step-tells : IsSame same_step
unfolding same_step
same_step-tells = record {
  itself = λ step.
      and_from (same_kind step.kind step.kind) (bytes_eq step.name step.name && nat_eq step.number step.number)
      (eq-eqb (kind_number step.kind) (kind_number step.kind) refl)
      (and_from (bytes_eq step.name step.name) (nat_eq step.number step.number) ((bytes_decides step.name step.name).1 refl) (eq-eqb step.number step.number refl));
  alone = λ step other e.
      let parts = and_parts (same_kind step.kind other.kind) (bytes_eq step.name other.name && nat_eq step.number other.number) e in
      let rest = and_parts (bytes_eq step.name other.name) (nat_eq step.number other.number) parts.1 in
      let kinds : step.kind ≡ other.kind = kind_of step.kind other.kind (eqb-true (kind_number step.kind) (kind_number other.kind) parts.0) in
      let names : step.name ≡ other.name = (bytes_decides step.name other.name).0 rest.0 in
      let numbers : step.number ≡ other.number = eqb-true step.number other.number rest.1 in
      λ i. record { kind = kinds i; name = names i; number = numbers i };
}

-- siblings with different keys have different steps
pub same_step-finer : (one other : Step) → same_key one other ≡ false → same_step one other ≡ false
unfolding same_step same_key
same_step-finer one other e = and_right (same_kind one.kind other.kind) (bytes_eq one.name other.name && nat_eq one.number other.number) e
