-- The fields that are left decide.
use Rattle.std.proofs.Common.{◌≡◌, is_some}
use Rattle.std.specs.List.{list_any}
use Rattle.crate_form.proofs.arrays.register_has_arrays.Given as goal

abbrev pub invariant-loop-key : goal.invariant-loop-key
invariant-loop-key l = list_any (λ entry. is_some entry.1.dim.count) l._key-iterator ≡ list_any (λ entry. is_some entry.1.dim.count) l.register.fields.entries
