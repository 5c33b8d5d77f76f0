-- The parts of an element that is added, as its declared type has them.
use Rattle.std.proofs.Common.{◌≡◌, List, map, ap, ◌∙◌}
use Rattle.patch_model.proofs.Adding.{additions_under-is}
use Rattle.patch_model.specs.Acts.{AddedOne, added_of, addition_layer, addition_under, additions_layer, additions_under}
use Rattle.patch_model.specs.declared.act.Addition.{Addition, out-Addition}
use Rattle.patch_model.specs.declared.act.Addition.TheFolds.{fold_out-Addition}
use Rattle.patch_model.specs.declared.act.Additions.{out-Additions}

addition-is : (addition : Addition) → addition_under addition ≡ record { name = (out-Addition addition).name; keys = (out-Addition addition).keys; registers = added_of (additions_under (out-Addition addition).registers); fields = added_of (additions_under (out-Addition addition).fields) }
unfolding addition_under additions_under
addition-is addition = fold_out-Addition AddedOne (List AddedOne) addition_layer additions_layer addition

pub addition-name : (addition : Addition) → (addition_under addition).name ≡ (out-Addition addition).name
addition-name addition = ap (λ (one : AddedOne). one.name) (addition-is addition)

pub addition-keys : (addition : Addition) → (addition_under addition).keys ≡ (out-Addition addition).keys
addition-keys addition = ap (λ (one : AddedOne). one.keys) (addition-is addition)

pub addition-registers : (addition : Addition) → (addition_under addition).registers ≡ added_of (map addition_under (out-Additions (out-Addition addition).registers).items.items)
addition-registers addition = ap (λ (one : AddedOne). one.registers) (addition-is addition) ∙ ap added_of (additions_under-is (out-Addition addition).registers)

pub addition-fields : (addition : Addition) → (addition_under addition).fields ≡ added_of (map addition_under (out-Additions (out-Addition addition).fields).items.items)
addition-fields addition = ap (λ (one : AddedOne). one.fields) (addition-is addition) ∙ ap added_of (additions_under-is (out-Addition addition).fields)
