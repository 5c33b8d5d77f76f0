use Rattle.std.proofs.Common.{ap, ◌∙◌, subst, List}
use Rattle.frag_sem.specs.CallPlaces.{field_named}
use Rattle.frag_tree.specs.declared.block.StructField.{StructField}
use Rattle.frag_rules.specs.Insides.{found_inside}
use Rattle.frag_rules.specs.Measures.{LaidOut, type_found}
use Rattle.frag_rules.proofs.measure.measure_own.Goals as goal

pub returns : goal.returns
returns c knows = c.measure_laid.ensures (record {
  knows = knows;
  found = λ name. c.in_ok-fields.ensures name ∙ ap (λ fields. field_named name fields) c.fields_of-2.ensures;
  laid = subst (λ (fields : List StructField). LaidOut (type_found (found_inside c.args.inside.now)) fields c.in_ok-layout.layout) c.fields_of.ensures c.in_ok-layout.ensures;
})
