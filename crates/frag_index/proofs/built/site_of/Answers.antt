use Rattle.std.proofs.Common.{refl, ap, ◌∙◌, subst, List}
use Rattle.frag_sem.specs.CallPlaces.{access_named, field_named}
use Rattle.frag_tree.specs.declared.block.StructField.{StructField}
use Rattle.frag_rules.specs.Insides.{found_inside}
use Rattle.frag_rules.specs.Measures.{LaidOut, type_found}
use Rattle.frag_index.proofs.built.site_of.Goals as goal

pub returns : goal.returns
returns c sites inside = (
  refl,
  record {
    accessors_are = λ name. c.in_ok-accessors.ensures name ∙ ap (λ accessors. access_named name accessors) c.accessors_of.ensures;
    inside = inside;
    laid = record {
      knows = inside.knows;
      found = λ name. c.in_ok-fields.ensures name ∙ ap (λ fields. field_named name fields) c.fields_of.ensures;
      laid = subst (λ (fields : List StructField). LaidOut (type_found (found_inside c.args.within.measures)) fields c.in_ok-layout.layout) c.fields_of-2.ensures c.in_ok-layout.ensures;
    };
  },
)
