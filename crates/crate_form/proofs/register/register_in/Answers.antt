-- The register fits where it stands, and its names are identifiers.
use Rattle.std.proofs.Common.{◌∙◌, map, sym, ap, subst}
use Rattle.std.specs.List.{AllByRecursion}
use Rattle.reg_table.specs.declared.row.Row.{Row as TableRow}
use Rattle.svd_model.specs.Trees.{register_under}
use Rattle.crate_form.specs.Elements.{FieldIsReady, entry_marker}
use Rattle.crate_form.specs.Registers.{marked}
use Rattle.crate_form.proofs.Elements.{fields-row, register-made}
use Rattle.crate_form.proofs.Named.{register_marked, register_ready}
use Rattle.crate_form.proofs.Standing.{fits-register, stands_as}
use Rattle.crate_form.proofs.register.register_in.Goals as goal

pub register_row-requires-clause-size : goal.register_row-requires-clause-size
register_row-requires-clause-size c = (fits-register c.args.outer.now c.args.key.now c.args.element.now c.requires).size

pub register_row-requires-clause-distinct : goal.register_row-requires-clause-distinct
register_row-requires-clause-distinct c = (fits-register c.args.outer.now c.args.key.now c.args.element.now c.requires).distinct

pub register_row-requires-clause-fields : goal.register_row-requires-clause-fields
register_row-requires-clause-fields c = (fits-register c.args.outer.now c.args.key.now c.args.element.now c.requires).fields

pub accessor_of-requires : goal.accessor_of-requires
accessor_of-requires c = (stands_as c.args.outer.now (register_under c.args.key.now c.args.element.now) c.requires).accessor.identifier

pub fields-requires-clause-marked : goal.fields-requires-clause-marked
fields-requires-clause-marked c = register_marked c.args.outer.now c.args.key.now c.args.element.now c.requires

pub fields-requires-clause-ready : goal.fields-requires-clause-ready
fields-requires-clause-ready c =
    subst (AllByRecursion FieldIsReady)
    (sym (c.as_slice.ensures ∙ (ap (λ (row : TableRow). row.fields) c.in_ok-row.ensures ∙ fields-row c.args.outer.now c.args.key.now c.args.element.now _)))
    (register_ready c.args.outer.now c.args.key.now c.args.element.now c.requires c.some_names.ensures)

pub returns : goal.returns
returns c =
    register-made c.args.outer.now c.args.key.now c.args.element.now _ c.in_ok-row.row c.in_ok-accessor_of.field-0 c.in_ok-fields.field-0
    c.in_ok-row.ensures c.in_ok-accessor_of.ensures.is (c.in_ok-fields.ensures ∙ ap (marked (map entry_marker c.args.element.now.fields.entries)) c.as_slice.ensures)
