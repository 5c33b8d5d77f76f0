use Rattle.std.proofs.Common.{sym, ap, ◌∙◌, option_map}
use Rattle.frag_sem.specs.ScriptTyping.{just, link_types, value_types}
use Rattle.frag_sem.specs.Surfaces.{number}
use Rattle.frag_sem.specs.TextSurface.{register_calls}
use Rattle.frag_types.specs.Fields.{write_type}
use Rattle.frag_types.specs.Refusals.{script_kind}
use Rattle.frag_types.specs.Telling.{names_of, told, type_seen}
use Rattle.frag_types.proofs.Steps.{link-bits, link-fails, link-field}
use Rattle.frag_types.proofs.chain.link_types.Goals as goal

pub returns-in-Bits : goal.returns-in-Bits
returns-in-Bits c =
    c.value_types.ensures
    ∙ (ap (λ width. value_types (names_of c.args.names.now) (just (number width)) c.in-Bits.value) c.word.ensures
    ∙ (link-bits (names_of c.args.names.now) c.args.unit.now c.in-Bits.value ∙ sym (ap (link_types (names_of c.args.names.now) (register_calls c.args.unit.now)) c.in-Bits.is)))

pub returns-in-Ok : goal.returns-in-Ok
returns-in-Ok c =
    c.argument_types.ensures
    ∙ (link-field (names_of c.args.names.now) c.args.unit.now c.in-Field.field c.in-Field.method c.in-Field.value (option_map type_seen c.in-Ok.takes)
    (sym (c.write_type.ensures ∙ ap (write_type c.args.unit.now c.in-Field.field) c.bytes.ensures.same) ∙ ap (told (option_map type_seen)) c.in-Ok.is)
    ∙ sym (ap (link_types (names_of c.args.names.now) (register_calls c.args.unit.now)) c.in-Field.is))

pub returns-in-Err : goal.returns-in-Err
returns-in-Err c =
    link-fails (names_of c.args.names.now) c.args.unit.now c.in-Field.field c.in-Field.method c.in-Field.value (script_kind c.in-Err.kind)
    (sym (c.write_type.ensures ∙ ap (write_type c.args.unit.now c.in-Field.field) c.bytes.ensures.same) ∙ ap (told (option_map type_seen)) c.in-Err.is)
    ∙ sym (ap (link_types (names_of c.args.names.now) (register_calls c.args.unit.now)) c.in-Field.is)
