use Rattle.std.proofs.Common.{Ok, sym, ap, ◌∙◌, option_map}
use Rattle.std.specs.Borrow.{Bor}
use Rattle.frag_sem.specs.ScriptTyping.{Typed, name_of, source_type}
use Rattle.frag_sem.specs.Surfaces.{ValueType, number}
use Rattle.frag_sem.specs.TextSurface.{register_calls}
use Rattle.frag_tree.specs.declared.register.RegisterModule.{RegisterModule}
use Rattle.frag_types.specs.Fields.{read_type}
use Rattle.frag_types.specs.Telling.{names_of}
use Rattle.frag_types.proofs.Steps.{source-bits, source-field}
use Rattle.frag_types.proofs.value.source_type.Goals as goal
use Rattle.pac_base.specs.declared.width.Width.{Width}

abbrev a_number : Width → Typed ValueType
a_number width = Ok (number width)

pub returns-in-Some : goal.returns-in-Some
returns-in-Some c =
    ap (λ width. a_number width) c.word.ensures
    ∙ source-bits (names_of c.args.names.now) c.in-Bits.reader c.in-Some.unit.now
    (sym (c.get.ensures ∙ ap (name_of (names_of c.args.names.now)) c.bytes.ensures.same) ∙ ap (option_map (λ (unit : Bor RegisterModule). register_calls unit.now)) c.in-Some.is)
    ∙ sym (ap (source_type (names_of c.args.names.now)) c.in-Bits.is)

pub returns-in-Some-get : goal.returns-in-Some-get
returns-in-Some-get c =
    c.read_type.ensures ∙ (ap (read_type c.in-Some-get.unit.now c.in-Field.field) c.bytes-in-Some-get.ensures.same
    ∙ (source-field (names_of c.args.names.now) c.in-Field.reader c.in-Field.field c.in-Field.method c.in-Some-get.unit.now
    (sym (c.get-in-Field.ensures ∙ ap (name_of (names_of c.args.names.now)) c.bytes-in-Field.ensures.same) ∙ ap (option_map (λ (unit : Bor RegisterModule). register_calls unit.now)) c.in-Some-get.is)
    ∙ sym (ap (source_type (names_of c.args.names.now)) c.in-Field.is)))
