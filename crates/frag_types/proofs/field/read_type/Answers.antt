use Rattle.std.proofs.Common.{sym, ap, ◌∙◌, find, Some, option_map}
use Rattle.std.specs.Borrow.{Bor}
use Rattle.std.specs.Str.{bytes_eq}
use Rattle.frag_sem.specs.ProxyTypes.{readers_of}
use Rattle.frag_sem.specs.ScriptTyping.{index_types}
use Rattle.frag_tree.specs.declared.register.Reader.{Reader}
use Rattle.frag_types.specs.Refusals.{script_kind}
use Rattle.frag_types.specs.Telling.{told_held, type_seen}
use Rattle.frag_types.proofs.Steps.{read-fails, read-gives}
use Rattle.frag_types.proofs.field.read_type.Goals as goal

pub returns-in-Some-given : goal.returns-in-Some-given
returns-in-Some-given c =
    read-gives c.args.unit.now c.args.field.now c.args.method.now c.in-Some.reader.now (Some (type_seen c.in-Some-given.found))
    (sym (c.reader.ensures ∙ ap (λ name. find (λ reader. bytes_eq name reader.name) (readers_of c.args.unit.now)) c.bytes.ensures.same) ∙ ap (option_map (λ (reader : Bor Reader). reader.now)) c.in-Some.is)
    (sym (c.index_fits.ensures ∙ ap (λ count. index_types count c.args.field.now.index) c.read_count.ensures) ∙ ap told_held c.in-Ok.is)
    (sym c.given.ensures ∙ ap (option_map type_seen) c.in-Some-given.is)

pub returns-in-Err : goal.returns-in-Err
returns-in-Err c =
    read-fails c.args.unit.now c.args.field.now c.args.method.now c.in-Some.reader.now (script_kind c.in-Err.kind)
    (sym (c.reader.ensures ∙ ap (λ name. find (λ reader. bytes_eq name reader.name) (readers_of c.args.unit.now)) c.bytes.ensures.same) ∙ ap (option_map (λ (reader : Bor Reader). reader.now)) c.in-Some.is)
    (sym (c.index_fits.ensures ∙ ap (λ count. index_types count c.args.field.now.index) c.read_count.ensures) ∙ ap told_held c.in-Err.is)
