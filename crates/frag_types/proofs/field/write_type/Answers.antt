use Rattle.std.proofs.Common.{sym, ap, ◌∙◌, find, Some, option_map}
use Rattle.std.specs.Borrow.{Bor}
use Rattle.std.specs.Str.{bytes_eq}
use Rattle.frag_sem.specs.ProxyTypes.{writers_of}
use Rattle.frag_sem.specs.ScriptTyping.{index_types}
use Rattle.frag_tree.specs.declared.register.Writer.{Writer}
use Rattle.frag_types.specs.Refusals.{script_kind}
use Rattle.frag_types.specs.Telling.{told_held, type_seen}
use Rattle.frag_types.proofs.Steps.{write-fails, write-takes}
use Rattle.frag_types.proofs.field.write_type.Goals as goal

pub returns-in-Some-taken : goal.returns-in-Some-taken
returns-in-Some-taken c =
    write-takes c.args.unit.now c.args.field.now c.args.method.now c.in-Some.writer.now (Some ((option_map type_seen) c.in-Some-taken.found))
    (sym (c.writer.ensures ∙ ap (λ name. find (λ writer. bytes_eq name writer.name) (writers_of c.args.unit.now)) c.bytes.ensures.same) ∙ ap (option_map (λ (writer : Bor Writer). writer.now)) c.in-Some.is)
    (sym (c.index_fits.ensures ∙ ap (λ count. index_types count c.args.field.now.index) c.write_count.ensures) ∙ ap told_held c.in-Ok.is)
    (sym c.taken.ensures ∙ ap (option_map (option_map type_seen)) c.in-Some-taken.is)

pub returns-in-Err : goal.returns-in-Err
returns-in-Err c =
    write-fails c.args.unit.now c.args.field.now c.args.method.now c.in-Some.writer.now (script_kind c.in-Err.kind)
    (sym (c.writer.ensures ∙ ap (λ name. find (λ writer. bytes_eq name writer.name) (writers_of c.args.unit.now)) c.bytes.ensures.same) ∙ ap (option_map (λ (writer : Bor Writer). writer.now)) c.in-Some.is)
    (sym (c.index_fits.ensures ∙ ap (λ count. index_types count c.args.field.now.index) c.write_count.ensures) ∙ ap told_held c.in-Err.is)
