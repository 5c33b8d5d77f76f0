use Rattle.std.proofs.Common.{sym, ap, ◌∙◌, false}
use Rattle.frag_sem.specs.PlaceTyping.{module_scope}
use Rattle.frag_sem.specs.ScriptTyping.{can_modify, can_write, statement_types}
use Rattle.frag_tree.specs.Trees.{crate_tree}
use Rattle.frag_types.specs.Telling.{bound_behind, chain_leads, let_leads, names_in, told, with_bound, with_names}
use Rattle.frag_types.proofs.Statements.{let-types, modify-types, reset-types, say-types, write-types, write_with_zero-types}
use Rattle.frag_types.proofs.statement.statement_types.Goals as goal

pub returns-in-Let : goal.returns-in-Let
returns-in-Let c =
    ap (λ said. told (bound_behind (names_in c.args.bound.now) said) c.binding.result) c.in-Let.is
    ∙ (c.binding.ensures (names_in c.args.bound.now) c.in-Let.name c.in-Let.place
    ∙ (ap (with_bound (names_in c.args.bound.now) c.in-Let.name) (c.let_leads.ensures ∙ ap (λ name. let_leads (crate_tree c.args.index.now.krate.now) (names_in c.args.bound.now) name c.in-Let.place) c.bytes.ensures.same)
    ∙ (let-types (crate_tree c.args.index.now.krate.now) (names_in c.args.bound.now) c.in-Let.name c.in-Let.place
    ∙ sym (ap (statement_types (module_scope (crate_tree c.args.index.now.krate.now)) (names_in c.args.bound.now)) c.in-Let.is))))

pub returns-in-Write : goal.returns-in-Write
returns-in-Write c =
    c.binding_nothing.ensures (names_in c.args.bound.now) c.args.statement.now
    ∙ (ap (with_names (names_in c.args.bound.now)) (c.chain_leads.ensures ∙ ap (chain_leads (crate_tree c.args.index.now.krate.now) (names_in c.args.bound.now) can_write c.in-Write.place false) c.as_slice.ensures)
    ∙ (write-types (crate_tree c.args.index.now.krate.now) (names_in c.args.bound.now) c.in-Write.place c.in-Write.chain
    ∙ sym (ap (statement_types (module_scope (crate_tree c.args.index.now.krate.now)) (names_in c.args.bound.now)) c.in-Write.is)))

pub returns-in-WriteWithZero : goal.returns-in-WriteWithZero
returns-in-WriteWithZero c =
    c.binding_nothing-in-WriteWithZero.ensures (names_in c.args.bound.now) c.args.statement.now
    ∙ (ap (with_names (names_in c.args.bound.now)) (c.chain_leads-in-WriteWithZero.ensures ∙ ap (chain_leads (crate_tree c.args.index.now.krate.now) (names_in c.args.bound.now) can_write c.in-WriteWithZero.place false) c.as_slice-in-WriteWithZero.ensures)
    ∙ (write_with_zero-types (crate_tree c.args.index.now.krate.now) (names_in c.args.bound.now) c.in-WriteWithZero.place c.in-WriteWithZero.chain
    ∙ sym (ap (statement_types (module_scope (crate_tree c.args.index.now.krate.now)) (names_in c.args.bound.now)) c.in-WriteWithZero.is)))

pub returns-in-Modify : goal.returns-in-Modify
returns-in-Modify c =
    c.binding_nothing-in-Modify.ensures (names_in c.args.bound.now) c.args.statement.now
    ∙ (ap (with_names (names_in c.args.bound.now)) (c.chain_leads-in-Modify.ensures ∙ ap (chain_leads (crate_tree c.args.index.now.krate.now) (names_in c.args.bound.now) can_modify c.in-Modify.place c.in-Modify.names_reader) c.as_slice-in-Modify.ensures)
    ∙ (modify-types (crate_tree c.args.index.now.krate.now) (names_in c.args.bound.now) c.in-Modify.place c.in-Modify.names_reader c.in-Modify.chain
    ∙ sym (ap (statement_types (module_scope (crate_tree c.args.index.now.krate.now)) (names_in c.args.bound.now)) c.in-Modify.is)))

pub returns-in-Reset : goal.returns-in-Reset
returns-in-Reset c =
    c.binding_nothing-in-Reset.ensures (names_in c.args.bound.now) c.args.statement.now
    ∙ (ap (with_names (names_in c.args.bound.now)) c.register_leads.ensures
    ∙ (reset-types (crate_tree c.args.index.now.krate.now) (names_in c.args.bound.now) c.in-Reset.place
    ∙ sym (ap (statement_types (module_scope (crate_tree c.args.index.now.krate.now)) (names_in c.args.bound.now)) c.in-Reset.is)))

pub returns-in-Say : goal.returns-in-Say
returns-in-Say c =
    c.binding_nothing-in-Say.ensures (names_in c.args.bound.now) c.args.statement.now
    ∙ (ap (with_names (names_in c.args.bound.now)) c.said.ensures
    ∙ (say-types (crate_tree c.args.index.now.krate.now) (names_in c.args.bound.now) c.in-Say.value
    ∙ sym (ap (statement_types (module_scope (crate_tree c.args.index.now.krate.now)) (names_in c.args.bound.now)) c.in-Say.is)))
