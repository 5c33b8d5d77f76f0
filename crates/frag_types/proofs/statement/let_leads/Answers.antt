use Rattle.std.proofs.Common.{sym, ◌∙◌}
use Rattle.frag_tree.specs.Trees.{crate_tree}
use Rattle.frag_types.specs.Telling.{names_in}
use Rattle.frag_types.proofs.Statements.{let-free, let-taken}
use Rattle.frag_types.proofs.statement.let_leads.Goals as goal

pub returns-then-is_taken : goal.returns-then-is_taken
returns-then-is_taken c = let-taken (crate_tree c.args.index.now.krate.now) (names_in c.args.bound.now) c.args.name.now c.args.place.now (sym c.is_taken.ensures ∙ c.if-is_taken.true)

pub returns-else-is_taken : goal.returns-else-is_taken
returns-else-is_taken c = c.call_leads.ensures ∙ let-free (crate_tree c.args.index.now.krate.now) (names_in c.args.bound.now) c.args.name.now c.args.place.now (sym c.is_taken.ensures ∙ c.if-is_taken.false)
