use Rattle.frag_types.proofs.Statements.{let-binds}
use Rattle.frag_types.proofs.statement.bind.Goals as goal

pub returns-in-Let-Some : goal.returns-in-Let-Some
returns-in-Let-Some c =
    let-binds c.set.result c.args.statement.now c.args.read c.args.bound.now c.set.new.self c.bytes.result.now c.in-Let-Some.name c.in-Let-Some.place-0 c.in-Let-Some.unit c.in-Let-Some.is-0 c.in-Let-Some.is-1 c.bytes.ensures.same c.set.ensures
