use Rattle.frag_parse.proofs.Told.{bounded, complete, refused, spelled, valid}
use Rattle.frag_parse.proofs.krate.parse_crate.Goals as goal

pub returns-clause-spelled : goal.returns-clause-spelled
returns-clause-spelled c = spelled c.args.bytes.now c.read.result c.read.ensures

pub returns-clause-valid : goal.returns-clause-valid
returns-clause-valid c = valid c.args.bytes.now c.read.result c.read.ensures

pub returns-clause-bounded : goal.returns-clause-bounded
returns-clause-bounded c = bounded c.args.bytes.now c.read.result c.read.ensures

pub returns-clause-refused : goal.returns-clause-refused
returns-clause-refused c = refused c.args.bytes.now c.read.result c.read.ensures

pub returns-clause-complete : goal.returns-clause-complete
returns-clause-complete c = complete c.args.bytes.now c.read.result c.read.ensures
