use Rattle.svd_text.specs.Views.{element_of}
use Rattle.svd_keys.specs.Missing.{lack}
use Rattle.svd_keys.proofs.Lacks.{either-first}
use Rattle.svd_keys.proofs.missing.lack_of.Goals as goal

pub returns : goal.returns
returns c = either-first c.lack.result c.lack-2.result c.or.result (lack c.args.one (element_of c.args.element.now)) (lack c.args.other (element_of c.args.element.now)) c.or.ensures c.lack.ensures c.lack-2.ensures
