use Rattle.yaml_block.proofs.Building.{built_in-put}
use Rattle.yaml_block.proofs.build.put.Goals as goal

pub returns : goal.returns
returns c = built_in-put c.args.runs.now.items c.push.new.self.items c.args.run c.in_ok-push.ensures.items
