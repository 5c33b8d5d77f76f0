use Rattle.frag_index.proofs.Adding.{register-added}
use Rattle.frag_index.proofs.built.register_added.Goals as goal

pub returns : goal.returns
returns c sites = register-added sites c.args.register.now c.in_ok-unit.unit c.measure_register.result c.in_ok-unit.ensures c.measure_register.ensures
