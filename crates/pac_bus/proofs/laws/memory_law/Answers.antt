use Rattle.pac_bus.proofs.Memories.{read_back, left_alone}
use Rattle.pac_bus.proofs.laws.memory_law.Goals as goal

pub returns-clause-back : goal.returns-clause-back
returns-clause-back c = read_back

pub returns-clause-others : goal.returns-clause-others
returns-clause-others c = left_alone
