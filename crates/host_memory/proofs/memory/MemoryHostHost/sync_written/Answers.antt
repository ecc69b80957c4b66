use Rattle.host_memory.proofs.Recorded.{all_sync_tells}
use Rattle.host_memory.proofs.memory.MemoryHostHost.sync_written.Goals as goal

pub returns-clause-synced : goal.returns-clause-synced
returns-clause-synced c = all_sync_tells c.make_step.result c.args.self.now c.make_step.new.self c.make_step.ensures
