use Rattle.host_files.proofs.syncing.flush_files.Goals as goal

pub returns-then-branch-clause-synced : goal.returns-then-branch-clause-synced
returns-then-branch-clause-synced c = c.in_ok-flush_devices.ensures.synced c.if-branch.true
