use Rattle.host_files.specs.Replay.{unknown_needs}
use Rattle.tests_worked.proofs.real_host_rows.owner_rows.write.Goals as goal

pub write_new-requires-clause-absent : goal.write_new-requires-clause-absent
write_new-requires-clause-absent c = λ h. unknown_needs _ h

pub write_new-requires-clause-parent : goal.write_new-requires-clause-parent
write_new-requires-clause-parent c = λ h. unknown_needs _ h

pub sync-requires : goal.sync-requires
sync-requires c = record { there = λ h. unknown_needs _ h }

pub rename-requires-clause-synced : goal.rename-requires-clause-synced
rename-requires-clause-synced c = λ h. unknown_needs _ h

pub rename-requires-clause-there : goal.rename-requires-clause-there
rename-requires-clause-there c = λ h. unknown_needs _ h

pub rename-requires-clause-over : goal.rename-requires-clause-over
rename-requires-clause-over c = λ h. unknown_needs _ h

pub rename-requires-clause-parent : goal.rename-requires-clause-parent
rename-requires-clause-parent c = λ h. unknown_needs _ h
