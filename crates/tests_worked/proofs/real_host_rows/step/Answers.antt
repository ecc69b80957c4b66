use Rattle.host_files.specs.Replay.{unknown_needs}
use Rattle.tests_worked.proofs.real_host_rows.step.Goals as goal

pub link-requires-clause-there : goal.link-requires-clause-there
link-requires-clause-there c = λ h. unknown_needs _ h

pub link-requires-clause-synced : goal.link-requires-clause-synced
link-requires-clause-synced c = λ h. unknown_needs _ h

pub link-requires-clause-absent : goal.link-requires-clause-absent
link-requires-clause-absent c = λ h. unknown_needs _ h

pub link-requires-clause-parent : goal.link-requires-clause-parent
link-requires-clause-parent c = λ h. unknown_needs _ h

pub rename-requires-clause-synced : goal.rename-requires-clause-synced
rename-requires-clause-synced c = λ h. unknown_needs _ h

pub rename-requires-clause-there : goal.rename-requires-clause-there
rename-requires-clause-there c = λ h. unknown_needs _ h

pub rename-requires-clause-over : goal.rename-requires-clause-over
rename-requires-clause-over c = λ h. unknown_needs _ h

pub rename-requires-clause-parent : goal.rename-requires-clause-parent
rename-requires-clause-parent c = λ h. unknown_needs _ h

pub remove-requires : goal.remove-requires
remove-requires c = record { there = λ h. unknown_needs _ h }

pub remove_dir-requires-clause-there : goal.remove_dir-requires-clause-there
remove_dir-requires-clause-there c = λ h. unknown_needs _ h

pub remove_dir-requires-clause-bare : goal.remove_dir-requires-clause-bare
remove_dir-requires-clause-bare c = λ h. unknown_needs _ h

pub sync-requires : goal.sync-requires
sync-requires c = record { there = λ h. unknown_needs _ h }

pub lower-requires : goal.lower-requires
lower-requires c = record { there = λ h. unknown_needs _ h }
