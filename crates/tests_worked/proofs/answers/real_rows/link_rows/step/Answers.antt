use Rattle.host_files.specs.Replay.{unknown_needs}
use Rattle.tests_worked.proofs.answers.real_rows.link_rows.step.Goals as goal

pub sync-requires : goal.sync-requires
sync-requires c = record { there = λ h. unknown_needs _ h }

pub make_dir-requires-clause-absent : goal.make_dir-requires-clause-absent
make_dir-requires-clause-absent c = λ h. unknown_needs _ h

pub make_dir-requires-clause-parent : goal.make_dir-requires-clause-parent
make_dir-requires-clause-parent c = λ h. unknown_needs _ h

pub rename-requires-clause-synced : goal.rename-requires-clause-synced
rename-requires-clause-synced c = λ h. unknown_needs _ h

pub rename-requires-clause-there : goal.rename-requires-clause-there
rename-requires-clause-there c = λ h. unknown_needs _ h

pub rename-requires-clause-over : goal.rename-requires-clause-over
rename-requires-clause-over c = λ h. unknown_needs _ h

pub rename-requires-clause-parent : goal.rename-requires-clause-parent
rename-requires-clause-parent c = λ h. unknown_needs _ h

pub rename-requires-in-settle-clause-synced : goal.rename-requires-in-settle-clause-synced
rename-requires-in-settle-clause-synced c = λ h. unknown_needs _ h

pub rename-requires-in-settle-clause-there : goal.rename-requires-in-settle-clause-there
rename-requires-in-settle-clause-there c = λ h. unknown_needs _ h

pub rename-requires-in-settle-clause-over : goal.rename-requires-in-settle-clause-over
rename-requires-in-settle-clause-over c = λ h. unknown_needs _ h

pub rename-requires-in-settle-clause-parent : goal.rename-requires-in-settle-clause-parent
rename-requires-in-settle-clause-parent c = λ h. unknown_needs _ h

pub rename-requires-in-cover-clause-synced : goal.rename-requires-in-cover-clause-synced
rename-requires-in-cover-clause-synced c = λ h. unknown_needs _ h

pub rename-requires-in-cover-clause-there : goal.rename-requires-in-cover-clause-there
rename-requires-in-cover-clause-there c = λ h. unknown_needs _ h

pub rename-requires-in-cover-clause-over : goal.rename-requires-in-cover-clause-over
rename-requires-in-cover-clause-over c = λ h. unknown_needs _ h

pub rename-requires-in-cover-clause-parent : goal.rename-requires-in-cover-clause-parent
rename-requires-in-cover-clause-parent c = λ h. unknown_needs _ h

pub remove-requires : goal.remove-requires
remove-requires c = record { there = λ h. unknown_needs _ h }

pub remove_dir-requires-clause-there : goal.remove_dir-requires-clause-there
remove_dir-requires-clause-there c = λ h. unknown_needs _ h

pub remove_dir-requires-clause-bare : goal.remove_dir-requires-clause-bare
remove_dir-requires-clause-bare c = λ h. unknown_needs _ h
