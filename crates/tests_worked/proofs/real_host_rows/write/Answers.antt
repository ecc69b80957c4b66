use Rattle.host_files.specs.Replay.{unknown_needs}
use Rattle.tests_worked.proofs.real_host_rows.write.Goals as goal

pub write_new-requires-clause-absent : goal.write_new-requires-clause-absent
write_new-requires-clause-absent c = λ h. unknown_needs _ h

pub write_new-requires-clause-parent : goal.write_new-requires-clause-parent
write_new-requires-clause-parent c = λ h. unknown_needs _ h
