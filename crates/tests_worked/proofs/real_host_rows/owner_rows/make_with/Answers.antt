use Rattle.host_files.specs.Replay.{unknown_needs}
use Rattle.tests_worked.proofs.real_host_rows.owner_rows.make_with.Goals as goal

pub make_dir-requires-clause-absent : goal.make_dir-requires-clause-absent
make_dir-requires-clause-absent c = λ h. unknown_needs _ h

pub make_dir-requires-clause-parent : goal.make_dir-requires-clause-parent
make_dir-requires-clause-parent c = λ h. unknown_needs _ h
