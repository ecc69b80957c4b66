use Rattle.std.proofs.Common.{arith}
use Rattle.host_files.proofs.RememberedLaws.{nothing}
use Rattle.host_files.proofs.Replayed.{settled_start}
use Rattle.host_files.proofs.files_host.FilesHost.open.Goals as goal

pub invariant_of-result : goal.invariant_of-result
invariant_of-result g c = record {
  explained = λ some. absurd (omega (arith, some, c.new-in-Ok-4.ensures.faults));
  settled = settled_start g.D.Disk.model c.new-in-Ok-4.result.log.notes c.new-in-Ok-4.ensures.notes;
  known = λ s is. nothing c.in_ok-root.root.remembered.directory s c.in_ok-root.ensures.known is;
  last = λ f is. nothing c.in_ok-root.root.remembered.file f c.in_ok-root.ensures.new is;
  vacant = λ v is. nothing c.in_ok-root.root.remembered.vacant v c.in_ok-root.ensures.vacant is;
}
