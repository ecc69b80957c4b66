use Rattle.std.proofs.Math.Logic.{∥∥₁_elim}
use Rattle.std.proofs.Props.{props}
use Rattle.host_core.proofs.Moments.{reads_then}
use Rattle.verification.proofs.packages.add_package.Goals as goal

pub read_sums-requires : goal.read_sums-requires
read_sums-requires g c = ∥∥₁_elim c.args.entry.now.writable (hlevel props) (λ known. known.named)

pub returns-clause-reads : goal.returns-clause-reads
returns-clause-reads g c = reads_then _ _ _ c.read_sums.ensures.looks.reads c.add_paths.ensures.reads
