use Rattle.std.proofs.Common.{subst, sym}
use Rattle.host_core.specs.Host.{Needs}
use Rattle.foretold_changes.specs.Told.{IsReadFrom}
use Rattle.inquiries.specs.declared.reading.SeenAll.{SeenAll}
use Rattle.foretold_changes.proofs.reading.read_indexed.Goals as goal

pub returns-clause-read : goal.returns-clause-read
returns-clause-read g c = subst (λ (all : SeenAll). Needs (g.H.Host.state c.read_followed.new.host) (λ w. IsReadFrom w all)) (sym c.in_ok-indexed.ensures) c.in_ok-all.ensures.held
