use Rattle.std.proofs.Common.{sym, ◌∙◌}
use Rattle.displaced_packages.proofs.Barriers.{nothing_brought, some_brought}
use Rattle.displaced_packages.proofs.Going.{silent_here}
use Rattle.displaced_packages.proofs.displacing.bring_to_disk.Goals as goal

pub returns-then-is_nothing-clause-disk : goal.returns-then-is_nothing-clause-disk
returns-then-is_nothing-clause-disk g c = nothing_brought c.args.losing.now c.args.conflicting.now (g.H.Host.state c.args.host.now) (sym c.is_nothing.ensures ∙ c.if-is_nothing.true)

pub returns-then-is_nothing-clause-silent : goal.returns-then-is_nothing-clause-silent
returns-then-is_nothing-clause-silent g c = silent_here (g.H.Host.state c.args.host.now)

pub returns-clause-disk : goal.returns-clause-disk
returns-clause-disk g c =
    some_brought c.barrier.result c.args.losing.now c.args.conflicting.now (g.H.Host.state c.args.host.now) (g.H.Host.state c.barrier.new.self) (sym c.is_nothing.ensures ∙ c.if-is_nothing.false) c.barrier.ensures.does
