use Rattle.std.proofs.Common.{Option, ap, sym, ◌∙◌}
use Rattle.unit_reports.specs.Held.{held_by}
use Rattle.removal_run.specs.Taking.{packages_in}
use Rattle.removal_run.proofs.Between.{moments_of}
use Rattle.removal_run.proofs.turns.RemovingTurns.take.Goals as goal

pub returns-in-Ok-clause-any_moment : goal.returns-in-Ok-clause-any_moment
returns-in-Ok-clause-any_moment g c =
    moments_of c.args.self.now.options (packages_in c.args.self.now.queue) c.in-Ok.queue c.args.self.now.waiting.items c.args.self.now.waiting.items (held_by c.args.administration.now c.args.self.now.diversions.now)
    (g.H.Host.state c.args.host.now) (g.H.Host.state c.take_next-found.new.host) (c.in-Ok.ensures.stated ∙ ap packages_in (sym (sym c.replace.ensures.value ∙ c.in-Some.is))) c.take_next-found.ensures.any_moment
