use Rattle.std.proofs.Common.{Some, subst, sym}
use Rattle.administration.specs.declared.fault.AdministrationFault.TheVariants.{NoMemory}
use Rattle.host_core.specs.Host.{State}
use Rattle.unit_reports.specs.Held.{Held, held_by}
use Rattle.command_line.specs.Packages.{HasWorkedSince}
use Rattle.command_line.specs.Roots.{IsUnbegun}
use Rattle.command_line.proofs.Behind.{work_since}
use Rattle.command_line.proofs.Begun.{begun_no_fault, begun_writes}
use Rattle.command_line.proofs.packages.watch_and_work.Goals as goal

pub returns-in-Ok-work_watched-clause-done : goal.returns-in-Ok-work_watched-clause-done
returns-in-Ok-work_watched-clause-done g c =
    let session = c.args.session.now in
    let mid = c.begin.new.session in
    let begun = g.H.Host.state mid.host in
    let end = g.H.Host.state c.work_watched.new.session.host in
    work_since c.args.triggering c.in-Ok.known c.args.asked.now c.in-Ok-work_watched.ended (held_by session.administration session.diversions) (g.H.Host.state session.host) begun end c.in-Ok.ensures.begun
    (subst (λ (h : Held). HasWorkedSince c.args.triggering c.in-Ok.known c.args.asked.now c.in-Ok-work_watched.ended h begun end) c.in-Ok.ensures.held c.in-Ok-work_watched.ensures.done)

pub returns-in-Ok-clause-unbegun : goal.returns-in-Ok-clause-unbegun
returns-in-Ok-clause-unbegun g c =
    let begun = c.in-Ok.ensures.begun in
    subst (λ (e : State). IsUnbegun (Some c.args.triggering) NoMemory (g.H.Host.state c.args.session.now.host) e) (sym c.in-Err-work_watched.ensures.unmoved)
    (begun_writes _ _ _ _ _ begun, begun_no_fault _ _ _ _ _ begun)
