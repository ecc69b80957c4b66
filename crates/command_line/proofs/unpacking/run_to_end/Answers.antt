use Rattle.std.proofs.Common.{Some, subst, sym}
use Rattle.administration.specs.declared.fault.AdministrationFault.TheVariants.{NoMemory}
use Rattle.host_core.specs.Host.{State}
use Rattle.unit_reports.specs.Held.{Held, held_by}
use Rattle.command_line.specs.Roots.{IsUnbegun, around}
use Rattle.command_line.specs.Triggering.{HasBegun}
use Rattle.command_line.specs.Unpacks.{HasRunSince, triggering_for}
use Rattle.command_line.specs.declared.triggering.Triggering.{Triggering}
use Rattle.command_line.proofs.Behind.{run_since}
use Rattle.command_line.proofs.Begun.{begun_no_fault, begun_writes}
use Rattle.command_line.proofs.unpacking.run_to_end.Goals as goal

pub returns-in-Ok-run_watched-clause-done : goal.returns-in-Ok-run_watched-clause-done
returns-in-Ok-run_watched-clause-done g c =
    let session = c.args.session.now in
    let mid = c.begin.new.session in
    let begun = g.S.Opened.Host.state session.host in
    let at = g.S.Opened.Host.state mid.host in
    let end = g.S.Opened.Host.state c.run_watched.new.session.host in
    let a = around g.S.Hosts c.args.hosts.now c.run_watched.new.hosts in
    let before = held_by session.administration session.diversions in
    run_since a c.in-Ok.known c.args.options c.args.unpacking.now c.in-Ok-run_watched.ended before begun at end
    (subst (λ (t : Triggering). HasBegun t.by_files c.in-Ok.known before begun at) c.triggering_for.ensures c.in-Ok.ensures.begun)
    (subst (λ (h : Held). HasRunSince a c.in-Ok.known c.args.options c.args.unpacking.now c.in-Ok-run_watched.ended h at end) c.in-Ok.ensures.held c.in-Ok-run_watched.ensures.done)

pub returns-in-Ok-clause-unbegun : goal.returns-in-Ok-clause-unbegun
returns-in-Ok-clause-unbegun g c =
    let begun = c.in-Ok.ensures.begun in
    subst (λ (e : State). IsUnbegun (Some (triggering_for c.args.unpacking.now)) NoMemory (g.S.Opened.Host.state c.args.session.now.host) e) (sym c.in-Err-run_watched.ensures.unread)
    (begun_writes _ _ _ _ _ begun, begun_no_fault _ _ _ _ _ begun)
