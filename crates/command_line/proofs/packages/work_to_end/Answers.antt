use Rattle.std.proofs.Common.{Option, subst}
use Rattle.std.specs.Prelude.{IfErr, IfOk}
use Rattle.unit_reports.specs.Held.{held_by}
use Rattle.command_line.specs.Packages.{HasWorkedWith}
use Rattle.command_line.specs.Roots.{IsUnbegun}
use Rattle.command_line.specs.declared.triggering.Triggering.{Triggering}
use Rattle.command_line.proofs.packages.work_to_end.Goals as goal

pub returns-in-Some-clause-done : goal.returns-in-Some-clause-done
returns-in-Some-clause-done g c =
    let session = c.args.session.now in
    subst (λ (o : Option Triggering). IfOk c.watch_and_work.result (λ ended. HasWorkedWith o c.args.asked.now ended (held_by session.administration session.diversions) (g.H.Host.state session.host) (g.H.Host.state c.watch_and_work.new.session.host)))
    c.in-Some.ensures c.watch_and_work.ensures.done

pub returns-in-Some-clause-unbegun : goal.returns-in-Some-clause-unbegun
returns-in-Some-clause-unbegun g c =
    subst (λ (o : Option Triggering). IfErr c.watch_and_work.result (λ fault. IsUnbegun o fault (g.H.Host.state c.args.session.now.host) (g.H.Host.state c.watch_and_work.new.session.host))) c.in-Some.ensures c.watch_and_work.ensures.unbegun
