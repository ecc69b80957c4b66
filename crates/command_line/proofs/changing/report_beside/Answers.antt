use Rattle.std.proofs.Common.{subst, sym}
use Rattle.std.specs.Prelude.{IfOk}
use Rattle.command_line.specs.Changes.{IsChangedBy, IsChanging}
use Rattle.command_line.specs.declared.changing.Change.{Change}
use Rattle.diverting_beside.specs.Beside.{IsChangedBeside}
use Rattle.command_line.proofs.changing.report_beside.Goals as goal

pub returns-in-Divert-clause-done : goal.returns-in-Divert-clause-done
returns-in-Divert-clause-done g c =
    subst (λ (asked : Change). IfOk c.divert_beside.result (λ done. IsChangedBeside (IsChangedBy asked) (IsChanging asked) done (g.H.Host.state c.args.host.now) (g.H.Host.state c.divert_beside.new.host))) (sym c.in-Divert.is)
    c.divert_beside.ensures.done

pub returns-in-Undivert-clause-done : goal.returns-in-Undivert-clause-done
returns-in-Undivert-clause-done g c =
    subst (λ (asked : Change). IfOk c.undivert_beside.result (λ done. IsChangedBeside (IsChangedBy asked) (IsChanging asked) done (g.H.Host.state c.args.host.now) (g.H.Host.state c.undivert_beside.new.host))) (sym c.in-Undivert.is)
    c.undivert_beside.ensures.done
