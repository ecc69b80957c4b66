use Rattle.std.proofs.Common.{sym, ◌∙◌}
use Rattle.trigger_run.proofs.Installed.{pending_of}
use Rattle.trigger_run.proofs.Lacking.{ready_by}
use Rattle.trigger_run.proofs.needs.is_ready.Goals as goal

pub returns : goal.returns
returns c =
    ready_by c.args.database.now.records c.args.name.now (pending_of c.args.database.now.records c.args.name.now (sym c.is_pending_in.ensures ∙ c.if-not-is_pending_in.false)) c.in_ok-lacking.lacking c.in_ok-lacking.ensures
