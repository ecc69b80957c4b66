use Rattle.command_line.proofs.Behind.{told_idle}
use Rattle.command_line.proofs.packages.work_alone.Goals as goal

pub returns-clause-watched : goal.returns-clause-watched
returns-clause-watched g c =
    let begun = g.H.Host.state c.args.session.now.host in
    (c.carry_out.new.watcher, (begun, c.in_ok-done.ensures.watched), told_idle _ begun _ c.untriggered-triggered.result c.untriggered-triggered.ensures)
