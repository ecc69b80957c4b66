use Rattle.removal_run.proofs.Following.{waits_within}
use Rattle.removal_run.proofs.Queues.{queue_struck}
use Rattle.removal_run.proofs.waiting.queue_behind.Goals as goal

pub returns-then-goes_on : goal.returns-then-goes_on
returns-then-goes_on c = λ before names is kept left.
    let q = c.args.queue in
    queue_struck q.packages before c.args.database.now.records names c.args.waiting.now q c.removed.new.self c.args.number c.goes_on.ensures.ordered (waits_within q c.args.number c.requires.even c.requires.waits)
    (c.goes_on.ensures.gone c.if-goes_on.true) c.removed.ensures is kept left
