use Rattle.status_db.proofs.NotesRead.{number_by}
use Rattle.status_db.proofs.updates.read_number.Goals as goal

pub returns-clause-taken : goal.returns-clause-taken
returns-clause-taken g c = λ h.
    number_by c.check_aside.result (g.H.Host.state c.args.host.now).world (g.H.Host.state c.read_at.new.host).world c.args.number c.in_ok-path.path c.in_ok-spare.spare c.args.table.now _ c.in_ok-path.ensures c.in_ok-spare.ensures c.read_at.ensures.reads.world
    (c.in_ok-read_at.ensures.taken (c.check_aside.ensures.silent.honest h)) (c.check_aside.ensures.free h)
