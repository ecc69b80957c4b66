use Rattle.std.proofs.Common.{subst}
use Rattle.status_db.specs.Notes.{IsSaid}
use Rattle.status_db.proofs.Entered.{put_by, removed_by}
use Rattle.status_db.proofs.note_reading.enter.Goals as goal

pub put-requires : goal.put-requires
put-requires c = (subst (IsSaid c.args.entry.name) c.in-Some.is c.requires).1

pub returns-in-Some : goal.returns-in-Some
returns-in-Some c = put_by c.put.result c.in-Some.kept c.args.table.now c.put.new.self c.args.entry.name c.args.entry.kept c.in-Some.is (subst (IsSaid c.args.entry.name) c.in-Some.is c.requires).0 c.put.ensures.ok

pub returns : goal.returns
returns c = removed_by c.args.table.now c.remove.new.self c.args.entry.name c.args.entry.kept c.in-None.is c.remove.ensures
