use Rattle.std.proofs.Common.{Ok, Err, inl, inr, refl, subst}
use Rattle.command_line.specs.Changes.{IsDivertOf, IsRead, bad_of_divert}
use Rattle.command_line.specs.Queries.{bad_path_answer}
use Rattle.command_line.specs.Reports.{memory_answer, ended_answer}
use Rattle.command_line.specs.Roots.{Around, around}
use Rattle.command_line.proofs.Changed.{read_bad, read_change}
use Rattle.command_line.proofs.answer.diverted.Goals as goal

pub returns-in-Ok-Ok-clause-answered : goal.returns-in-Ok-Ok-clause-answered
returns-in-Ok-Ok-clause-answered g c =
    let asked = c.args.asked.now in
    let old = c.args.hosts.now in
    let new = c.changed.new.hosts in
    let a : Around = around g.S.Hosts old new in
    let ended = c.changed.ensures.ended in
    let read : IsRead (bad_of_divert asked) (IsDivertOf asked) (Ok c.in-Ok-Ok.change) = subst (IsRead (bad_of_divert asked) (IsDivertOf asked)) c.in-Ok-Ok.field-0-is c.in-Ok-Ok.ensures in
    (ended_answer ended.0, inl (read_change a asked.root (bad_of_divert asked) (IsDivertOf asked) c.in-Ok-Ok.change (ended_answer ended.0) read (ended.0, ended.1, refl)), ended.2)

pub returns-in-Ok-Err-clause-answered : goal.returns-in-Ok-Err-clause-answered
returns-in-Ok-Err-clause-answered g c =
    let asked = c.args.asked.now in
    let old = c.args.hosts.now in
    let a : Around = around g.S.Hosts old old in
    let read : IsRead (bad_of_divert asked) (IsDivertOf asked) (Err c.in-Ok-Err.bad) = subst (IsRead (bad_of_divert asked) (IsDivertOf asked)) c.in-Ok-Err.field-0-is c.in-Ok-Err.ensures in
    (bad_path_answer c.in-Ok-Err.bad, inl (read_bad a asked.root (bad_of_divert asked) (IsDivertOf asked) c.in-Ok-Err.bad read), c.bad_path.ensures)

pub returns-in-Err-clause-answered : goal.returns-in-Err-clause-answered
returns-in-Err-clause-answered g c = (memory_answer, inr (refl, refl), tt)
