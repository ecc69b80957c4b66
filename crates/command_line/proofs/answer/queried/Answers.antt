use Rattle.std.proofs.Common.{rules, ◌≡◌, Err, inl, inr, refl}
use Rattle.command_line.specs.Queries.{bad_path_answer, inquiry_of}
use Rattle.command_line.specs.Reports.{memory_answer}
use Rattle.command_line.proofs.answer.queried.Goals as goal

pub returns-in-Ok-Err-clause-answered : goal.returns-in-Ok-Err-clause-answered
returns-in-Ok-Err-clause-answered g c =
    let read : inquiry_of c.args.query.question ≡ Err c.in-Ok-Err.text = search rules in
    (bad_path_answer c.in-Ok-Err.text, inl (rw read refl), c.bad_path.ensures)

pub returns-clause-answered : goal.returns-clause-answered
returns-clause-answered g c = (memory_answer, inr (refl, refl), tt)
