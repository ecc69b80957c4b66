use Rattle.status_records.proofs.reading.name_in.Goals as goal

pub returns-in-None-clause-none : goal.returns-in-None-clause-none
returns-in-None-clause-none c = λ name is. c.in-None.ensures.none name is.0
