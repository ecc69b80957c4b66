use Rattle.status_records.proofs.reading.status_in.Goals as goal

pub returns-in-None-clause-none : goal.returns-in-None-clause-none
returns-in-None-clause-none c = λ want flag state is. c.in-None.ensures.none _ is
