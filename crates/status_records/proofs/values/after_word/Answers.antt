use Rattle.status_records.proofs.Parsing.{blank_none}
use Rattle.status_records.proofs.values.after_word.Goals as goal

pub returns-in-Some-clause-none : goal.returns-in-Some-clause-none
returns-in-Some-clause-none c = blank_none c.after_blank.result _ _ _ c.in-Some.ensures.some c.after_blank.ensures.none
