use Rattle.status_records.proofs.Parsing.{no_want, no_flag, no_state}
use Rattle.status_records.proofs.values.read_status.Goals as goal

pub returns-in_default-clause-none : goal.returns-in_default-clause-none
returns-in_default-clause-none c = no_want c.args.bytes.now c.in_default.ensures.none

pub returns-in_default-read_flag-clause-none : goal.returns-in_default-read_flag-clause-none
returns-in_default-read_flag-clause-none c = no_flag c.args.bytes.now _ _ c.in-Some.ensures.some c.in_default-read_flag.ensures.none

pub returns-in-None-clause-none : goal.returns-in-None-clause-none
returns-in-None-clause-none c = no_state c.args.bytes.now _ _ _ _ c.in-Some.ensures.some c.in-Some-read_flag.ensures.some c.in-None.ensures.none
