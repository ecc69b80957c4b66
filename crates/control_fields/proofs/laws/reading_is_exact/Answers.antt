use Rattle.control_fields.proofs.Once.{reads_once, no_fault}
use Rattle.control_fields.proofs.OnlyOne.{reads_one_once, no_fault_of_one}
use Rattle.control_fields.proofs.Placed.{read_placed}
use Rattle.control_fields.proofs.laws.reading_is_exact.Goals as goal

pub returns-clause-once : goal.returns-clause-once
returns-clause-once c = reads_once

pub returns-clause-one_once : goal.returns-clause-one_once
returns-clause-one_once c = reads_one_once

pub returns-clause-no_fault : goal.returns-clause-no_fault
returns-clause-no_fault c = no_fault

pub returns-clause-one_no_fault : goal.returns-clause-one_no_fault
returns-clause-one_no_fault c = no_fault_of_one

pub returns-clause-lines : goal.returns-clause-lines
returns-clause-lines c = read_placed
