use Rattle.std.proofs.Common.{rules}
use Rattle.status_records.specs.Triggers.{is_configured}
use Rattle.status_records.proofs.Answered.{none_beside}
use Rattle.status_records.proofs.RecordedFields.{writable_of}
use Rattle.status_records.proofs.record.Record.of_package.Goals as goal

pub invariant_of-result-clause-writable : goal.invariant_of-result-clause-writable
invariant_of-result-clause-writable c = writable_of c.in_ok-copy.field-0 c.args.name.now c.in_ok-fields_of.field-0 c.args.control.now c.in_ok-copy.ensures c.requires.named c.in_ok-fields_of.ensures c.requires.written c.requires.readable

pub invariant_of-result-clause-current : goal.invariant_of-result-clause-current
invariant_of-result-clause-current c = none_beside (is_configured c.args.state c.none.result)

pub returns-clause-want : goal.returns-clause-want
returns-clause-want c = search rules
