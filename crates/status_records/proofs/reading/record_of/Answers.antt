use Rattle.status_records.proofs.Kept.{writable_others}
use Rattle.status_records.proofs.Missing.{current_in, stands_beside}
use Rattle.status_records.proofs.reading.record_of.Goals as goal

pub invariant_of-result-4-clause-writable : goal.invariant_of-result-4-clause-writable
invariant_of-result-4-clause-writable c = writable_others c.in_ok-from_str.field-0 c.args.name.now c.in_ok-recorded_fields.field-0 c.args.fields.now c.in_ok-from_str.ensures c.requires.named c.in_ok-recorded_fields.ensures c.requires.written c.requires.readable

pub invariant_of-result-4-clause-current : goal.invariant_of-result-4-clause-current
invariant_of-result-4-clause-current c =
    current_in c.state-state.result c.in_ok-triggers_in.field-0 c.in_ok-config_version.field-0.config_version c.args.fields.now c.in_ok-config_version.ensures.config c.in_ok-triggers_in.ensures.awaited

pub invariant_of-result-4-clause-beside : goal.invariant_of-result-4-clause-beside
invariant_of-result-4-clause-beside c =
    stands_beside c.args.status.word c.state-state.result c.in_ok-triggers_in.field-0 c.args.fields.now c.state-state.ensures c.in_ok-triggers_in.ensures.pending c.in_ok-triggers_in.ensures.awaited c.requires.agree
