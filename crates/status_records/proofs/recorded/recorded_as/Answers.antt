use Rattle.std.proofs.Common.{◌∙◌}
use Rattle.status_records.proofs.RecordedFields.{stays_so}
use Rattle.status_records.proofs.recorded.recorded_as.Goals as goal

pub returns : goal.returns
returns c = stays_so c.args.field.now c.in_ok-copy-in-None.field-0 c.as_slice-name.result.now c.as_slice.result.now c.in_ok-line.field-0 c.in-None.is c.in_ok-line.ensures.none c.as_slice-name.ensures (c.as_slice.ensures.value ∙ c.in_ok-value.ensures) c.in_ok-copy-in-None.ensures
