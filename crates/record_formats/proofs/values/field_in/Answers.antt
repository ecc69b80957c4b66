use Rattle.status_records.proofs.Sayings.{found_field}
use Rattle.record_formats.proofs.values.field_in.Goals as goal

pub returns : goal.returns
returns c = found_field c.get.result c.args.key.now c.args.fields.now c.get.ensures.some c.get.ensures.none
