use Rattle.status_records.proofs.Merging.{item_new}
use Rattle.status_records.proofs.order.add_all.Goals as goal

pub push-requires : goal.push-requires
push-requires c = item_new c.args.paragraph.now c.args.fields.now c.loop-field.paragraph c.loop-field.field-index c.field-item.result c.in_ok-copy.field-0 c.requires c.loop-field-test.true c.field-item.is c.loop-field.invariant c.in_ok-copy.ensures
