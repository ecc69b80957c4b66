use Rattle.status_records.proofs.Merging.{none_behind}
use Rattle.status_records.proofs.order.place_among.Goals as goal

pub returns-then-place-ge33-clause-value : goal.returns-then-place-ge33-clause-value
returns-then-place-ge33-clause-value c = none_behind c.args.place c.if-place-ge33.true c.args.fields.now
