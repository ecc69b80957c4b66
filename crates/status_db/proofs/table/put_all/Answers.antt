use Rattle.std.proofs.Common.{◌∙◌, ap, List}
use Rattle.status_records.specs.declared.record.Record.{Record}
use Rattle.status_records.specs.Records.{record_in}
use Rattle.status_db.proofs.Filling.{over, over_none, put_last, standing_front, standing_last}
use Rattle.status_db.proofs.Ordered.{same_standing}
use Rattle.status_db.proofs.table.put_all.Goals as goal

pub loop-record-init : goal.loop-record-init
loop-record-init c = record {
  stand = same_standing _ c.requires;
  look = λ name. ap (λ (l : List Record). over (record_in c.args.records.items name) (record_in l name)) c.new-table.ensures ∙ over_none (record_in c.args.records.items name);
}

pub put-requires : goal.put-requires
put-requires c = standing_last c.pop.new.self.items c.in-Some.record c.loop-record.records.items c.in-Some.ensures.items c.loop-record.invariant.stand

pub loop-record-preserved : goal.loop-record-preserved
loop-record-preserved c = record {
  stand = standing_front c.pop.new.self.items c.in-Some.record c.loop-record.records.items c.in-Some.ensures.items c.loop-record.invariant.stand;
  look = λ name. put_last c.pop.new.self.items c.in-Some.record c.loop-record.records.items c.loop-record.table _ name _ c.in-Some.ensures.items c.in_ok-put.ensures.ok (c.loop-record.invariant.look name);
}
