use Rattle.std.proofs.Common.{◌&&◌, ap, sym, ◌∙◌}
use Rattle.std.specs.List.{list_any}
use Rattle.std.specs.Str.{bytes_eq}
use Rattle.status_records.specs.declared.record.Record.{Record}
use Rattle.unpack_commit.specs.Takeover.{loses_conffile, without_conffiles}
use Rattle.unpack_commit.proofs.Filtering.{told_more, untold}
use Rattle.unpack_commit.proofs.losing.losing_records.Goals as goal
use Rattle.unpack_commit.proofs.losing.losing_records.Goals.{then-loses+in_ok-without_conffiles+in_ok-push, else-loses}

pub loop-entry-preserved : goal.loop-entry-preserved
loop-entry-preserved c =
    let i = c.loop-entry.entry-index in
    let e = c.entry-item.result in
    let entries = c.args.diversions.now.ways in
    let places = c.args.taken.now in
    let names = c.args.losers.now in
    elim c.if-loses.branch [
      | then-loses+in_ok-without_conffiles+in_ok-push w ↦
          told_more (λ (r : Record). list_any (bytes_eq r.name) names && loses_conffile entries places r) c.args.records.now i e c.loop-entry-test.true c.entry-item.is (without_conffiles entries places) (sym c.in_ok-loses.ensures ∙ w.if-loses.true)
          c.loop-entry.losing.items c.if-loses.losing.items w.in_ok-without_conffiles.field-0 c.loop-entry.invariant w.in_ok-without_conffiles.ensures (ap (λ v. v.items) w.losing-is ∙ w.in_ok-push.ensures.items)
      | else-loses w ↦
          untold (λ (r : Record). list_any (bytes_eq r.name) names && loses_conffile entries places r) c.args.records.now i e c.loop-entry-test.true c.entry-item.is (without_conffiles entries places) (sym c.in_ok-loses.ensures ∙ w.if-loses.false)
          c.loop-entry.losing.items c.if-loses.losing.items c.loop-entry.invariant (ap (λ v. v.items) w.losing-is)
    ]
