use Rattle.std.proofs.Common.{◌∙◌, true}
use Rattle.std.specs.BTreeSet.{contains_text}
use Rattle.std.specs.String.{string_bytes}
use Rattle.std.proofs.lemmas.Map.Text.{btree_set_updates_text}
use Rattle.unpack_engine.proofs.Names.{record_entered}
use Rattle.unpack_engine.proofs.touched.names_of.Goals as goal

pub loop-entry-preserved : goal.loop-entry-preserved
loop-entry-preserved c = λ q.
    let key = string_bytes c.in_ok-from_str.field-0 in
    record_entered c.args.records.now c.loop-entry.entry-index c.entry-item.result key q (contains_text c.insert.new.self q) (contains_text c.loop-entry.set q)
    c.loop-entry-test.true c.entry-item.is (c.in_ok-from_str.ensures.ok ∙ c.as_str.ensures)
    (btree_set_updates_text key c.loop-entry.set c.insert.new.self true c.in_ok-insert.ensures.updates q) (c.loop-entry.invariant q)
