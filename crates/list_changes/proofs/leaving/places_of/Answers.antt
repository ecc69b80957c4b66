use Rattle.std.proofs.Common.{◌∙◌, true}
use Rattle.std.specs.BTreeSet.{contains_text}
use Rattle.std.specs.String.{string_bytes}
use Rattle.std.proofs.lemmas.Map.Text.{btree_set_updates_text}
use Rattle.diversions.specs.Ways.{place}
use Rattle.list_changes.proofs.Going.{place_added}
use Rattle.list_changes.proofs.leaving.places_of.Goals as goal

pub loop-path-preserved : goal.loop-path-preserved
loop-path-preserved c = λ q.
    let key = string_bytes c.in_ok-from_str.field-0 in
    place_added (place c.args.diversions.now.ways c.args.name.now) c.args.paths.now c.loop-path.path-index c.path-item.result key q (contains_text c.insert.new.self q) (contains_text c.loop-path.places q)
    c.loop-path-test.true c.path-item.is (c.in_ok-from_str.ensures.ok ∙ c.as_str.ensures ∙ c.in_ok-place.ensures)
    (btree_set_updates_text key c.loop-path.places c.insert.new.self true c.in_ok-insert.ensures.updates q) (c.loop-path.invariant q)
