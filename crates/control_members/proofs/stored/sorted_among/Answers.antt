use Rattle.std.proofs.Common.{◌∙◌, true, cond, ap}
use Rattle.std.specs.BTreeSet.{contains_text}
use Rattle.std.specs.Str.{bytes_eq}
use Rattle.std.specs.String.{string_bytes}
use Rattle.std.proofs.lemmas.Map.Text.{btree_set_updates_text}
use Rattle.control_members.proofs.Drawn.{one_passed, one_entered}
use Rattle.control_members.proofs.stored.sorted_among.Goals as goal
use Rattle.control_members.proofs.stored.sorted_among.Goals.{in-Some+in_ok-from_str+in_ok-insert, in_default}

pub loop-entry-preserved : goal.loop-entry-preserved
loop-entry-preserved c = λ name.
    let owner = c.args.owner.now in
    let entries = c.args.entries.now in
    let i = c.loop-entry.entry-index in
    let entry = c.entry-item.result in
    elim c.match-member_in.branch [
      | in-Some+in_ok-from_str+in_ok-insert w ↦ ap (λ set. contains_text set name) w.set-is ∙
          (let key = string_bytes w.in_ok-from_str.field-0 in
          one_entered owner entry w.in-Some.name.now entries i (contains_text w.insert.new.self name) (contains_text c.loop-entry.set name) name c.loop-entry-test.true c.entry-item.is w.in-Some.ensures.some.0 w.in-Some.ensures.some.1
          (btree_set_updates_text key c.loop-entry.set w.insert.new.self true w.in_ok-insert.ensures.updates name ∙ ap (λ k. cond (bytes_eq k name) true (contains_text c.loop-entry.set name)) w.in_ok-from_str.ensures.ok) (c.loop-entry.invariant name))
      | in_default w ↦ one_passed owner entry entries i (contains_text c.match-member_in.set name) name c.loop-entry-test.true c.entry-item.is w.in_default.ensures.none (ap (λ set. contains_text set name) w.set-is ∙ c.loop-entry.invariant name)
    ]
