use Rattle.std.specs.BTreeMap.{get_by_text}
use Rattle.relation_index.proofs.BearingLaws.{grows_then}
use Rattle.install_order.proofs.BearerLaws.{row_grows, row_has}
use Rattle.install_order.proofs.index.Index.enter.Goals as goal

pub returns-clause-grows : goal.returns-clause-grows
returns-clause-grows c =
    let slots = get_by_text c.slot.new.self.slots in
    let rows = c.slot.new.self.rows.items in
    let there = c.in_ok-slot.ensures.grows.within c.requires.within c.args.name.now c.in_ok-slot.slot c.in_ok-slot.ensures.slot in
    grows_then (get_by_text c.args.self.now.slots) slots slots c.args.self.now.rows.items rows c.enter.new.rows.items c.in_ok-slot.ensures.grows
    (row_grows slots rows c.enter.new.rows.items c.in_ok-slot.slot c.args.number there c.in_ok-enter.ensures.entered)

pub returns-clause-entered : goal.returns-clause-entered
returns-clause-entered c =
    let rows = c.slot.new.self.rows.items in
    let there = c.in_ok-slot.ensures.grows.within c.requires.within c.args.name.now c.in_ok-slot.slot c.in_ok-slot.ensures.slot in
    (c.in_ok-slot.slot, c.in_ok-slot.ensures.slot, row_has rows c.enter.new.rows.items c.in_ok-slot.slot c.args.number there c.in_ok-enter.ensures.entered)
