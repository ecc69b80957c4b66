use Rattle.std.proofs.Common.{length, sym, ◌∙◌}
use Rattle.std.specs.BTreeMap.{get_by_text}
use Rattle.relation_index.proofs.BearingLaws.{grows_slot, slot_is}
use Rattle.install_order.proofs.index.Index.slot.Goals as goal

pub returns-clause-grows : goal.returns-clause-grows
returns-clause-grows c = grows_slot (get_by_text c.args.self.now.slots) _ c.args.self.now.rows.items _ c.args.name.now (sym c.slot_of.ensures ∙ c.in_default.is) c.in_ok-slot.ensures.slots c.in_ok-slot.ensures.rows

pub returns-clause-slot : goal.returns-clause-slot
returns-clause-slot c = slot_is (get_by_text c.args.self.now.slots) (get_by_text c.make_slot.new.self.slots) c.args.name.now c.in_ok-slot.slot (length c.args.self.now.rows.items) c.in_ok-slot.ensures.slots c.in_ok-slot.ensures.slot
