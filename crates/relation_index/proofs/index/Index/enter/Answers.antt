use Rattle.std.specs.BTreeMap.{get_by_text}
use Rattle.relation_index.proofs.BearingLaws.{grows_then}
use Rattle.relation_index.proofs.MovingLaws.{rows_grow}
use Rattle.relation_index.proofs.index.Index.enter.Goals as goal

pub enter-requires : goal.enter-requires
enter-requires c = c.in_ok-slot.ensures.grows.within c.requires.within c.args.name.now c.in_ok-slot.slot c.in_ok-slot.ensures.slot

pub returns-clause-grows : goal.returns-clause-grows
returns-clause-grows c = grows_then (get_by_text c.args.self.now.slots) (get_by_text c.slot.new.self.slots) (get_by_text c.slot.new.self.slots) c.args.self.now.rows.items c.slot.new.self.rows.items c.enter.new.rows.items c.in_ok-slot.ensures.grows
    (rows_grow (get_by_text c.slot.new.self.slots) c.slot.new.self.rows.items c.enter.new.rows.items c.in_ok-enter.ensures.len c.in_ok-enter.ensures.kept)

pub returns-clause-entered : goal.returns-clause-entered
returns-clause-entered c = (c.in_ok-slot.slot, c.in_ok-slot.ensures.slot, c.in_ok-enter.ensures.entered)
