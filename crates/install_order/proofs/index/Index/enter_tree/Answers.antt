use Rattle.std.specs.BTreeMap.{get_by_text}
use Rattle.install_order.proofs.BearerLaws.{bearing_entered}
use Rattle.install_order.proofs.index.Index.enter_tree.Goals as goal

pub returns-clause-entered : goal.returns-clause-entered
returns-clause-entered c = bearing_entered (get_by_text c.enter.new.self.slots) (get_by_text c.enter_provided.new.self.slots) c.enter.new.self.rows.items c.enter_provided.new.self.rows.items c.args.tree.now c.as_str.result.now c.entries.result.now c.args.number c.as_str.ensures c.entries.ensures c.in_ok-enter.ensures.entered c.in_ok-enter_provided.ensures.grows c.in_ok-enter_provided.ensures.entered
