use Rattle.std.specs.BTreeMap.{get_by_text}
use Rattle.relation_index.specs.Moves.{moved_up}
use Rattle.relation_index.proofs.MovingLaws.{all_moved}
use Rattle.relation_index.proofs.index.Index.make_room.Goals as goal

pub returns : goal.returns
returns c = all_moved (moved_up c.args.at c.args.count) (get_by_text c.args.self.now.slots) c.args.self.now.rows.items c.make_room.new.rows.items c.make_room.ensures
