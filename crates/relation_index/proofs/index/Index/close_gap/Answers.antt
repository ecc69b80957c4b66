use Rattle.std.specs.BTreeMap.{get_by_text}
use Rattle.relation_index.specs.Moves.{moved_down}
use Rattle.relation_index.proofs.MovingLaws.{all_moved}
use Rattle.relation_index.proofs.index.Index.close_gap.Goals as goal

pub returns : goal.returns
returns c = all_moved (moved_down c.args.at) (get_by_text c.args.self.now.slots) c.args.self.now.rows.items c.close_gap.new.rows.items c.close_gap.ensures
