use Rattle.std.proofs.Common.{refl}
use Rattle.std.proofs.Math.ListN.{set}
use Rattle.std.specs.BTreeMap.{get_by_text}
use Rattle.relation_index.proofs.MovingLaws.{indexed_replaced}
use Rattle.name_tables.proofs.Placed.{put_there}
use Rattle.relation_index.specs.Order.{name_of}
use Rattle.relation_index.proofs.Ordered.{in_order}
use Rattle.relation_index.proofs.packages.replace.Goals as goal

pub returns-clause-packages : goal.returns-clause-packages
returns-clause-packages c =
    let ps = c.args.packages.now.items in
    put_there name_of c.args.entry ps c.args.at (in_order ps c.requires.indexed.ordered) c.requires.place c.requires.there.0 c.requires.there.1

pub returns-clause-indexed : goal.returns-clause-indexed
returns-clause-indexed c =
    let ps = c.args.packages.now.items in
    indexed_replaced ps (set ps c.args.at c.args.entry) (get_by_text c.args.index.now.slots) (get_by_text c.enter_package.new.self.slots) c.args.index.now.rows.items c.enter_package.new.self.rows.items c.args.at c.args.entry refl c.requires.place c.requires.there c.requires.indexed
    c.in_ok-enter_package.ensures.grows c.in_ok-enter_package.ensures.entered
