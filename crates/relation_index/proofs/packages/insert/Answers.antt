use Rattle.std.proofs.Common.{◌≡◌, ◌∙◌, ℕ, length, subst, arith}
use Rattle.std.specs.BTreeMap.{get_by_text}
use Rattle.relation_index.specs.Moves.{Moves, moved_up}
use Rattle.relation_index.proofs.MovingLaws.{indexed_inserted}
use Rattle.name_tables.proofs.Placed.{put_between}
use Rattle.relation_index.specs.Order.{name_of}
use Rattle.relation_index.proofs.Ordered.{in_order}
use Rattle.relation_index.proofs.packages.insert.Goals as goal

pub returns-clause-packages : goal.returns-clause-packages
returns-clause-packages c =
    let ps = c.args.packages.now.items in
    c.in_ok-insert.ensures.items ∙ put_between name_of c.args.entry ps c.args.at (in_order ps c.requires.indexed.ordered) c.requires.place (λ lt named. c.requires.absent (lt, named))

pub returns-clause-indexed : goal.returns-clause-indexed
returns-clause-indexed c =
    let ps = c.args.packages.now.items in
    let slots = get_by_text c.args.index.now.slots in
    let rows = c.args.index.now.rows.items in
    let slots' = get_by_text c.make_room.new.self.slots in
    let rows' = c.make_room.new.self.rows.items in
    let count : c.len.result ≡ length c.args.packages.now.items = omega (arith, c.len.ensures, c.args.packages.now.ok.0) in
    indexed_inserted ps c.insert.new.self.items slots slots' (get_by_text c.enter_package.new.self.slots) rows rows' c.enter_package.new.self.rows.items c.args.at c.args.entry c.in_ok-insert.ensures.items c.requires.place c.requires.absent c.requires.indexed
    (subst (λ (n : ℕ). Moves (moved_up c.args.at n) slots rows slots' rows') count c.make_room.ensures) c.in_ok-enter_package.ensures.grows c.in_ok-enter_package.ensures.entered
