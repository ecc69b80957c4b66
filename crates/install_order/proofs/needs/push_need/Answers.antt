use Rattle.std.proofs.Common.{ap, ◌∙◌, length}
use Rattle.std.proofs.lemmas.List.{length-map}
use Rattle.install_order.specs.Clauses.{architecture_in}
use Rattle.recorded_packages.specs.Packages.{first_architecture}
use Rattle.install_order.proofs.NeedLaws.{some_in, taken_left}
use Rattle.install_order.proofs.needs.push_need.Goals as goal

pub meeters-requires : goal.meeters-requires
meeters-requires c = record { counted = ap length c.requires.counted ∙ length-map c.args.trees.now (architecture_in (first_architecture c.args.recorded.now)); index = c.requires.index }

pub returns : goal.returns
returns c =
    let some = some_in c.as_slice.result.now c.is_empty.result c.is_empty.ensures c.if-is_empty.false in
    taken_left c.args.stage c.args.recorded.now c.args.trees.now c.args.bearers.now.architectures.items c.args.owner c.args.stated.now c.args.list.now.items c.push.new.self.items c.in_ok-meeters.meeters c.as_slice.result.now c.in_ok-is_met_already.field-0 c.requires.counted c.in_ok-is_met_already.ensures c.if-branch.false c.in_ok-meeters.ensures c.as_slice.ensures some c.in_ok-push.ensures.items
