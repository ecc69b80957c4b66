use Rattle.std.proofs.Common.{◌≡◌, ◌∙◌, ◌<◌, length, rules}
use Rattle.package_tree.proofs.Halves.{cut, behind_middle, before_middle, at_middle, told_less, told_greater, told_equal}
use Rattle.package_tree.proofs.line_faults.find.Goals as goal

pub loop-path-preserved-in-Less : goal.loop-path-preserved-in-Less
loop-path-preserved-in-Less c =
    let some : 0 < length c.split_at.result.1.now = search rules in
    let middle = c.index-back-0.result in
    let half = behind_middle c.loop-path.rest.now c.split_at.result.0.now _ middle c.args.path.now c.loop-path.invariant.order (cut c.loop-path.rest.now c.split_at.result.0.now c.split_at.result.1.now middle c.split_at.ensures.by_index.0 some c.index-back-0.is)
    (told_less c.cmp.result middle c.args.path.now c.as_bytes.result.now c.cmp.ensures c.in-Less.is (c.as_bytes.ensures.value ∙ c.as_str.ensures)) in
    record { order = half.order; kept = λ has. half.kept (c.loop-path.invariant.kept has); from = λ has. c.loop-path.invariant.from (half.from has) }

pub returns-in-Equal : goal.returns-in-Equal
returns-in-Equal c =
    let some : 0 < length c.split_at.result.1.now = search rules in
    let middle = c.index-back-0.result in
    let same : middle ≡ c.args.path.now = told_equal c.cmp.result middle c.args.path.now c.as_bytes.result.now c.cmp.ensures c.in-Equal.is (c.as_bytes.ensures.value ∙ c.as_str.ensures) in
    let whole = cut c.loop-path.rest.now c.split_at.result.0.now c.split_at.result.1.now middle c.split_at.ensures.by_index.0 some c.index-back-0.is in
    (same, c.loop-path.invariant.from (at_middle c.loop-path.rest.now c.split_at.result.0.now _ middle c.args.path.now whole same))

pub loop-path-preserved : goal.loop-path-preserved
loop-path-preserved c =
    let some : 0 < length c.split_at.result.1.now = search rules in
    let middle = c.index-back-0.result in
    let half = before_middle c.loop-path.rest.now c.split_at.result.0.now _ middle c.args.path.now c.loop-path.invariant.order (cut c.loop-path.rest.now c.split_at.result.0.now c.split_at.result.1.now middle c.split_at.ensures.by_index.0 some c.index-back-0.is)
    (told_greater c.cmp.result middle c.args.path.now c.as_bytes.result.now c.cmp.ensures c.in-Greater.is (c.as_bytes.ensures.value ∙ c.as_str.ensures)) in
    record { order = half.order; kept = λ has. half.kept (c.loop-path.invariant.kept has); from = λ has. c.loop-path.invariant.from (half.from has) }
