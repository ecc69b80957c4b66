use Rattle.std.proofs.Common.{◌∙◌, sym, subst}
use Rattle.std.specs.Prelude.{Contains}
use Rattle.package_tree.specs.ConffileFaults.{IsOfBoth}
use Rattle.package_tree.specs.Shipped.{IsFirstPath}
use Rattle.package_tree.proofs.Astray.{first_of_both, none_of_both_more, none_of_both}
use Rattle.package_tree.proofs.line_faults.first_flagged.Goals as goal

pub returns-in-Some : goal.returns-in-Some
returns-in-Some c =
    let named = c.as_bytes.ensures.value ∙ c.as_str.ensures in
    let first = first_of_both c.args.flagged.now c.args.paths.now c.loop-path.path-index c.path-item.result c.requires.flagged c.loop-path-test.true c.path-item.is c.loop-path.invariant (subst (Contains c.args.paths.now) named c.in-Some.ensures.1) in
    subst (IsFirstPath (IsOfBoth c.args.flagged.now c.args.paths.now)) (sym (c.in_ok-copy.ensures ∙ c.in-Some.ensures.0 ∙ named)) first

pub loop-path-preserved : goal.loop-path-preserved
loop-path-preserved c =
    let named = c.as_bytes.ensures.value ∙ c.as_str.ensures in
    none_of_both_more c.args.flagged.now c.args.paths.now c.loop-path.path-index c.path-item.result c.loop-path-test.true c.path-item.is c.loop-path.invariant (λ has. c.in_default.ensures (subst (Contains c.args.paths.now) (sym named) has))

pub returns : goal.returns
returns c = none_of_both c.args.flagged.now c.args.paths.now c.loop-path.path-index c.loop-path-test.false c.loop-path.invariant
