use Rattle.std.proofs.Common.{◌∙◌, map, sym, ap}
use Rattle.std.specs.BTreeSet.{contains_text}
use Rattle.unpack_plan.specs.Digests.{told_digest}
use Rattle.unpack_plan.proofs.Digested.{is_left, is_picked}
use Rattle.unpack_plan.proofs.digests.add_conffile.Goals as goal

pub returns-then-contains : goal.returns-then-contains
returns-then-contains c =
    let told = ap (contains_text c.args.conffiles.now) (sym c.as_str.ensures) ∙ sym c.contains.ensures ∙ c.if-contains.true in
    λ paths same. is_picked paths c.args.file.now (map told_digest c.args.pending.now) _ (sym (same c.args.file.now.path) ∙ told) c.in_ok-add_digest.ensures

pub returns : goal.returns
returns c =
    let told = ap (contains_text c.args.conffiles.now) (sym c.as_str.ensures) ∙ sym c.contains.ensures ∙ c.if-contains.false in
    λ paths same. is_left paths c.args.file.now (map told_digest c.args.pending.now) (sym (same c.args.file.now.path) ∙ told)
