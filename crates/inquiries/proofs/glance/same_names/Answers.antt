use Rattle.std.proofs.Common.{◌∙◌, rules, sym}
use Rattle.inquiries.proofs.Glances.{have_same, not_same}
use Rattle.inquiries.proofs.glance.same_names.Goals as goal

pub returns-in_ok-has_all-2 : goal.returns-in_ok-has_all-2
returns-in_ok-has_all-2 c = have_same c.args.one.now c.args.other.now c.in_ok-has_all-2.field-0 (search rules) (sym c.in_ok-has_all.ensures ∙ c.if-branch.true) c.in_ok-has_all-2.ensures

pub returns-else-branch : goal.returns-else-branch
returns-else-branch c = not_same c.args.one.now c.args.other.now c.in_ok-has_all.field-0 c.in_ok-has_all.ensures c.if-branch.false
