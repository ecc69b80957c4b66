use Rattle.std.proofs.Common.{refl, inr, rules}
use Rattle.package_tree.proofs.control_file.has_no_bad_essential.Goals as goal

pub returns-then-is_yes_or_no : goal.returns-then-is_yes_or_no
returns-then-is_yes_or_no c = inr (
  c.in-Some.field.now.first,
  record {
    field = c.in-Some.field.now;
    called = c.in-Some.ensures.some;
    is = refl;
    good = c.if-is_yes_or_no.ensures.0 (search rules);
  },
)
