use Rattle.std.proofs.Common.{sym, ap, ◌∙◌}
use Rattle.std.specs.BTreeSet.{contains_text}
use Rattle.std.proofs.lemmas.Result.{IfOk-weaker}
use Rattle.administration.specs.Places.{home_path, is_within}
use Rattle.list_changes.proofs.Going.{last_decides}
use Rattle.list_changes.proofs.leaving.stays.Goals as goal

pub returns : goal.returns
returns c =
    let at = c.args.at.now in
    let text = c.as_str-text.ensures in
    IfOk-weaker c.has_other_owner.result _ _ (λ has is paths told. is ∙ sym (last_decides _ _ _ _
    (sym c.is_led_to.ensures ∙ c.if-is_led_to.false)
    (ap (is_within home_path) (sym text) ∙ sym c.is_within_home.ensures ∙ c.if-is_within_home.false)
    (sym (told at) ∙ ap (contains_text c.args.to_come.now) (sym text) ∙ sym c.contains.ensures ∙ c.if-contains.false))) c.has_other_owner.ensures
