use Rattle.std.proofs.Common.{◌∙◌, ◌++◌, ap, sym, codes}
use Rattle.std.specs.Prelude.{◌||◌}
use Rattle.std.specs.Str.{bytes_eq}
use Rattle.host_core.specs.Paths.{Path, is_path_text}
use Rattle.administration.specs.Places.{home_path, is_within}
use Rattle.list_changes.proofs.Outside.{not_both}
use Rattle.list_changes.proofs.clearable.clearable_name.Goals as goal

pub returns-then-is_spared : goal.returns-then-is_spared
returns-then-is_spared c =
    let text = c.as_str-name.ensures.value ∙ c.in_ok-text.ensures in
    not_both (is_path_text (c.args.at.now ++ c.args.ending.now)) _ (ap (λ (q : Path). bytes_eq q (codes "/") || is_within home_path q) (sym text) ∙ sym c.is_spared.ensures ∙ c.if-is_spared.true)
