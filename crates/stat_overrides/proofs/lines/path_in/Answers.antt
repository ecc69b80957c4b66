use Rattle.std.proofs.Common.{◌∙◌, sym}
use Rattle.stat_overrides.proofs.Texts.{no_text, text_path}
use Rattle.stat_overrides.proofs.lines.path_in.Goals as goal

pub returns-in_ok-from_str-in-Ok : goal.returns-in_ok-from_str-in-Ok
returns-in_ok-from_str-in-Ok c =
    text_path c.args.path.now c.in_ok-from_str-in-Ok.field-0 (sym c.is_listed.ensures ∙ c.if-not-is_listed.false) c.in-Ok.ensures.cases.1 (c.in_ok-from_str-in-Ok.ensures ∙ c.in-Ok.ensures.cases.0)

pub returns-in-Err : goal.returns-in-Err
returns-in-Err c = no_text c.args.path.now (sym c.is_listed.ensures ∙ c.if-not-is_listed.false) c.in-Err.ensures.cases.0
