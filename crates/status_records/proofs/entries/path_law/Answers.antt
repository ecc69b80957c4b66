use Rattle.std.proofs.Common.{sym, ap, ◌∙◌}
use Rattle.std.specs.Str.{is_utf8}
use Rattle.std.proofs.lemmas.Bool.{and_from}
use Rattle.std.proofs.lemmas.Str.{is_utf8-from_IsUtf8}
use Rattle.host_core.specs.Paths.{is_ship_text}
use Rattle.status_records.proofs.entries.path_law.Goals as goal

pub returns : goal.returns
returns c =
    let p = c.args.path.now in
    and_from (is_utf8 p) (is_ship_text p) (ap is_utf8 (sym c.as_str-text.ensures) ∙ is_utf8-from_IsUtf8 c.as_str-text.result.now c.as_str-text.utf8) c.law.ensures
