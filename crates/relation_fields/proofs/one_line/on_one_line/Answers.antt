use Rattle.std.proofs.Common.{◌∙◌, sym, map}
use Rattle.std.specs.Char.{to_ascii_lowercase}
use Rattle.relation_fields.proofs.OneLine.{no_line}
use Rattle.relation_fields.proofs.one_line.on_one_line.Goals as goal

pub returns-in_ok-no_value-in-Err-clause-none : goal.returns-in_ok-no_value-in-Err-clause-none
returns-in_ok-no_value-in-Err-clause-none c =
    no_line (map to_ascii_lowercase c.args.name.now) c.args.value.now c.in-Some.rules c.in-Err.fault (sym c.rules_called.ensures ∙ c.in-Some.is) c.in-Err.ensures.fault c.in_ok-no_value-in-Err.ensures.1
