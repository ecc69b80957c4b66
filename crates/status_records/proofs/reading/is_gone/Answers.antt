use Rattle.std.proofs.Common.{ap, ◌∙◌}
use Rattle.status_records.specs.Words.{is_not_installed}
use Rattle.status_records.proofs.Sayings.{not_gone, gone_by}
use Rattle.status_records.proofs.reading.is_gone.Goals as goal

pub returns-in-None : goal.returns-in-None
returns-in-None c = not_gone c.args.fields.now c.in-None.ensures.none

pub returns-in-Some : goal.returns-in-Some
returns-in-Some c = gone_by c.args.fields.now _ _ _ c.is_not_installed.result c.in-Some.ensures.some (c.is_not_installed.ensures ∙ ap is_not_installed c.state.ensures)
