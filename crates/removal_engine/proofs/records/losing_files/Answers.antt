use Rattle.std.proofs.Common.{◌≡◌, ◌∙◌, ap}
use Rattle.status_records.specs.Standings.{removed}
use Rattle.removal_engine.proofs.records.losing_files.Goals as goal

pub returns : goal.returns
returns c = c.in_ok-removed.ensures ∙ ap removed c.in_ok-standing.ensures
