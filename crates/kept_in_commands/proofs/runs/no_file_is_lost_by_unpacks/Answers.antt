use Rattle.kept_in_commands.proofs.UnpackRuns.{run_leaves}
use Rattle.kept_in_commands.proofs.runs.no_file_is_lost_by_unpacks.Goals as goal

pub returns-clause-kept : goal.returns-clause-kept
returns-clause-kept c = λ allowed cs us before after s t owner q place stands run through honest. (run_leaves owner q place.packaged allowed cs us before after s t run through place.has).keeps honest stands

pub returns-clause-held : goal.returns-clause-held
returns-clause-held c = λ allowed cs us before after s t owner q place run through. (run_leaves owner q place.packaged allowed cs us before after s t run through place.has).has
