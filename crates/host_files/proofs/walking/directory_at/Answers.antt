use Rattle.std.proofs.Common.{◌∙◌}
use Rattle.host_files.proofs.Meeting.{path_at}
use Rattle.host_files.proofs.walking.directory_at.Goals as goal

pub returns : goal.returns
returns c = c.in_ok-path.ensures.cases ∙ path_at c.args.walked.now c.args.at c.index-walked-at.result c.requires c.index-walked-at.is
