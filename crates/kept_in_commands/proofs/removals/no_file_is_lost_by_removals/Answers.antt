use Rattle.kept_in_commands.proofs.RemovalRuns.{moment_keeps, part_keeps, run_keeps}
use Rattle.kept_in_commands.proofs.removals.no_file_is_lost_by_removals.Goals as goal

pub returns-clause-whole : goal.returns-clause-whole
returns-clause-whole c = λ names options us before after s t q place run honest. run_keeps names options before q place us after s t run honest

pub returns-clause-part : goal.returns-clause-part
returns-clause-part c = λ names options us last before s t q place run honest. part_keeps names options before q place us last s t run honest

pub returns-clause-moments : goal.returns-clause-moments
returns-clause-moments c = λ names options before s so_far now q place amid. moment_keeps names options before q place s so_far now amid
