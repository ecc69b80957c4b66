use Rattle.dependency_sets.specs.Sets.{has}
use Rattle.dependency_check.proofs.MeetingLaws.{met_by_is}
use Rattle.dependency_check.proofs.meeting.is_met_by.Goals as goal

pub returns : goal.returns
returns c = met_by_is c.args.packages.now c.args.clause.now (has c.args.set.now) c.in_ok-meeters.meeters c.as_slice.result.now c.has_one-met.result c.in_ok-meeters.ensures c.as_slice.ensures c.has_one-met.ensures
