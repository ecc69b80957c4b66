use Rattle.std.proofs.Common.{sym, subst}
use Rattle.file_lists.specs.Index.{IsGathering}
use Rattle.file_lists.proofs.Gathering.{gathering_start, gathering_more, gathering_all, no_length}
use Rattle.file_lists.proofs.Spots.{behind_least}
use Rattle.file_lists.proofs.owners.gather.Goals as goal

pub loop-spot-init : goal.loop-spot-init
loop-spot-init c = subst (IsGathering c.args.diversions.now.ways c.args.at.now c.args.lists.now c.args.spots.now.keys) (sym c.new.ensures.items) (gathering_start c.args.diversions.now.ways c.args.at.now c.args.lists.now c.args.spots.now.keys c.requires)

pub loop-spot-preserved : goal.loop-spot-preserved
loop-spot-preserved c = gathering_more c.args.diversions.now.ways c.args.at.now c.args.lists.now c.loop-spot.spots.keys c.pop_first.new.self.keys c.in-Some.spot c.loop-spot.owners c.take_owner_at.new.owners c.loop-spot.invariant c.in-Some.ensures.removal (behind_least c.in-Some.spot c.pop_first.new.self.keys c.in-Some.ensures.all_above) c.in_ok-take_owner_at.ensures

pub returns : goal.returns
returns c = gathering_all c.args.diversions.now.ways c.args.at.now c.args.lists.now c.loop-spot.spots.keys c.loop-spot.owners c.loop-spot.invariant (no_length c.loop-spot.spots.keys c.in_default.ensures.variant.1)
