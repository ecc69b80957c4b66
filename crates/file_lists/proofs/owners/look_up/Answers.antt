use Rattle.std.proofs.Common.{sym, subst}
use Rattle.file_lists.specs.Index.{AreKeys}
use Rattle.file_lists.proofs.Gathering.{has_owners}
use Rattle.file_lists.proofs.owners.look_up.Goals as goal

pub gather-requires : goal.gather-requires
gather-requires c =
    has_owners c.args.diversions.now.ways c.args.at.now c.as_slice.result.now c.args.index.now c.args.lists.now c.in_ok-spots.spots.keys
    (subst (AreKeys c.args.diversions.now.ways c.args.at.now) (sym c.as_slice.ensures) c.in_ok-keys.ensures) c.requires.aliases c.requires.complete c.in_ok-spots.ensures
