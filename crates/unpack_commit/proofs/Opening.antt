-- What can be opened at each moment of a commit.
use Rattle.std.proofs.Common.{◌≡◌, List, [], ◌++◌, refl}
use Rattle.host_core.specs.World.{World}
use Rattle.diversions.specs.Ways.{Ways}
use Rattle.file_lists.specs.declared.paths.PackageList.{PackageList}
use Rattle.status_db.specs.Held.{CanOpenRecords, HasRecords}
use Rattle.status_records.specs.declared.record.Record.{Record}
use Rattle.unpack_commit.specs.Commit.{Changes, MayCommit}
use Rattle.unpack_commit.specs.Takeover.{put_records}

module _ (c : Changes) (ways : Ways) (lists : List PackageList) (records before : List Record) (old now : World) where
  abbrev HasSome : Type 0
  HasSome = (front : List Record) × (back : List Record) × (records ≡ front ++ back) × HasRecords now (put_records front before)

  none_yet : HasRecords now before → HasSome
  none_yet has = ([], records, refl, has)

  pub records_amid : MayCommit c ways lists records before old now → HasSome
  records_amid (MayCommit.renewing may has opens) = none_yet has
  records_amid (MayCommit.replacing renewed stale first is has opens) = none_yet has
  records_amid (MayCommit.releasing renewed stored stale first second whole may has opens) = none_yet has
  records_amid (MayCommit.noting renewed stored released stale first second whole third is) = (is.front, is.back, is.are, is.has)

  pub opens_amid : MayCommit c ways lists records before old now → CanOpenRecords now
  opens_amid (MayCommit.renewing may has opens) = opens
  opens_amid (MayCommit.replacing renewed stale first is has opens) = opens
  opens_amid (MayCommit.releasing renewed stored stale first second whole may has opens) = opens
  opens_amid (MayCommit.noting renewed stored released stale first second whole third is) = is.opens
