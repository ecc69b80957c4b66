-- Conffiles that another program unpacked are taken up behind the opening.
use Rattle.std.specs.Prelude.{◌≡◌, ◌⊎◌, List, [], ◌++◌, Option, Some, None}
use Rattle.administration.specs.declared.fault.AdministrationFault.{AdministrationFault}
use Rattle.adopted_conffiles.specs.Adopted.{all_adopted, all_taken}
use Rattle.adopted_conffiles.specs.Adopting.{IsAdopting}
use Rattle.diversions.specs.Ways.{Ways}
use Rattle.file_lists.specs.declared.paths.PackageList.{PackageList}
use Rattle.host_core.specs.World.{World, KeepsBut}
use Rattle.status_db.specs.Held.{HasRecords, is_record_place}
use Rattle.status_records.specs.declared.record.Record.{Record}
use Rattle.opening.specs.Architectures.{AreOfOne, AreOfTwo}
use Rattle.opening.specs.Followed.{IsFollowed}
use Rattle.opening.specs.Leaving.{IsOpeningOrMerging}
use Rattle.opening.specs.Opened.{IsOpened}
use Rattle.opening.specs.Parts.{IsDamaged, OpensAndMerges}

-- At each moment: the administration is being opened; or that was done, and records are being taken up, with which another program left
-- shipped conffiles beside their places, or that is being merged into the status file.
pub data IsOpeningOrAdopting (old now : World) : Type 0 where
  opening : IsOpeningOrMerging old now → IsOpeningOrAdopting old now
  adopting : (read : World) (ways : Ways) (table : List Record) (lists : List PackageList) → IsOpeningOrMerging old read → IsOpened table lists ways.entries read → IsAdopting ways table read now → IsOpeningOrAdopting old now

-- behind an administration that was opened, of packages of one architecture, records were taken up and that merged, or it was broken off, which is never damage
pub record HasTakenUp (fault : Option AdministrationFault) (read new : World) : Type 0 where
  pub sound : IsDamaged fault → ⊥
  pub ways : Ways
  pub table : List Record
  pub records : HasRecords read table
  pub one : AreOfOne table
  pub adopting : IsAdopting ways table read new

-- nothing was taken up, since its packages are of two architectures, or what is told of that failed
pub record IsOfTwo (fault : AdministrationFault) (read new : World) : Type 0 where
  pub still : new ≡ read
  pub table : List Record
  pub records : HasRecords read table
  pub told : AreOfTwo read table fault

abbrev pub IsRefused : Option AdministrationFault → World → World → Type 0
IsRefused None read new = ⊥
IsRefused (Some fault) read new = IsOfTwo fault read new

-- what was told of the opening is told, and nothing was taken up
abbrev pub TakesUp : Option AdministrationFault → Option AdministrationFault → World → World → Type 0
TakesUp (Some found) fault read new = (fault ≡ Some found) × (new ≡ read)
TakesUp None fault read new = IsRefused fault read new ⊎ HasTakenUp fault read new

-- the administration was opened, and after that records were taken up
pub record OpensAndAdopts (fault : Option AdministrationFault) (old new : World) : Type 0 where
  pub read : World
  pub found : Option AdministrationFault
  pub opens : OpensAndMerges found old read
  pub takes : TakesUp found fault read new

-- why an administration isn't opened before anything is taken up: a part can't be read, or its packages are of two architectures
abbrev pub IsShut : AdministrationFault → World → World → Type 0
IsShut fault old new = OpensAndMerges (Some fault) old new ⊎ ((read : World) × OpensAndMerges None old read × IsOfTwo fault read new)

-- These are the records of an administration that was opened as they were taken up, by the files that stood in it then, at the places to
-- which its paths led; only they have changed, and where none was taken up nothing has.
pub record IsTakenUp (table : List Record) (lists : List PackageList) (ways : Ways) (old new : World) : Type 0 where
  pub read : World
  pub before : List Record
  pub opens : OpensAndMerges None old read
  pub opened : IsOpened before lists ways.entries read
  pub followed : IsFollowed lists ways read
  pub one : AreOfOne before
  pub are : table ≡ all_adopted read ways before
  pub still : all_taken read ways before ≡ [] → new ≡ read
  pub rest : KeepsBut is_record_place read new

-- of these records some, from the first on, stand as they are taken up by the files of some world, and the others as they are
pub record ArePartlyTakenUp (table : List Record) (now : World) : Type 0 where
  pub files : World
  pub ways : Ways
  pub front : List Record
  pub back : List Record
  pub is : table ≡ front ++ back
  pub records : HasRecords now (all_adopted files ways front ++ back)
