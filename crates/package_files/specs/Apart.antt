-- Names of works that differ.
use Rattle.std.specs.Prelude.{◌≡◌, ◌≢◌, true, Bool}
use Rattle.host_core.specs.Paths.{Path, is_named_by}
use Rattle.package_files.specs.declared.work.Work.{Work}
use Rattle.package_files.specs.Files.{Misses}

-- the three names of one work differ
pub record IsApart (x : Work) : Type 0 where
  pub backup : x.backup ≢ x.target
  pub fresh : x.fresh ≢ x.target
  pub spare : x.fresh ≢ x.backup

-- two works share no name
pub record Differ (x y : Work) : Type 0 where
  pub target : Misses x y.target
  pub backup : Misses x y.backup
  pub fresh : Misses x y.fresh

-- each name of the work is its place or that with a reserved suffix
pub record IsByPlace (x : Work) : Type 0 where
  pub target : is_named_by x.target x.place ≡ true
  pub backup : is_named_by x.backup x.place ≡ true
  pub fresh : is_named_by x.fresh x.place ≡ true

-- an area has the names of the work
pub record HasNames (area : Path → Bool) (x : Work) : Type 0 where
  pub target : area x.target ≡ true
  pub backup : area x.backup ≡ true
  pub fresh : area x.fresh ≡ true
