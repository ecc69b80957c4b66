-- The reading of a package's tree (Policy 5.6, 6.1).
use Rattle.std.specs.Prelude.{◌≡◌, ◌⊎◌, ◌↔◌, ℕ, List, IsTrue}
use Rattle.host_core.specs.Paths.{Path}
use Rattle.host_core.specs.World.{World}
use Rattle.host_core.specs.declared.call.Script.{Script}
use Rattle.control_fields.specs.declared.field.Field.{Field}
use Rattle.administration.specs.Scripts.{script_of, file_of}
use Rattle.stated_relations.specs.Stated.{States}
use Rattle.package_tree.specs.ControlFile.{IsControlText, IsTextFault}
use Rattle.package_tree.specs.ControlLimit.{HasNoneOver, IsFirstOver, IsFirstOverOther, IsOver, IsOverOther}
use Rattle.package_tree.specs.Debian.{HasFile, Ships, control_path, conffiles_path, script_path, member_paths, lists_conffiles}
use Rattle.package_tree.specs.Conffiles.{entries_at, HasNoEntry, IsFirstOdd}
use Rattle.package_tree.specs.ConffileFaults.{AreNamed, HasGoodLines, IsAstray, IsFirstAstray, IsFlaggedAndShipped}
use Rattle.package_tree.specs.Fault.{IsHostFault}
use Rattle.package_tree.specs.PathFaults.{HasGoodPaths, IsBadPath}
use Rattle.package_tree.specs.OtherFiles.{AreOthers}
use Rattle.package_tree.specs.Owners.{root_at}
use Rattle.package_tree.specs.ShipMap.{AreFiles, IsExcess, IsTooLarge}
use Rattle.package_tree.specs.Shipped.{HasNoPath, IsFirstPath, IsReserved}
use Rattle.package_tree.specs.declared.collecting.Excess.TheVariants.{Large, Many}
use Rattle.package_tree.specs.declared.conffile_lines.Entry.TheVariants.{Plain, Flagged}
use Rattle.package_tree.specs.declared.package.Package.{Package}
use Rattle.package_tree.specs.declared.fault.TreeFault.{TreeFault}
use Rattle.package_tree.specs.declared.fault.TreeFault.TheVariants.{Twice, NoRoom, NoControl, Control, FieldMissing, FieldBad, PathBad, Reserved, ConffileNotShipped, ConffileShipped, ConffileFlag, TooLarge, TooMany, Device, NoMemory, Declined}

-- the tree's control file has this text, and no more than may be
abbrev pub HasControl : World → List ℕ → Type 0
HasControl w text = HasFile w control_path text × (IsOver (w control_path) → ⊥)

-- the tree is that of this package
pub record IsTreeOf (w : World) (p : Package) : Type 0 where
  -- the control file's text, which is the package's paragraph
  pub text : List ℕ
  pub there : HasControl w text
  pub control : IsControlText text p.control p.name p.version
  -- what its fields say of other packages
  pub relations : ∥ States p.control p.relations ∥₁
  -- each script is the file in `DEBIAN` by its name, given to root, or missing where there is none
  pub scripts : (script : Script) → file_of (script_of p.scripts script) ≡ root_at (w (script_path script))
  -- neither `conffiles` nor a script is too large
  pub members : HasNoneOver w member_paths
  pub paths : HasGoodPaths w
  pub lines : HasGoodLines w
  -- no shipped path is more than a tree may hold
  pub room : HasNoPath (IsTooLarge w)
  pub files : AreFiles w p.files
  -- the conffiles, and the paths that go with the upgrade to this package
  pub conffiles : AreNamed Plain (entries_at (w conffiles_path)) p.conffiles
  pub flagged : AreNamed Flagged (entries_at (w conffiles_path)) p.flagged
  pub others : AreOthers w p.others
  -- none of them is too large
  pub small : HasNoPath (IsOverOther w)
  pub has_conffiles : p.has_conffiles ≡ lists_conffiles (w conffiles_path)
  pub ships : IsTrue p.ships ↔ Ships w

-- a control file that can be read, with nothing wrong in it
abbrev pub HasGoodControl : World → Type 0
HasGoodControl w = (text : List ℕ) × HasControl w text × ((paragraph : List Field) × (name : List ℕ) × (version : List ℕ) × IsControlText text paragraph name version)

-- the same, and what else of `DEBIAN` is looked at before the paths isn't too large
abbrev pub HasGoodFiles : World → Type 0
HasGoodFiles w = HasGoodControl w × HasNoneOver w member_paths

-- Too large is the control file; or `conffiles` or a script, where nothing is wrong with the control file.
abbrev pub IsOverMember : World → Path → Type 0
IsOverMember w path = ((path ≡ control_path) × IsOver (w control_path)) ⊎ (HasGoodControl w × IsFirstOver w member_paths path)

-- Too large is a shipped file; or another file of `DEBIAN` that would be stored, where what is shipped is no more than may be.
abbrev pub IsOverStored : World → Path → Type 0
IsOverStored w path = IsExcess w (Large path) ⊎ (HasNoPath (IsTooLarge w) × IsFirstOverOther w path)

-- the control file is there, and this is the first thing that is wrong with its text
abbrev pub HasControlFault : World → TreeFault → Type 0
HasControlFault w fault = (text : List ℕ) × HasControl w text × IsTextFault text fault

-- the tree has this fault, and none that is looked for before it; the host's faults are none of the tree
abbrev pub IsTreeFault : World → TreeFault → Type 0
IsTreeFault w Twice = ⊥
IsTreeFault w (NoRoom path) = ⊥
IsTreeFault w NoControl = (text : List ℕ) → HasFile w control_path text → ⊥
IsTreeFault w (Control fault) = HasControlFault w (Control fault)
IsTreeFault w (FieldMissing name) = HasControlFault w (FieldMissing name)
IsTreeFault w (FieldBad name) = HasControlFault w (FieldBad name)
IsTreeFault w (PathBad path) = HasGoodFiles w × IsFirstPath (IsBadPath w) path
IsTreeFault w (Reserved path) = HasGoodFiles w × HasNoPath (IsBadPath w) × IsFirstPath (IsReserved w) path
IsTreeFault w (ConffileNotShipped name) = HasGoodFiles w × HasGoodPaths w × IsFirstAstray w (entries_at (w conffiles_path)) name
IsTreeFault w (ConffileShipped path) =
    HasGoodFiles w × HasGoodPaths w × HasNoEntry (IsAstray w) (entries_at (w conffiles_path)) × IsFirstPath (IsFlaggedAndShipped w) path
IsTreeFault w (ConffileFlag line) =
    HasGoodFiles w × HasGoodPaths w × HasNoEntry (IsAstray w) (entries_at (w conffiles_path)) × HasNoPath (IsFlaggedAndShipped w)
    × IsFirstOdd (entries_at (w conffiles_path)) line
IsTreeFault w (TooLarge path) = IsOverMember w path ⊎ (HasGoodFiles w × HasGoodPaths w × HasGoodLines w × IsOverStored w path)
IsTreeFault w TooMany = HasGoodFiles w × HasGoodPaths w × HasGoodLines w × ((path : Path) × IsExcess w (Many path))
IsTreeFault w Device = ⊥
IsTreeFault w NoMemory = ⊥
IsTreeFault w Declined = ⊥

-- what a reading may answer in place of the package: the tree's first fault, or one of the host
abbrev pub IsReadingFault : World → TreeFault → Type 0
IsReadingFault w fault = IsTreeFault w fault ⊎ IsHostFault fault
