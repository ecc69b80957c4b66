-- Which shipped paths are, as they are listed, places of targets of diversions (dpkg-divert(1)).
use Rattle.std.specs.Prelude.{◌≡◌, ℕ, List, Option, Some}
use Rattle.diversions.specs.Targets.{entry_to, owner_name}
use Rattle.diversions.specs.declared.entry.Diversion.{Diversion}
use Rattle.package_files.specs.declared.work.Work.{Work}
use Rattle.file_check.specs.Clashes.{Owning}

-- the diversion of another path to a shipped one, whoever's it is
abbrev pub diversion_to : Owning → Work → Option Diversion
diversion_to o s = entry_to o.ways s.path

-- there is one, by the package of this name, or by none
abbrev pub IsTargetOf : Owning → Work → Option (List ℕ) → Type 0
IsTargetOf o s diverter = (d : Diversion) × (diversion_to o s ≡ Some d) × (diverter ≡ owner_name d.owner)
