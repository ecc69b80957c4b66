-- What the overrides of a root make of a package that is to be unpacked.
use Rattle.std.specs.Prelude.{◌≡◌, ℕ, Bool, IsTrue, Option, Some, None, Result, Ok, Err}
use Rattle.host_core.specs.Paths.{Path}
use Rattle.host_core.specs.World.{World}
use Rattle.package_tree.specs.declared.package.Package.{Package}
use Rattle.stat_overrides.specs.Overrides.{overrides_of}
use Rattle.stat_overrides.specs.Packages.{first_unknown, overridden}
use Rattle.stat_overrides.specs.declared.table.Overrides.{Overrides}
use Rattle.unit_reports.specs.declared.refusal.Rule.{Rule}
use Rattle.unit_reports.specs.declared.refusal.Rule.TheVariants.{OverrideLine, OwnerUnknown}

-- they are those of this world, or its first faulty line, where the answers were true
abbrev pub AreOverrides : Result Overrides ℕ → World → Bool → Type 0
AreOverrides read w honest = IsTrue honest → read ≡ overrides_of w

-- a path refuses it of which the number of an owner isn't known; else it has the accesses of the overrides
abbrev pub taken_by : Overrides → Package → Option Path → Result Package Rule
taken_by overrides p (Some path) = Err (OwnerUnknown path)
taken_by overrides p None = Ok (overridden overrides p)

abbrev pub taken_from : Overrides → Package → Result Package Rule
taken_from overrides p = taken_by overrides p (first_unknown overrides p.files)

-- a faulty line refuses it, whatever it ships
abbrev pub taken_with : Result Overrides ℕ → Package → Result Package Rule
taken_with (Err line) p = Err (OverrideLine line)
taken_with (Ok overrides) p = taken_from overrides p
