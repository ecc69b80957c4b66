-- How much goes of each package (Policy 6.8).
use Rattle.std.specs.Prelude.{ℕ, Bool, true, false, List, Option, Some, None}
use Rattle.status_records.specs.Records.{record_in}
use Rattle.status_records.specs.declared.record.Record.{Record}
use Rattle.status_records.specs.declared.words.Want.{Want}
use Rattle.status_records.specs.declared.words.Want.TheVariants as want
use Rattle.removal_run.specs.declared.extents.Extents.{Extents}
use Rattle.removal_run.specs.declared.extents.Extents.TheVariants.{Removed, Purged, Selected}
use Rattle.removal_run.specs.declared.options.RemovalOptions.{RemovalOptions}

-- its purge is wanted
abbrev pub is_purge : Want → Bool
is_purge want.Unknown = false
is_purge want.Install = false
is_purge want.Hold = false
is_purge want.Deinstall = false
is_purge want.Purge = true

-- by its record; of a package without one nothing is wanted
abbrev pub wants_purge : Option Record → Bool
wants_purge None = false
wants_purge (Some r) = is_purge r.want

-- all of a package goes: of each one, of none, or as it is wanted
abbrev pub purges_of : Extents → Option Record → Bool
purges_of Removed entry = false
purges_of Purged entry = true
purges_of Selected entry = wants_purge entry

-- all goes of the package of this name, as it is recorded
abbrev pub purges : Extents → List Record → List ℕ → Bool
purges extents records name = purges_of extents (record_in records name)

-- so much of each package, where it is heeded or ignored that others depend on it
abbrev pub removing : Extents → Bool → RemovalOptions
removing extents ignore_depends = record { extents = extents; ignore_depends = ignore_depends }
