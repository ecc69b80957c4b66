-- What an opening does about names with an architecture, before all else.
use Rattle.std.specs.Prelude.{◌≡◌, ◌⊎◌, ◌||◌, ◌&&◌, not, ℕ, Bool, false, true, List, None, IsSome, codes, nat_eq}
use Rattle.std.specs.List.{ends_with, list_all, list_any}
use Rattle.std.specs.Str.{bytes_eq}
use Rattle.host_core.specs.Paths.{Path}
use Rattle.host_core.specs.World.{World}
use Rattle.host_core.specs.Tree.{IsListing, has_slash}
use Rattle.administration.specs.Directories.{HasBadName}
use Rattle.administration.specs.Files.{NoDirectory}
use Rattle.administration.specs.Places.{info_path}
use Rattle.administration.specs.declared.fault.AdministrationFault.{AdministrationFault}
use Rattle.administration.specs.declared.fault.AdministrationFault.TheVariants.{Damaged, Device, NoMemory, Declined}
use Rattle.file_lists.specs.Info.{entry_path}
use Rattle.status_db.specs.Held.{HasRecords}
use Rattle.status_db.specs.NoteDamage.{AreRecordsDamaged}
use Rattle.status_records.specs.declared.record.Record.{Record}
use Rattle.info_format.specs.Converting.{IsConverted, IsConverting, IsNamesDamage}
use Rattle.info_format.specs.Format.{AreDoubles, HasLong, format_path}
use Rattle.info_format.specs.Names.{Architectures, architectures}

abbrev pub is_format : Path → Bool
is_format entry = bytes_eq entry (codes "format")

-- an entry whose name has an architecture, or that tells the format
abbrev pub is_named : Path → Bool
is_named entry = list_any (λ b. nat_eq b 58) entry || is_format entry

abbrev pub is_plain_name : Path → Bool
is_plain_name entry = not (is_named entry)

-- At each moment: nothing was done, or names were brought to format 0 by the records that stand.
abbrev pub IsNaming : World → World → Type 0
IsNaming old now = (now ≡ old) ⊎ ((table : List Record) × HasRecords old table × IsConverting (architectures table) old now)

-- why nothing is done: there is nothing to do, whatever the records, or what there is can't be read, which is told later
abbrev pub IsIdle : World → Type 0
IsIdle w = ((arches : Architectures) → IsConverted arches w w) ⊎ (NoDirectory (w info_path) ⊎ (HasBadName w info_path ⊎ ((file : Path) × (line : ℕ) × AreRecordsDamaged w file line)))

-- what was done
abbrev pub AreDone : World → World → Type 0
AreDone old new = ((new ≡ old) × IsIdle old) ⊎ ((table : List Record) × HasRecords old table × IsConverted (architectures table) old new)

-- that it couldn't be
abbrev pub AreDamaged : World → AdministrationFault → Type 0
AreDamaged w (Damaged file line) = (table : List Record) × HasRecords w table × IsNamesDamage (architectures table) w (Damaged file line)
AreDamaged w Device = Unit {0}
AreDamaged w NoMemory = Unit {0}
AreDamaged w Declined = Unit {0}

-- a colon stands in the name, as before an architecture; one under which a file is written isn't looked at
abbrev pub is_long : Path → Bool
is_long entry = list_any (λ b. nat_eq b 58) entry && not (ends_with nat_eq entry (codes ".dpkg-inst"))

-- no entry's name has an architecture
abbrev pub AreShort : World → Type 0
AreShort w = (entry : Path) → has_slash entry ≡ false → IsSome (w (entry_path entry)) → is_long entry ≡ false

-- no control file of any package has a name with an architecture
abbrev pub HaveShortNames : World → Type 0
HaveShortNames w = (arches : Architectures) → HasLong arches w → ⊥

-- each control file is read by its name without an architecture: none has another name, or it's format 0, where such a name stands
-- beside no other file
abbrev pub AreReadShort : World → Type 0
AreReadShort w = HaveShortNames w ⊎ ((w format_path ≡ None) × ((arches : Architectures) → AreDoubles arches w))

-- no entry of the directory has such a name
abbrev pub IsPlain : World → Type 0
IsPlain w = (names : List Path) × IsListing w info_path names false × (list_all is_plain_name names ≡ true)
