-- The table of diversions is read again before a unit, and before a command.
use Rattle.std.specs.Prelude.{◌≡◌, ◌⊎◌, ℕ, Bool, IsSomeAnd, IsTrue, List, [], Option}
use Rattle.administration.specs.Places.{diversions_path}
use Rattle.administration.specs.declared.fault.AdministrationFault.{AdministrationFault}
use Rattle.administration.specs.declared.fault.AdministrationFault.TheVariants as fault
use Rattle.aliases.specs.Aliases.{Alias}
use Rattle.diversions.specs.Lines.{HasDiversions, IsDamageAt}
use Rattle.diversions.specs.Ways.{Ways}
use Rattle.file_lists.specs.Followed.{AreFollowed, AreWhole, diverted_paths}
use Rattle.file_lists.specs.declared.paths.PackageList.{PackageList}
use Rattle.host_core.specs.Events.{Event, scripts_of}
use Rattle.host_core.specs.Host.{NoFault, Reads, Silent, State}
use Rattle.host_core.specs.World.{World}
use Rattle.package_tree.specs.ShipMap.{paths_of}
use Rattle.package_tree.specs.declared.package.Package.{Package}
use Rattle.unit_reports.specs.Held.{Held}
use Rattle.unit_reports.specs.Units.{IsBroken, IsBrokenBy, TellsNoPackage}
use Rattle.unit_reports.specs.declared.report.Breakage.{Breakage}
use Rattle.unit_reports.specs.declared.report.Breakage.TheVariants.{Device, NoMemory, Declined, Damaged}
use Rattle.unit_reports.specs.declared.report.Unit.{Unit as AUnit}
use Rattle.dpkg_session.specs.Growth.{AreAdded, with_more}

-- the same records and lists, with other ways
abbrev pub with_ways : Held → Ways → Held
with_ways h ways = record { records = h.records; lists = h.lists; ways = ways }

-- The aliases are ones of this world; each listed path is followed to where it leads, and so is each that a diversion names.
pub record AreReadAnew (lists : List PackageList) (ways : Ways) (w : World) : Type 0 where
  pub listed : AreFollowed lists ways w
  pub diverted : AreWhole w (diverted_paths ways.entries) ways.aliases

-- The entries are those of the file. Where they are those that were held the aliases are too; else they were read anew.
pub record IsReread (before : Held) (w : World) (now : Ways) : Type 0 where
  pub entries : HasDiversions w now.entries
  pub aliases : (now ≡ before.ways) ⊎ AreReadAnew before.lists now w

-- what a fault of the reading breaks off
abbrev pub reading_breakage : AdministrationFault → Breakage
reading_breakage (fault.Damaged file line) = Damaged
reading_breakage fault.Device = Device
reading_breakage fault.NoMemory = NoMemory
reading_breakage fault.Declined = Declined

-- the file can't be read
abbrev pub IsTableDamaged : World → Type 0
IsTableDamaged w = (line : ℕ) × IsDamageAt (w diversions_path) line

-- The table was read again, and then what was missing of the aliases above the paths that a package ships.
pub record IsReadFor (p : Package) (before : Held) (w : World) (now : Ways) : Type 0 where
  pub table : Ways
  pub reread : IsReread before w table
  pub added : List Alias
  pub above : AreAdded w (paths_of p.files) table.aliases added
  pub more : now ≡ with_more table added

-- the same where the answers were true
abbrev pub HasRead : Package → Held → Ways → World → Bool → Type 0
HasRead p before now w honest = IsTrue honest → IsReadFor p before w now

-- Before a command the table was read again; nothing was done by then, and these are the ways that the command goes by.
pub record HasReread (before : Held) (ways : Ways) (s m : State) : Type 0 where
  pub reads : Reads s m
  pub silent : Silent s m
  pub faults : NoFault s m
  pub found : IsTrue m.honest → IsReread before s.world ways

-- behind that P holds of what is held, and of the state of the host
abbrev pub BehindReading : (Held → State → Type 0) → Held → State → Type 0
BehindReading P before s = (ways : Ways) × (m : State) × HasReread before ways s m × P (with_ways before ways) m

-- at each moment: nothing is done yet, or the table was read and the command is under way
abbrev pub IsAmidReading : (Held → State → List Event → World → Type 0) → Held → State → List Event → World → Type 0
IsAmidReading P before s so_far now = ((now ≡ s.world) × (scripts_of so_far ≡ []))
    ⊎ ((ways : Ways) × (m : State) × HasReread before ways s m × P (with_ways before ways) m so_far now)

-- The unit that was broken off as the table was read: it tells no call and no package, and is told as damage only where the file can't be
-- read.
pub record IsUnreadUnit (s t : State) (u : AUnit) : Type 0 where
  pub broken : IsBroken u.reply
  pub calls : u.calls.items ≡ []
  pub touched : TellsNoPackage u
  pub damaged : IsBrokenBy Damaged u.reply → IsTrue t.honest → IsTableDamaged s.world

-- it is all that is reported, and nothing was done
pub record IsUnread (us : List AUnit) (stopped : Option AUnit) (s t : State) : Type 0 where
  pub units : us ≡ []
  pub last : IsSomeAnd stopped (IsUnreadUnit s t)
  pub reads : Reads s t
  pub silent : Silent s t
