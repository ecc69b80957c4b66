-- What is asked of the diversions of an administration, and what came of it.
use Rattle.std.specs.Prelude.{◌≡◌, ℕ, Bool, MatchBool, not, IsNone, is_some, List, [], ◌∷◌, ◌++◌, Option, Some, None, Result, Ok, Err, codes, if◌then◌else◌}
use Rattle.host_core.specs.Host.{AtEachMoment, Needs, Reads, Silent, State}
use Rattle.host_core.specs.Paths.{is_ship_text}
use Rattle.host_core.specs.World.{World}
use Rattle.administration.specs.declared.fault.AdministrationFault.{AdministrationFault}
use Rattle.command_line.specs.declared.fault.NotOpened.{NotOpened}
use Rattle.diversions.specs.Ways.{Ways}
use Rattle.diversions.specs.declared.entry.Owner.{Owner}
use Rattle.diversions.specs.declared.entry.Owner.TheVariants.{Local, Package}
use Rattle.file_lists.specs.declared.paths.PackageList.{PackageList}
use Rattle.status_records.specs.declared.record.Record.{Record}
use Rattle.dpkg_session.specs.Diversions.{HasBroken, HasDiverted, HasUndiverted, IsDiverting, IsOneUnit, IsUndiverting}
use Rattle.diverting_beside.specs.Beside.{IsChangedBeside, IsUnreadBeside}
use Rattle.unit_reports.specs.Units.{CountsLast, TellsCalls, calls_told}
use Rattle.unit_reports.specs.declared.report.Report.{Report}
use Rattle.unit_reports.specs.declared.report.Unit.{Unit as AUnit}
use Rattle.command_words.specs.declared.diverting.Diverting.{Diverting}
use Rattle.command_words.specs.declared.diverting.Undiverting.{Undiverting}
use Rattle.dpkg_session.specs.Standing.{CountsRefusal}
use Rattle.command_line.specs.Roots.{Around, Given, IsFaultUnder, IsOpenedOn, IsRootFault}
use Rattle.command_line.specs.declared.changing.Change.{Change}
use Rattle.command_line.specs.declared.changing.Change.TheVariants as change

-- the administrator, or a package by its name
abbrev pub owner_in : Option (List ℕ) → Owner
owner_in None = Local
owner_in (Some name) = Package name

-- the target that is given, else the path with an ending
abbrev pub target_in : Option (List ℕ) → List ℕ → List ℕ
target_in None path = path ++ codes ".distrib"
target_in (Some target) path = target

-- the first of some texts that is no path that a package may ship
abbrev pub first_bad : List (List ℕ) → Option (List ℕ)
first_bad [] = None
first_bad (text ∷ texts) = if is_ship_text text then first_bad texts else Some text

-- of a diversion first the path is read, then the target
abbrev pub bad_of_divert : Diverting → Option (List ℕ)
bad_of_divert d = first_bad (d.path ∷ target_in d.target d.path ∷ [])

abbrev pub bad_of_undivert : Undiverting → Option (List ℕ)
bad_of_undivert u = first_bad (u.path ∷ [])

abbrev pub is_good : Option (List ℕ) → Bool
is_good bad = not (is_some bad)

-- the diversion that is to be added is that of the words
abbrev pub IsDivertOf : Diverting → Change → Type 0
IsDivertOf d (change.Divert asked) = (asked.path ≡ d.path) × (asked.target ≡ target_in d.target d.path) × (asked.owner ≡ owner_in d.owner) × (asked.rename ≡ d.rename)
IsDivertOf d (change.Undivert asked) = ⊥

-- the same of one that is to be taken away
abbrev pub IsUndivertOf : Undiverting → Change → Type 0
IsUndivertOf u (change.Divert asked) = ⊥
IsUndivertOf u (change.Undivert asked) = (asked.path ≡ u.path) × (asked.owner ≡ owner_in u.owner) × (asked.rename ≡ u.rename)

-- what is read of the words: a change, or the first text that is bad
abbrev pub IsRead : Option (List ℕ) → (Change → Type 0) → Result Change (List ℕ) → Type 0
IsRead bad P (Ok asked) = (bad ≡ None) × P asked
IsRead bad P (Err text) = bad ≡ Some text

-- the unit of a change, as a session carries it out
abbrev pub IsChangedBy : Change → List Record → List PackageList → Ways → Ways → AUnit → State → State → Type 0
IsChangedBy (change.Divert asked) table lists before after u s t = HasDiverted asked table lists before after u s t
IsChangedBy (change.Undivert asked) table lists before after u s t = HasUndiverted asked before after u s t

-- at each moment of it
abbrev pub IsChanging : Change → List Record → List PackageList → Ways → World → World → Type 0
IsChanging (change.Divert asked) table lists before old now = IsDiverting asked table lists before old now
IsChanging (change.Undivert asked) table lists before old now = IsUndiverting asked before old now

-- A change is one unit, from these records, lists and diversions, unless it was broken off. In any case no script is called, and
-- each world since is one of a moment of the change.
pub record HasChanged (asked : Change) (done : Report) (table : List Record) (lists : List PackageList) (before : Ways) (s end : State) : Type 0 where
  pub whole : IsNone done.last → (after : Ways) × IsOneUnit (λ u. IsChangedBy asked table lists before after u s end) done.units.items
  pub broken : HasBroken done
  pub counts : CountsLast s end done.last
  pub told : TellsCalls s end done
  pub silent : Silent s end
  pub any_moment : AtEachMoment (IsChanging asked table lists before) s end

-- the same, from what the administration that was opened on a host holds, to the state in which this host was given back
pub record IsChangedOn (left : Given) (begun : State) (asked : Change) (done : Report) : Type 0 where
  pub table : List Record
  pub lists : List PackageList
  pub ways : Ways
  pub state : State
  pub opened : IsOpenedOn begun state table lists ways
  pub end : State
  pub given : left end
  pub changed : HasChanged asked done table lists ways state end

-- the same, on a host behind the root's word
abbrev pub HasChangedUnder : Around → List ℕ → Change → Report → Type 0
HasChangedUnder a word asked done = (begun : State) × a.root word begun × IsChangedOn a.left begun asked done

-- what came of a change: its report, or why the root couldn't be opened
abbrev pub HasEndedAlone : Around → List ℕ → Change → Result Report NotOpened → Type 0
HasEndedAlone a word asked (Ok done) = HasChangedUnder a word asked done
HasEndedAlone a word asked (Err fault) = IsRootFault a word fault

-- A script's change is made beside the command that runs it: from what stands in the administration, which is only read, and nothing
-- else changes.
pub record HasChangedBeside (left : Given) (begun : State) (asked : Change) (done : Report) : Type 0 where
  pub end : State
  pub given : left end
  pub changed : IsChangedBeside (IsChangedBy asked) (IsChanging asked) done begun end
  pub broken : HasBroken done
  pub calls : calls_told done ≡ []
  pub silent : Silent begun end

-- why it isn't made: something of the administration can't be read, or the table can't be written
pub record IsRefusedBeside (left : Given) (begun : State) (fault : AdministrationFault) : Type 0 where
  pub end : State
  pub given : left end
  pub reads : Reads begun end
  pub silent : Silent begun end
  pub unread : Needs end (λ w. IsUnreadBeside begun.world fault)
  pub counts : CountsRefusal fault begun end

abbrev pub HasEndedBeside : Around → List ℕ → Change → Result Report NotOpened → Type 0
HasEndedBeside a word asked (Ok done) = (begun : State) × a.root word begun × HasChangedBeside a.left begun asked done
HasEndedBeside a word asked (Err fault) = IsFaultUnder IsRefusedBeside a word fault

-- what came of a change that a person or a script asks for
abbrev pub HasEndedChange : Around → List ℕ → Change → Result Report NotOpened → Type 0
HasEndedChange a word asked ended = MatchBool a.beside (HasEndedBeside a word asked ended) (HasEndedAlone a word asked ended)
