-- How far a package's configuring is at a moment: its record, its list, and the files of its conffiles (Policy 6.7, 10.7.3).
use Rattle.std.specs.Prelude.{◌≡◌, ◌≢◌, ◌⊎◌, ℕ, Bool, false, List, [], Option, Some, Contains}
use Rattle.std.specs.List.{list_any}
use Rattle.host_core.specs.Paths.{Path, is_below_administration}
use Rattle.host_core.specs.World.{World, Change, changed}
use Rattle.host_core.specs.declared.node.Node.{Node}
use Rattle.conffiles.specs.Settling.{files_at, is_conffile_name, IsBetween, IsDecided, settled_files}
use Rattle.conffiles.specs.declared.decisions.Decision.{Decision}
use Rattle.diversions.specs.Ways.{Ways}
use Rattle.file_lists.specs.Owners.{paths_of}
use Rattle.file_lists.specs.Writing.{list_file}
use Rattle.status_records.specs.Conffiles.{recorded_digest}
use Rattle.status_db.specs.Held.{CanOpenRecords, HasRecords}
use Rattle.status_records.specs.Records.{record_in}
use Rattle.status_records.specs.Standings.{configured}
use Rattle.status_records.specs.declared.record.Record.{Record}
use Rattle.configure_engine.specs.Settled.{settled}
use Rattle.configure_engine.specs.Stages.{half, listed_without}
use Rattle.configure_engine.specs.Units.{Given}
use Rattle.configure_engine.specs.Waiting.{going_paths, pending_digest, place_of, settling_paths, settling_places}
use Rattle.stop_laws.specs.Left.{IsRecorded}

-- a name at which files of a conffile that is to be settled stand
abbrev pub is_settling_name : Ways → Record → Path → Bool
is_settling_name ways r q = list_any (λ x. is_conffile_name x q) (settling_places ways r)

-- but for what is below the administration's directory script calls alone changed what stands at a path
abbrev pub IsScriptedElsewhere : Change → World → World → Type 0
IsScriptedElsewhere change old now = (q : Path) → is_below_administration q ≡ false → now q ≡ changed change old q

-- as it was found, or half-configured, with the shipped digests that aren't settled yet
abbrev pub IsWaitingRecord : Record → Option Record → Type 0
IsWaitingRecord r o = (o ≡ Some r) ⊎ (o ≡ Some (half r))

abbrev pub IsHalfRecord : Record → Option Record → Type 0
IsHalfRecord r o = o ≡ Some (half r)

-- half-configured with the settled digests, or configured; or half-configured as it was found, where nothing is to be settled
pub data IsSettledRecord (ways : Ways) (r : Record) (o : Option Record) : Type 0 where
  settled_half : o ≡ Some (half (settled r)) → IsSettledRecord ways r o
  nothing : settling_paths ways r ≡ [] → o ≡ Some (half r) → IsSettledRecord ways r o
  installed : o ≡ Some (configured (settled r)) → IsSettledRecord ways r o

-- nothing but files of conffiles that are to be settled is changed
abbrev pub AreOthersSame : Ways → Record → World → World → Type 0
AreOthersSame ways r old now = (q : Path) → is_below_administration q ≡ false → is_settling_name ways r q ≡ false → now q ≡ old q

module _ (g : Given) (r : Record) where
  -- the records at a moment: its own is one of these, and those of other packages are as before
  pub record HasRecordsAmid (now : World) : Type 0 where
    pub table : List Record
    pub records : HasRecords now table
    pub opens : CanOpenRecords now
    pub own : IsWaitingRecord r (record_in table g.name) ⊎ IsSettledRecord g.ways r (record_in table g.name)
    pub others : (q : List ℕ) → q ≢ g.name → record_in table q ≡ record_in g.before.records q

  -- its list: that of before, or that without the paths that go
  abbrev pub IsOwnList : Option Node → Option Node → Type 0
  IsOwnList before now = (now ≡ before) ⊎ (now ≡ Some (list_file (listed_without (going_paths r) (paths_of g.before.lists g.name))))

  module _ (old : World) where
    -- what is decided of a conffile, by the digests recorded and shipped and by what stood at its place when the unit began
    abbrev pub IsFirstDecided : Path → Decision → Type 0
    IsFirstDecided x decision = IsDecided (recorded_digest r.conffiles x) (pending_digest r.pending x) g.policy (files_at old (place_of g.ways x)) decision

    -- its files are on the way from those of before to those that the decision leaves, or at either end
    pub record IsConffileAmid (now : World) (x : Path) : Type 0 where
      pub decision : Decision
      pub decided : IsFirstDecided x decision
      pub between : IsBetween (files_at old (place_of g.ways x)) (settled_files decision (files_at old (place_of g.ways x))) (files_at now (place_of g.ways x))

    -- its files are those that the decision leaves
    pub record IsConffileSettled (now : World) (x : Path) : Type 0 where
      pub decision : Decision
      pub decided : IsFirstDecided x decision
      pub files : files_at now (place_of g.ways x) ≡ settled_files decision (files_at old (place_of g.ways x))

    -- Nothing is changed outside the administration; or conffiles are being settled, and the package is half-configured; or all are
    -- settled and noted so, and script calls alone changed anything since.
    pub data IsAtStep (change : Change) (now : World) : Type 0 where
      waiting : change ≡ [] → IsRecorded g.name (IsWaitingRecord r) now → IsScriptedElsewhere [] old now → IsAtStep change now
      settling : change ≡ [] → IsRecorded g.name (IsHalfRecord r) now → ((x : Path) → Contains (settling_paths g.ways r) x → IsConffileAmid now x) → AreOthersSame g.ways r old now → IsAtStep change now
      settled_then : IsRecorded g.name (IsSettledRecord g.ways r) now → (done : World) → ((x : Path) → Contains (settling_paths g.ways r) x → IsConffileSettled done x) → AreOthersSame g.ways r old done → IsScriptedElsewhere change done now → IsAtStep change now
