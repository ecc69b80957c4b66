-- What questions read, and what they are answered with.
use Rattle.std.specs.Prelude.{◌≡◌, ◌⊎◌, ℕ, List, [], ◌∷◌, Option, Some, None, IsSome}
use Rattle.std.specs.List.{AllByRecursion}
use Rattle.aliases.specs.Aliases.{resolved}
use Rattle.aliases.specs.Reading.{AreAliasesIn, IsWhole}
use Rattle.host_core.specs.Host.{Needs, State}
use Rattle.host_core.specs.Paths.{Path}
use Rattle.host_core.specs.World.{World}
use Rattle.administration.specs.declared.fault.AdministrationFault.{AdministrationFault}
use Rattle.administration.specs.declared.fault.AdministrationFault.TheVariants.{Damaged, Device, NoMemory, Declined}
use Rattle.diversions.specs.Ways.{Ways}
use Rattle.diversions.specs.Lines.{HasDiversions}
use Rattle.diversions.specs.declared.entry.Diversion.{Diversion}
use Rattle.administration.specs.Directories.{HasBadName}
use Rattle.administration.specs.Places.{info_path}
use Rattle.file_lists.specs.Info.{AreSound, IsInfoDamage}
use Rattle.file_lists.specs.Lists.{HasLists}
use Rattle.file_lists.specs.declared.paths.PackageList.{PackageList}
use Rattle.file_lists.specs.Followed.{AreWhole, diverted_paths}
use Rattle.opening.specs.Followed.{IsFollowed}
use Rattle.info_format.specs.Seeing.{IsSeenAs}
use Rattle.info_format.specs.Stage.{AreDamaged}
use Rattle.opening.specs.Parts.{Part, Root, Records, Diversions, IsDamage, IsFine, IsTable, names_of}
use Rattle.record_formats.specs.declared.layouts.Layout.{Layout}
use Rattle.queries.specs.Files.{files_text, matching_text, search_text}
use Rattle.queries.specs.Places.{diversions_text, truename_text}
use Rattle.queries.specs.Records.{audit_text, list_text, status_text}
use Rattle.queries.specs.Selections.{selections_text}
use Rattle.queries.specs.declared.asked.Told.{Told}
use Rattle.status_db.specs.Held.{HasRecords}
use Rattle.status_records.specs.Records.{record_in}
use Rattle.status_records.specs.declared.record.Record.{Record}

-- the parts that a question about records reads, in their order
abbrev pub records_parts : List Part
records_parts = Root ∷ Records ∷ []

-- one about diversions
abbrev pub diversions_parts : List Part
diversions_parts = Root ∷ Diversions ∷ []

-- How a question sees the world, where names in `info` have an architecture: as an opening would make it.
abbrev pub Sight : Type 0
Sight = World → World

-- the answers from the records that stand on a host
abbrev pub IsList : Layout → List (List ℕ) → State → Told → Type 0
IsList layout patterns s told = (table : List Record) × Needs s (λ w. HasRecords w table) × (told ≡ list_text layout patterns table)

abbrev pub AreSelections : List (List ℕ) → State → Told → Type 0
AreSelections patterns s told = (table : List Record) × Needs s (λ w. HasRecords w table) × (told ≡ selections_text patterns table)

abbrev pub IsStatus : List ℕ → State → Option (List ℕ) → Type 0
IsStatus name s text = (table : List Record) × Needs s (λ w. HasRecords w table) × (text ≡ status_text table name)

-- there, of a package with a record, its list is read as it is seen, and no other
abbrev pub HasOneList : World → List Record → List ℕ → Sight → List PackageList → Type 0
HasOneList w table name sight lists = HasRecords w table × (IsSome (record_in table name) → IsSeenAs w (sight w) × HasLists (sight w) (name ∷ []) lists)

-- the answer from the records and that list
abbrev pub AreFiles : List ℕ → State → Option (List ℕ) → Type 0
AreFiles name s text = (table : List Record) × (lists : List PackageList) × (sight : Sight) × Needs s (λ w. HasOneList w table name sight lists) × (text ≡ files_text table lists name)

-- the lists of the packages of these names, as they are seen
abbrev pub HasSeenLists : List (List ℕ) → List PackageList → Sight → World → Type 0
HasSeenLists names lists sight w = IsSeenAs w (sight w) × HasLists (sight w) names lists

-- these, and the diversions
abbrev pub HasRest : List (List ℕ) → List PackageList → List Diversion → Sight → World → Type 0
HasRest names lists entries sight w = HasSeenLists names lists sight w × HasDiversions w entries

-- the records that stand there, the lists of their packages, and the diversions
abbrev pub HasAll : List Record → List PackageList → List Diversion → Sight → World → Type 0
HasAll table lists entries sight w = HasRecords w table × HasRest (names_of table) lists entries sight w

-- the same with the aliases of the root: each listed path is followed to where it leads
abbrev pub HasFollowed : List Record → List PackageList → Ways → Sight → World → Type 0
HasFollowed table lists ways sight w = HasAll table lists ways.entries sight w × IsFollowed lists ways w

-- the answers from all of these; it is searched for the place of a path, which is followed too
abbrev pub IsSearch : Path → State → List ℕ → Type 0
IsSearch path s text =
    (table : List Record) × (lists : List PackageList) × (ways : Ways) × (sight : Sight) × Needs s (λ w. HasFollowed table lists ways sight w × IsWhole w path ways.aliases) × (text ≡ search_text ways lists (resolved ways.aliases path))

-- and each listed path that matches a pattern, as it is listed
abbrev pub IsMatching : List ℕ → State → List ℕ → Type 0
IsMatching pattern s text =
    (table : List Record) × (lists : List PackageList) × (entries : List Diversion) × (sight : Sight) × Needs s (HasAll table lists entries sight) × (text ≡ matching_text pattern table lists)

abbrev pub IsAudit : State → List ℕ → Type 0
IsAudit s text =
    (table : List Record) × (lists : List PackageList) × (entries : List Diversion) × (sight : Sight) × Needs s (HasAll table lists entries sight) × (text ≡ audit_text table)

-- the diversions, and the aliases of the root above this path and above those that diversions name
abbrev pub HasWays : Path → Ways → World → Type 0
HasWays path ways w = HasDiversions w ways.entries × AreAliasesIn w ways.aliases × AreWhole w (path ∷ diverted_paths ways.entries) ways.aliases

-- the answers from the diversions
abbrev pub IsTruename : Option (List ℕ) → Path → State → List ℕ → Type 0
IsTruename user path s text = (ways : Ways) × Needs s (HasWays path ways) × (text ≡ truename_text ways user path)

abbrev pub AreDiversions : State → List ℕ → Type 0
AreDiversions s text = (entries : List Diversion) × Needs s (λ w. HasDiversions w entries) × (text ≡ diversions_text entries)

-- why what is in `info` can't be read for these packages: its names fit no conversion, or what is seen there has a fault
abbrev pub AreListsDamaged : World → List (List ℕ) → AdministrationFault → Type 0
AreListsDamaged w names fault = AreDamaged w fault ⊎ ((shown : World) × IsSeenAs w shown × IsInfoDamage shown names fault)

-- what is seen there can be read
pub record AreListsFine (w : World) (names : List (List ℕ)) : Type 0 where
  pub shown : World
  pub is_seen : IsSeenAs w shown
  pub text : HasBadName shown info_path → ⊥
  pub sound : AreSound shown names

-- what reading the lists of these packages came to
abbrev pub FindsLists : List (List ℕ) → World → Option AdministrationFault → Type 0
FindsLists names w None = AreListsFine w names
FindsLists names w (Some fault) = AreListsDamaged w names fault

-- and the diversions behind them
abbrev pub FindsRest : List (List ℕ) → World → Option AdministrationFault → Type 0
FindsRest names w None = AreListsFine w names × AllByRecursion (IsFine w) (Diversions ∷ [])
FindsRest names w (Some fault) = AreListsDamaged w names fault ⊎ (AreListsFine w names × IsDamage (Diversions ∷ []) w fault)

-- the same behind the records
pub record FindsBehind (w : World) (fault : Option AdministrationFault) : Type 0 where
  pub fine : AllByRecursion (IsFine w) records_parts
  pub table : List Record
  pub is_table : IsTable w table
  pub rest : FindsRest (names_of table) w fault

-- What a question about all packages' files finds: all that it reads is fine, or the fault is that of the first that isn't.
abbrev pub IsAllDamage : World → AdministrationFault → Type 0
IsAllDamage w fault = IsDamage records_parts w fault ⊎ FindsBehind w (Some fault)

abbrev pub FindsAll : World → Option AdministrationFault → Type 0
FindsAll w None = FindsBehind w None
FindsAll w (Some fault) = IsAllDamage w fault

-- what is in `info` can't be read for this package, which has a record
pub record IsListDamage (name : List ℕ) (w : World) (fault : AdministrationFault) : Type 0 where
  pub fine : AllByRecursion (IsFine w) records_parts
  pub table : List Record
  pub is_table : IsTable w table
  pub recorded : IsSome (record_in table name)
  pub lists : AreListsDamaged w (name ∷ []) fault

-- why a package's files aren't told: the records can't be read, or its list can't
abbrev pub IsFilesDamage : List ℕ → World → AdministrationFault → Type 0
IsFilesDamage name w fault = IsDamage records_parts w fault ⊎ IsListDamage name w fault
