-- At each moment of an unpack the next opening can read all parts of the administration.
use Rattle.std.proofs.Common.{◌≡◌, ◌⊎◌, ◌||◌, inl, inr, ℕ, zero, suc, IsTrue, Bool, true, false, List, [], ◌∷◌, ◌++◌, Option, Some, None, Contains, cond, is_some, length, nat_le, refl, sym, ap, subst, ◌∙◌, arith}
use Rattle.std.specs.List.{AllByRecursion}
use Rattle.std.specs.Str.{IsUtf8, bytes_eq}
use Rattle.std.proofs.lemmas.Bool.{true≢false}
use Rattle.std.proofs.lemmas.List.{append-nil, map-append}
use Rattle.std.proofs.lemmas.List.Elements.{Contains-append_cases, Contains-append_left}
use Rattle.texts.specs.PackageNames.{is_package_name}
use Rattle.host_core.specs.Events.{Event, changes_of}
use Rattle.host_core.specs.Host.{State}
use Rattle.host_core.specs.Paths.{Path}
use Rattle.host_core.specs.World.{Change, World}
use Rattle.undo_rows.specs.Place.{Place, Back, Forward}
use Rattle.undo_rows.specs.Transcripts.{Ended, Committed, Unwound}
use Rattle.control_members.specs.LaidOut.{IsIncoming}
use Rattle.diversions.specs.Ways.{Ways}
use Rattle.file_lists.proofs.TakingAll.{paths_with}
use Rattle.file_lists.specs.Info.{AreLoose}
use Rattle.file_lists.specs.Owners.{paths_of}
use Rattle.file_lists.specs.Writing.{with_list}
use Rattle.file_lists.specs.declared.paths.PackageList.{PackageList}
use Rattle.package_files.specs.declared.work.Work.{Work}
use Rattle.package_tree.specs.ShipMap.{paths_of as shipped_paths}
use Rattle.package_tree.specs.declared.package.Package.{Package}
use Rattle.status_db.proofs.Ordered.{put_standing, standing_same}
use Rattle.status_db.specs.Held.{CanOpenRecords, HasRecords, IsKept}
use Rattle.status_db.specs.Recorded.{Recorded}
use Rattle.status_records.specs.Records.{AreStanding, IsWithout, put_record, record_in}
use Rattle.status_records.specs.Words.{is_not_installed}
use Rattle.status_records.specs.declared.record.Record.{Record}
use Rattle.unpack_commit.proofs.Those.{losing_stand}
use Rattle.unpack_commit.specs.Takeover.{losing_records, put_records, taken_places}
use Rattle.unpack_engine.proofs.Begun.{cleared_if}
use Rattle.unpack_engine.proofs.Cleared.{begun_at, begun_loose, laid_loose, works_on}
use Rattle.unpack_engine.proofs.EndNames.{has_record, losing_named, puts_named}
use Rattle.unpack_engine.proofs.EndRecords.{IsKnown, all_known, found_known, has_name, known_name, known_standing, recorded_known, rows_known}
use Rattle.unpack_engine.proofs.Leaving.{noted_first}
use Rattle.unpack_engine.proofs.Losing.{loser_named}
use Rattle.unpack_engine.proofs.Order.{info_there}
use Rattle.held_administration.specs.Order.{IsInOrder, record_names}
use Rattle.unpack_engine.proofs.Dropping.{dropped_kept, laying_records}
use Rattle.unpack_engine.specs.Units.{Begins, BeginsAt, Ground, HasLeft, IsRunning, IsStage, IsUnderWay, MayLeave, changes, commit_records, end_table, last_place, lists_after, noted_so_far, package_name, stage_records, table_after, task_from, unit_losers}
use Rattle.unpack_plan.specs.Planned.{IsPlanned, Job, Planned, name_of}
use Rattle.unpack_rows.specs.EndStates.{AreRecorded}
use Rattle.unpack_rows.specs.ForwardRows.{records_of}
use Rattle.unpack_rows.specs.Kinds.{kinds_of}
use Rattle.unpack_rows.specs.Notes.{noted, notes_at}
use Rattle.unpack_rows.proofs.Matching.{as_many}
use Rattle.unpack_plan.specs.Members.{scripts_in}
use Rattle.undo_rows.specs.declared.rows.Row.{Row}
use Rattle.unpack_rows.specs.Stages.{Stage, Unwritten, Wrote, Restored, stage_of}
use Rattle.unpack_steps.specs.At.{AreWorksAt, At, Holding}
use Rattle.unpack_steps.specs.Clearing.{MayClear, is_gone, next_ready}
use Rattle.unpack_steps.specs.Task.{lists_at, state_on}
use Rattle.unpack_steps.specs.Trail.{HasCome}
use Rattle.reopening.proofs.Beginning.{cleared_safe, going_quiet, leaving_quiet, left_quiet, recorded_safe}
use Rattle.reopening.proofs.Unreached.{rows_behind, unreached}
use Rattle.reopening.proofs.Entries.{IsSafe, safe_fewer, safe_quiet}
use Rattle.reopening.proofs.Inside.{IsQuiet, quiet_laid, quiet_still, quiet_then}
use Rattle.reopening.proofs.Rows.{amid_quiet, come_quiet}
use Rattle.reopening.proofs.Steps.{AreGood}
use Rattle.reopening.proofs.Texts.{entries_text, good_paths, new_list_text}
use Rattle.reopening.specs.Opens.{CanBeOpened}

-- what has been found: records that stand for a table of these names, entries without a fault, and what can be taken away
pub opened_by : (names : List (List ℕ)) (ways : Ways) (table : List Record) (w : World) → HasRecords w table → CanOpenRecords w → AreStanding table → ((q : List ℕ) → Contains (record_names table) q → Contains names q)
    → IsSafe names ways w → IsIncoming w → CanBeOpened w
opened_by names ways table w has opens standing known safe incoming =
    let fewer = safe_fewer names (record_names table) ways w known safe in
    record {
      records = opens;
      info = safe.info;
      readable = record { table = table; is_table = record { records = has; standing = standing_same table standing }; text = safe.text; sound = fewer.sound };
      short = inl safe.short;
      diversions = (ways.entries, safe.diversions);
      spare = safe.spare;
      incoming = incoming;
    }

-- the tables of a unit: those at places of its rows, and with the first records of its commit
pub data IsUnitTable (g : Ground) (p : Planned) (table : List Record) : Type 0 where
  in_rows : (place : Place) → table ≡ table_after g p place → IsUnitTable g p table
  in_commit : (works : List Work) (lists : List PackageList) (front back : List Record) → commit_records g p works lists (table_after g p (last_place g p Committed)) ≡ front ++ back
      → table ≡ put_records front (table_after g p (last_place g p Committed)) → IsUnitTable g p table

-- the records of a unit are those of before, or of its package

module _ (j : Job) (g : Ground) (p : Planned) (planned : IsPlanned j p) (same : g.records ≡ j.records) (standing : AreStanding g.records) (recorded : AreRecorded g.records (records_of j.others)) where
  abbrev own : List ℕ
  own = package_name g p

  abbrev known_names : List (List ℕ)
  known_names = record_names g.records

  abbrev AllKnown : List Record → Type 0
  AllKnown rs = AllByRecursion (IsKnown known_names own) rs

  own_is : own ≡ name_of j
  own_is = planned.records_are.own

  pub own_named : is_package_name own ≡ true
  own_named = ap is_package_name own_is ∙ planned.records_are.named

  found_in : (r : Record) → p.found ≡ Some r → record_in g.records own ≡ Some r
  found_in r is = ap (λ (rs : List Record). record_in rs own) same ∙ ap (record_in j.records) own_is ∙ sym planned.records_are.found_is ∙ is

  pub found_among : (r : Record) → p.found ≡ Some r → Contains known_names own
  found_among r is = has_name g.records own r (found_in r is)

  all_before : AllKnown g.records
  all_before = all_known own g.records standing

  pub rows_all : (place : Place) → AllKnown (table_after g p place)
  rows_all place =
      rows_known known_names own p.found p.incoming refl (λ r is. found_known known_names own g.records all_before own r (found_in r is)) p.others g.records place
      (subst AllKnown (sym planned.rows_are.others_are) (recorded_known known_names own g.records (records_of j.others) recorded all_before)) all_before

  -- with the first records of the commit

  puts_standing : (rs table : List Record) → AreStanding rs → AreStanding table → AreStanding (put_records rs table)
  puts_standing [] table all rest = rest
  puts_standing (r ∷ rs) table all rest = puts_standing rs (put_record r table) all.1 (put_standing r table all.0 rest)

  stands_front : (front back : List Record) → AreStanding (front ++ back) → AreStanding front
  stands_front [] back all = tt
  stands_front (r ∷ front) back all = (all.0, stands_front front back all.1)

  stands_both : (front back : List Record) → AreStanding front → AreStanding back → AreStanding (front ++ back)
  stands_both [] back first second = second
  stands_both (r ∷ front) back first second = (first.0, stands_both front back first.1 second)

  one_of : (x q : List ℕ) → Contains (x ∷ []) q → x ≡ q
  one_of x q (zero, lt, e) = e
  one_of x q (suc k, lt, e) = absurd (omega (arith, lt))

  in_front : (q : List ℕ) → Contains known_names q ⊎ (q ≡ own) → Contains (own ∷ known_names) q
  in_front q (inl (k, lt, e)) = (suc k, omega (arith, lt), e)
  in_front q (inr is) = (zero, omega arith, sym is)

  rows_names : (place : Place) (q : List ℕ) → Contains (record_names (table_after g p place)) q → Contains (own ∷ known_names) q
  rows_names place q has = in_front q (known_name known_names own (table_after g p place) (rows_all place) q has)

  module _ (works : List Work) (lists : List PackageList) (place : Place) where
    abbrev rows_table : List Record
    rows_table = table_after g p place

    abbrev losing : List Record
    losing = losing_records g.ways (taken_places works) (unit_losers g p works lists) rows_table

    commit_standing : AreStanding (commit_records g p works lists rows_table)
    commit_standing = stands_both losing (p.fresh ∷ []) (losing_stand g.ways (taken_places works) (unit_losers g p works lists) rows_table (known_standing known_names own rows_table (rows_all place))) (ap is_not_installed planned.records_are.fresh_is.is.state_is, tt)

    commit_names : (q : List ℕ) → Contains (record_names (commit_records g p works lists rows_table)) q → Contains (own ∷ known_names) q
    commit_names q has = elim (Contains-append_cases (record_names losing) (p.fresh.name ∷ []) q (subst (λ (l : List (List ℕ)). Contains l q) (map-append (λ (r : Record). r.name) losing (p.fresh ∷ [])) has)) [
      | inl loses ↦ rows_names place q (losing_named g.ways (taken_places works) (unit_losers g p works lists) rows_table q loses)
      | inr fresh ↦ in_front q (inr (sym (one_of p.fresh.name q fresh) ∙ planned.records_are.fresh_is.is.name_is ∙ sym own_is))
    ]

    front_names : (front back : List Record) → commit_records g p works lists rows_table ≡ front ++ back → (q : List ℕ) → Contains (record_names front) q → Contains (own ∷ known_names) q
    front_names front back are q has = commit_names q (subst (λ (l : List (List ℕ)). Contains l q)
        (sym (ap (λ (rs : List Record). record_names rs) are ∙ map-append (λ (r : Record). r.name) front back)) (Contains-append_left (record_names front) (record_names back) q has))

  -- the table of a moment
  pub amid_names : (table : List Record) → IsUnitTable g p table → (q : List ℕ) → Contains (record_names table) q → Contains (own ∷ known_names) q
  amid_names table (IsUnitTable.in_rows place is) q has = rows_names place q (subst (λ (rs : List Record). Contains (record_names rs) q) is has)
  amid_names table (IsUnitTable.in_commit works lists front back are is) q has =
      elim (puts_named front (table_after g p (last_place g p Committed)) q (subst (λ (rs : List Record). Contains (record_names rs) q) is has)) [
        | inl noted ↦ front_names works lists (last_place g p Committed) front back are q noted
        | inr there ↦ rows_names (last_place g p Committed) q there
      ]

  pub amid_standing : (table : List Record) → IsUnitTable g p table → AreStanding table
  amid_standing table (IsUnitTable.in_rows place is) = subst AreStanding (sym is) (known_standing known_names own (table_after g p place) (rows_all place))
  amid_standing table (IsUnitTable.in_commit works lists front back are is) = subst AreStanding (sym is)
      (puts_standing front (table_after g p (last_place g p Committed)) (stands_front front back (subst AreStanding are (commit_standing works lists (last_place g p Committed))))
      (known_standing known_names own (table_after g p (last_place g p Committed)) (rows_all (last_place g p Committed))))

-- the lists that a unit writes are read back

-- the paths of a tree are text
abbrev pub ShipsText : Package → Type 0
ShipsText p = (q : Path) → Contains (shipped_paths p.files) q → IsUtf8 q

module _ (j : Job) (p : Planned) (planned : IsPlanned j p) (texts : ShipsText j.«package») (good : (name : List ℕ) → AreGood (paths_of j.lists name)) where
  pub listed_good : AreGood p.listed
  listed_good = subst AreGood (sym planned.lists_are.listed_is) (good (name_of j))

  pub union_good : AreGood p.union
  union_good = good_paths p.union planned.lists_are.union_is.paths (λ q has. elim ((planned.lists_are.union_is.are q).0 has) [
    | inl old ↦ listed_text q old
    | inr new ↦ texts q new
  ])
    where
      from_all : (paths : List Path) → AllByRecursion IsUtf8 paths → (q : Path) → Contains paths q → IsUtf8 q
      from_all [] all q has = absurd (omega (arith, has.1))
      from_all (x ∷ xs) all q (zero, lt, e) = subst IsUtf8 e all.0
      from_all (x ∷ xs) all q (suc k, lt, e) = from_all xs all.1 q (k, omega (arith, lt), e)

      listed_text : (q : Path) → Contains p.listed q → IsUtf8 q
      listed_text q has = from_all p.listed listed_good.texts q has

  pub new_good : AreGood p.new_list
  new_good = good_paths p.new_list planned.lists_are.new_is.paths_are (new_list_text (shipped_paths j.«package».files) _ p.new_list planned.lists_are.new_is.are texts (λ q has. entries_text _ q has))

with_good : (own : List ℕ) (paths : List Path) (lists : List PackageList) → AreGood paths → ((n : List ℕ) → AreGood (paths_of lists n)) → (n : List ℕ) → AreGood (paths_of (with_list own paths lists) n)
with_good own paths lists one all n = subst AreGood (sym (paths_with lists own n paths)) (by (bytes_eq n own))
  where
    by : (b : Bool) → AreGood (cond b paths (paths_of lists n))
    by true = one
    by false = all n

-- the package had a record, or its rows went on to its new preinst
abbrev pub went_on : Planned → Ended → Bool
went_on p Committed = true
went_on p (Unwound fall failed) = is_some p.found || is_gone p.found (length p.others) (Back 0 fall failed)

-- all of a unit
module _ (j : Job) (g : Ground) (p : Planned) (planned : IsPlanned j p) (same : g.records ≡ j.records) (lists_same : g.lists ≡ j.lists) (standing : AreStanding g.records) (recorded : AreRecorded g.records (records_of j.others))
    (unnamed : IsWithout (name_of j) (records_of j.others)) (texts : ShipsText j.«package») (old : World) (d : Recorded) (records_are : d.records ≡ g.records) (order : IsInOrder d g.lists old) (good : (name : List ℕ) → AreGood (paths_of g.lists name)) where
  abbrev unit_name : List ℕ
  unit_name = package_name g p

  named : is_package_name unit_name ≡ true
  named = own_named j g p planned same standing recorded

  job_good : (name : List ℕ) → AreGood (paths_of j.lists name)
  job_good name = subst (λ (l : List PackageList). AreGood (paths_of l name)) lists_same (good name)

  others_free : IsWithout unit_name p.others
  others_free = subst (λ os. IsWithout unit_name os) (sym planned.rows_are.others_are) (subst (λ n. IsWithout n (records_of j.others)) (sym planned.records_are.own) unnamed)

  -- from the world in which nothing is left of a package without a record
  pub record IsFrom (now : World) : Type 0 where
    pub cleared : World
    pub clears : AreLoose cleared × ((names : List (List ℕ)) (ways : Ways) → ((r : Record) → p.found ≡ Some r → Contains names unit_name) → IsSafe names ways old → IsSafe (unit_name ∷ names) ways cleared)
    pub quiet : IsQuiet cleared now

  -- at a place of its rows
  module _ (place : Place) (base : World) (begins : BeginsAt g p place old base) where
    laid_loosely : AreLoose begins.begun
    laid_loosely = laid_loose old begins.begun begins.begins.lays order.loose

    laid_safe : (names : List (List ℕ)) (ways : Ways) → IsSafe names ways old → IsSafe names ways begins.begun
    laid_safe names ways safe = safe_quiet names ways old begins.begun (quiet_laid old begins.begun begins.begins.lays) safe laid_loosely

    base_loose : AreLoose base
    base_loose = begun_loose g p place old base begins named (info_there d g.lists old order) order.loose

    base_safe : (found : Option Record) → p.found ≡ found → (found ≡ None → is_gone found (length p.others) place ≡ true)
        → MayClear (is_gone found (length p.others) place) (is_gone found (length p.others) (next_ready place)) unit_name begins.begun base
        → (names : List (List ℕ)) (ways : Ways) → ((r : Record) → p.found ≡ Some r → Contains names unit_name) → IsSafe names ways old → IsSafe (unit_name ∷ names) ways base
    base_safe None is gone may names ways known safe =
        cleared_safe names ways unit_name begins.begun base named (cleared_if _ _ unit_name begins.begun base (gone refl) may) base_loose (laid_safe names ways safe)
    base_safe (Some r) is gone kept names ways known safe =
        recorded_safe names ways unit_name base (known r is) (subst (IsSafe names ways) (sym kept) (laid_safe names ways safe))

    -- where nothing is left under the name of a package without a record
    from_base : (p.found ≡ None → is_gone p.found (length p.others) place ≡ true) → IsFrom base
    from_base gone = record { cleared = base; clears = (base_loose, base_safe p.found refl gone begins.clears); quiet = quiet_still base base refl }

    base_quiet : IsQuiet old base
    base_quiet = quiet_then old begins.begun base (quiet_laid old begins.begun begins.begins.lays)
        (going_quiet unit_name named begins.begun base (is_gone p.found (length p.others) place) (is_gone p.found (length p.others) (next_ready place)) begins.clears)

  -- until then its name isn't among those of the records
  unnamed_yet : (place : Place) → p.found ≡ None → is_gone None (length p.others) place ≡ false → (q : List ℕ) → Contains (record_names (table_after g p place)) q → Contains (record_names g.records) q
  unnamed_yet place none short q has = elim (known_name (record_names g.records) unit_name (table_after g p place) (rows_all j g p planned same standing recorded place) q has) [
    | inl before ↦ before
    | inr own ↦ absurd (true≢false (sym (has_record (table_after g p place) unit_name (subst (Contains (record_names (table_after g p place))) own has))
        ∙ ap (λ f. is_some (record_in (noted g.records (notes_at f p.incoming (kinds_of f p.others) place)) unit_name)) none
        ∙ ap is_some (unreached p.incoming unit_name p.others g.records others_free place short
        ∙ (ap (λ (rs : List Record). record_in rs unit_name) same ∙ ap (record_in j.records) planned.records_are.own ∙ sym planned.records_are.found_is ∙ none))))
  ]

  -- where the rows went on to the new preinst of a package without a record, and where they didn't
  abbrev pub From : Bool → List Record → World → Type 0
  From true table now = IsFrom now
  From false table now = IsQuiet old now × ((q : List ℕ) → Contains (record_names table) q → Contains (record_names g.records) q)

  from_then : (v w : World) → IsFrom v → IsQuiet v w → IsFrom w
  from_then v w from next = record { cleared = from.cleared; clears = from.clears; quiet = quiet_then from.cleared v w from.quiet next }

  pub from_safe : (ways : Ways) (now : World) → IsFrom now → AreLoose now → IsSafe (record_names g.records) ways old → IsSafe (unit_name ∷ record_names g.records) ways now
  from_safe ways now from loose safe =
      safe_quiet (unit_name ∷ record_names g.records) ways from.cleared now from.quiet (from.clears.1 (record_names g.records) ways (found_among j g p planned same standing recorded) safe) loose

  -- the lists then

  lists_good : (begun : State) (stage : Stage) (name : List ℕ) → AreGood (paths_of (lists_at (task_from g p begun) stage) name)
  lists_good begun Unwritten name = good name
  lists_good begun Wrote name = with_good unit_name p.union g.lists (union_good j p planned texts job_good) good name
  lists_good begun Restored name =
      with_good unit_name p.listed (with_list unit_name p.union g.lists) (listed_good j p planned texts job_good) (with_good unit_name p.union g.lists (union_good j p planned texts job_good) good) name

  -- by whether the rows went on to the new preinst
  by_gone : (place : Place) (found : Option Record) → p.found ≡ found → (gone : Bool) → is_gone found (length p.others) place ≡ gone → (base : World) → BeginsAt g p place old base → (now : World) → IsQuiet base now
      → From (is_some found || gone) (table_after g p place) now
  by_gone place (Some r) is gone e base begins now next = from_then base now (from_base place base begins (λ none. absurd (let same : Some r ≡ None = sym is ∙ none in cc))) next
  by_gone place None is true e base begins now next = from_then base now (from_base place base begins (λ none. ap (λ f. is_gone f (length p.others) place) is ∙ e)) next
  by_gone place None is false e base begins now next = (quiet_then old base now (base_quiet place base begins) next, unnamed_yet place is e)

  many : length p.rows ≡ length (kinds_of p.found p.others)
  many = ap (λ (l : List Row). length l) planned.rows_are.rows_are ∙ as_many p.found p.incoming j.stored (scripts_in j.«package».scripts) j.others ∙ ap (λ os. length (kinds_of p.found os)) (sym planned.rows_are.others_are)

  committed_gone : p.found ≡ None → is_gone p.found (length p.others) (last_place g p Committed) ≡ true
  committed_gone none = rows_behind p.found none p.others (length p.rows) many

  leaves_quietly : (ended : Ended) (begun : State) (works : List Work) (last now : World) → AreWorksAt (task_from g p begun) (last_place g p ended) (stage_of (kinds_of p.found p.others) (last_place g p ended)) works → (change : Change)
      → HasCome (task_from g p begun) (stage_of (kinds_of p.found p.others) (last_place g p ended)) works change last
      → MayLeave (changes g p works (lists_after g p ended begun)) (commit_records g p works (lists_after g p ended begun) (table_after g p (last_place g p ended))) g.ways (lists_after g p ended begun) (table_after g p (last_place g p ended)) (length p.others) ended last now
      → IsQuiet begun.world now
  leaves_quietly ended begun works last now are change come may =
      let stage = stage_of (kinds_of p.found p.others) (last_place g p ended) in
      let lists = lists_after g p ended begun in
      quiet_then begun.world last now
      (come_quiet (task_from g p begun) named planned.works_are.named (union_good j p planned texts job_good) (listed_good j p planned texts job_good) (last_place g p ended) stage works are change last come)
      (leaving_quiet (changes g p works lists) g.ways lists named planned.lists_are.spares planned.names_are.elsewhere (new_good j p planned texts job_good)
      (λ q has. loser_named g.ways (taken_places works) lists unit_name g.yields q has)
      (λ q has. with_good unit_name p.new_list lists (new_good j p planned texts job_good) (lists_good begun stage) q)
      (commit_records g p works lists (table_after g p (last_place g p ended))) (table_after g p (last_place g p ended)) (length p.others) ended last now may)

  -- how far it is
  stage_from : (so_far : List Event) (now : World) (stage : IsStage g p old so_far now) → (went : Bool) × From went (stage_records g p old so_far now stage) now
  stage_from so_far now (IsStage.running (IsRunning.beginning none may)) = (false, (quiet_laid old now may.rest, λ q has. has))
  stage_from so_far now (IsStage.running (IsRunning.running begun before more is none begins stops)) = (
    _,
    by_gone stops.place p.found refl (is_gone p.found (length p.others) stops.place) refl stops.base (record { begun = begun.world; begins = begins; clears = stops.cleared }) now
        (amid_quiet (task_from g p (state_on begun stops.base)) named planned.works_are.named (union_good j p planned texts job_good) (listed_good j p planned texts job_good) _ _ now stops.files),
  )
  stage_from so_far now (IsStage.leaving Committed works begun last begins are come may) =
      (true, from_then begun.world now (from_base (last_place g p Committed) begun.world begins committed_gone) (leaves_quietly Committed begun works last now are (changes_of so_far) come may))
  stage_from so_far now (IsStage.leaving (Unwound fall failed) works begun last begins are come may) = (
    _,
    by_gone (last_place g p (Unwound fall failed)) p.found refl (is_gone p.found (length p.others) (last_place g p (Unwound fall failed))) refl begun.world begins now
        (leaves_quietly (Unwound fall failed) begun works last now are (changes_of so_far) come may),
  )

  -- the records at a stage
  stage_table : (so_far : List Event) (now : World) (stage : IsStage g p old so_far now) → IsUnitTable g p (stage_records g p old so_far now stage)
  stage_table so_far now (IsStage.running (IsRunning.beginning none may)) = IsUnitTable.in_rows (Forward 0) refl
  stage_table so_far now (IsStage.running (IsRunning.running begun before more is none begins stops)) = IsUnitTable.in_rows stops.place refl
  stage_table so_far now (IsStage.leaving Committed works begun last begins are come may) =
      let lists = lists_after g p Committed begun in
      let rows = table_after g p (last_place g p Committed) in
      let first = noted_first (changes g p works lists) (commit_records g p works lists rows) g.ways lists rows (length p.others) last now Committed may in
      IsUnitTable.in_commit works lists (noted_so_far (changes g p works lists) (commit_records g p works lists rows) g.ways lists rows (length p.others) Committed last now may) first.0 first.1 refl
  stage_table so_far now (IsStage.leaving (Unwound fall failed) works begun last begins are come may) = IsUnitTable.in_rows (last_place g p (Unwound fall failed)) refl

  -- where it ends
  pub carried_from : (ended : Ended) (mid : Holding) (begun last : State) (new : World) → Begins g p old begun.world → At (task_from g p begun) mid last (last_place g p ended) → IsTrue last.honest
      → HasLeft (changes g p mid.works mid.lists) (commit_records g p mid.works mid.lists mid.database.records) g.ways mid.lists mid.database.records (length p.others) ended last.world new
      → From (went_on p ended) (end_table g p ended mid.works mid.lists mid.database.records) new
  carried_from ended mid begun last new begins at h left = by ended at left
    where
      ends_quietly : (e : Ended) (there : At (task_from g p begun) mid last (last_place g p e))
          → HasLeft (changes g p mid.works mid.lists) (commit_records g p mid.works mid.lists mid.database.records) g.ways mid.lists mid.database.records (length p.others) e last.world new → IsQuiet there.base new
      ends_quietly e there gone =
          let stage = stage_of (kinds_of p.found p.others) (last_place g p e) in
          quiet_then there.base last.world new
          (come_quiet (task_from g p (state_on begun there.base)) named planned.works_are.named (union_good j p planned texts job_good) (listed_good j p planned texts job_good) (last_place g p e) stage mid.works
          (works_on g p (last_place g p e) begun there.base mid.works there.works) (changes_of there.since) last.world (there.world h).came)
          (left_quiet (changes g p mid.works mid.lists) g.ways mid.lists named planned.lists_are.spares planned.names_are.elsewhere (new_good j p planned texts job_good)
          (λ q has. loser_named g.ways (taken_places mid.works) mid.lists unit_name g.yields q has)
          (λ q has. with_good unit_name p.new_list mid.lists (new_good j p planned texts job_good) (λ n. subst (λ (l : List PackageList). AreGood (paths_of l n)) (sym there.lists) (lists_good begun stage n)) q)
          (commit_records g p mid.works mid.lists mid.database.records) mid.database.records (length p.others) e last.world new gone)

      by : (e : Ended) (there : At (task_from g p begun) mid last (last_place g p e))
          → HasLeft (changes g p mid.works mid.lists) (commit_records g p mid.works mid.lists mid.database.records) g.ways mid.lists mid.database.records (length p.others) e last.world new
          → From (went_on p e) (end_table g p e mid.works mid.lists mid.database.records) new
      by Committed there gone =
          from_then there.base new (from_base (last_place g p Committed) there.base (begun_at g p (last_place g p Committed) old begun mid last begins there h) committed_gone) (ends_quietly Committed there gone)
      by (Unwound fall failed) there gone =
          subst (λ (rs : List Record). From (went_on p (Unwound fall failed)) rs new) (sym there.records)
          (by_gone (last_place g p (Unwound fall failed)) p.found refl (is_gone p.found (length p.others) (last_place g p (Unwound fall failed))) refl there.base
          (begun_at g p (last_place g p (Unwound fall failed)) old begun mid last begins there h) new (ends_quietly (Unwound fall failed) there gone))

  -- and the records then
  pub ended_table : (ended : Ended) (mid : Holding) (begun last : State) → At (task_from g p begun) mid last (last_place g p ended) → IsUnitTable g p (end_table g p ended mid.works mid.lists mid.database.records)
  ended_table Committed mid begun last at = IsUnitTable.in_commit mid.works mid.lists (commit_records g p mid.works mid.lists (table_after g p (last_place g p Committed))) [] (sym (append-nil _))
      (ap (λ (rs : List Record). put_records (commit_records g p mid.works mid.lists rs) rs) at.records)
  ended_table (Unwound fall failed) mid begun last at = IsUnitTable.in_rows (last_place g p (Unwound fall failed)) at.records

  pub left_records : (ended : Ended) (mid : Holding) (begun last : State) (new : World) → At (task_from g p begun) mid last (last_place g p ended) → IsTrue last.honest
      → HasLeft (changes g p mid.works mid.lists) (commit_records g p mid.works mid.lists mid.database.records) g.ways mid.lists mid.database.records (length p.others) ended last.world new → HasRecords new (end_table g p ended mid.works mid.lists mid.database.records)
  left_records Committed mid begun last new at h left = laying_records left.followed new left.removed.rest _ left.has_followed.noted.has
  left_records (Unwound fall failed) mid begun last new at h left =
      laying_records left.followed new left.removed.rest mid.database.records (dropped_kept (nat_le (length p.others) fall.row) (record_in mid.database.records unit_name) unit_name last.world left.followed left.has_followed mid.database (at.world h).kept).holds

  opens_from : (ways : Ways) (table : List Record) (now : World) → IsUnitTable g p table → HasRecords now table → CanOpenRecords now → IsIncoming now → AreLoose now → IsSafe (record_names g.records) ways old
      → (went : Bool) → From went table now → CanBeOpened now
  opens_from ways table now is has opens incoming loose safe true from =
      opened_by (unit_name ∷ record_names g.records) ways table now has opens (amid_standing j g p planned same standing recorded table is)
      (amid_names j g p planned same standing recorded table is) (from_safe ways now from loose safe) incoming
  opens_from ways table now is has opens incoming loose safe false quiet =
      opened_by (record_names g.records) ways table now has opens (amid_standing j g p planned same standing recorded table is) quiet.1
      (safe_quiet (record_names g.records) ways old now quiet.0 safe loose) incoming

  pub under_way_opens : (ways : Ways) (so_far : List Event) (now : World) → IsSafe (record_names g.records) ways old → IsUnderWay g p old so_far now → CanBeOpened now
  under_way_opens ways so_far now safe way =
      let from = stage_from so_far now way.stage in
      opens_from ways (stage_records g p old so_far now way.stage) now (stage_table so_far now way.stage) way.records way.opens way.incoming way.loose safe from.0 from.1
