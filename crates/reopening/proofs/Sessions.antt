-- Unpacks one after another, and an install: the next opening can read all at each moment.
use Rattle.std.proofs.Common.{◌≡◌, ◌⊎◌, inl, inr, ℕ, zero, suc, IsTrue, Bool, true, false, cond, List, [], ◌∷◌, Option, Some, None, Result, Ok, Err, Contains, drop, length, take, refl, sym, ap, subst, arith}
use Rattle.std.specs.Str.{IsUtf8}
use Rattle.configure_run.specs.declared.options.ConfigureOptions.{ConfigureOptions}
use Rattle.displaced_packages.specs.Losing.{losing_beside}
use Rattle.diversions.specs.Ways.{Ways}
use Rattle.file_lists.specs.declared.paths.PackageList.{PackageList}
use Rattle.host_core.specs.Events.{Event}
use Rattle.host_core.specs.Host.{State}
use Rattle.host_core.proofs.Moments.{since_weaker_if}
use Rattle.host_core.specs.Paths.{Path}
use Rattle.host_core.specs.World.{World}
use Rattle.host_core.specs.declared.call.Call.{Call}
use Rattle.package_tree.specs.declared.fault.TreeFault.{TreeFault}
use Rattle.package_tree.specs.ShipMap.{paths_of as shipped_paths}
use Rattle.package_tree.specs.declared.package.Package.{Package}
use Rattle.package_tree.specs.declared.shipped.Shipped.{Shipped}
use Rattle.removal_run.specs.Units.{holding_of}
use Rattle.undo_rows.specs.Ended.{ended_as}
use Rattle.undo_rows.specs.declared.unwinding.Unwinding.{Unwinding}
use Rattle.status_db.specs.Held.{HasRecords}
use Rattle.status_records.specs.Records.{AreStanding}
use Rattle.status_records.specs.declared.record.Record.{Record}
use Rattle.status_db.specs.Recorded.{Recorded}
use Rattle.unit_reports.specs.Held.{Held, places_of}
use Rattle.unit_reports.specs.declared.report.Report.{Report}
use Rattle.unit_reports.specs.declared.report.Unit.{Unit as AUnit}
use Rattle.held_administration.specs.Order.{record_names}
use Rattle.unpack_engine.specs.Units.{Given, Ground, end_table, ground_of, job_of, package_name}
use Rattle.unpack_relations.specs.declared.beside.Beside.{Beside}
use Rattle.unpack_relations.specs.declared.checking.Checked.{Checked}
use Rattle.unpack_plan.specs.Planned.{Job, Planned}
use Rattle.unpack_relations.specs.declared.checking.Checked.TheVariants.{Planned as Unpacks, Refused}
use Rattle.undo_rows.specs.declared.rows.Called.{Called}
use Rattle.dpkg_session.specs.Installs.{HasGoneOn}
use Rattle.configure_run.specs.Run.{HasRun as HasConfigured}
use Rattle.dpkg_session.specs.Rereading.{BehindReading, IsUnread, with_ways}
use Rattle.dpkg_session.proofs.Reread.{read_entries}
use Rattle.dpkg_session.proofs.Overridden.{amid_alike, unit_alike}
use Rattle.dpkg_session.specs.Run.{HasRun, IsAmidBehind, IsAmidBeside, IsAmidBy, IsAmidNext, IsAmidPackage, IsAmidUnitOf, IsAmidUnpack, IsRun, RunsUnit}
use Rattle.dpkg_session.proofs.TableRead.{table_of}
use Rattle.reopening.proofs.Entries.{IsSafe}
use Rattle.dpkg_session.specs.Units.{HasDisplaced, HasUnpackedBeside, IsUnitBy, IsUnitOf, IsUnpacked, all_yielding, displacing_by, given_by, held_with}
use Rattle.dpkg_session.specs.declared.report.Candidate.{Candidate}
use Rattle.unpack_relations.specs.declared.options.UnpackOptions.{UnpackOptions}
use Rattle.reopening.proofs.Behind.{displaced_lead, displacing_open}
use Rattle.reopening.proofs.Parts.{AreOf}
use Rattle.reopening.proofs.Sounds.{Goes, IsSound, goes_refused, held_sound, opened_reads, opened_then, sound_lists, still_opens, sound_reread}
use Rattle.reopening.proofs.Turns.{Ends, Runs, configure_ends, ends_then, runs_same, runs_then}
use Rattle.reopening.proofs.Units.{IsHeld, held_same, of_from}
use Rattle.reopening.proofs.Unpacks.{From, IsUnitTable, ShipsText, amid_names, amid_standing, carried_from, ended_table, found_among, left_records, under_way_opens, went_on}
use Rattle.reopening.specs.Opens.{CanBeOpened}
use Rattle.reopening.specs.Trees.{AreTextFiles, AreTextTrees, IsTextTree}

-- the paths that it ships, one by one
ships_text : (p : Package) → AreTextFiles p.files → ShipsText p
ships_text p texts = by p.files texts
  where
    by : (files : List Shipped) → AreTextFiles files → (q : Path) → Contains (shipped_paths files) q → IsUtf8 q
    by [] all q has = absurd (omega (arith, has.1))
    by (file ∷ files) all q (zero, lt, e) = subst IsUtf8 e all.0
    by (file ∷ files) all q (suc k, lt, e) = by files all.1 q (k, omega (arith, lt), e)

-- and those of a package that ships the same
alike_text : (p q : Package) → shipped_paths q.files ≡ shipped_paths p.files → ShipsText p → ShipsText q
alike_text p q same texts = λ path has. texts path (subst (λ (paths : List Path). Contains paths path) same has)

-- what is left of the unit of a package, before anything is displaced

module _ (p : Package) (texts : ShipsText p) (beside : Beside) (before : Held) (late : Ways) (unwinding : Option Unwinding) (records : Recorded) (lists : List PackageList) (s m : State) (told now : List Called)
    (is : HasUnpackedBeside p beside before late (places_of before) unwinding records lists s m told now) (h : IsTrue m.honest) (sound : IsSound before s.world) where
  abbrev g : Given
  g = given_by p before late is.others (all_yielding p beside before)

  abbrev plan : Planned
  plan = is.unpacked.plan

  abbrev ground : Ground
  ground = ground_of g (places_of before)

  abbrev job : Job
  job = job_of g is.unpacked.plan_for.stored

  abbrev end_records : List Record
  end_records = end_table ground plan (ended_as unwinding) is.unpacked.carried_out.mid.works is.unpacked.carried_out.mid.lists is.unpacked.carried_out.mid.database.records

  -- the names of before, and the package's own where it had a record or its rows went on to its new preinst
  abbrev names_left : Bool → List (List ℕ)
  names_left went = cond went (package_name ground plan ∷ record_names before.records.records) (record_names before.records.records)

  table : IsUnitTable ground plan end_records
  table = ended_table job ground plan is.unpacked.plan_for.planned refl refl sound.standing is.have_rows.apart.recorded is.have_rows.apart.unnamed texts s.world before.records refl sound.order (sound_lists before s.world sound)
      (ended_as unwinding) is.unpacked.carried_out.mid is.unpacked.carried_out.ran.begun is.unpacked.carried_out.last is.unpacked.carried_out.ran.rows_end

  at_last : IsTrue is.unpacked.carried_out.last.honest
  at_last = is.unpacked.carried_out.since.honest h

  has_end : HasRecords m.world end_records
  has_end = left_records job ground plan is.unpacked.plan_for.planned refl refl sound.standing is.have_rows.apart.recorded is.have_rows.apart.unnamed texts s.world before.records refl sound.order (sound_lists before s.world sound)
      (ended_as unwinding) is.unpacked.carried_out.mid is.unpacked.carried_out.ran.begun is.unpacked.carried_out.last m.world is.unpacked.carried_out.ran.rows_end at_last (is.unpacked.carried_out.leaves h)

  standing_end : AreStanding end_records
  standing_end = amid_standing job ground plan is.unpacked.plan_for.planned refl sound.standing is.have_rows.apart.recorded end_records table

  -- the table that its files went by is the one that stands there
  safe_then : IsSafe (record_names before.records.records) late s.world
  safe_then = record {
    info = sound.safe.info;
    text = sound.safe.text;
    sound = sound.safe.sound;
    short = sound.safe.short;
    diversions = table_of s.world before.ways late (is.file h) sound.safe.diversions;
    spare = sound.safe.spare;
  }

  held_from : (went : Bool)
      → From job ground plan is.unpacked.plan_for.planned refl refl sound.standing is.have_rows.apart.recorded is.have_rows.apart.unnamed texts s.world before.records refl sound.order (sound_lists before s.world sound) went end_records m.world
      → IsHeld (names_left went) late records.records m.world
  held_from true from = record {
    all = subst (AreOf _) (sym is.unpacked.carried_out.records)
        (of_from _ _ standing_end (amid_names job ground plan is.unpacked.plan_for.planned refl sound.standing is.have_rows.apart.recorded end_records table));
    base = from.cleared;
    safe = from.clears.1 (record_names before.records.records) late (found_among job ground plan is.unpacked.plan_for.planned refl sound.standing is.have_rows.apart.recorded) safe_then;
    quiet = from.quiet;
    empty = (is.unpacked.carried_out.leaves h).removed.inside;
    has = subst (HasRecords m.world) (sym is.unpacked.carried_out.records) has_end;
  }
  held_from false quiet = record {
    all = subst (AreOf _) (sym is.unpacked.carried_out.records) (of_from _ _ standing_end quiet.1);
    base = s.world;
    safe = safe_then;
    quiet = quiet.0;
    empty = (is.unpacked.carried_out.leaves h).removed.inside;
    has = subst (HasRecords m.world) (sym is.unpacked.carried_out.records) has_end;
  }

  pub unpacked_held : IsHeld (names_left (went_on plan (ended_as unwinding))) late records.records m.world
  unpacked_held = held_from (went_on plan (ended_as unwinding))
      (carried_from job ground plan is.unpacked.plan_for.planned refl refl sound.standing is.have_rows.apart.recorded is.have_rows.apart.unnamed texts s.world before.records refl sound.order (sound_lists before s.world sound)
      (ended_as unwinding) is.unpacked.carried_out.mid is.unpacked.carried_out.ran.begun is.unpacked.carried_out.last m.world (is.unpacked.carried_out.ran.begins_so at_last) is.unpacked.carried_out.ran.rows_end at_last (is.unpacked.carried_out.leaves h))

-- and behind it

abbrev held_names : (p : Package) (beside : Beside) (before : Held) (late : Ways) (unwinding : Option Unwinding) (records : Recorded) (lists : List PackageList) (s m : State) (told now : List Called)
    → HasUnpackedBeside p beside before late (places_of before) unwinding records lists s m told now → List (List ℕ)
held_names p beside before late unwinding records lists s m told now is =
    cond (went_on is.unpacked.plan (ended_as unwinding))
    (package_name (ground_of (given_by p before late is.others (all_yielding p beside before)) (places_of before)) is.unpacked.plan ∷ record_names before.records.records) (record_names before.records.records)

displaced_held : (names : List (List ℕ)) (ways : Ways) (unwinding : Option Unwinding) (p : Package) (beside : Beside) (before : Held) (displaced : List (List ℕ)) (failed : Option Call) (mid after : Held) (m t : State) (told now : List Called)
    → (IsTrue m.honest → IsHeld names ways mid.records.records m.world) → HasDisplaced unwinding (displacing_by p beside before.lists) displaced failed mid after m t told now
    → IsTrue t.honest → IsHeld names ways after.records.records t.world
displaced_held names ways (Some u) p beside before displaced failed mid after m t told now held is h =
    let here : m.honest ≡ t.honest = ap (λ (x : State). x.honest) (sym is.here) in
    subst (λ (x : Held). IsHeld names ways x.records.records t.world) (sym is.held) (held_same names ways mid.records.records m.world t.world (ap (λ (x : State). x.world) is.here) (held (subst IsTrue (sym here) h)))
displaced_held names ways None p beside before displaced failed mid after m t told now held is h =
    (displaced_lead names ways mid.ways p.name p.version (losing_beside before.lists beside) beside.conflicting displaced failed (holding_of mid) (holding_of after) m t told now held is).held h

unpacked_goes : (p : Package) (beside : Beside) (before after : Held) (u : AUnit) (s t : State) → ShipsText p → (IsTrue t.honest → IsTrue s.honest) → IsUnpacked p beside before after u s t → Goes before after s t
unpacked_goes p beside before after u s t texts falls is =
    let whole = is.unpacked in
    let names = held_names p beside before after.ways is.unwinding whole.records whole.lists s whole.m [] whole.between whole.unpacked in
    record {
      falls = falls;
      sound = λ h sound.
          held_sound names after t.world
          (displaced_held names after.ways is.unwinding p beside before is.displaced is.failed (held_with after.ways whole.records whole.lists) after whole.m t whole.between u.calls.items
          (λ at_m. unpacked_held p texts beside before after.ways is.unwinding whole.records whole.lists s whole.m [] whole.between whole.unpacked at_m sound) whole.behind h)
          (is.order h);
    }

by_goes : (p : Package) (decision : Checked) (before after : Held) (u : AUnit) (s t : State) → ShipsText p → (IsTrue t.honest → IsTrue s.honest) → IsUnitBy p decision before after u s t → Goes before after s t
by_goes p (Refused rule) before after u s t texts falls is = goes_refused rule p.name before after u s t is
by_goes p (Unpacks beside) before after u s t texts falls is = unpacked_goes p beside before after u s t texts falls is

unit_goes : (auto : UnpackOptions) (label : List ℕ) (tree : Result Package TreeFault) (before after : Held) (u : AUnit) (s t : State) → IsTextTree tree → (IsTrue t.honest → IsTrue s.honest) → IsUnitOf auto label tree before after u s t → Goes before after s t
unit_goes auto label (Err fault) before after u s t texts falls is = goes_refused _ label before after u s t is
unit_goes auto label (Ok p) before after u s t texts falls (ways, read, is) =
    let one = unit_alike auto p (with_ways before ways) after u s t is in
    let goes = by_goes one.alike one.decision (with_ways before ways) after u s t (alike_text p one.alike one.paths (ships_text p texts)) falls one.unit in
    record { falls = goes.falls; sound = λ h sound. goes.sound h (sound_reread before ways s.world (read_entries p before ways s.world (read h)) sound) }

-- at each moment

module _ (p : Package) (texts : ShipsText p) (beside : Beside) (before : Held) (old : World) (sound : IsSound before old) where
  beside_opens : (so_far : List Event) (now : World) → IsAmidBeside p beside before (places_of before) old so_far now → CanBeOpened now
  beside_opens so_far now (inl still) = still_opens before old now sound still.0
  beside_opens so_far now (inr (others, late, rows, inl looks)) = still_opens before old now sound looks.0
  beside_opens so_far now (inr (others, late, rows, inr amid)) =
      let g = given_by p before late others (all_yielding p beside before) in
      under_way_opens (job_of g amid.plan_for.stored) (ground_of g (places_of before)) amid.plan amid.plan_for.planned refl refl sound.standing rows.apart.recorded rows.apart.unnamed texts old before.records refl sound.order (sound_lists before old sound)
      before.ways so_far now sound.safe amid.under_way

  behind_opens : (so_far : List Event) (now : World) → IsAmidBehind p beside before old so_far now → CanBeOpened now
  behind_opens so_far now amid =
      displacing_open _ amid.late amid.late p.name p.version (losing_beside before.lists beside) beside.conflicting (holding_of (held_with amid.late amid.records amid.lists)) amid.m amid.rest now
      (λ h. unpacked_held p texts beside before amid.late None amid.records amid.lists amid.s amid.m [] amid.between amid.unpacked h (subst (IsSound before) (sym amid.from) sound)) amid.displacing

  unpack_opens : (so_far : List Event) (now : World) → IsAmidUnpack p beside before old so_far now → CanBeOpened now
  unpack_opens so_far now (inl amid) = beside_opens so_far now amid
  unpack_opens so_far now (inr amid) = behind_opens so_far now amid

by_opens : (p : Package) (decision : Checked) (before : Held) (old : World) (so_far : List Event) (now : World) → ShipsText p → IsSound before old → IsAmidBy p decision before old so_far now → CanBeOpened now
by_opens p (Refused rule) before old so_far now texts sound same = still_opens before old now sound same
by_opens p (Unpacks beside) before old so_far now texts sound amid = unpack_opens p texts beside before old sound so_far now amid

package_opens : (auto : UnpackOptions) (p : Package) (before : Held) (old : World) (so_far : List Event) (now : World) → ShipsText p → IsSound before old → IsAmidPackage auto p before old so_far now → CanBeOpened now
package_opens auto p before old so_far now texts sound (inl still) = still_opens before old now sound still.0
package_opens auto p before old so_far now texts sound (inr (ways, read, amid)) =
    let one = amid_alike auto p (with_ways before ways) old so_far now amid in
    by_opens one.alike one.decision (with_ways before ways) old so_far now (alike_text p one.alike one.paths texts) (sound_reread before ways old (read_entries p before ways old (read refl)) sound) one.amid

unit_opens : (allowed : UnpackOptions) (tree : Result Package TreeFault) (before : Held) (old : World) (so_far : List Event) (now : World) → IsTextTree tree → IsSound before old → IsAmidUnitOf allowed tree before old so_far now → CanBeOpened now
unit_opens allowed (Err fault) before old so_far now texts sound same = still_opens before old now sound same
unit_opens allowed (Ok p) before old so_far now texts sound amid = package_opens allowed p before old so_far now (ships_text p texts) sound amid

-- unit after unit

unit_runs : (allowed : UnpackOptions) (c : Candidate) (before after : Held) (u : AUnit) (s t : State) → IsTextTree c.tree → RunsUnit allowed c before after u s t → Runs before after s t
unit_runs allowed c before after u s t texts runs = record {
  goes = unit_goes allowed c.label c.tree before after u s t texts runs.moments.honest runs.is;
  opened = λ sound. since_weaker_if _ _ s t (λ h so_far now amid. unit_opens allowed c.tree before s.world so_far now texts (sound (runs.moments.honest h)) amid) runs.moments;
}

pub run_runs : (allowed : UnpackOptions) (cs : List Candidate) (us : List AUnit) (before after : Held) (s t : State) → AreTextTrees cs → IsRun allowed cs us before after s t → Runs before after s t
run_runs allowed [] [] before after s t texts run = runs_same before after s t run.1 run.0
run_runs allowed [] (u ∷ us) before after s t texts run = absurd run
run_runs allowed (c ∷ cs) [] before after s t texts run = absurd run
run_runs allowed (c ∷ cs) (u ∷ us) before after s t texts run = runs_then before run.1 after s run.0 t (unit_runs allowed c before run.1 u s run.0 texts.0 run.2) (run_runs allowed cs us run.1 after run.0 t texts.1 run.3)

texts_take : (n : ℕ) (cs : List Candidate) → AreTextTrees cs → AreTextTrees (take n cs)
texts_take zero cs texts = tt
texts_take (suc n) [] texts = tt
texts_take (suc n) (c ∷ cs) texts = (texts.0, texts_take n cs texts.1)

texts_drop : (n : ℕ) (cs : List Candidate) → AreTextTrees cs → AreTextTrees (drop n cs)
texts_drop zero cs texts = texts
texts_drop (suc n) [] texts = tt
texts_drop (suc n) (c ∷ cs) texts = texts_drop n cs texts.1

next_opens : (allowed : UnpackOptions) (cs : List Candidate) (before : Held) (old : World) (so_far : List Event) (now : World) → AreTextTrees cs → IsSound before old → IsAmidNext allowed cs before old so_far now → CanBeOpened now
next_opens allowed [] before old so_far now texts sound same = still_opens before old now sound same
next_opens allowed (c ∷ cs) before old so_far now texts sound amid = unit_opens allowed c.tree before old so_far now texts.0 sound amid

pub run_ends : (allowed : UnpackOptions) (cs : List Candidate) (us : List AUnit) (last : Option AUnit) (before : Held) (s t : State) → AreTextTrees cs → HasRun allowed cs us last before s t → Ends before s t
run_ends allowed cs us last before s t texts has =
    ends_then before has.after s has.end t (run_runs allowed (take (length us) cs) us before has.after s has.end (texts_take (length us) cs texts) has.run)
    (λ sound. since_weaker_if _ _ has.end t (λ h so_far now amid. next_opens allowed (drop (length us) cs) has.after has.end.world so_far now (texts_drop (length us) cs texts) (sound (has.since.honest h)) amid) has.since)

-- a configure behind a reading of the table
behind_ends : (names : List (List ℕ)) (policy : ConfigureOptions) (us : List AUnit) (last : Option AUnit) (before : Held) (s t : State) → IsUnread us last s t ⊎ BehindReading (λ h n. HasConfigured names policy us last h n t) before s → Ends before s t
behind_ends names policy us last before s t (inl unread) sound = opened_reads before s t sound unread.reads
behind_ends names policy us last before s t (inr (ways, n, read, has)) sound =
    opened_then s n t (opened_reads before s n sound read.reads)
    (configure_ends policy names us last (with_ways before ways) n t has
    (λ h. subst (IsSound (with_ways before ways)) (sym read.reads.world) (sound_reread before ways s.world (read.found h).entries (sound (read.reads.honest h)))))

-- and then those that were done are configured
pub install_ends : (auto : UnpackOptions) (cs : List Candidate) (policy : ConfigureOptions) (unpacked : List AUnit) (configured : Report) (before : Held) (s t : State) → AreTextTrees cs → HasGoneOn auto cs policy unpacked configured before s t → Ends before s t
install_ends auto cs policy unpacked configured before s t texts has =
    ends_then before has.mid s has.m t (run_runs auto cs unpacked before has.mid s has.m texts has.unpacks) (behind_ends _ policy configured.units.items configured.last has.mid has.m t has.configures)
