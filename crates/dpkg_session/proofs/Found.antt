-- What a run leaves is what a further command can open.
use Rattle.std.proofs.Common.{◌≡◌, inr, ℕ, Bool, true, List, [], ◌∷◌, Option, Some, Result, Ok, Err, IsTrue, Contains, refl, sym, ap, subst, ◌∙◌}
use Rattle.std.specs.List.{AllByRecursion}
use Rattle.texts.specs.PackageNames.{is_package_name}
use Rattle.host_core.specs.World.{World}
use Rattle.host_core.specs.Host.{State}
use Rattle.administration.specs.Directories.{HasBadName}
use Rattle.administration.specs.Places.{diversions_path, info_path, temporary}
use Rattle.administration.proofs.WholeFiles.{no_directory_at}
use Rattle.undo_rows.specs.Place.{Place}
use Rattle.undo_rows.specs.Transcripts.{Ended, Committed, Unwound}
use Rattle.diversions.specs.Ways.{Ways}
use Rattle.file_lists.specs.Info.{AreLoose, AreSound}
use Rattle.file_lists.specs.Lists.{HasLists}
use Rattle.file_lists.specs.declared.paths.PackageList.{PackageList}
use Rattle.package_files.specs.declared.work.Work.{Work}
use Rattle.opening.specs.Parts.{names_of}
use Rattle.package_tree.specs.declared.package.Package.{Package}
use Rattle.package_tree.specs.declared.fault.TreeFault.{TreeFault}
use Rattle.undo_rows.specs.Ended.{ended_as}
use Rattle.undo_rows.specs.declared.unwinding.Unwinding.{Unwinding}
use Rattle.status_db.proofs.Ordered.{same_standing, standing_same}
use Rattle.status_db.specs.Recorded.{Recorded}
use Rattle.status_records.specs.Records.{AreStanding, record_in}
use Rattle.status_records.specs.Words.{is_not_installed}
use Rattle.status_records.specs.declared.record.Record.{Record}
use Rattle.unpack_commit.specs.Takeover.{taken_places}
use Rattle.unpack_engine.proofs.EndLists.{gone_after}
use Rattle.unpack_engine.proofs.EndRecords.{IsKnown, all_known, committed_known, found_known, has_name, known_name, known_standing, recorded_known, rows_known}
use Rattle.unpack_engine.proofs.InfoSound.{sound_left, text_left}
use Rattle.unpack_engine.proofs.Order.{directory_there}
use Rattle.held_administration.specs.Order.{IsInOrder, record_names}
use Rattle.unpack_engine.specs.Units.{Ground, end_table, ground_of, last_place, package_name, table_after, unit_losers}
use Rattle.unpack_plan.specs.Planned.{IsPlanned, Job, Planned, name_of}
use Rattle.unpack_rows.specs.EndStates.{AreRecorded}
use Rattle.unpack_rows.specs.ForwardRows.{records_of}
use Rattle.unpack_relations.specs.declared.checking.Checked.{Checked}
use Rattle.unpack_relations.specs.declared.checking.Checked.TheVariants.{Planned as Unpacks, Refused}
use Rattle.unpack_relations.specs.declared.beside.Beside.{Beside}
use Rattle.undo_rows.specs.declared.rows.Called.{Called}
use Rattle.unpack_relations.specs.declared.options.UnpackOptions.{UnpackOptions}
use Rattle.dpkg_session.specs.declared.report.Candidate.{Candidate}
use Rattle.unit_reports.specs.declared.report.Unit.{Unit as AUnit}
use Rattle.unit_reports.specs.Held.{Held, places_of}
use Rattle.dpkg_session.specs.History.{Stands}
use Rattle.dpkg_session.specs.Rereading.{with_ways}
use Rattle.dpkg_session.proofs.Overridden.{unit_alike}
use Rattle.dpkg_session.specs.Run.{IsRun}
use Rattle.dpkg_session.specs.Units.{HasUnpackedBeside, IsUnitBy, IsUnitOf, IsUnpacked, all_yielding, displacing_by, given_by, held_with}
use Rattle.dpkg_session.proofs.Beside.{diverted_spare_run, table_run}
use Rattle.dpkg_session.proofs.Certain.{lists_had}
use Rattle.dpkg_session.proofs.Displaced.{behind_leaves}
use Rattle.dpkg_session.proofs.Keeping.{KeepsUnnamed}
use Rattle.dpkg_session.proofs.Known.{IsOneOf, all_named, name_among, named_standing}
use Rattle.dpkg_session.proofs.Runs.{falls_run}
use Rattle.dpkg_session.proofs.Sound.{sound_kept, text_kept}

-- what is in `info` has no fault, and no record is of a package that is gone
pub record HasInfo (h : Held) (w : World) : Type 0 where
  pub text : HasBadName w info_path → ⊥
  pub standing : AreStanding h.records.records
  pub sound : AreSound w (names_of h.records.records)

-- the records of a unit

module _ (j : Job) (g : Ground) (p : Planned) (planned : IsPlanned j p) (same : g.records ≡ j.records) (standing : AreStanding g.records) (recorded : AreRecorded g.records (records_of j.others)) where
  own_is : package_name g p ≡ name_of j
  own_is = planned.records_are.own

  own_named : is_package_name (package_name g p) ≡ true
  own_named = ap is_package_name own_is ∙ planned.records_are.named

  found_in : (r : Record) → p.found ≡ Some r → record_in g.records (package_name g p) ≡ Some r
  found_in r is = ap (λ (rs : List Record). record_in rs (package_name g p)) same ∙ ap (record_in j.records) own_is ∙ sym planned.records_are.found_is ∙ is

  found_among : (r : Record) → p.found ≡ Some r → Contains (record_names g.records) (package_name g p)
  found_among r is = has_name g.records (package_name g p) r (found_in r is)

  before_known : AllByRecursion (IsKnown (record_names g.records) (package_name g p)) g.records
  before_known = all_known (package_name g p) g.records standing

  others_known : AllByRecursion (IsKnown (record_names g.records) (package_name g p)) p.others
  others_known =
      subst (AllByRecursion (IsKnown (record_names g.records) (package_name g p))) (sym planned.rows_are.others_are)
      (recorded_known (record_names g.records) (package_name g p) g.records (records_of j.others) recorded before_known)

  rows_end : (place : Place) → AllByRecursion (IsKnown (record_names g.records) (package_name g p)) (table_after g p place)
  rows_end place =
      rows_known (record_names g.records) (package_name g p) p.found p.incoming refl (λ r is. found_known (record_names g.records) (package_name g p) g.records before_known (package_name g p) r (found_in r is)) p.others g.records place others_known before_known

  fresh_known : IsKnown (record_names g.records) (package_name g p) p.fresh
  fresh_known = record { stands = ap is_not_installed planned.records_are.fresh_is.is.state_is; named = inr (planned.records_are.fresh_is.is.name_is ∙ sym own_is) }

  end_known : (ended : Ended) (works : List Work) (lists : List PackageList) (table : List Record) → AllByRecursion (IsKnown (record_names g.records) (package_name g p)) table → AllByRecursion (IsKnown (record_names g.records) (package_name g p)) (end_table g p ended works lists table)
  end_known Committed works lists table all = committed_known (record_names g.records) (package_name g p) g.ways (taken_places works) (unit_losers g p works lists) table p.fresh all fresh_known
  end_known (Unwound fall failed) works lists table all = all

-- a unit

unpacked_info : (p : Package) (beside : Beside) (before : Held) (late : Ways) (unwinding : Option Unwinding) (records : Recorded) (lists : List PackageList) (s t : State) (told now : List Called) → HasUnpackedBeside p beside before late (places_of before) unwinding records lists s t told now
    → IsTrue t.honest → IsInOrder records lists t.world → HasInfo before s.world → HasInfo (held_with late records lists) t.world
unpacked_info p beside before late unwinding records lists s t told now is h order info =
    let g = ground_of (given_by p before late is.others (all_yielding p beside before)) (places_of before) in
    let out = is.unpacked.carried_out in
    let plan = is.unpacked.plan in
    let planned = is.unpacked.plan_for.planned in
    let recorded = is.have_rows.apart.recorded in
    let ended = ended_as unwinding in
    let honest = out.since.honest h in
    let at = out.ran.rows_end in
    let named = own_named _ g plan planned refl info.standing recorded in
    let mid_known = subst (λ (rs : List Record). AllByRecursion (IsKnown (record_names g.records) (package_name g plan)) rs) (sym at.records) (rows_end _ g plan planned refl info.standing recorded (last_place g plan ended)) in
    let known = subst (λ (rs : List Record). AllByRecursion (IsKnown (record_names g.records) (package_name g plan)) rs) (sym out.records) (end_known _ g plan planned refl info.standing recorded ended out.mid.works out.mid.lists out.mid.database.records mid_known) in
    record {
      text = text_left g plan named planned.works_are.named planned.lists_are.spares planned.names_are.elsewhere ended out.mid s.world out.ran.begun out.last (out.ran.begins_so honest) at honest t.world (out.leaves h) info.text;
      standing = known_standing (record_names g.records) (package_name g plan) records.records known;
      sound = sound_left g plan named planned.works_are.named planned.lists_are.spares planned.names_are.elsewhere ended out.mid s.world out.ran.begun out.last (out.ran.begins_so honest) at honest t.world (out.leaves h)
          (record_names g.records) (record_names records.records) (found_among _ g plan planned refl info.standing recorded)
          (known_name (record_names g.records) (package_name g plan) records.records known)
          (gone_after (given_by p before late is.others (all_yielding p beside before)) is.unpacked.plan_for.stored plan planned (places_of before) out.ran.begun out.last out.mid ended at records.records out.records) info.sound order.loose lists (lists_had t.world (record_names records.records) lists order.listed);
    }

-- what packages leave that aren't unpacked

pub info_left : (before after : Held) (old new : World) → KeepsUnnamed old new
    → (AllByRecursion (IsOneOf (names_of before.records.records)) before.records.records → AllByRecursion (IsOneOf (names_of before.records.records)) after.records.records)
    → AreLoose new → ∥ HasLists new (names_of after.records.records) after.lists ∥₁ → HasInfo before old → HasInfo after new
info_left before after old new keeps named loose listed info =
    let known = named (all_named before.records.records info.standing) in
    record {
      text = text_kept old new keeps info.text;
      standing = named_standing (names_of before.records.records) after.records.records known;
      sound = sound_kept old new keeps (names_of before.records.records) (names_of after.records.records) after.lists
          (name_among (names_of before.records.records) after.records.records known) info.sound loose (lists_had new (names_of after.records.records) after.lists listed);
    }

whole_info : (p : Package) (beside : Beside) (before after : Held) (u : AUnit) (s t : State) → IsUnpacked p beside before after u s t → IsTrue t.honest → HasInfo before s.world → HasInfo after t.world
whole_info p beside before after u s t is h info =
    let whole = is.unpacked in
    let mid = held_with after.ways whole.records whole.lists in
    let leaves = behind_leaves (names_of whole.records.records) is.unwinding (displacing_by p beside before.lists) is.displaced is.failed mid after whole.m t whole.between u.calls.items whole.behind in
    let honest = leaves.falls h in
    info_left mid after whole.m.world t.world (leaves.keeps h) leaves.named (is.order h).loose (is.order h).listed
    (unpacked_info p beside before after.ways is.unwinding whole.records whole.lists s whole.m [] whole.between whole.unpacked honest (whole.ready honest) info)

same_info : (before after : Held) (v w : World) → after ≡ before → w ≡ v → HasInfo before v → HasInfo after w
same_info before after v w held world info = subst (λ (h : Held). HasInfo h w) (sym held) (subst (HasInfo before) (sym world) info)

info_by : (p : Package) (decision : Checked) (before after : Held) (u : AUnit) (s t : State) → IsUnitBy p decision before after u s t → IsTrue t.honest → HasInfo before s.world → HasInfo after t.world
info_by p (Refused rule) before after u s t is h info = same_info before after s.world t.world is.held (is.world h) info
info_by p (Unpacks beside) before after u s t is h info = whole_info p beside before after u s t is h info

info_unit : (auto : UnpackOptions) (label : List ℕ) (tree : Result Package TreeFault) (before after : Held) (u : AUnit) (s t : State) → IsUnitOf auto label tree before after u s t → IsTrue t.honest → HasInfo before s.world → HasInfo after t.world
info_unit auto label (Err fault) before after u s t is h info = same_info before after s.world t.world is.held (is.world h) info
info_unit auto label (Ok p) before after u s t (added, read, is) h info =
    let one = unit_alike auto p (with_ways before added) after u s t is in
    info_by one.alike one.decision (with_ways before added) after u s t one.unit h (record { text = info.text; standing = info.standing; sound = info.sound })

-- and a run of them

info_run : (auto : UnpackOptions) (cs : List Candidate) (us : List AUnit) (before after : Held) (s t : State) → IsRun auto cs us before after s t → IsTrue t.honest → HasInfo before s.world → HasInfo after t.world
info_run auto [] [] before after s t run h info = same_info before after s.world t.world run.1 (ap (λ (x : State). x.world) run.0) info
info_run auto [] (u ∷ us) before after s t run h info = absurd run
info_run auto (c ∷ cs) [] before after s t run h info = absurd run
info_run auto (c ∷ cs) (u ∷ us) before after s t run h info =
    info_run auto cs us run.1 after run.0 t run.3 h (info_unit auto c.label c.tree before run.1 u s run.0 run.2.is (falls_run auto cs us run.1 after run.0 t run.3 h) info)

pub found_run : (auto : UnpackOptions) (cs : List Candidate) (us : List AUnit) (before after : Held) (s t : State) → IsRun auto cs us before after s t → IsTrue t.honest → IsInOrder after.records after.lists t.world → Stands before s.world → Stands after t.world
found_run auto cs us before after s t run h order found =
    let info = info_run auto cs us before after s t run h (record { text = found.text; standing = same_standing before.records.records found.standing; sound = found.listed.sound }) in
    record {
      home = order.kept.unblocked.home;
      info = directory_there (t.world info_path) order.info;
      updates = order.kept.unblocked.updates;
      text = info.text;
      diversions = table_run auto cs us before after s t run h found.diversions;
      diversions_spare = no_directory_at (t.world (temporary diversions_path)) (s.world (temporary diversions_path)) (diverted_spare_run auto cs us before after s t run h) found.diversions_spare;
      tmp = order.tmp;
      records = order.kept;
      standing = standing_same after.records.records info.standing;
      listed = record { sound = info.sound; lists = lists_had t.world (names_of after.records.records) after.lists order.listed };
    }
