-- A unit by its parts: what its rows need, what they leave to what follows them, and what holds at each moment.
use Rattle.std.proofs.Common.{◌≡◌, ◌≢◌, IsTrue, false, List, [], ◌∷◌, ◌++◌, length, sym, ap, subst, ◌∙◌}
use Rattle.std.specs.Prelude.{Result, Ok, Err, IfOk, OnOk}
use Rattle.host_core.specs.Paths.{Path}
use Rattle.host_core.specs.World.{IsDirectory}
use Rattle.host_core.specs.Host.{State, Needs}
use Rattle.host_core.specs.Tree.{IsTree}
use Rattle.administration.specs.Places.{info_path}
use Rattle.undo_rows.specs.Place.{Fit}
use Rattle.undo_rows.specs.Transcripts.{Ended, Committed, Unwound}
use Rattle.control_members.specs.LaidOut.{AreLaidOut}
use Rattle.control_members.proofs.LaidOut.{incoming_absent}
use Rattle.diversions.specs.Ways.{Ways}
use Rattle.file_lists.specs.Filed.{Filed}
use Rattle.file_lists.specs.Info.{AreLoose}
use Rattle.file_lists.specs.declared.paths.PackageList.{PackageList}
use Rattle.package_files.specs.declared.work.Work.{Work}
use Rattle.held_administration.specs.Open.{CanWrite}
use Rattle.held_administration.specs.declared.held.Administration.{Administration}
use Rattle.status_db.specs.Held.{IsKept}
use Rattle.status_db.specs.Recorded.{Recorded}
use Rattle.status_records.specs.Records.{AreApart, AreStanding, IsWithout, record_in}
use Rattle.status_records.specs.Words.{is_not_installed}
use Rattle.status_records.specs.declared.record.Record.{Record}
use Rattle.undo_rows.specs.declared.rows.Called.{Called}
use Rattle.undo_rows.specs.declared.rows.Row.{Row}
use Rattle.unpack_commit.specs.Takeover.{put_records, taken_places}
use Rattle.unpack_commit.proofs.Those.{losing_stand}
use Rattle.unpack_plan.specs.Members.{scripts_in}
use Rattle.unpack_plan.specs.Planned.{IsPlanned, Job, Planned, planned_from}
use Rattle.unpack_plan.specs.declared.plan.PlannedCommit.{PlannedCommit}
use Rattle.unpack_rows.specs.EndStates.{AreRecorded, end_of, own_name}
use Rattle.unpack_rows.specs.ForwardRows.{Fits, records_of}
use Rattle.unpack_rows.specs.Kinds.{kinds_of}
use Rattle.unpack_rows.specs.Notes.{noted, notes_at}
use Rattle.unpack_rows.proofs.Ends.{end_table}
use Rattle.unpack_rows.proofs.Matching.{as_many, rows_fit}
use Rattle.unpack_steps.specs.At.{At, Holding}
use Rattle.unpack_steps.specs.Task.{IsSound, task_by}
use Rattle.unpack_steps.specs.declared.plan.Rows.{Rows}
use Rattle.unpack_engine.specs.Endings.{ended_records, ended_table, records_from}
use Rattle.held_administration.specs.Order.{IsInOrder}
use Rattle.unpack_engine.specs.Others.{AreOthers}
use Rattle.unpack_engine.specs.Touched.{AreTold, deconfigured}
use Rattle.unpack_engine.specs.Units.{Begins, Ground, HasBegun, HasRunRows, IsPlanBy, IsTouched, commit_records, ground_by, package_name, task_from}
use Rattle.unpack_engine.proofs.AfterRows.{last_laid}
use Rattle.unpack_engine.proofs.EndOrder.{plan_named, rows_loose}
use Rattle.unpack_engine.proofs.EndOthers.{EndsFor, end_for}
use Rattle.unpack_engine.proofs.Order.{own_list, own_members}
use Rattle.unpack_engine.proofs.Touching.{noted_changed, touched_by}

-- what the rows of a plan need
module _ (g : Ground) (j : Job) (p : Planned) (records : j.records ≡ g.records) (planned : IsPlanned j p) (others : AreOthers j.«package».name g.records j.others) where
  same_others : p.others ≡ records_of j.others
  same_others = planned.rows_are.others_are

  pub plan_sound : AreStanding g.records → (s : State) → IsSound (task_from g p s)
  plan_sound standing s = record {
    named = plan_named g j p planned;
    concerned = record {
      own = ap (record_in g.records) planned.records_are.own ∙ ap (λ rs. record_in rs j.«package».name) (sym records) ∙ sym planned.records_are.found_is;
      recorded = subst (AreRecorded g.records) (sym same_others) others.recorded;
      apart = (
        subst (λ n. IsWithout n p.others) (sym planned.records_are.own) (subst (IsWithout j.«package».name) (sym same_others) others.unnamed),
        subst AreApart (sym same_others) others.apart,
      );
    };
    standing = standing;
    union = planned.lists_are.union_is.paths;
    listed = planned.lists_are.listed_paths;
    works = planned.works_are.named;
    fitting = planned.works_are.fitting;
  }

  pub plan_fits : Fit (Fits (package_name g p) (kinds_of p.found p.others)) p.rows
  plan_fits =
      subst (λ os. Fit (Fits (package_name g p) (kinds_of p.found os)) p.rows) (sym same_others)
      (subst (Fit (Fits (package_name g p) (kinds_of p.found (records_of j.others)))) (sym planned.rows_are.rows_are) (rows_fit p.found p.incoming j.stored (scripts_in j.«package».scripts) j.others others.own))

  pub plan_length : length p.rows ≡ length (kinds_of p.found p.others)
  plan_length =
      ap (λ (l : List Row). length l) planned.rows_are.rows_are ∙ as_many p.found p.incoming j.stored (scripts_in j.«package».scripts) j.others
      ∙ ap (λ os. length (kinds_of p.found os)) (sym same_others)

last_stands : (rs : List Record) (r : Record) → AreStanding rs → is_not_installed r.state ≡ false → AreStanding (rs ++ r ∷ [])
last_stands [] r all here = (here, tt)
last_stands (s ∷ rs) r all here = (all.0, last_stands rs r all.1 here)

-- what the rows leave
module _ (g : Ground) (j : Job) (p : Planned) (planned : IsPlanned j p) (d : Recorded) (lists : List PackageList) (old last : State) (order : Needs old (IsInOrder d lists)) (tree : Needs old IsTree)
    (ended : Ended) (mid : Holding) (told now : List Called) (ran : HasRunRows (Begins g p) (task_from g p) p.rows ended mid old last told now) (many : length p.rows ≡ length (kinds_of p.found p.others)) where
  abbrev there : At (task_from g p ran.begun) mid last (end_of (length p.rows) ended)
  there = ran.rows_end

  at_old : IsTrue last.honest → IsTrue old.honest
  at_old h = ran.until.honest (ran.between.honest h)

  pub last_info : Needs last (λ w. IsDirectory (w info_path))
  last_info = λ h. (there.world h).ready.info

  pub last_kept : Needs last (IsKept mid.database)
  last_kept = λ h. (there.world h).kept

  pub loose_last : Needs last AreLoose
  loose_last = λ h. rows_loose g p (plan_named g j p planned) planned.works_are.named d lists old.world (order (at_old h)) ended mid ran.begun last (ran.begins_so h) there h

  pub laid_last : Needs last (AreLaidOut p.members)
  laid_last = λ h.
      let named = plan_named g j p planned in
      let there' = order (at_old h) in
      last_laid g p named planned.works_are.named old.world (own_list d lists old.world there' (package_name g p) named) (own_members d lists old.world there' (package_name g p) named) there'.loose
      (incoming_absent old.world (tree (at_old h)) there'.tmp) mid ran.begun last (ran.begins_so h) h ended there

  pub noted_stand : AreStanding mid.database.records → AreStanding (commit_records g p mid.works mid.lists mid.database.records)
  noted_stand standing = last_stands _ p.fresh (losing_stand g.ways (taken_places mid.works) _ mid.database.records standing) (ap is_not_installed planned.records_are.fresh_is.is.state_is)

  -- which packages are touched
  pub rows_end_for : (q : Path) → q ≢ package_name g p → EndsFor p.others g.records q (record_in mid.database.records q)
  rows_end_for q other =
      subst (EndsFor p.others g.records q)
      (sym (ap (λ rs. record_in rs q) there.records
      ∙ ap (λ n. record_in (noted g.records (notes_at p.found p.incoming (kinds_of p.found p.others) (end_of n ended))) q) many
      ∙ end_table p.found p.incoming p.others g.records there.sound.concerned ended q))
      (end_for p.found p.incoming p.others g.records there.sound.concerned.recorded ended q other)

  pub fresh_named : p.fresh.name ≡ package_name g p
  fresh_named = planned.records_are.fresh_is.is.name_is ∙ sym planned.records_are.own

  pub committed_touched : AreApart mid.database.records → (after : List Record) (touched : List Path) → after ≡ put_records (commit_records g p mid.works mid.lists mid.database.records) mid.database.records
      → AreTold (package_name g p) (commit_records g p mid.works mid.lists mid.database.records ++ deconfigured after p.others) touched → IsTouched (package_name g p) g.records after touched
  committed_touched apart after touched is told =
      touched_by (package_name g p) p.others g.records mid.database.records after (commit_records g p mid.works mid.lists mid.database.records) there.sound.concerned.recorded rows_end_for
      (λ q other. noted_changed g.ways (taken_places mid.works) _ p.others g.records mid.database.records q (rows_end_for q other) p.fresh (package_name g p) apart fresh_named other) is touched told

  pub unwound_touched : (after : List Record) (touched : List Path) → after ≡ mid.database.records → AreTold (package_name g p) (deconfigured after p.others) touched → IsTouched (package_name g p) g.records after touched
  unwound_touched after touched is told =
      touched_by (package_name g p) p.others g.records mid.database.records after [] there.sound.concerned.recorded rows_end_for (λ q other. tt) is touched told

  pub touched_ended : (e : Ended) → AreApart mid.database.records → (after : List Record) (touched : List Path) → after ≡ ended_table e (commit_records g p mid.works mid.lists mid.database.records) mid.database.records
      → AreTold (package_name g p) (ended_records e (commit_records g p mid.works mid.lists mid.database.records) ++ deconfigured after p.others) touched → IsTouched (package_name g p) g.records after touched
  touched_ended Committed apart after touched is told = committed_touched apart after touched is told
  touched_ended (Unwound fall failed) apart after touched is told = unwound_touched after touched is told

-- the same by the parts of a plan
module _ (held : Administration) (ways : Ways) (rows : Rows) (works : List Work) (calls : List Row) (commit : PlannedCommit)
    (plan : IsPlanBy held.database.records (planned_from rows works calls commit)) where
  abbrev own : Path
  own = own_name rows.found rows.incoming

  abbrev g : Ground
  g = ground_by held ways rows.yields

  abbrev p : Planned
  p = planned_from rows works calls commit

  abbrev noted_then : Holding → List Record
  noted_then mid = records_from own rows.yields ways mid.lists mid.works commit mid.database.records

  pub parts_sound : AreStanding held.database.records → (s : State) → IsSound (task_by s held ways works rows)
  parts_sound standing s = plan_sound g plan.job p plan.records_are plan.planned plan.others standing s

  pub parts_kinds : rows.kinds.items ≡ kinds_of rows.found rows.others.items
  parts_kinds = plan.planned.rows_are.kinds_are ∙ ap (kinds_of rows.found) (sym plan.planned.rows_are.others_are)

  pub parts_rows : Fit (Fits own (kinds_of rows.found rows.others.items)) calls
  parts_rows = plan_fits g plan.job p plan.records_are plan.planned plan.others

  pub parts_length : length calls ≡ length (kinds_of rows.found rows.others.items)
  parts_length = plan_length g plan.job p plan.records_are plan.planned plan.others

  module _ (ended : Ended) (mid : Holding) (old last : State) (order : Needs old (IsInOrder held.database held.lists.lists)) (tree : Needs old IsTree) (told now : List Called)
      (ran : HasRunRows (HasBegun commit.members) (λ s. task_by s held ways works rows) calls ended mid old last told now) where
    pub parts_info : Needs last (λ w. IsDirectory (w info_path))
    parts_info = last_info g plan.job p plan.planned held.database held.lists.lists old last order tree ended mid told now ran parts_length

    pub parts_kept : Needs last (IsKept mid.database)
    parts_kept = last_kept g plan.job p plan.planned held.database held.lists.lists old last order tree ended mid told now ran parts_length

    pub parts_loose : Needs last AreLoose
    parts_loose = loose_last g plan.job p plan.planned held.database held.lists.lists old last order tree ended mid told now ran parts_length

    pub parts_laid : Needs last (AreLaidOut commit.members)
    parts_laid = laid_last g plan.job p plan.planned held.database held.lists.lists old last order tree ended mid told now ran parts_length

    pub parts_stand : AreStanding mid.database.records → AreStanding (noted_then mid)
    parts_stand standing = noted_stand g plan.job p plan.planned held.database held.lists.lists old last order tree ended mid told now ran parts_length standing

    pub parts_touched : AreApart mid.database.records → (after : List Record) (touched : List Path) → after ≡ ended_table ended (noted_then mid) mid.database.records
        → AreTold own (ended_records ended (noted_then mid) ++ deconfigured after rows.others.items) touched → IsTouched own held.database.records after touched
    parts_touched apart after touched is says =
        touched_ended g plan.job p plan.planned held.database held.lists.lists old last order tree ended mid told now ran parts_length ended apart after touched is says

-- of an answer three things hold, and two more where the host was honest
pub if_ok_both : {T E : Type 0} (result : Result T E) (P Q : T → Type 0) (A B N L M : Type 0) → ((x : T) → P x → A → B → (N → L) → (N → M) → Q x) → IfOk result P → OnOk result A → OnOk result B → (N → OnOk result L) → (N → OnOk result M) → IfOk result Q
if_ok_both (Ok x) P Q A B N L M so p a b l m = so x p a b l m
if_ok_both (Err e) P Q A B N L M so p a b l m = tt

pub if_ok_with : {T E : Type 0} (result : Result T E) (P Q : T → Type 0) (A : Type 0) → ((x : T) → P x → A → Q x) → IfOk result P → OnOk result A → IfOk result Q
if_ok_with (Ok x) P Q A so p a = so x p a
if_ok_with (Err e) P Q A so p a = tt

-- where records can be written and lists could be before, so they can be behind what follows the rows
pub can_write_still : {T E : Type 0} (result : Result T E) (held : Administration) (before : Filed) (lists : List PackageList) → before.closed ≡ false → OnOk result (held.database.closed ≡ false)
    → OnOk result (held.lists ≡ record before { lists = lists }) → OnOk result (CanWrite held)
can_write_still (Ok x) held before lists listing noting same = record { noting = noting; listing = ap (λ (f : Filed). f.closed) same ∙ listing }
can_write_still (Err e) held before lists listing noting same = tt
