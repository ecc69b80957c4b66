-- The rows of a unit that run in parts: what their parts make together.
use Rattle.std.proofs.Common.{◌≡◌, ◌⊎◌, ◌+◌, Bool, false, true, cond, IsTrue, List, [], ◌++◌, Option, Some, None, length, take, inl, inr, refl, sym, ap, subst, ◌∙◌, append_assoc}
use Rattle.std.proofs.lemmas.List.{append_cancel_left}
use Rattle.std.specs.Prelude.{Err, IfOk, Ok, Result, is_some}
use Rattle.host_core.proofs.Moments.{since_reads, since_start, since_then, since_weaker, since_weaker_if}
use Rattle.host_core.proofs.Scripts.{no_change, silent_added}
use Rattle.host_core.specs.Events.{Event, Ran, scripts_of}
use Rattle.host_core.specs.Host.{AllFailed, AtEachMomentOf, Needs, OnlyScripts, Reads, Silent, State, calls as calls_of_host}
use Rattle.host_core.specs.Loss.{IsLater}
use Rattle.host_core.specs.Paths.{Path}
use Rattle.host_core.specs.Tree.{IsTree}
use Rattle.host_core.specs.World.{Avoids, World, changed, is_kept}
use Rattle.administration.specs.Places.{tmp_path}
use Rattle.control_members.proofs.LaidOut.{incoming_absent}
use Rattle.control_members.specs.LaidOut.{IsIncoming, IsLaying}
use Rattle.control_members.specs.declared.member.Member.{Member}
use Rattle.diversions.specs.Ways.{Ways}
use Rattle.file_lists.specs.declared.paths.PackageList.{PackageList}
use Rattle.held_administration.specs.declared.held.Administration.{Administration}
use Rattle.package_files.specs.declared.work.Work.{Work}
use Rattle.undo_rows.proofs.FirstRows.{cause_of_all, runs_as_all, unwinds_of_all}
use Rattle.undo_rows.proofs.Growth.{succeed_anyhow}
use Rattle.undo_rows.proofs.Tellings.{begun_more, made_calls, made_none, made_weaker}
use Rattle.undo_rows.specs.Ended.{IsCauseOf, end_place, ended_as}
use Rattle.undo_rows.specs.Place.{Forward, Place}
use Rattle.undo_rows.specs.Stops.{AtEachStop}
use Rattle.undo_rows.specs.Telling.{Begun, HasRun, HasSucceeded}
use Rattle.undo_rows.specs.Transcript.{Succeed}
use Rattle.undo_rows.specs.Transcripts.{Committed, IfHonest, Legal, MayRun}
use Rattle.undo_rows.specs.declared.fall.StepFault.{StepFault}
use Rattle.undo_rows.specs.declared.rows.Called.{Called}
use Rattle.undo_rows.specs.declared.rows.Row.{Row}
use Rattle.undo_rows.specs.declared.unwinding.Unwinding.{Unwinding}
use Rattle.package_tree.specs.declared.package.Package.{Package}
use Rattle.unpack_rows.specs.Kinds.{kinds_of}
use Rattle.unpack_rows.specs.Stages.{Unwritten, Wrote, has_files}
use Rattle.unpack_plan.specs.Planned.{IsPlanned, Job, planned_from}
use Rattle.unpack_plan.specs.declared.plan.PlannedCommit.{PlannedCommit}
use Rattle.unpack_steps.specs.At.{AreWorksAt, At, Holding, IsFileFault, Stops}
use Rattle.unpack_steps.specs.Stays.{holds_at}
use Rattle.unpack_steps.specs.Task.{IsSound, Task, lists_at, task_by}
use Rattle.unpack_steps.specs.declared.plan.Rows.{Rows}
use Rattle.unpack_engine.specs.Followed.{AreFollowedAgain, paths_in_hand}
use Rattle.unpack_engine.specs.Tables.{IsJobOf, IsOther, IsReadHere, IsRunningByEither, StopsByEither}
use Rattle.unpack_engine.specs.Units.{HasBegun, HasCalledRows, HasRunRows, IsReadAgain, IsRunning}
use Rattle.unpack_engine.proofs.Again.{calls_silent, later_then}
use Rattle.unpack_engine.proofs.Carrying.{same_end}
use Rattle.unpack_engine.proofs.Planning.{none_failed}
use Rattle.unpack_engine.proofs.Sequel.{begun_behind}

-- nothing has run yet
pub none_succeeded : (gives : List Ran → Option StepFault → Type 0) (s : State) (told : List Called) → HasSucceeded gives [] s s told told
none_succeeded gives s told = made_none (Succeed (IfHonest s gives) (calls_of_host s) []) s s told refl (record { honest = λ h. h; scripts = refl })

-- soundness doesn't go by where the rows begin
pub sound_from : (t : Task) (s : State) → IsSound t → IsSound (record t { start = s })
sound_from t s sound = record {
  named = sound.named;
  concerned = sound.concerned;
  standing = sound.standing;
  union = sound.union;
  listed = sound.listed;
  works = sound.works;
  fitting = sound.fitting;
}

-- looking calls no script
only_looked : (kept : Path → Bool) (w : World) (es : List Event) → AllFailed es → OnlyScripts kept w es w
only_looked kept w es all =
    let none = no_change es (none_failed es all) in
    record { world = ap (λ c. changed c w) (sym none); avoids = subst (Avoids kept) (sym none) tt }

-- where rows are, and it is only looked, a stop may come
pub stops_looked : (t : Task) (g : Holding) (a b : State) (place : Place) → At t g a place → Reads a b → AtEachStop (Stops t) a b
stops_looked t g a b place at reads =
    since_weaker_if (λ so_far w. (w ≡ a.world) × AllFailed so_far) (λ so_far. Stops t (a.events ++ so_far)) a b
    (λ h so_far w is. subst (λ v. Stops t (a.events ++ so_far) v) (sym is.0) (holds_at t g a place so_far a.world at (reads.honest h) (only_looked (is_kept g.places) a.world so_far is.1)))
    (since_reads (λ so_far w. (w ≡ a.world) × AllFailed so_far) a b reads (λ es all. (refl, all)))

module _ (j : Job) (rows : Rows) (calls : List Row) (commit : PlannedCommit) (works : List Work) (first late : Ways) where
  -- at each stop: it is looked, and then other works are written
  module _ (task : Ways → List Work → Task) (a b : State) (g : Holding) (place : Place) (at : At (task first works) g a place) (reads : Reads a b) where
    abbrev Either : List Event → World → Type 0
    Either = StopsByEither j rows calls commit task works first late

    pub stops_before : AtEachStop Either a b
    stops_before = since_weaker (λ so_far. Stops (task first works) (a.events ++ so_far)) (λ so_far. Either (a.events ++ so_far)) a b (λ so_far w is. inl is) (stops_looked (task first works) g a b place at reads)

    pub stops_then : (c : State) (other : List Work) → IsOther j rows calls commit late other → AtEachStop (Stops (task late other)) b c → AtEachStop Either a c
    stops_then c other is moments =
        since_then (λ so_far. Either (a.events ++ so_far)) a b c stops_before
        (since_weaker (λ so_far. Stops (task late other) (b.events ++ so_far)) (λ so_far. Either (a.events ++ (stops_before.added ++ so_far))) b c
        (λ so_far w stops. inr (other, is, subst (λ (es : List Event). Stops (task late other) es w) (ap (λ (l : List Event). l ++ so_far) stops_before.events ∙ append_assoc a.events stops_before.added so_far) stops)) moments)

  -- at each moment of the rows: of those before the files, and of the others
  module _ (held : Administration) (a b : State) where
    abbrev Running : World → List Event → World → Type 0
    Running = IsRunningByEither j held rows calls works first late commit

    pub running_first : AtEachMomentOf (IsRunning (HasBegun commit.members) IsLaying (λ s. task_by s held first works rows)) a b → AtEachMomentOf Running a b
    running_first moments = since_weaker (IsRunning (HasBegun commit.members) IsLaying (λ s. task_by s held first works rows) a.world) (Running a.world) a b (λ so_far w is. inl is) moments

-- nothing is done yet
pub running_here : (j : Job) (rows : Rows) (calls : List Row) (commit : PlannedCommit) (works : List Work) (first late : Ways) (held : Administration) (s : State)
    → Needs s (λ w. (w tmp_path ≡ None) × IsTree w) → AtEachMomentOf (IsRunningByEither j held rows calls works first late commit) s s
running_here j rows calls commit works first late held s needs =
    since_weaker_if (λ so_far w. (so_far ≡ []) × (w ≡ s.world)) (IsRunningByEither j held rows calls works first late commit s.world) s s
    (λ h so_far w is. inl (IsRunning.beginning (ap scripts_of is.0) (record { rest = λ q out. ap (λ (v : World). v q) is.1; incoming = subst IsIncoming (sym is.1) (incoming_absent s.world (needs h).1 (needs h).0) })))
    (since_start (λ so_far w. (so_far ≡ []) × (w ≡ s.world)) s (refl, refl))

-- what holds by whether the tree is there
pub read_or_same : {T E : Type 0} (result : Result T E) (spare : Option Package) (A B : Type 0) → IfOk result (λ r. is_some spare ≡ true → B) → IfOk result (λ r. is_some spare ≡ false → A) → IfOk result (λ r. A ⊎ B)
read_or_same (Ok r) (Some tree) A B read same = inr (read refl)
read_or_same (Ok r) None A B read same = inl (same refl)
read_or_same (Err e) spare A B read same = tt

-- rows that were unwound before others could run
module _ (before files calls : List Row) (all : before ++ files ≡ calls) where
  pub unwound_first : (begins : World → World → Type 0) (task : State → Task) (u : Unwinding) (mid : Holding) (old last : State) (told now : List Called)
      → HasRunRows begins task before (ended_as (Some u)) mid old last told now → HasRunRows begins task calls (ended_as (Some u)) mid old last told now
  unwound_first begins task u mid old last told now ran = record {
    begun = ran.begun;
    quiet = ran.quiet;
    until = ran.until;
    begins_so = ran.begins_so;
    run = subst (λ (l : List Row). HasRun (IsFileFault (task ran.begun)) (ended_as (Some u)) l ran.begun last told now) all
        (made_weaker (Legal (IfHonest last (IsFileFault (task ran.begun))) (calls_of_host ran.begun) (ended_as (Some u)) before) (Legal (IfHonest last (IsFileFault (task ran.begun))) (calls_of_host ran.begun) (ended_as (Some u)) (before ++ files)) ran.begun last told now
        (λ ts is. unwinds_of_all before files (IfHonest last (IsFileFault (task ran.begun))) (calls_of_host ran.begun) ts u.fall u.failed.items is) ran.run);
    between = ran.between;
    rows_end = ran.rows_end;
  }

  pub cause_first : (u : Unwinding) → IsCauseOf before (Some u) → IsCauseOf calls (Some u)
  cause_first u is = subst (λ (l : List Row). IsCauseOf l (Some u)) all (cause_of_all before files u.fall.row u.fall.fault u.failure is)

  pub called_first : (old new : State) (told now : List Called) → HasCalledRows before old new told now → HasCalledRows calls old new told now
  called_first old new told now (HasCalledRows.nothing quiet same) = HasCalledRows.nothing quiet same
  called_first old new told now (HasCalledRows.some begun) = HasCalledRows.some (subst (λ (l : List Row). Begun (MayRun l) old new told now) all (begun_more (MayRun before) (MayRun (before ++ files)) old new told now (runs_as_all before files) begun))

-- Rows before the files have all succeeded, and others follow. `begun` and `held` are what was there where they began, as it is told.
module _ (here : Administration) (rows : Rows) (works : List Work) (first : Ways) (commit : PlannedCommit) (before files calls : List Row) (all : before ++ files ≡ calls)
    (none : has_files (take (length before) (kinds_of rows.found rows.others.items)) ≡ false)
    (old mid : State) (told then : List Called) (g : Holding) (begun : State) (held : Administration) (stack : List Row) (stack_is : stack ≡ before)
    (ran : HasRunRows (HasBegun commit.members) (λ s. task_by s here first works rows) before Committed g old mid told then) (begun_is : begun ≡ ran.begun) (held_is : held ≡ here) where
  abbrev t : Task
  t = task_by ran.begun here first works rows

  abbrev by : Ways → List Work → Task
  by ways others = task_by begun held ways others rows

  pub works_same : g.works ≡ works
  works_same = subst (λ b. AreWorksAt t (Forward (length before)) (cond b Wrote Unwritten) g.works) none ran.rows_end.works

  pub lists_same : g.lists ≡ here.lists.lists
  lists_same = subst (λ b. g.lists ≡ lists_at t (cond b Wrote Unwritten)) none ran.rows_end.lists

  task_same : by first g.works ≡ t
  task_same = (λ i. task_by (begun_is i) (held_is i) first (works_same i) rows)

  pub there_then : At (by first g.works) g mid (Forward (length stack))
  there_then = subst (λ (x : Task). At x g mid (Forward (length stack))) (sym task_same) (subst (λ (l : List Row). At t g mid (Forward (length l))) (sym stack_is) ran.rows_end)

  pub none_then : has_files (take (length stack) (kinds_of rows.found rows.others.items)) ≡ false
  none_then = subst (λ (l : List Row). has_files (take (length l) (kinds_of rows.found rows.others.items)) ≡ false) (sym stack_is) none

  pub all_then : stack ++ files ≡ calls
  all_then = ap (λ (l : List Row). l ++ files) stack_is ∙ all

  pub job_then : (j : Job) (spare : Option Package) → IsJobOf j (planned_from rows works calls commit) here.lists.lists first spare → IsJobOf j (planned_from rows g.works (stack ++ files) commit) g.lists first spare
  job_then j spare is = record {
    planned = subst (λ (x : List Work × List Row). IsPlanned j (planned_from rows x.0 x.1 commit)) (λ i. (sym works_same i, sym all_then i)) is.planned;
    lists_are = is.lists_are ∙ sym lists_same;
    ways_are = is.ways_are;
    tree = is.tree;
  }

  pub succeeded_then : HasSucceeded (IsFileFault (by first g.works)) stack ran.begun mid told then
  succeeded_then = subst (λ (x : Task). HasSucceeded (IsFileFault x) stack ran.begun mid told then) (sym task_same) (subst (λ (l : List Row). HasSucceeded (IsFileFault t) l ran.begun mid told then) (sym stack_is) ran.run)

  pub planned_then : (j : Job) (late : Ways) (shipped : List Work) (behind : PlannedCommit) → IsPlanned (record j { ways = late }) (planned_from rows shipped (stack ++ files) behind) → IsPlanned (record j { ways = late }) (planned_from rows shipped calls behind)
  planned_then j late shipped behind is = subst (λ (l : List Row). IsPlanned (record j { ways = late }) (planned_from rows shipped l behind)) all_then is

  module _ (end : State) (now : List Called) (later : IsLater mid end) where
    pub joined : (late : Ways) (shipped : List Work) (behind : PlannedCommit) → behind.members ≡ commit.members → (u : Option Unwinding) (last : Holding)
        → HasRun (IsFileFault (by late shipped)) (ended_as u) (stack ++ files) ran.begun end told now → At (by late shipped) last end (end_place (length (stack ++ files)) u)
        → HasRunRows (HasBegun behind.members) (λ s. task_by s here late shipped rows) calls (ended_as u) last old end told now
    joined late shipped behind members u last run there =
        let is : by late shipped ≡ task_by ran.begun here late shipped rows = (λ i. task_by (begun_is i) (held_is i) late shipped rows) in
        record {
          begun = ran.begun;
          quiet = ran.quiet;
          until = ran.until;
          begins_so = λ h. subst (λ (m : List Member). HasBegun m old.world ran.begun.world) (sym members) (ran.begins_so (later.honest h));
          run = subst (λ (x : Task). HasRun (IsFileFault x) (ended_as u) calls ran.begun end told now) is (subst (λ (l : List Row). HasRun (IsFileFault (by late shipped)) (ended_as u) l ran.begun end told now) all_then run);
          between = later_then ran.begun mid end ran.between later;
          rows_end = subst (λ place. At (task_by ran.begun here late shipped rows) last end place) (same_end (length calls) u)
              (subst (λ (x : Task). At x last end (end_place (length calls) u)) is (subst (λ (l : List Row). At (by late shipped) last end (end_place (length l) u)) all_then there));
        }

    pub called_then_all : Begun (MayRun (stack ++ files)) ran.begun end told now → HasCalledRows calls old end told now
    called_then_all is = HasCalledRows.some (begun_behind (MayRun calls) old ran.begun end told now ran.quiet (subst (λ (l : List Row). Begun (MayRun l) ran.begun end told now) all_then is))

    pub read_then : has_files (take (length before) rows.kinds.items) ≡ false → has_files (take (length before + 1) rows.kinds.items) ≡ has_files rows.kinds.items → (late : Ways)
        → IsReadHere g.lists rows.union first late mid end → IsReadAgain here.lists.lists (planned_from rows works calls commit) first late old end
    read_then none_here next late read =
        let made = made_calls (Succeed (IfHonest mid (IsFileFault t)) (calls_of_host ran.begun) before) ran.begun mid told then ran.run in
        record {
          before = before;
          files = files;
          parted = record { all = all; none = none_here; next = next };
          m = read.m;
          since = later_then old mid read.m (later_then old ran.begun mid ran.until ran.between) read.since;
          until = read.until;
          ran = made.0;
          calls_are = calls_silent mid read.m read.silent ∙ made.1 ∙ ap (λ (l : List Ran). l ++ made.0) (calls_silent old ran.begun ran.quiet);
          all = succeed_anyhow (IfHonest mid (IsFileFault t)) (calls_of_host ran.begun) [] before made.0 made.2.0;
          table = read.table;
          aliases = λ h. subst (λ (l : List PackageList). AreFollowedAgain l (paths_in_hand first.aliases rows.union late.entries) first late read.m.world) lists_same (read.aliases h);
        }

  module _ (j : Job) (late : Ways) (end : State) (moments : AtEachMomentOf (IsRunningByEither j here rows calls works first late commit) old mid)
      (stops : AtEachStop (StopsByEither j rows (stack ++ files) commit by g.works first late) mid end) where
    abbrev Moment : World → List Event → World → Type 0
    Moment = IsRunningByEither j here rows calls works first late commit

    added_is : moments.added ≡ ran.until.added ++ ran.between.added
    added_is = append_cancel_left old.events moments.added (ran.until.added ++ ran.between.added)
        (sym moments.events ∙ ran.between.events ∙ ap (λ (l : List Event). l ++ ran.between.added) ran.until.events ∙ append_assoc old.events ran.until.added ran.between.added)

    more_is : (so_far : List Event) → moments.added ++ so_far ≡ ran.until.added ++ (ran.between.added ++ so_far)
    more_is so_far = ap (λ (l : List Event). l ++ so_far) added_is ∙ append_assoc ran.until.added ran.between.added so_far

    stops_since : (x : Task) (so_far : List Event) (w : World) → Stops x (mid.events ++ so_far) w → Stops x (ran.begun.events ++ (ran.between.added ++ so_far)) w
    stops_since x so_far w is = subst (λ (es : List Event). Stops x es w) (ap (λ (l : List Event). l ++ so_far) ran.between.events ∙ append_assoc ran.begun.events ran.between.added so_far) is

    running_from : (x : State → Task) → IsTrue end.honest → (so_far : List Event) (w : World) → Stops (x ran.begun) (mid.events ++ so_far) w → IsRunning (HasBegun commit.members) IsLaying x old.world (moments.added ++ so_far) w
    running_from x h so_far w is = IsRunning.running ran.begun ran.until.added (ran.between.added ++ so_far) (more_is so_far) (silent_added old ran.begun ran.until.added ran.quiet ran.until.events) (ran.begins_so (stops.honest h)) (stops_since (x ran.begun) so_far w is)

    moment_of : IsTrue end.honest → (so_far : List Event) (w : World) → StopsByEither j rows (stack ++ files) commit by g.works first late (mid.events ++ so_far) w → Moment old.world (moments.added ++ so_far) w
    moment_of h so_far w (inl is) = inl (running_from (λ s. task_by s here first works rows) h so_far w (subst (λ (x : Task). Stops x (mid.events ++ so_far) w) task_same is))
    moment_of h so_far w (inr (other, is, at)) = inr (
      other,
      record { behind = is.behind; planned = planned_then j late other is.behind is.planned; members = is.members },
      running_from (λ s. task_by s here late other rows) h so_far w (subst (λ (x : Task). Stops x (mid.events ++ so_far) w) (λ i. task_by (begun_is i) (held_is i) late other rows) at),
    )

    pub moments_then : AtEachMomentOf Moment old end
    moments_then =
        since_then (Moment old.world) old mid end moments
        (since_weaker_if (λ so_far. StopsByEither j rows (stack ++ files) commit by g.works first late (mid.events ++ so_far)) (λ so_far. Moment old.world (moments.added ++ so_far)) mid end (λ h so_far w is. moment_of h so_far w is) stops)
