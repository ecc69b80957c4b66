-- Those that are left over are told behind the others.
use Rattle.std.proofs.Common.{◌≡◌, inl, inr, ℕ, Bool, List, [], ◌++◌, Option, Some, None, refl, sym, ap, subst, ◌∙◌, append_assoc}
use Rattle.std.proofs.lemmas.List.{append-nil}
use Rattle.std.specs.Prelude.{IfSome, IsNone}
use Rattle.std.proofs.lemmas.Bool.{true≢false}
use Rattle.dependency_check.specs.Waiting.{Waiting}
use Rattle.host_core.specs.Host.{State, Since, NoFault}
use Rattle.host_core.proofs.Moments.{since_start, since_weaker}
use Rattle.unit_runs.proofs.Going.{still_here}
use Rattle.status_records.specs.declared.record.Record.{Record}
use Rattle.recorded_packages.specs.Packages.{ArePackagesOf}
use Rattle.relation_index.specs.declared.package.Package.{Package}
use Rattle.unit_reports.proofs.Telling.{calls_both}
use Rattle.unit_reports.specs.Held.{Held}
use Rattle.unit_reports.specs.Units.{CountsLast, IsBrokenBy, calls_of, last_calls}
use Rattle.unit_reports.specs.declared.report.Breakage.TheVariants.{Abandoned, Closed}
use Rattle.unit_reports.specs.declared.report.Unit.{Unit as AUnit}
use Rattle.undo_rows.specs.Transcript.{TellsAll}
use Rattle.removal_run.specs.LeftOver.{AreAllTold, AreLeftOver}
use Rattle.removal_run.specs.Next.{IsNothing}
use Rattle.removal_run.specs.Run.{EndsWith, IsAmidRun, IsIdle, RunsThrough, RunsUpTo, waiting_for}
use Rattle.removal_run.specs.Turns.{HasStopped, HasTurned, IsAmidTurns, IsBrokenNext}
use Rattle.removal_run.specs.declared.options.RemovalOptions.{RemovalOptions}
use Rattle.removal_run.proofs.Overleft.{depended_calls}
use Rattle.removal_run.proofs.Removals.{silent_here}
use Rattle.removal_run.proofs.Replies.{broken_by}
use Rattle.removal_run.proofs.Turning.{since_next_start}
use Rattle.unit_reports.proofs.Counting.{counts_no_memory, no_memory_not_abandoned, no_memory_not_closed}

left_over : (ignore : Bool) (packages : List Package) (now : List Record) (waiting : List (List ℕ)) (q : Waiting) (us : List AUnit) → IsNothing ignore packages now waiting q → AreAllTold q us → AreLeftOver ignore packages now waiting us
left_over ignore packages now waiting q us nothing told = record { queue = q; is = nothing.queue; nobody = nothing.nobody; told = told }

idle_next : (options : RemovalOptions) (packages : List Package) (waiting : List (List ℕ)) (h : Held) (s : State) (u : AUnit) → IsIdle u → IsBrokenNext options packages waiting h s s u
idle_next options packages waiting h s u idle = record { broken = broken_by _ u.reply idle.broken; untouched = idle.touched; called = inl (record { silent = silent_here s; told = idle.calls }) }

module _ (options : RemovalOptions) (packages : List Package) (names left : List (List ℕ)) (begun mid us : List AUnit) (before after : Held) (s t : State) (stated : ArePackagesOf before.records.records packages)
    (turned : HasTurned options packages names left before after s t begun mid) (q : Waiting) (nothing : IsNothing options.ignore_depends packages after.records.records left q) where
  -- where all are told
  pub runs_through : EndsWith q mid us None → RunsThrough options names begun us before after s t
  runs_through ends = record {
    packages = packages;
    stated = stated;
    removed = turned.turned;
    left = ends.left;
    units = ends.grown ∙ ap (λ (l : List AUnit). l ++ ends.left) turned.are ∙ append_assoc begun turned.turned ends.left;
    waiting = left;
    turns = turned.come;
    last = left_over options.ignore_depends packages after.records.records left q ends.left nothing ends.told;
  }

  pub runs_up_to : (last : Option AUnit) → EndsWith q mid us last → RunsUpTo options names begun us last before s t
  runs_up_to None ends = record {
    packages = packages;
    stated = stated;
    removed = turned.turned;
    left = ends.left;
    units = ends.grown ∙ ap (λ (l : List AUnit). l ++ ends.left) turned.are ∙ append_assoc begun turned.turned ends.left;
    waiting = left;
    after = after;
    end = t;
    turns = turned.come;
    rest = inr (left_over options.ignore_depends packages after.records.records left q ends.left nothing ends.told);
    since = since_next_start options packages left left after t;
    broken = tt;
  }
  runs_up_to (Some u) ends = record {
    packages = packages;
    stated = stated;
    removed = turned.turned;
    left = [];
    units = ends.0 ∙ turned.are ∙ ap (λ (l : List AUnit). begun ++ l) (sym (append-nil turned.turned));
    waiting = left;
    after = after;
    end = t;
    turns = turned.come;
    rest = inl refl;
    since = since_next_start options packages left left after t;
    broken = idle_next options packages left after t u ends.1;
  }

-- the calls that are told
pub told_calls : (q : Waiting) (mid us : List AUnit) (last : Option AUnit) → EndsWith q mid us last → calls_of us ++ last_calls last ≡ calls_of mid
told_calls q mid us None ends =
    append-nil (calls_of us) ∙ ap calls_of ends.grown ∙ calls_both mid ends.left ∙ ap (λ l. calls_of mid ++ l) (depended_calls q.packages _ _ ends.told.numbers ends.left ends.told.each) ∙ append-nil (calls_of mid)
told_calls q mid us (Some u) ends = ap (λ l. calls_of us ++ l) ends.1.calls ∙ append-nil (calls_of us) ∙ ap calls_of ends.0

pub ending_counts : (q : Waiting) (mid us : List AUnit) (last : Option AUnit) (s t : State) → NoFault s t → EndsWith q mid us last → CountsLast s t last
ending_counts q mid us None s t same ends = same
ending_counts q mid us (Some u) s t same ends = counts_no_memory u.reply s t same ends.1.broken

pub ending_not_closed : (q : Waiting) (mid us : List AUnit) (last : Option AUnit) → EndsWith q mid us last → IfSome last (λ u. IsBrokenBy Closed u.reply → ⊥)
ending_not_closed q mid us None ends = tt
ending_not_closed q mid us (Some u) ends = no_memory_not_closed u.reply ends.1.broken

pub ending_not_abandoned : (P : Type 0) (q : Waiting) (mid us : List AUnit) (last : Option AUnit) → EndsWith q mid us last → IfSome last (λ u. IsBrokenBy Abandoned u.reply → P)
ending_not_abandoned P q mid us None ends = tt
ending_not_abandoned P q mid us (Some u) ends = λ abandoned. absurd (no_memory_not_abandoned u.reply ends.1.broken abandoned)

-- where one was broken off
pub stopped_up_to : (options : RemovalOptions) (packages : List Package) (names : List (List ℕ)) (begun us : List AUnit) (before : Held) (s t : State) (u : AUnit) → ArePackagesOf before.records.records packages → HasStopped options packages names before s t begun us u
    → RunsUpTo options names begun us (Some u) before s t
stopped_up_to options packages names begun us before s t u stated (later, stopped) = record {
  packages = packages;
  stated = stated;
  removed = stopped.turned.turned;
  left = [];
  units = stopped.turned.are ∙ ap (λ (l : List AUnit). begun ++ l) (sym (append-nil stopped.turned.turned));
  waiting = stopped.q;
  after = stopped.after;
  end = stopped.m;
  turns = stopped.turned.come;
  rest = inl refl;
  since = stopped.since;
  broken = record { broken = stopped.broken.broken; untouched = stopped.broken.untouched; called = stopped.broken.called };
}

not_none : (u : AUnit) → IsNone (Some u) → ⊥
not_none u h = true≢false h

-- the report of a command that wasn't broken off
pub none_ends : (q : Waiting) (mid us : List AUnit) (last : Option AUnit) → IsNone last → EndsWith q mid us last → EndsWith q mid us None
none_ends q mid us None none ends = ends
none_ends q mid us (Some u) none ends = absurd (not_none u none)

-- all calls are told, where those refused first call nothing
pub tells_ended : (q : Waiting) (begun mid us : List AUnit) (last : Option AUnit) (s t : State) → calls_of begun ≡ [] → EndsWith q mid us last → TellsAll s t (calls_of begun) (calls_of mid) → TellsAll s t [] (calls_of us ++ last_calls last)
tells_ended q begun mid us last s t none ends told = subst (TellsAll s t []) (sym (told_calls q mid us last ends)) (subst (λ l. TellsAll s t l (calls_of mid)) none told)

pub tells_stopped : (begun us : List AUnit) (u : AUnit) (s t : State) → calls_of begun ≡ [] → TellsAll s t (calls_of begun) (calls_of us ++ u.calls.items) → TellsAll s t [] (calls_of us ++ u.calls.items)
tells_stopped begun us u s t none told = subst (λ l. TellsAll s t l (calls_of us ++ u.calls.items)) none told

-- the moments of a whole removal

pub since_removals : (names : List (List ℕ)) (options : RemovalOptions) (packages : List Package) (before : Held) (s t : State) → ArePackagesOf before.records.records packages → Since (IsAmidTurns options packages (waiting_for options.extents names before) before s) s t → Since (IsAmidRun names options before s) s t
since_removals names options packages before s t stated since =
    since_weaker (IsAmidTurns options packages (waiting_for options.extents names before) before s) (IsAmidRun names options before s) s t (λ x w amid. inr (record { packages = packages; stated = stated; turns = amid })) since

pub since_none : (names : List (List ℕ)) (options : RemovalOptions) (before : Held) (s : State) → Since (IsAmidRun names options before s) s s
since_none names options before s = since_start (IsAmidRun names options before s) s (inl (still_here s.world))
