-- How what holds at each moment of a unit goes on, and a barrier behind it.
use Rattle.std.proofs.Common.{◌≡◌, inl, inr, ℕ, List, [], ◌∷◌, ◌++◌, refl, sym, ap, subst, ◌∙◌, append_assoc}
use Rattle.std.proofs.lemmas.List.{append-nil}
use Rattle.conffiles.specs.declared.decisions.ConfPolicy.{ConfPolicy}
use Rattle.configure_engine.specs.Units.{IsAmidUnit as IsAmidConfiguring}
use Rattle.host_core.specs.Events.{Event, Did, Failed, scripts_of}
use Rattle.host_core.specs.Host.{State, AllFailed, Happens, Needs, Reads, Silent, Since}
use Rattle.host_core.proofs.Moments.{scripts_of-append, since_reads, since_start, since_then, since_weaker}
use Rattle.host_core.proofs.Scripts.{silent_added}
use Rattle.host_core.specs.World.{World, Barrier}
use Rattle.held_administration.specs.Order.{IsInOrder}
use Rattle.unit_reports.specs.Held.{Held}
use Rattle.unit_runs.specs.Turns.{IsStill}
use Rattle.unit_runs.proofs.Going.{still_here}
use Rattle.configure_run.specs.Turns.{IsAmidUnit, IsBeside, given_by}

-- beside other events

pub beside_still : (P : List Event → World → Type 0) (x quiet : List Event) (w : World) → scripts_of quiet ≡ [] → IsBeside P x w → IsBeside P (x ++ quiet) w
beside_still P x quiet w none beside = record {
  before = beside.before;
  during = beside.during;
  behind = beside.behind ++ quiet;
  are = ap (λ (l : List Event). l ++ quiet) beside.are ∙ append_assoc beside.before (beside.during ++ beside.behind) quiet ∙ ap (λ (l : List Event). beside.before ++ l) (append_assoc beside.during beside.behind quiet);
  quiet_before = beside.quiet_before;
  quiet_behind = scripts_of-append beside.behind quiet ∙ ap (λ (l : List Event). l ++ scripts_of quiet) beside.quiet_behind ∙ none;
  holds = beside.holds;
}

pub beside_none : (P : List Event → World → Type 0) (x : List Event) (w : World) → P x w → IsBeside P x w
beside_none P x w holds = record { before = []; during = x; behind = []; are = sym (append-nil x); quiet_before = refl; quiet_behind = refl; holds = holds }

pub since_beside : (P : List Event → World → Type 0) (a b : State) → Since P a b → Since (IsBeside P) a b
since_beside P a b since = since_weaker P (IsBeside P) a b (λ x w holds. beside_none P x w holds) since

beside_after : (P : List Event → World → Type 0) (x more : List Event) (w : World) → scripts_of x ≡ [] → IsBeside P more w → IsBeside P (x ++ more) w
beside_after P x more w none beside = record {
  before = x ++ beside.before;
  during = beside.during;
  behind = beside.behind;
  are = ap (λ (l : List Event). x ++ l) beside.are ∙ sym (append_assoc x beside.before (beside.during ++ beside.behind));
  quiet_before = scripts_of-append x beside.before ∙ ap (λ (l : List Event). l ++ scripts_of beside.before) none ∙ beside.quiet_before;
  quiet_behind = beside.quiet_behind;
  holds = beside.holds;
}

-- nothing but faults: no script was called
pub faults_quiet : (es : List Event) → AllFailed es → scripts_of es ≡ []
faults_quiet [] all = refl
faults_quiet (Did s ∷ es) all = absurd all
faults_quiet (Event.Finished ran ∷ es) all = absurd all
faults_quiet (Event.Cut call change ∷ es) all = absurd all
faults_quiet (Failed ∷ es) all = faults_quiet es all
faults_quiet (Event.Denied path ∷ es) all = absurd all

-- only looked
pub since_still : (s t : State) → Reads s t → Since (IsStill s.world) s t
since_still s t reads = since_reads (IsStill s.world) s t reads (λ fs all. record { same = refl; quiet = faults_quiet fs all })

module _ (policy : ConfPolicy) (name : List ℕ) (before : Held) where
  pub since_unit_reads : (s t : State) → Reads s t → Since (IsAmidUnit policy name before s.world) s t
  since_unit_reads s t reads = since_weaker (IsStill s.world) (IsAmidUnit policy name before s.world) s t (λ x w still. inl still) (since_still s t reads)

  pub since_unit_start : (s : State) → Since (IsAmidUnit policy name before s.world) s s
  since_unit_start s = since_start (IsAmidUnit policy name before s.world) s (inl (still_here s.world))

  -- it is configured once it was looked what is in the way
  pub since_unit : (s m t : State) → Reads s m → Silent s m → Since (IsBeside (IsAmidConfiguring (given_by policy name before) m.world)) m t → Since (IsAmidUnit policy name before s.world) s t
  since_unit s m t reads silent since =
      let first = since_unit_reads s m reads in
      since_then (IsAmidUnit policy name before s.world) s m t first
      (since_weaker (IsBeside (IsAmidConfiguring (given_by policy name before) m.world)) (λ x. IsAmidUnit policy name before s.world (first.added ++ x)) m t
      (λ x w beside. inr (beside_after (IsAmidConfiguring (given_by policy name before) s.world) first.added x w (silent_added s m first.added silent first.events)
      (subst (λ v. IsBeside (IsAmidConfiguring (given_by policy name before) v) x w) reads.world beside))) since)

pub silent_here : (s : State) → Silent s s
silent_here s = record { honest = λ h. h; scripts = refl }

pub order_behind : (h : Held) (m t : State) → Happens (Did Barrier ∷ []) m t → Needs m (IsInOrder h.records h.lists) → Needs t (IsInOrder h.records h.lists)
order_behind h m t goes order = λ honest. subst (IsInOrder h.records h.lists) (sym goes.world) (order (goes.honest honest))

pub order_read : (h : Held) (m t : State) → Reads m t → Needs m (IsInOrder h.records h.lists) → Needs t (IsInOrder h.records h.lists)
order_read h m t reads order = λ honest. subst (IsInOrder h.records h.lists) (sym reads.world) (order (reads.honest honest))
