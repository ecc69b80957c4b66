-- Changes, one after another.
use Rattle.std.proofs.Common.{◌≡◌, inl, inr, ℕ, ◌+◌, ◌<◌, suc, List, ◌∷◌, drop, length, slice_index_or, refl, sym, ap, subst, ◌∙◌, add-one}
use Rattle.std.proofs.Math.Seq.{drop-cons}
use Rattle.host_core.specs.Events.{calls_of as calls_in}
use Rattle.host_core.specs.Host.{State, AtEachMomentOf, Silent, calls}
use Rattle.host_core.proofs.Moments.{silent_then, since_start, since_weaker}
use Rattle.host_core.proofs.Scripts.{calls_of-scripts}
use Rattle.unit_reports.specs.Held.{Held}
use Rattle.unit_reports.specs.declared.report.Unit.{Unit as AUnit}
use Rattle.unit_runs.specs.Turns as runs
use Rattle.unit_runs.specs.Turns.{HasStopped, TurnsTo}
use Rattle.unit_runs.proofs.Going.{still_here}
use Rattle.record_changes.specs.Turns.{HasCalledNext, IsAmidTurn, IsTurn}
use Rattle.record_changes.specs.Units.{IsAmidChange, IsChange}
use Rattle.record_changes.specs.declared.change.RecordChange.{RecordChange}

-- the next of those that are left
pub left_next : (all : List RecordChange) (n : ℕ) (x : RecordChange) → n < length all → x ≡ slice_index_or all n x → drop n all ≡ x ∷ drop (n + 1) all
left_next all n x lt e = drop-cons all n x lt ∙ ap (λ y. y ∷ drop (suc n) all) (sym e) ∙ ap (λ k. x ∷ drop k all) (sym (add-one n))

pub since_next : (left later others : List RecordChange) (asked : RecordChange) (before : Held) (s t : State) → left ≡ asked ∷ others → AtEachMomentOf (IsAmidChange asked before) s t → AtEachMomentOf (runs.IsAmidNext IsAmidTurn left later before) s t
since_next left later others asked before s t first since =
    since_weaker (IsAmidChange asked before s.world) (runs.IsAmidNext IsAmidTurn left later before s.world) s t (λ x w amid. inr (asked, others, first, amid)) since

pub since_next_start : (left later : List RecordChange) (before : Held) (s : State) → AtEachMomentOf (runs.IsAmidNext IsAmidTurn left later before) s s
since_next_start left later before s = since_start (runs.IsAmidNext IsAmidTurn left later before s.world) s (inl (still_here s.world))

-- no script is called

pub silent_calls : (s t : State) → Silent s t → calls t ≡ calls s
silent_calls s t silent = sym (calls_of-scripts t.events) ∙ ap calls_in silent.scripts ∙ calls_of-scripts s.events

pub silent_here : (s t : State) → t ≡ s → Silent s t
silent_here s t here = subst (Silent s) (sym here) (record { honest = λ h. h; scripts = refl })

change_silent : (asked : RecordChange) (before after : Held) (u : AUnit) (s t : State) → IsChange asked before after u s t → Silent s t
change_silent asked before after u s t (IsChange.unknown none refused alone) = silent_here s t alone.here
change_silent asked before after u s t (IsChange.made r found same done alone) = silent_here s t alone.here
change_silent asked before after u s t (IsChange.noted r found other done recorded) = recorded.silent

pub turns_silent : (start : List RecordChange) (before : Held) (s : State) (us : List AUnit) (left : List RecordChange) (after : Held) (t : State) → TurnsTo IsTurn start before s us left after t → Silent s t
turns_silent start before s us left after t TurnsTo.begun = silent_here s s refl
turns_silent start before s us left after t (TurnsTo.turned first u mid_left later mid end m last come turn) =
    silent_then s m t (turns_silent start before s first mid_left mid m come) (change_silent turn.asked mid after u m t turn.is)

pub stopped_silent : (start : List RecordChange) (before : Held) (s : State) (first us : List AUnit) (later : List RecordChange) (t : State) (u : AUnit) → HasStopped IsTurn IsAmidTurn HasCalledNext start before s first us later t u → Silent s t
stopped_silent start before s first us later t u stopped =
    silent_then s stopped.m t (turns_silent start before s stopped.turned.turned stopped.q stopped.after stopped.m stopped.turned.come) stopped.broken.called.silent
