-- What is done behind turns.
use Rattle.std.proofs.Common.{◌≡◌, ◌∙◌, ◌++◌, Bool, true, false, List, Option, Some, None, Result, Ok, Err, refl, sym, ap, subst, append_assoc, append-nil, inl, inr}
use Rattle.host_core.specs.Host.{State}
use Rattle.record_changes.specs.Awaits.{settled_awaits}
use Rattle.status_records.specs.declared.record.Record.{Record}
use Rattle.trigger_chains.specs.declared.wishes.Wish.{Wish}
use Rattle.unit_reports.specs.Held.{Held}
use Rattle.unit_reports.specs.declared.report.Report.{Report}
use Rattle.unit_reports.specs.declared.report.Unit.{Unit as AUnit}
use Rattle.trigger_turns.specs.Settled.{HasProcessedPending, HasSettled}
use Rattle.trigger_turns.specs.Told.{AreToldInTurns, HaveBeenTold}
use Rattle.trigger_turns.specs.Turns.{HasTurned, NotesThose}

-- the notes were told, behind the units of the turns
pub settled_ok : (us new : List AUnit) (done : Report) (before after : Held) (s t : State) (r : Result Bool AUnit) (b : Bool) → r ≡ Ok b → NotesThose (settled_awaits before.records.records) us new before after s t r
    → done.units.items ≡ new → done.last ≡ None → HasSettled us done before after s t
settled_ok us new done before after s t r b is noted units last = by b (subst (NotesThose (settled_awaits before.records.records) us new before after s t) is noted)
  where
    by : (b : Bool) → NotesThose (settled_awaits before.records.records) us new before after s t (Ok b) → HasSettled us done before after s t
    by true (report, changed, grown, ended) = HasSettled.noted report changed (units ∙ grown) (last ∙ sym ended)
    by false none = absurd none

pub settled_err : (us new : List AUnit) (done : Report) (before after : Held) (s t : State) (r : Result Bool AUnit) (u : AUnit) → r ≡ Err u → NotesThose (settled_awaits before.records.records) us new before after s t r
    → done.units.items ≡ new → done.last ≡ Some u → HasSettled us done before after s t
settled_err us new done before after s t r u is noted units last = by (subst (NotesThose (settled_awaits before.records.records) us new before after s t) is noted)
  where
    by : NotesThose (settled_awaits before.records.records) us new before after s t (Err u) → HasSettled us done before after s t
    by (inl (blind, grown)) = HasSettled.unnoted u blind (units ∙ grown) last
    by (inr (report, changed, grown, ended)) = HasSettled.noted report changed (units ∙ grown) (last ∙ sym ended)

-- a turn was broken off
pub broken_pending : (wishes : List Wish) (takes : Bool) (turned : Report) (u : AUnit) (before after : Held) (s t : State) → turned.last ≡ Some u → HasTurned wishes takes turned before after s t
    → HasProcessedPending wishes takes (record { units = turned.units; last = Some u }) before after s t
broken_pending wishes takes turned u before after s t is went =
    HasProcessedPending.broken (subst (λ (last : Option AUnit). HasTurned wishes takes (record { units = turned.units; last = last }) before after s t) is went) refl

-- more units were told in turns
turns_then : {W : Type 0} (tells : W → AUnit → State → W → Type 0) (old mid new : W) (us more : List AUnit) → AreToldInTurns tells old us mid → AreToldInTurns tells mid more new → AreToldInTurns tells old (us ++ more) new
turns_then tells old mid new us more first AreToldInTurns.nothing = subst (λ (l : List AUnit). AreToldInTurns tells old l mid) (sym (append-nil us)) first
turns_then tells old mid new us more first (AreToldInTurns.then front others between last told more_told) =
    subst (λ (l : List AUnit). AreToldInTurns tells old l new) (append_assoc us front others) (AreToldInTurns.then (us ++ front) others between new (turns_then tells old mid between us front first told) more_told)

pub told_behind_turns : {W : Type 0} (tells : W → AUnit → State → W → Type 0) (us all : List AUnit) (old mid new : W) → AreToldInTurns tells old us mid → HaveBeenTold tells us all mid new → AreToldInTurns tells old all new
told_behind_turns tells us all old mid new first later =
    subst (λ (l : List AUnit). AreToldInTurns tells old l new) (sym later.grown) (turns_then tells old mid new us later.more first later.told)
