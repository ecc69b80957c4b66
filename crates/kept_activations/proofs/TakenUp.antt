-- What is pending once the journal is emptied, until the command ends.
use Rattle.std.proofs.Common.{◌≡◌, inl, inr, ℕ, Bool, true, false, List, [], None, sym, subst}
use Rattle.host_core.specs.Host.{State}
use Rattle.host_core.specs.declared.fault.HostFault.{HostFault}
use Rattle.trigger_turns.specs.Turns.{first_wishes}
use Rattle.unit_reports.specs.Held.{Held}
use Rattle.unit_reports.specs.Units.{TellsNoPackage, breakage_of}
use Rattle.unit_reports.specs.declared.report.Reply.TheVariants.{Broken}
use Rattle.unit_reports.specs.declared.report.Report.{Report}
use Rattle.unit_reports.specs.declared.report.Unit.{Unit as AUnit}
use Rattle.command_line.specs.Triggering.{HasGoneOn, HasProcessed, HasProcessedIf, IsBrokenOff}
use Rattle.kept_activations.proofs.NotedAll.{some_none}
use Rattle.kept_activations.proofs.Passing.{Passes, passes_from, passes_here, pending_passes}

unbroken : (fault : HostFault) (done : Report) → IsBrokenOff (breakage_of fault) done → done.last ≡ None → ⊥
unbroken fault done broken none = some_none (λ (u : AUnit). (u.calls.items ≡ []) × TellsNoPackage u × (u.reply ≡ Broken (breakage_of fault))) done.last broken.last none

if_passes : (wanted : Bool) (names : List (List ℕ)) (takes : Bool) (done : Report) (before after : Held) (s t : State) → HasProcessedIf wanted names takes done before after s t → done.last ≡ None → Passes done.units.items before after s t
if_passes true names takes done before after s t has none = pending_passes (first_wishes names before.records.records) takes done before after s t has none
if_passes false names takes done before after s t has none =
    subst (λ (us : List AUnit). Passes us before after s t) (sym has.0.units)
    (subst (λ (h : Held). Passes [] before h s t) (sym has.1) (subst (λ (x : State). Passes [] before before s x) (sym has.2) (passes_here before s)))

on_passes : (wanted : Bool) (names : List (List ℕ)) (takes : Bool) (done : Report) (before after : Held) (s t : State) → HasGoneOn wanted names takes done before after s t → done.last ≡ None → Passes done.units.items before after s t
on_passes wanted names takes done before after s t (inl is) none =
    passes_from done.units.items before after s is.registered t is.any_moment.honest (if_passes wanted names takes done before after is.registered t is.processed none)
on_passes wanted names takes done before after s t (inr is) none = absurd (unbroken is.fault done is.broken none)

pub up_passes : (wanted : Bool) (names : List (List ℕ)) (done : Report) (before after : Held) (s t : State) → HasProcessed wanted names None done before after s t → done.last ≡ None → Passes done.units.items before after s t
up_passes wanted names done before after s t (inl is) none =
    passes_from done.units.items before after s is.cleared t is.any_moment.honest (on_passes wanted names is.written done before after is.cleared t is.processed none)
up_passes wanted names done before after s t (inr is) none = absurd (unbroken is.fault done is.broken none)
