-- A step that was declined, as a unit tells it.
use Rattle.std.specs.Prelude.{IfOk, IfSome, is_some}
use Rattle.std.proofs.Common.{◌≡◌, false, List, Option, Some, None, Result, Ok, Err, refl, subst}
use Rattle.std.proofs.lemmas.Bool.{true≢false}
use Rattle.host_core.specs.Host.{State, NoFault}
use Rattle.host_core.specs.declared.call.Call.{Call}
use Rattle.host_core.specs.declared.fault.HostFault.{HostFault}
use Rattle.undo_rows.specs.Ended.{IsCauseOf, call_of, cause_of, forward_of, row_at}
use Rattle.undo_rows.specs.Faults.{OnlyIfDeclined}
use Rattle.undo_rows.specs.declared.failure.Failure.{Failure}
use Rattle.undo_rows.specs.declared.failure.Failure.TheVariants.{OfCall, OfFiles}
use Rattle.undo_rows.specs.declared.fall.StepFault.{StepFault}
use Rattle.undo_rows.specs.declared.fall.StepFault.TheVariants as step
use Rattle.undo_rows.specs.declared.rows.Row.{Row}
use Rattle.undo_rows.specs.declared.unwinding.Unwinding.{Unwinding}
use Rattle.unit_reports.proofs.Counting.{cause_from, cause_then}
use Rattle.unit_reports.specs.Units.{CountsCause, CountsStepFault}
use Rattle.unpack_engine.specs.Units.{Given, HasFailedFor}

-- for a declined step a run of rows fails only where one was declined in it

fault_counts : (fault : StepFault) (a b : State) → NoFault a b → OnlyIfDeclined (Some fault) a b → CountsStepFault a b fault
fault_counts (step.LinkParent path) a b same only = same
fault_counts (step.NoParent path) a b same only = same
fault_counts (step.DirInWay path) a b same only = same
fault_counts (step.Clash path owner) a b same only = same
fault_counts (step.DiversionTarget path diverter) a b same only = same
fault_counts (step.Declined path) a b same only = record { faults = same.faults; denials = only refl }

call_counts : (call : Option Call) (f : Failure) (a b : State) → NoFault a b → call_of call ≡ Some f → CountsCause a b f
call_counts None f a b same is = absurd (let e : None ≡ Some f = is in cc)
call_counts (Some call) f a b same is = by (let e : Some (OfCall call) ≡ Some f = is in cc)
  where
    by : OfCall call ≡ f → CountsCause a b f
    by e = subst (CountsCause a b) e same

cause_counts : (fault : Option StepFault) (call : Option Call) (f : Failure) (a b : State) → NoFault a b → OnlyIfDeclined fault a b → cause_of fault call ≡ Some f → CountsCause a b f
cause_counts None call f a b same only is = call_counts call f a b same is
cause_counts (Some fault) call f a b same only is = by (let e : Some (OfFiles fault) ≡ Some f = is in cc)
  where
    by : OfFiles fault ≡ f → CountsCause a b f
    by e = subst (CountsCause a b) e (fault_counts fault a b same only)

unwound_counts : (rows : List Row) (u : Unwinding) (a b : State) → IsCauseOf rows (Some u) → NoFault a b → OnlyIfDeclined u.fall.fault a b → CountsCause a b u.failure
unwound_counts rows u a b cause same only = cause_counts u.fall.fault (forward_of (row_at rows u.fall.row)) u.failure a b same only cause

-- with a barrier behind it
pub denied_behind : (g : Given) (s m t : State) (u : Option Unwinding) → HasFailedFor g s m u → IfSome u (λ one. OnlyIfDeclined one.fall.fault s m) → NoFault s m → NoFault m t → IfSome u (λ one. CountsCause s t one.failure)
denied_behind g s m t None failed only first behind = tt
denied_behind g s m t (Some u) failed only first behind = cause_then u.failure s m t (unwound_counts failed.plan.rows u s m failed.cause first only) behind

-- counted from an earlier state
pub denied_from : {T : Type 0} (of : T → Option Unwinding) (r : Result T HostFault) (s m t : State) → NoFault s m → IfOk r (λ x. IfSome (of x) (λ one. CountsCause m t one.failure)) → IfOk r (λ x. IfSome (of x) (λ one. CountsCause s t one.failure))
denied_from of (Err fault) s m t first denied = tt
denied_from of (Ok x) s m t first denied = from (of x) denied
  where
    from : (u : Option Unwinding) → IfSome u (λ one. CountsCause m t one.failure) → IfSome u (λ one. CountsCause s t one.failure)
    from None denied = tt
    from (Some u) denied = cause_from u.failure s m t first denied

-- no row failed
pub none_denied : (u : Option Unwinding) (s t : State) → is_some u ≡ false → IfSome u (λ one. CountsCause s t one.failure)
none_denied None s t none = tt
none_denied (Some u) s t none = absurd (true≢false none)
