-- The beginning of a unit and its rows, one after the other.
use Rattle.std.proofs.Common.{◌≡◌, IsTrue, List, [], ◌++◌, Option, Some, None, refl, ap, ◌∙◌, ◌+◌, arith}
use Rattle.std.specs.Prelude.{Result, Ok, Err, IfOk, IfSome}
use Rattle.host_core.specs.World.{World}
use Rattle.host_core.specs.Events.{Event, Ran, scripts_of}
use Rattle.host_core.specs.Host.{State, Silent, Since, AtEachMoment, AtEachMomentOf, Counts, NoFault, finished}
use Rattle.host_core.specs.declared.fault.HostFault.{HostFault}
use Rattle.host_core.specs.Loss.{IsLater}
use Rattle.host_core.proofs.Moments.{since_then, since_weaker, since_weaker_if, silent_then}
use Rattle.host_core.proofs.Scripts.{silent_added, since_silent}
use Rattle.undo_rows.specs.Faults.{OnlyIfDeclined}
use Rattle.undo_rows.specs.Stops.{AtEachStop}
use Rattle.undo_rows.specs.Telling.{Begun}
use Rattle.undo_rows.specs.declared.rows.Called.{Called}
use Rattle.undo_rows.specs.declared.rows.Row.{Row}
use Rattle.undo_rows.specs.declared.unwinding.Unwinding.{Unwinding}
use Rattle.unpack_steps.specs.Task.{Task}
use Rattle.unpack_steps.specs.At.{Stops}
use Rattle.unpack_engine.specs.Units.{HasCalledRows, IsRunning}

-- a later moment of the same host
pub later : (P : List Event → World → Type 0) (a b : State) → Since P a b → IsLater a b
later P a b since = since_weaker P (λ so_far w. Unit {0}) a b (λ so_far w is. tt) since

-- before the calls nothing is called, and after them nothing more
pub begun_behind : (P : List Ran → Type 0) (a b c : State) (told now : List Called) → Silent a b → Begun P b c told now → Begun P a c told now
begun_behind P a b c told now silent begun = record {
  ts = begun.ts;
  more = begun.more;
  first_of = begun.first_of;
  honest = λ h. silent.honest (begun.honest h);
  cut = begun.cut;
  scripts = begun.scripts ∙ ap (λ (l : List Event). l ++ (finished begun.ts ++ begun.cut)) silent.scripts;
  cut_short = begun.cut_short;
  tells = begun.tells;
}

pub begun_then : (P : List Ran → Type 0) (a b c : State) (told now : List Called) → Begun P a b told now → Silent b c → Begun P a c told now
begun_then P a b c told now begun silent = record {
  ts = begun.ts;
  more = begun.more;
  first_of = begun.first_of;
  honest = λ h. begun.honest (silent.honest h);
  cut = begun.cut;
  scripts = silent.scripts ∙ begun.scripts;
  cut_short = begun.cut_short;
  tells = begun.tells;
}

pub called_then : (rows : List Row) (a b c : State) (told now : List Called) → HasCalledRows rows a b told now → Silent b c → HasCalledRows rows a c told now
called_then rows a b c told now (HasCalledRows.nothing quiet same) silent = HasCalledRows.nothing (silent_then a b c quiet silent) same
called_then rows a b c told now (HasCalledRows.some begun) silent = HasCalledRows.some (begun_then _ a b c told now begun silent)

pub called_behind : (rows : List Row) (a b c : State) (told now : List Called) → Silent a b → HasCalledRows rows b c told now → HasCalledRows rows a c told now
called_behind rows a b c told now silent (HasCalledRows.nothing quiet same) = HasCalledRows.nothing (silent_then a b c silent quiet) same
called_behind rows a b c told now silent (HasCalledRows.some begun) = HasCalledRows.some (begun_behind _ a b c told now silent begun)

module _ (begins may_begin : World → World → Type 0) (task : State → Task) (a b : State) (silent : Silent a b) (first : AtEachMoment may_begin a b) where
  pub since_beginning : AtEachMomentOf (IsRunning begins may_begin task) a b
  since_beginning = since_weaker (λ so_far w. may_begin a.world w × (scripts_of so_far ≡ [])) (IsRunning begins may_begin task a.world) a b
      (λ so_far w is. IsRunning.beginning is.1 is.0) (since_silent (λ so_far. may_begin a.world) a b silent first)

  pub since_running : (c : State) → (IsTrue b.honest → begins a.world b.world) → AtEachStop (Stops (task b)) b c → AtEachMomentOf (IsRunning begins may_begin task) a c
  since_running c begun second =
      since_then (IsRunning begins may_begin task a.world) a b c since_beginning
      (since_weaker_if (λ so_far. Stops (task b) (b.events ++ so_far)) (λ so_far. IsRunning begins may_begin task a.world (since_beginning.added ++ so_far)) b c
      (λ h so_far w stops. IsRunning.running b since_beginning.added so_far refl
      (silent_added a b since_beginning.added silent since_beginning.events) (begun (second.honest h)) stops) second)

-- of an answer two things hold
pub if_ok_both : {T E : Type 0} (result : Result T E) (P Q R : T → Type 0) → ((x : T) → P x → Q x → R x) → IfOk result P → IfOk result Q → IfOk result R
if_ok_both (Ok x) P Q R so p q = so x p q
if_ok_both (Err e) P Q R so p q = tt

pub if_ok_one : {T E : Type 0} (result : Result T E) (P R : T → Type 0) → ((x : T) → P x → R x) → IfOk result P → IfOk result R
if_ok_one (Ok x) P R so p = so x p
if_ok_one (Err e) P R so p = tt

-- a declined step is told only where one was declined: so it is of a longer run, at whose beginning and end the device didn't fail

pub denied_behind : (u : Option Unwinding) (a b c : State) → NoFault a b → IfSome u (λ one. OnlyIfDeclined one.fall.fault b c) → IfSome u (λ one. OnlyIfDeclined one.fall.fault a c)
denied_behind None a b c first second = tt
denied_behind (Some one) a b c first second = λ is. omega (arith, first.denials, second is)

pub denied_then : (u : Option Unwinding) (a b c : State) → IfSome u (λ one. OnlyIfDeclined one.fall.fault a b) → NoFault b c → IfSome u (λ one. OnlyIfDeclined one.fall.fault a c)
denied_then None a b c first second = tt
denied_then (Some one) a b c first second = λ is. omega (arith, first is, second.denials)

-- of an answer that counts no fault
pub if_ok_counted : {T : Type 0} (result : Result T HostFault) (a b : State) (P R : T → Type 0) → ((x : T) → NoFault a b → P x → R x) → Counts a b result → IfOk result P → IfOk result R
if_ok_counted (Ok x) a b P R so counts p = so x counts p
if_ok_counted (Err e) a b P R so counts p = tt
