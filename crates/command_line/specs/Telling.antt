-- What a rehearsal tells of the paths that would be changed, once the root is given back.
use Rattle.std.specs.Prelude.{◌≡◌, ◌⊎◌, IsTrue, ℕ, zero, suc, Option, List, []}
use Rattle.host_core.specs.Events.{Event, follow_all}
use Rattle.host_core.specs.Host.{State, Reads, Silent}
use Rattle.host_core.specs.World.{World}
use Rattle.host_overlay.specs.Failing.{GoAsForetold}
use Rattle.foretold_changes.specs.Told.{AreTold}
use Rattle.command_line.specs.Dry.{dry}
use Rattle.command_line.specs.Queries.{text_answer}
use Rattle.command_line.specs.Reports.{IsGiven, memory_answer}
use Rattle.command_line.specs.Roots.{Around, Given, opening_answer}
use Rattle.command_line.specs.declared.answer.Answer.{Answer}
use Rattle.command_line.specs.declared.fault.NotOpened.TheVariants.{Opening}
use Rattle.command_line.specs.declared.telling_hosts.Told.{Told}
use Rattle.command_line.specs.declared.telling_hosts.Told.TheVariants.{Nothing, Lines, Failed}

-- The lines of the paths, unless one of the two administrations can't be read. Which looks failed, of which paths are told as unread, isn't
-- said of these hosts.
abbrev pub Tells : Told → State → World → World → Type 0
Tells Nothing below old new = ⊥
Tells (Lines text) below old new = IsTrue below.honest → (first last : ℕ) × AreTold old new first last text
Tells (Failed fault) below old new = Unit {0}

-- What was given back of a host with this state, and what is told of it: as of a rehearsal without lines of paths.
pub record IsToldOver (told : Told) (left : Given) (state : State) : Type 0 where
  pub begun : State
  pub below : State
  pub given : left below
  pub untouched : Reads begun below
  pub silent : Silent begun below
  pub honest : IsTrue below.honest → IsTrue state.honest
  pub world : state.world ≡ follow_all state.events begun.world
  pub foretold : GoAsForetold state.events
  pub changes : Tells told below begun.world state.world

abbrev pub told_left : Told → Given → Given
told_left told left state = IsToldOver told left state

-- What is known of hosts over others, of which this is told: nothing where no root was opened.
abbrev pub telling : Told → List Event → Around → Around
telling told first a = record (dry first a) { left = told_left told a.left; unopened = a.unopened × (told ≡ Nothing) }

-- what stands behind the reply
abbrev pub told_answer : Told → Answer
told_answer Nothing = record { output = []; error = []; status = 0 }
told_answer (Lines text) = text_answer text
told_answer (Failed fault) = opening_answer (Opening fault)

-- the status of both
abbrev pub ended_behind : ℕ → ℕ → ℕ
ended_behind first zero = first
ended_behind first (suc second) = suc second

-- it is written behind a reply that ended with this status, or in its place that memory was wanting for it
abbrev pub IsToldBehind : Told → Option (List ℕ) → Option (List ℕ) → Option (List ℕ) → Option (List ℕ) → ℕ → ℕ → Type 0
IsToldBehind told output_old output_new error_old error_new first ended = (second : ℕ)
    × (IsGiven (told_answer told) output_old output_new error_old error_new second ⊎ IsGiven memory_answer output_old output_new error_old error_new second)
    × (ended ≡ ended_behind first second)
