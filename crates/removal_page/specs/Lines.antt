-- A line of Policy's page on configuring, removing and purging (6.7, 6.8), and what such a page says of a unit.
use Rattle.std.specs.Prelude.{◌≡◌, ℕ, List, Option, map}
use Rattle.host_core.specs.Events.{Ran}
use Rattle.host_core.specs.Host.{State}
use Rattle.host_core.specs.Outcome.{is_success}
use Rattle.host_core.specs.declared.call.Call.{Call}
use Rattle.undo_rows.specs.declared.rows.Called.{Called}
use Rattle.undo_rows.specs.Transcript.{Tells}
use Rattle.status_records.specs.declared.record.Record.{Record}
use Rattle.status_records.specs.Records.{record_in}
use Rattle.policy_page.specs.Answers.{Answer, answer_of}
use Rattle.diversions.specs.Ways.{Ways}
use Rattle.unit_stages.specs.Calls.{AreCallsOf}
use Rattle.unit_stages.specs.Holding.{Holding}
use Rattle.unit_stages.specs.Runs.{HaveRun}
use Rattle.unit_stages.specs.declared.stage.Stage.{Stage}

-- how a line ends: the call for which the unit failed, if it did, and the package's record
pub record End : Type 0 where
  pub failed : Option Call
  pub left : Option Record

-- a line: the calls in their order, and how it ends
pub record Line : Type 0 where
  pub calls : List Answer
  pub end : End

infix 5 ◌⇒◌
abbrev pub ◌⇒◌ : List Answer → End → Line
calls ⇒ end = record { calls = calls; end = end }

-- these calls are those of the line, and it fails for that call or for none
pub record IsLine (line : Line) (failed : Option Call) (ts : List Ran) : Type 0 where
  pub calls : map answer_of ts ≡ line.calls
  pub ends : failed ≡ line.end.failed

-- the calls of this line were told, and that is the package's record now
pub record HasEnded (line : Line) (name : List ℕ) (failed : Option Call) (records : List Record) (told now : List Called) : Type 0 where
  pub ts : List Ran
  pub is : IsLine line failed ts
  pub tells : Tells ts told now
  pub left : record_in records name ≡ line.end.left

module _ {L : Type 0} (page : L → Line) (name : List ℕ) (ways : Ways) (stages : List Stage) where
  -- It is the page of the unit of these stages.
  pub record IsPage : Type 0 where
    -- whatever may be called is one of its lines
    pub each : (failed : Option Call) (ts : List Ran) → AreCallsOf stages failed ts → (l : L) × IsLine (page l) failed ts
    -- and each of its lines may be called
    pub no_other : (l : L) (failed : Option Call) (ts : List Ran) → IsLine (page l) failed ts → AreCallsOf stages failed ts
    -- how its calls end tells a line from all others
    pub decided : (l : L) (failed : Option Call) (ts : List Ran) → AreCallsOf stages failed ts
        → map (λ t. is_success t.outcome) ts ≡ map (λ a. a.succeeds) (page l).calls → IsLine (page l) failed ts
    -- a run tells a line, and leaves the package's record as it says
    pub run : (failed : Option Call) (before after : Holding) (old new : State) (told now : List Called)
        → HaveRun name ways stages failed before after old new told now → (l : L) × HasEnded (page l) name failed after.records told now
