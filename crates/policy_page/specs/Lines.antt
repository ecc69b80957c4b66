-- A line of Policy's page on unpacking (6.6), and what such a page says of an unpack.
use Rattle.std.specs.Prelude.{◌≡◌, true, List, [], Option, None, map, length}
use Rattle.host_core.specs.Events.{Ran}
use Rattle.host_core.specs.Outcome.{is_success}
use Rattle.undo_rows.specs.declared.fall.StepFault.{StepFault}
use Rattle.undo_rows.specs.declared.rows.Called.{Called}
use Rattle.undo_rows.specs.declared.rows.Row.{Row}
use Rattle.undo_rows.specs.Transcript.{Tells}
use Rattle.undo_rows.specs.Place.{Place}
use Rattle.undo_rows.specs.Transcripts.{Anyhow, Ended, Committed, Legal, Unwound}
use Rattle.status_records.specs.declared.record.Record.{Record}
use Rattle.status_records.specs.Records.{record_in}
use Rattle.unpack_rows.specs.EndStates.{end_of, own_name}
use Rattle.unpack_rows.specs.ForwardRows.{rows_of}
use Rattle.unpack_rows.specs.Kinds.{kinds_of}
use Rattle.unpack_rows.specs.Notes.{noted, notes_at}
use Rattle.unpack_rows.specs.Stages.{Stage, stage_of}
use Rattle.unpack_rows.specs.declared.rows.Present.{Present}
use Rattle.policy_page.specs.Answers.{Answer, answer_of}

-- how a line ends: the rows, the files, and the package's record
pub record End : Type 0 where
  pub ended : Ended
  pub files : Stage
  pub left : Option Record

-- a line: the calls in their order, and how it ends
pub record Line : Type 0 where
  pub calls : List Answer
  pub end : End

infix 5 ◌⇒◌
abbrev pub ◌⇒◌ : List Answer → End → Line
calls ⇒ end = record { calls = calls; end = end }

-- these calls are those of the line, and the rows end as it says
pub record IsLine (line : Line) (ended : Ended) (ts : List Ran) : Type 0 where
  pub calls : map answer_of ts ≡ line.calls
  pub ends : ended ≡ line.end.ended

-- for what the files couldn't be written, if they couldn't
abbrev pub fault_of : Ended → Option StepFault
fault_of Committed = None
fault_of (Unwound fall failed) = fall.fault

-- all four scripts are there
abbrev pub all_present : Present
all_present = record { preinst = true; postinst = true; prerm = true; postrm = true }

-- the rows of an unpack with which no other package is concerned
abbrev pub rows_alone : Option Record → Record → List Row
rows_alone start incoming = rows_of start incoming all_present all_present []

-- the calls of this line were told, and the rows ended as it says
abbrev pub HasTold : Line → Ended → List Called → List Called → Type 0
HasTold line ended told now = (ts : List Ran) × IsLine line ended ts × Tells ts told now

module _ {L : Type 0} (page : L → Line) (start : Option Record) (incoming : Record) where
  abbrev last_place : Line → Place
  last_place line = end_of (length (kinds_of start [])) line.end.ended

  -- It is the page of such an unpack of a package that is found so.
  pub record IsPage : Type 0 where
    -- whatever may be called is one of its lines
    pub each : (ended : Ended) (ts : List Ran) → Legal Anyhow [] ended (rows_alone start incoming) ts → (l : L) × IsLine (page l) ended ts
    -- and each of its lines may be called
    pub no_other : (l : L) (ended : Ended) (ts : List Ran) → IsLine (page l) ended ts → Legal Anyhow [] ended (rows_alone start incoming) ts
    -- how its calls end, and the fault of the files or none, tell a line from all others
    pub decided : (l : L) (ended : Ended) (ts : List Ran) → Legal Anyhow [] ended (rows_alone start incoming) ts
        → map (λ t. is_success t.outcome) ts ≡ map (λ a. a.succeeds) (page l).calls → fault_of ended ≡ fault_of (page l).end.ended
        → IsLine (page l) ended ts
    -- the files are left as it says
    pub files : (l : L) → stage_of (kinds_of start []) (last_place (page l)) ≡ (page l).end.files
    -- and so is the package's record
    pub left : (l : L) (table : List Record) → record_in table (own_name start incoming) ≡ start
        → record_in (noted table (notes_at start incoming (kinds_of start []) (last_place (page l)))) (own_name start incoming) ≡ (page l).end.left
