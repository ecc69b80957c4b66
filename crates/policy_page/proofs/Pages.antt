-- A page, from what is shown of it for the rows as they are.
use Rattle.std.proofs.Common.{◌≡◌, Bool, List, [], Option, Some, map, sym, subst}
use Rattle.host_core.specs.Events.{Ran}
use Rattle.undo_rows.specs.declared.fall.StepFault.{StepFault}
use Rattle.undo_rows.specs.declared.rows.Row.{Row}
use Rattle.undo_rows.specs.Transcripts.{Anyhow, Ended, Legal}
use Rattle.status_records.specs.declared.record.Record.{Record}
use Rattle.status_records.specs.Records.{record_in}
use Rattle.unpack_rows.specs.EndStates.{own_name}
use Rattle.unpack_rows.specs.ForwardRows.{rows_of}
use Rattle.unpack_rows.specs.Kinds.{kinds_of}
use Rattle.unpack_rows.specs.Notes.{noted, notes_at}
use Rattle.unpack_rows.specs.Stages.{stage_of}
use Rattle.policy_page.specs.Lines.{IsLine, IsPage, Line, all_present, fault_of}
use Rattle.policy_page.proofs.Deciding.{decided}
use Rattle.policy_page.proofs.Left.{place_of}
use Rattle.policy_page.proofs.Rows.{Are}

module _ {L : Type 0} (page : L → Line) (start : Option Record) (incoming : Record) where
  pub is_page : (rows : List Row) → rows_of start incoming all_present all_present [] ≡ rows
      → ((ended : Ended) (ts : List Ran) → Legal Anyhow [] ended rows ts → (l : L) × IsLine (page l) ended ts)
      → ((l : L) (ts : List Ran) → Are ts (page l).calls → Legal Anyhow [] (page l).end.ended rows ts)
      → (read : Option StepFault → List Bool → Option L) → ((l : L) → read (fault_of (page l).end.ended) (map (λ a. a.succeeds) (page l).calls) ≡ Some l)
      → ((l : L) → stage_of (kinds_of start []) (place_of start (page l).end.ended) ≡ (page l).end.files)
      → ((table : List Record) → record_in table (own_name start incoming) ≡ start → (l : L) → record_in (noted table (notes_at start incoming (kinds_of start []) (place_of start (page l).end.ended))) (own_name start incoming) ≡ (page l).end.left)
      → IsPage page start incoming
  is_page rows are each legal read back files left = record {
    each = whole;
    no_other = λ l ended ts is. subst (λ r. Legal Anyhow [] ended r ts) (sym are) (subst (λ e. Legal Anyhow [] e rows ts) (sym is.ends) (legal l ts is.calls));
    decided = λ l ended ts run outcomes fault. let m = whole ended ts run in decided page read back l m.0 ended ts m.1 outcomes fault;
    files = files;
    left = λ l table found. left table found l;
  }
    where
      whole : (ended : Ended) (ts : List Ran) → Legal Anyhow [] ended (rows_of start incoming all_present all_present []) ts → (l : L) × IsLine (page l) ended ts
      whole ended ts run = each ended ts (subst (λ r. Legal Anyhow [] ended r ts) are run)
