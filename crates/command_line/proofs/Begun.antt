-- What is done of triggers before units.
use Rattle.std.proofs.Common.{◌≡◌, ◌∙◌, ◌++◌, ◌+◌, Bool, List, [], Option, Err, ap, refl, subst, sym}
use Rattle.host_core.proofs.Counted.{no_fault_same, no_fault_then}
use Rattle.host_core.proofs.Moments.{since_reads, since_start, since_then, silent_then}
use Rattle.host_core.specs.Host.{AtEachMoment, Counts, NoFault, Reads, Silent, Since, State}
use Rattle.host_core.specs.declared.fault.HostFault.{HostFault}
use Rattle.host_core.specs.declared.fault.HostFault.TheVariants.{Device, NoMemory, Declined}
use Rattle.status_records.specs.declared.record.Record.{Record}
use Rattle.trigger_journal.specs.Ahead.{names_ahead, text_ahead}
use Rattle.trigger_journal.specs.Places.{journal_path}
use Rattle.trigger_journal.specs.Requests.{text_at}
use Rattle.trigger_journal.specs.Writing.{IsWriting, IsWritingAhead}
use Rattle.trigger_journal.proofs.Steps.{writing_start}
use Rattle.undo_rows.proofs.Makes.{tells_none}
use Rattle.unit_reports.specs.Held.{Held}
use Rattle.unit_reports.specs.Units.{CountsLast, calls_of, calls_told, last_calls}
use Rattle.unit_reports.specs.declared.report.Report.{Report}
use Rattle.unit_reports.specs.declared.report.Unit.{Unit as AUnit}
use Rattle.command_line.specs.Packages.{HasWorked, IsWorking}
use Rattle.command_line.specs.Roots.{WritesJournalAlone}
use Rattle.command_line.specs.Triggering.{HasBegun, IsIdle}
use Rattle.command_line.specs.declared.packages.Work.TheVariants as work
use Rattle.command_line.specs.declared.triggering.Known.{Known}

-- nothing was written
pub writes_none : (s t : State) → Reads s t → Silent s t → WritesJournalAlone s t
writes_none s t reads silent = record {
  text = [];
  any_moment = since_reads (λ so_far. IsWriting [] s.world) s t reads (λ fs all. writing_start [] s.world);
  silent = silent;
}

pub writes_ahead : (records : List Record) (s t : State) → AtEachMoment (IsWritingAhead records) s t → Silent s t → WritesJournalAlone s t
writes_ahead records s t since silent = record { text = text_ahead (names_ahead s.world records) (text_at (s.world journal_path)); any_moment = since; silent = silent }

-- it was looked at before
pub writes_then : (s m t : State) → Reads s m → Silent s m → WritesJournalAlone m t → WritesJournalAlone s t
writes_then s m t reads silent later = record {
  text = later.text;
  any_moment = since_then (λ so_far. IsWriting later.text s.world) s m t (since_reads (λ so_far. IsWriting later.text s.world) s m reads (λ fs all. writing_start later.text s.world))
      (subst (λ w. Since (λ so_far. IsWriting later.text w) m t) reads.world later.any_moment);
  silent = silent_then s m t silent later.silent;
}

pub counts_as : (T : Type 0) (s t : State) (fault : HostFault) → Counts {T = T} s t (Err fault) → Counts {T = Unit {0}} s t (Err fault)
counts_as T s t Device counts = counts
counts_as T s t NoMemory counts = counts
counts_as T s t Declined counts = counts

pub begun_writes : (by_files : Bool) (known : Known) (before : Held) (s t : State) → HasBegun by_files known before s t → WritesJournalAlone s t
begun_writes by_files known before s t begun =
    let f = begun.foreseen in
    writes_then s begun.seen t begun.watched.reads begun.watched.silent
    (writes_then begun.seen f.read t f.requested.reads f.requested.silent (writes_ahead before.records.records f.read t f.any_moment f.silent))

pub begun_no_fault : (by_files : Bool) (known : Known) (before : Held) (s t : State) → HasBegun by_files known before s t → NoFault s t
begun_no_fault by_files known before s t begun =
    let f = begun.foreseen in
    no_fault_then s begun.seen t begun.watched.counts (no_fault_then begun.seen f.read t f.requested.counts f.no_fault)

told_none : (done : Report) → IsIdle done → calls_told done ≡ []
told_none done idle = ap (λ (us : List AUnit). calls_of us ++ last_calls done.last) idle.units ∙ ap (λ (o : Option AUnit). last_calls o) idle.last

-- a report of nothing
pub nothing_done : (done : Report) (h : Held) (s : State) → IsIdle done → HasWorked work.ProcessTriggers done h h s s
nothing_done done h s idle = record {
  part = (idle.units, idle.last, refl);
  whole = λ none. (idle.units, refl, refl);
  counts = subst (λ (last : Option AUnit). CountsLast s s last) (sym idle.last) (no_fault_same s s refl);
  told = tells_none s s [] (calls_told done) refl (told_none done idle);
  any_moment = since_start (IsWorking work.ProcessTriggers h s) s (refl, refl);
}
