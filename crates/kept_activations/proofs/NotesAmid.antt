-- What stands at a moment of writing ahead, and of notes.
use Rattle.std.proofs.Common.{◌≡◌, ◌⊎◌, inl, inr, ℕ, List, map, Option, Some, Contains, IsTrue, refl, sym, ap, subst, ◌∙◌}
use Rattle.std.proofs.lemmas.List.Elements.{Contains-append_right}
use Rattle.host_core.specs.Events.{Event}
use Rattle.host_core.specs.Host.{State}
use Rattle.host_core.specs.World.{World}
use Rattle.host_core.specs.declared.node.Node.{Node}
use Rattle.dpkg_session.specs.Activated.{change_by}
use Rattle.record_changes.specs.Run.{IsAmidRun}
use Rattle.record_changes.specs.Turns.{IsAmidTurn, IsTurn}
use Rattle.record_changes.specs.Units.{IsAmidChange, IsChange, recorded}
use Rattle.record_changes.specs.declared.change.RecordChange.{RecordChange}
use Rattle.status_db.specs.Held.{HasRecords}
use Rattle.status_records.specs.Records.{record_in}
use Rattle.status_records.specs.declared.record.Record.{Record}
use Rattle.trigger_journal.specs.Ahead.{missing, names_ahead, text_ahead}
use Rattle.trigger_journal.specs.Places.{journal_path}
use Rattle.trigger_journal.specs.Read.{AddsRequests, own_request}
use Rattle.trigger_journal.specs.Requests.{requests_in, requests_of, text_at}
use Rattle.trigger_journal.specs.Writing.{IsWritingAhead, journal_file}
use Rattle.trigger_journal.specs.declared.requests.Request.{Request}
use Rattle.trigger_watch.specs.declared.activating.Activation.{Activation}
use Rattle.unit_reports.specs.Held.{Held}
use Rattle.unit_reports.specs.declared.report.Unit.{Unit as AUnit}
use Rattle.unit_runs.specs.Turns as runs
use Rattle.unit_runs.specs.Turns.{TurnsTo}
use Rattle.kept_activations.specs.Journal.{AsksStill, StandsStill}
use Rattle.kept_activations.specs.Pending.{IsPending}
use Rattle.kept_activations.proofs.Changing.{put_left, stays_left}
use Rattle.kept_activations.proofs.Notes.{AreNoted, next_of, noted_run}

-- writing ahead

asks_itself : (request : Request) → AsksStill request request
asks_itself request = record { name = refl; ours = λ h. h; others = λ h. h }

stands_by : (old now : World) → ((request : Request) → Contains (requests_of old) request → Contains (requests_of now) request) → StandsStill old now
stands_by old now there = λ request has. (request, there request has, asks_itself request)

pub ahead_stands : (adds : (w : World) (records : List Record) (text : List ℕ) → AddsRequests w records text) (records : List Record) (old now : World) → IsWritingAhead records old now → StandsStill old now
ahead_stands adds records old now writing = stands_by old now (by writing.journal)
  where
    by : (now journal_path ≡ old journal_path) ⊎ (now journal_path ≡ Some (journal_file (text_ahead (names_ahead old records) (text_at (old journal_path))))) → (request : Request) → Contains (requests_of old) request → Contains (requests_of now) request
    by (inl same) request has = subst (λ (node : Option Node). Contains (requests_in (text_at node)) request) (sym same) has
    by (inr ours) request has =
        let before = text_at (old journal_path) in
        let names = names_ahead old records in
        subst (λ (node : Option Node). Contains (requests_in (text_at node)) request) (sym ours)
        (subst (λ (rs : List Request). Contains rs request) (sym (adds old records before))
        (Contains-append_right (map own_request (missing (requests_in before) names)) (requests_in before) request has))

-- the journal amid notes

turn_journal : (asked : RecordChange) (before after : Held) (u : AUnit) (s t : State) → IsChange asked before after u s t → IsTrue t.honest → t.world journal_path ≡ s.world journal_path
turn_journal asked before after u s t (IsChange.unknown none refused alone) honest = ap (λ (x : State). x.world journal_path) alone.here
turn_journal asked before after u s t (IsChange.made r of same done alone) honest = ap (λ (x : State). x.world journal_path) alone.here
turn_journal asked before after u s t (IsChange.noted r of other done recorded) honest = (recorded.noted honest).rest journal_path refl

turn_falls : (asked : RecordChange) (before after : Held) (u : AUnit) (s t : State) → IsChange asked before after u s t → IsTrue t.honest → IsTrue s.honest
turn_falls asked before after u s t (IsChange.unknown none refused alone) honest = subst (λ (x : State). IsTrue x.honest) alone.here honest
turn_falls asked before after u s t (IsChange.made r of same done alone) honest = subst (λ (x : State). IsTrue x.honest) alone.here honest
turn_falls asked before after u s t (IsChange.noted r of other done recorded) honest = recorded.silent.honest honest

turns_journal : (start : List RecordChange) (before : Held) (s : State) (us : List AUnit) (q : List RecordChange) (after : Held) (t : State) → TurnsTo IsTurn start before s us q after t → IsTrue t.honest → t.world journal_path ≡ s.world journal_path
turns_journal start before s us q after t TurnsTo.begun honest = refl
turns_journal start before s us q after t (TurnsTo.turned first u mid_q later mid end m last come turn) honest =
    turn_journal turn.asked mid after u m t turn.is honest ∙ turns_journal start before s first mid_q mid m come (turn_falls turn.asked mid after u m t turn.is honest)

amid_journal : (asked : RecordChange) (before : Held) (old : World) (so_far : List Event) (now : World) → IsAmidChange asked before old so_far now → now journal_path ≡ old journal_path
amid_journal asked before old so_far now (inl still) = ap (λ (w : World). w journal_path) still.same
amid_journal asked before old so_far now (inr being) = being.noting.rest journal_path refl

next_journal : (q later : List RecordChange) (held : Held) (old : World) (so_far : List Event) (now : World) → runs.IsAmidNext IsAmidTurn q later held old so_far now → now journal_path ≡ old journal_path
next_journal q later held old so_far now (inl still) = ap (λ (w : World). w journal_path) still.same
next_journal q later held old so_far now (inr (asked, others, first, amid)) = amid_journal asked held old so_far now amid

pub notes_journal : (start : List RecordChange) (before : Held) (s : State) (so_far : List Event) (now : World) → IsAmidRun start before s so_far now → now journal_path ≡ s.world journal_path
notes_journal start before s so_far now amid =
    next_journal amid.q amid.later amid.after amid.m.world amid.rest now amid.next ∙ turns_journal start before s amid.us amid.q amid.after amid.m amid.come amid.honest

-- the records that are found then

turn_records : (asked : RecordChange) (before after : Held) (u : AUnit) (s t : State) → IsChange asked before after u s t → IsTrue t.honest → HasRecords s.world before.records.records → HasRecords t.world after.records.records
turn_records asked before after u s t (IsChange.unknown none refused alone) honest has =
    subst (λ (x : State). HasRecords x.world after.records.records) (sym alone.here) (subst (λ (h : Held). HasRecords s.world h.records.records) (sym alone.held) has)
turn_records asked before after u s t (IsChange.made r of same done alone) honest has =
    subst (λ (x : State). HasRecords x.world after.records.records) (sym alone.here) (subst (λ (h : Held). HasRecords s.world h.records.records) (sym alone.held) has)
turn_records asked before after u s t (IsChange.noted r of other done recorded) honest has = (recorded.noted honest).kept.holds

turns_records : (start : List RecordChange) (before : Held) (s : State) (us : List AUnit) (q : List RecordChange) (after : Held) (t : State) → TurnsTo IsTurn start before s us q after t → IsTrue t.honest → HasRecords s.world before.records.records → HasRecords t.world after.records.records
turns_records start before s us q after t TurnsTo.begun honest has = has
turns_records start before s us q after t (TurnsTo.turned first u mid_q later mid end m last come turn) honest has =
    turn_records turn.asked mid after u m t turn.is honest (turns_records start before s first mid_q mid m come (turn_falls turn.asked mid after u m t turn.is honest) has)

-- a record with more names pending is put
put_pending : (a : Activation) (r : Record) (rs : List Record) (owner trigger : List ℕ) → record_in rs a.«package» ≡ Some r → IsPending rs owner trigger → IsPending (recorded (change_by a) r rs) owner trigger
put_pending a r rs owner trigger of pending = stays_left a (recorded (change_by a) r rs) owner trigger pending.entry pending.installed pending.named (put_left (change_by a) r rs owner pending.entry of pending.found)

-- records are found, by which all is pending that was
abbrev IsFoundPending : List Record → World → Type 0
IsFoundPending old now = (found : List Record) × HasRecords now found × ((owner trigger : List ℕ) → IsPending old owner trigger → IsPending found owner trigger)

pub notes_records : (activations : List Activation) (before : Held) (s : State) (so_far : List Event) (now : World) → HasRecords s.world before.records.records → IsAmidRun (map change_by activations) before s so_far now
    → IsFoundPending before.records.records now
notes_records activations before s so_far now has amid = by_next amid.next
  where
    so_noted : AreNoted activations before s amid.q amid.after
    so_noted = noted_run activations before s amid.us amid.q amid.after amid.m amid.come

    there : HasRecords amid.m.world amid.after.records.records
    there = turns_records (map change_by activations) before s amid.us amid.q amid.after amid.m amid.come amid.honest has

    as_held : HasRecords now amid.after.records.records → IsFoundPending before.records.records now
    as_held here = (amid.after.records.records, here, so_noted.stays)

    by_noting : (a : Activation) (r : Record) → record_in amid.after.records.records a.«package» ≡ Some r → HasRecords now amid.after.records.records ⊎ HasRecords now (recorded (change_by a) r amid.after.records.records)
        → IsFoundPending before.records.records now
    by_noting a r of (inl here) = as_held here
    by_noting a r of (inr here) = (recorded (change_by a) r amid.after.records.records, here, λ owner trigger pending. put_pending a r amid.after.records.records owner trigger of (so_noted.stays owner trigger pending))

    by_change : (a : Activation) → IsAmidChange (change_by a) amid.after amid.m.world amid.rest now → IsFoundPending before.records.records now
    by_change a (inl still) = as_held (subst (λ (w : World). HasRecords w amid.after.records.records) (sym still.same) there)
    by_change a (inr being) = by_noting a being.r being.found being.noting.records

    by_next : runs.IsAmidNext IsAmidTurn amid.q amid.later amid.after amid.m.world amid.rest now → IsFoundPending before.records.records now
    by_next (inl still) = as_held (subst (λ (w : World). HasRecords w amid.after.records.records) (sym still.same) there)
    by_next (inr (asked, others, first, amid_one)) =
        let next = next_of so_noted.left asked others (sym so_noted.are ∙ first) in
        by_change next.one (subst (λ (x : RecordChange). IsAmidChange x amid.after amid.m.world amid.rest now) next.first amid_one)
