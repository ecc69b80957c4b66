-- What is pending or asked for through commands, one after another.
use Rattle.std.proofs.Common.{◌≡◌, ◌⊎◌, inl, inr, ◌||◌, ℕ, Bool, true, false, List, [], ◌∷◌, ◌++◌, map, Option, Some, None, IsTrue, refl, sym, ap, subst, ◌∙◌}
use Rattle.std.proofs.lemmas.Bool.{true≢false, or_left}
use Rattle.std.proofs.lemmas.List.{map-append}
use Rattle.host_core.specs.Host.{Falls, State}
use Rattle.host_core.specs.World.{World}
use Rattle.record_changes.specs.Activated.{has_name, pending_text}
use Rattle.status_records.specs.Records.{record_in}
use Rattle.status_records.specs.Words.{is_installed}
use Rattle.status_records.specs.declared.record.Record.{Record}
use Rattle.trigger_journal.specs.Asked.{is_asked, is_found}
use Rattle.trigger_journal.specs.Read.{AddsRequests, IsEachFound}
use Rattle.trigger_journal.specs.Requests.{requests_of}
use Rattle.trigger_journal.specs.declared.requests.Request.{Request}
use Rattle.unit_reports.specs.Held.{Held}
use Rattle.trigger_turns.specs.Turns.{names_told, names_touched}
use Rattle.trigger_watch.specs.Names.{is_among}
use Rattle.trigger_watch.specs.declared.touching.Touch.{Touch}
use Rattle.unit_reports.specs.declared.report.Report.{Report}
use Rattle.unit_reports.specs.declared.report.Touched.{Touched}
use Rattle.unit_reports.specs.declared.report.Unit.{Unit as AUnit}
use Rattle.command_line.specs.Triggering.{HasNoted, touch_of, touched_by, touched_of}
use Rattle.kept_activations.specs.Commands.{Command, Commands, IsBegun, IsBetween, IsCarried, IsCausedBy, IsEnded, IsSettledBy, IsSettledIn, IsStopped, IsStoppedLate, IsTakenUp, IsTold, LeavesPending, Moment}
use Rattle.kept_activations.specs.Hitting.{IsHitLast}
use Rattle.kept_activations.specs.Known.{Known}
use Rattle.kept_activations.specs.Pending.{IsInterested, IsPending, IsUnfinished, has_interest}
use Rattle.kept_activations.specs.Processing.{IsKept}
use Rattle.kept_activations.proofs.Around.{noting_honest, out_hit, out_stays, up}
use Rattle.kept_activations.proofs.Changing.{one_record}
use Rattle.kept_activations.proofs.NotedAll.{asked_pending, hit_pending, noted_falls, pending_stays}
use Rattle.kept_activations.proofs.Ours.{begun_found, begun_keeps, found_still, known_found}
use Rattle.kept_activations.proofs.Touching.{last_or_told}

-- whether an installed package is interested, the files tell

no_record : (r : Record) → ◌≡◌ {A = Option Record} None (Some r) → ⊥
no_record r e = cc e

interested_or_not : (w : World) (records : List Record) (owner trigger : List ℕ) → IsInterested w records owner trigger ⊎ (IsInterested w records owner trigger → ⊥)
interested_or_not w records owner trigger = by (record_in records owner) refl
  where
    by_tests : (r : Record) → record_in records owner ≡ Some r → (a b : Bool) → is_installed r.state ≡ a → has_interest w owner trigger ≡ b → IsInterested w records owner trigger ⊎ (IsInterested w records owner trigger → ⊥)
    by_tests r found true true installed interest = inl (record { installed = record { entry = r; found = found; installed = installed }; interest = interest })
    by_tests r found true false installed other = inr (λ is. true≢false (sym is.interest ∙ other))
    by_tests r found false b less interest =
        inr (λ is. true≢false (sym is.installed.installed ∙ ap (λ (x : Record). is_installed x.state) (one_record is.installed.entry r (record_in records owner) is.installed.found found) ∙ less))

    by : (o : Option Record) → record_in records owner ≡ o → IsInterested w records owner trigger ⊎ (IsInterested w records owner trigger → ⊥)
    by None none = inr (λ is. no_record is.installed.entry (sym none ∙ is.installed.found))
    by (Some r) found = by_tests r found (is_installed r.state) (has_interest w owner trigger) refl refl

-- and whether it is pending, the records

pending_or_not : (records : List Record) (owner trigger : List ℕ) → IsPending records owner trigger ⊎ (IsPending records owner trigger → ⊥)
pending_or_not records owner trigger = by (record_in records owner) refl
  where
    by_tests : (r : Record) → record_in records owner ≡ Some r → (a b : Bool) → is_installed r.state ≡ a → has_name (pending_text r.triggers.pending) trigger ≡ b → IsPending records owner trigger ⊎ (IsPending records owner trigger → ⊥)
    by_tests r found true true installed named = inl (record { entry = r; found = found; installed = installed; named = named })
    by_tests r found true false installed other =
        inr (λ is. true≢false (sym is.named ∙ ap (λ (x : Record). has_name (pending_text x.triggers.pending) trigger) (one_record is.entry r (record_in records owner) is.found found) ∙ other))
    by_tests r found false b less named =
        inr (λ is. true≢false (sym is.installed ∙ ap (λ (x : Record). is_installed x.state) (one_record is.entry r (record_in records owner) is.found found) ∙ less))

    by : (o : Option Record) → record_in records owner ≡ o → IsPending records owner trigger ⊎ (IsPending records owner trigger → ⊥)
    by None none = inr (λ is. no_record is.entry (sym none ∙ is.found))
    by (Some r) found = by_tests r found (is_installed r.state) (has_name (pending_text r.triggers.pending) trigger) refl refl

-- it is pending behind units, or that was taken up, or the package is less than installed
leaves_or_taken : (us : List AUnit) (records : List Record) (owner trigger : List ℕ) → IsPending records owner trigger ⊎ (IsTold us owner ⊎ IsUnfinished records owner)
    → IsPending records owner trigger ⊎ (IsTakenUp us records owner trigger ⊎ IsUnfinished records owner)
leaves_or_taken us records owner trigger (inl pending) = inl pending
leaves_or_taken us records owner trigger (inr (inr less)) = inr (inr less)
leaves_or_taken us records owner trigger (inr (inl told)) = by (pending_or_not records owner trigger)
  where
    by : IsPending records owner trigger ⊎ (IsPending records owner trigger → ⊥) → IsPending records owner trigger ⊎ (IsTakenUp us records owner trigger ⊎ IsUnfinished records owner)
    by (inl pending) = inl pending
    by (inr isnt) = inr (inl (told, isnt))

-- the packages of touches are those that the units tell

touched_packages : (ts : List Touched) → map (λ (t : Touch). t.«package») (map touch_of ts) ≡ map (λ (t : Touched). t.«package») ts
touched_packages [] = refl
touched_packages (t ∷ ts) = ap (λ (l : List (List ℕ)). t.«package» ∷ l) (touched_packages ts)

touches_told : (us : List AUnit) → map (λ (t : Touch). t.«package») (touched_of us) ≡ names_told us
touches_told [] = refl
touches_told (u ∷ us) =
    map-append (λ (t : Touch). t.«package») (touched_by u) (touched_of us) ∙ ap (λ (l : List (List ℕ)). l ++ map (λ (t : Touch). t.«package») (touched_of us)) (touched_packages u.touched.items)
    ∙ ap (λ (l : List (List ℕ)). names_touched u ++ l) (touches_told us)

told_by_touches : (us : List AUnit) (owner : List ℕ) → is_among (map (λ (t : Touch). t.«package») (touched_of us)) owner ≡ true → IsTold us owner
told_by_touches us owner told = sym (ap (λ (l : List (List ℕ)). is_among l owner) (touches_told us)) ∙ told

-- what settles it before it is noted
abbrev IsSettledEarly : List AUnit → World → List Record → List ℕ → List ℕ → Type 0
IsSettledEarly us w records owner trigger = IsTakenUp us records owner trigger ⊎ (IsUnfinished records owner ⊎ (IsInterested w records owner trigger → ⊥))

module _ (by_files : Bool) (known : Known) (us : List AUnit) (noted : Report) (old : Moment) (before mid after : Held) (begun done noting : State) (first : IsBegun by_files known old before begun) (falls : Falls begun done)
    (units : LeavesPending us before.records.records mid.records.records) (notes : HasNoted by_files known (touched_of us) noted mid after done noting) (all : noted.last ≡ None) (honest : IsTrue noting.honest) (owner trigger : List ℕ) where
  begun_honest : IsTrue begun.honest
  begun_honest = falls (noted_falls by_files known (touched_of us) noted mid after done noting notes all honest)

  notes_carried : IsCarried old owner trigger → IsPending after.records.records owner trigger ⊎ IsSettledEarly us done.world mid.records.records owner trigger
  notes_carried (inl pending) = by (leaves_or_taken us mid.records.records owner trigger (units owner trigger (subst (λ (rs : List Record). IsPending rs owner trigger) (sym first.records) pending)))
    where
      by : IsPending mid.records.records owner trigger ⊎ (IsTakenUp us mid.records.records owner trigger ⊎ IsUnfinished mid.records.records owner) → IsPending after.records.records owner trigger ⊎ IsSettledEarly us done.world mid.records.records owner trigger
      by (inl still) = inl (pending_stays by_files known (touched_of us) noted mid after done noting notes all honest owner trigger still)
      by (inr (inl taken)) = inr (inl taken)
      by (inr (inr less)) = inr (inr (inl less))
  notes_carried (inr found) = by (interested_or_not done.world mid.records.records owner trigger)
    where
      asked : is_found known.found.items trigger || is_asked (requests_of done.world) trigger ≡ true
      asked = or_left (is_found known.found.items trigger) (is_asked (requests_of done.world) trigger)
          (ap (λ (rs : List Request). is_found rs trigger) (known_found by_files known old before begun first begun_honest) ∙ found)

      by : IsInterested done.world mid.records.records owner trigger ⊎ (IsInterested done.world mid.records.records owner trigger → ⊥) → IsPending after.records.records owner trigger ⊎ IsSettledEarly us done.world mid.records.records owner trigger
      by (inl is) = inl (asked_pending by_files known (touched_of us) noted mid after done noting notes all honest owner trigger is asked)
      by (inr isnt) = inr (inr (inr isnt))

module _ (old new : Moment) (owner trigger : List ℕ) where
  -- one that ended

  module _ (c : IsEnded old new) where
    ended_kept : IsKept c.after.records.records c.came.processed.units.items owner trigger → IsPending new.records owner trigger ⊎ IsSettledBy old new (Command.ended c) owner trigger
    ended_kept (inl pending) = inl (subst (λ (rs : List Record). IsPending rs owner trigger) (sym c.records) pending)
    ended_kept (inr (inl processed)) = inr (inr (inl processed))
    ended_kept (inr (inr less)) = inr (inr (inr (subst (λ (rs : List Record). IsUnfinished rs owner) (sym c.records) less)))

    pub ended_carried : IsCarried old owner trigger → IsPending new.records owner trigger ⊎ IsSettledBy old new (Command.ended c) owner trigger
    ended_carried carried =
        by (notes_carried c.t.by_files c.known c.us c.came.noted old c.before c.mid c.out.triggered.mid c.begun c.done c.out.triggered.noting c.first c.units.1 c.units.0 c.out.triggered.noted c.out.noted
        (noting_honest c.t c.us c.known c.came c.mid c.after c.done c.end c.out) owner trigger carried)
      where
        by : IsPending c.out.triggered.mid.records.records owner trigger ⊎ IsSettledEarly c.us c.done.world c.mid.records.records owner trigger → IsPending new.records owner trigger ⊎ IsSettledBy old new (Command.ended c) owner trigger
        by (inl pending) = ended_kept ((up c.t c.us c.known c.came c.mid c.after c.done c.end c.out).kept owner trigger pending)
        by (inr early) = inr (inl early)

  -- one that was stopped late

  module _ (c : IsStoppedLate old new) where
    late_kept : IsPending c.after.records.records owner trigger → IsCarried new owner trigger ⊎ IsSettledBy old new (Command.stopped_late c) owner trigger
    late_kept pending = by (leaves_or_taken c.more new.records owner trigger (c.processing owner trigger pending))
      where
        by : IsPending new.records owner trigger ⊎ (IsTakenUp c.more new.records owner trigger ⊎ IsUnfinished new.records owner) → IsCarried new owner trigger ⊎ IsSettledBy old new (Command.stopped_late c) owner trigger
        by (inl still) = inl (inl still)
        by (inr (inl taken)) = inr (inr (inl taken))
        by (inr (inr less)) = inr (inr (inr less))

    late_carried : IsCarried old owner trigger → IsCarried new owner trigger ⊎ IsSettledBy old new (Command.stopped_late c) owner trigger
    late_carried carried = by (notes_carried c.by_files c.known c.us c.noted old c.before c.mid c.after c.begun c.done c.noting c.first c.units.1 c.units.0 c.notes c.all c.honest owner trigger carried)
      where
        by : IsPending c.after.records.records owner trigger ⊎ IsSettledEarly c.us c.done.world c.mid.records.records owner trigger → IsCarried new owner trigger ⊎ IsSettledBy old new (Command.stopped_late c) owner trigger
        by (inl pending) = late_kept pending
        by (inr early) = inr (inl early)

  module _ (adds : (w : World) (records : List Record) (text : List ℕ) → AddsRequests w records text) (each : (w : World) (records : List Record) (text : List ℕ) → IsEachFound w records text) where
    stopped_carried : (c : IsStopped old new) → IsCarried old owner trigger → IsCarried new owner trigger ⊎ IsSettledBy old new (Command.stopped c) owner trigger
    stopped_carried c (inl pending) = by (leaves_or_taken c.us new.records owner trigger (c.units owner trigger (subst (λ (rs : List Record). IsPending rs owner trigger) (sym c.first.records) pending)))
      where
        by : IsPending new.records owner trigger ⊎ (IsTakenUp c.us new.records owner trigger ⊎ IsUnfinished new.records owner) → IsCarried new owner trigger ⊎ IsSettledBy old new (Command.stopped c) owner trigger
        by (inl still) = inl (inl still)
        by (inr settled) = inr settled
    stopped_carried c (inr found) = inl (inr (found_still c.begun.world new.world c.journal trigger (begun_keeps adds each c.by_files c.known old c.before c.begun c.first c.honest trigger found)))

    between_carried : (c : IsBetween old new) → IsCarried old owner trigger → IsCarried new owner trigger ⊎ IsSettledBy old new (Command.between c) owner trigger
    between_carried c (inl pending) = by (leaves_or_taken [] new.records owner trigger (c.units owner trigger pending))
      where
        by : IsPending new.records owner trigger ⊎ (IsTakenUp [] new.records owner trigger ⊎ IsUnfinished new.records owner) → IsCarried new owner trigger ⊎ IsSettledBy old new (Command.between c) owner trigger
        by (inl still) = inl (inl still)
        by (inr settled) = inr settled
    between_carried c (inr found) = inl (inr (found_still old.world new.world c.journal trigger found))

    carried_on : (c : IsEnded old new) → IsPending new.records owner trigger ⊎ IsSettledBy old new (Command.ended c) owner trigger → IsCarried new owner trigger ⊎ IsSettledBy old new (Command.ended c) owner trigger
    carried_on c (inl pending) = inl (inl pending)
    carried_on c (inr settled) = inr settled

    pub command_carried : (c : Command old new) → IsCarried old owner trigger → IsCarried new owner trigger ⊎ IsSettledBy old new c owner trigger
    command_carried (Command.between c) carried = between_carried c carried
    command_carried (Command.ended c) carried = carried_on c (ended_carried c carried)
    command_carried (Command.stopped c) carried = stopped_carried c carried
    command_carried (Command.stopped_late c) carried = late_carried c carried

    ended_causes : (c : IsEnded old new) → IsCausedBy old new (Command.ended c) trigger → IsCarried new owner trigger ⊎ IsSettledBy old new (Command.ended c) owner trigger
    ended_causes c hit = by (last_or_told c.done.world c.mid.lists c.t.by_files c.known.watch.before.items (touched_of c.us) owner trigger hit) (interested_or_not c.done.world c.mid.records.records owner trigger)
      where
        by_told : IsPending c.mid.records.records owner trigger ⊎ (IsTakenUp c.us c.mid.records.records owner trigger ⊎ IsUnfinished c.mid.records.records owner) → IsCarried new owner trigger ⊎ IsSettledBy old new (Command.ended c) owner trigger
        by_told (inl pending) = carried_on c (ended_kept c (out_stays c.t c.us c.known c.came c.mid c.after c.done c.end c.out owner trigger pending))
        by_told (inr (inl taken)) = inr (inl (inl taken))
        by_told (inr (inr less)) = inr (inl (inr (inl less)))

        by : IsHitLast c.done.world c.mid.lists c.t.by_files c.known.watch.before.items (touched_of c.us) owner trigger ⊎ (is_among (map (λ (t : Touch). t.«package») (touched_of c.us)) owner ≡ true)
            → IsInterested c.done.world c.mid.records.records owner trigger ⊎ (IsInterested c.done.world c.mid.records.records owner trigger → ⊥) → IsCarried new owner trigger ⊎ IsSettledBy old new (Command.ended c) owner trigger
        by (inr told) any = by_told (leaves_or_taken c.us c.mid.records.records owner trigger (inr (inl (told_by_touches c.us owner told))))
        by (inl last) (inl is) = carried_on c (ended_kept c (out_hit c.t c.us c.known c.came c.mid c.after c.done c.end c.out owner trigger is last))
        by (inl last) (inr isnt) = inr (inl (inr (inr isnt)))

    late_causes : (c : IsStoppedLate old new) → IsCausedBy old new (Command.stopped_late c) trigger → IsCarried new owner trigger ⊎ IsSettledBy old new (Command.stopped_late c) owner trigger
    late_causes c hit = by (last_or_told c.done.world c.mid.lists c.by_files c.known.watch.before.items (touched_of c.us) owner trigger hit) (interested_or_not c.done.world c.mid.records.records owner trigger)
      where
        by_told : IsPending c.mid.records.records owner trigger ⊎ (IsTakenUp c.us c.mid.records.records owner trigger ⊎ IsUnfinished c.mid.records.records owner) → IsCarried new owner trigger ⊎ IsSettledBy old new (Command.stopped_late c) owner trigger
        by_told (inl pending) = late_kept c (pending_stays c.by_files c.known (touched_of c.us) c.noted c.mid c.after c.done c.noting c.notes c.all c.honest owner trigger pending)
        by_told (inr (inl taken)) = inr (inl (inl taken))
        by_told (inr (inr less)) = inr (inl (inr (inl less)))

        by : IsHitLast c.done.world c.mid.lists c.by_files c.known.watch.before.items (touched_of c.us) owner trigger ⊎ (is_among (map (λ (t : Touch). t.«package») (touched_of c.us)) owner ≡ true)
            → IsInterested c.done.world c.mid.records.records owner trigger ⊎ (IsInterested c.done.world c.mid.records.records owner trigger → ⊥) → IsCarried new owner trigger ⊎ IsSettledBy old new (Command.stopped_late c) owner trigger
        by (inr told) any = by_told (leaves_or_taken c.us c.mid.records.records owner trigger (inr (inl (told_by_touches c.us owner told))))
        by (inl last) (inl is) = late_kept c (hit_pending c.by_files c.known (touched_of c.us) c.noted c.mid c.after c.done c.noting c.notes c.all c.honest owner trigger is last)
        by (inl last) (inr isnt) = inr (inl (inr (inr isnt)))

    pub command_causes : (c : Command old new) → IsCausedBy old new c trigger → IsCarried new owner trigger ⊎ IsSettledBy old new c owner trigger
    command_causes (Command.between c) caused = absurd caused
    command_causes (Command.ended c) caused = ended_causes c caused
    command_causes (Command.stopped c) caused = inl (inr (found_still c.begun.world new.world c.journal trigger (begun_found adds each c.by_files c.known old c.before c.begun c.first c.honest caused.1 caused.0 trigger)))
    command_causes (Command.stopped_late c) caused = late_causes c caused

-- command after command

module _ (adds : (w : World) (records : List Record) (text : List ℕ) → AddsRequests w records text) (each : (w : World) (records : List Record) (text : List ℕ) → IsEachFound w records text) (owner trigger : List ℕ) where
  pub all_carried : (first last : Moment) → (cs : Commands first last) → IsCarried first owner trigger → IsCarried last owner trigger ⊎ IsSettledIn first last cs owner trigger
  all_carried first last Commands.none carried = inl carried
  all_carried first last (Commands.then mid end so_far c) carried = by (all_carried first mid so_far carried)
    where
      by_last : IsCarried last owner trigger ⊎ IsSettledBy mid last c owner trigger → IsCarried last owner trigger ⊎ (IsSettledIn first mid so_far owner trigger ⊎ IsSettledBy mid last c owner trigger)
      by_last (inl still) = inl still
      by_last (inr settled) = inr (inr settled)

      by : IsCarried mid owner trigger ⊎ IsSettledIn first mid so_far owner trigger → IsCarried last owner trigger ⊎ (IsSettledIn first mid so_far owner trigger ⊎ IsSettledBy mid last c owner trigger)
      by (inl still) = by_last (command_carried mid last owner trigger adds each c still)
      by (inr settled) = inr (inl settled)

  pub all_ended : (first mid last : Moment) → (cs : Commands first mid) → (c : IsEnded mid last) → IsCarried first owner trigger
      → IsPending last.records owner trigger ⊎ (IsSettledIn first mid cs owner trigger ⊎ IsSettledBy mid last (Command.ended c) owner trigger)
  all_ended first mid last cs c carried = by (all_carried first mid cs carried)
    where
      by_last : IsPending last.records owner trigger ⊎ IsSettledBy mid last (Command.ended c) owner trigger → IsPending last.records owner trigger ⊎ (IsSettledIn first mid cs owner trigger ⊎ IsSettledBy mid last (Command.ended c) owner trigger)
      by_last (inl pending) = inl pending
      by_last (inr settled) = inr (inr settled)

      by : IsCarried mid owner trigger ⊎ IsSettledIn first mid cs owner trigger → IsPending last.records owner trigger ⊎ (IsSettledIn first mid cs owner trigger ⊎ IsSettledBy mid last (Command.ended c) owner trigger)
      by (inl still) = by_last (ended_carried mid last owner trigger c still)
      by (inr settled) = inr (inl settled)
