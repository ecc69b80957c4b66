-- What one note more makes of the state.
use Rattle.std.proofs.Common.{◌≡◌, ◌⊎◌, inl, inr, Bool, true, false, ◌&&◌, IsTrue, List, [], ◌∷◌, ◌++◌, Option, Some, None, Result, Ok, Err, OnOk, refl, sym, ap, subst, ◌∙◌, append_assoc}
use Rattle.std.proofs.lemmas.Bool.{false≢true}
use Rattle.std.proofs.lemmas.List.{append-nil}
use Rattle.host_core.specs.World.{World, Step, Write, Move, Take, MakeDir, RemoveDir, HardLink, MakeLink, Sync, Barrier, SyncAll, SyncRoot, Lower, IsPart, is_kept, undo_of, place_of}
use Rattle.host_core.specs.Events.{Event, Did, Finished, Cut, Failed, Denied}
use Rattle.host_core.specs.Unsynced.{IsSettled, KeepsSettled}
use Rattle.host_core.proofs.Losses.{settled_none, settled_event, keeps_part}
use Rattle.host_core.specs.Host.{State, Same, Happens, Reads, Silent, Counts, Stops, Declines, Does, Runs, Tells}
use Rattle.host_core.proofs.Counted.{has_failed, no_fault_same, silent_failed, silent_same}
use Rattle.host_core.specs.declared.call.Call.{Call}
use Rattle.host_core.specs.declared.call.Outcome.{Outcome}
use Rattle.host_core.specs.declared.fault.HostFault.{HostFault}
use Rattle.host_core.specs.declared.fault.HostFault.TheVariants.{Device, NoMemory}
use Rattle.host_core.specs.declared.fault.HostFault.TheVariants as fault
use Rattle.host_files.specs.Faults.{IsUndeclined}
use Rattle.host_files.specs.declared.record.Asked.{Asked}
use Rattle.host_files.specs.declared.record.Noted.{Noted}
use Rattle.host_files.specs.declared.record.Noted.TheVariants.{Looked, Seen, Listed, Compared, Done, Undone, Declined, Ended, Broke, Missed}
use Rattle.host_files.specs.Replay.{Model, IsSound, IsLeftOf, IsTakenBack, IsOwed, replay, events_of, failing, declining, step_of}
use Rattle.host_core.specs.Host.{ran_of}

pub honest_before : (a b : Bool) → IsTrue (a && b) → IsTrue b
honest_before true b h = h
honest_before false b h = absurd (false≢true h)

-- what is told of a world that was only looked at before
pub tells_behind : {T E : Type 0} (a b c : State) (result : Result T E) (P : T → World → Type 0) → Reads a b → Tells result P b c → Tells result P a c
tells_behind a b c (Ok x) P reads told = λ h. subst (P x) reads.world (told h)
tells_behind a b c (Err e) P reads told = λ h. tt

-- nothing was looked at
pub reads_none : (s : State) → Reads s s
reads_none s = record { honest = λ h. h; world = refl; added = []; failed = tt; events = sym (append-nil s.events) }

module _ (m : Model) where
  pub one : (n : Noted) (old new : List Noted) → new ≡ n ∷ old → Happens (events_of m old n) (replay m old) (replay m new)
  one n old new is = subst (λ l. Happens (events_of m old n) (replay m old) (replay m l)) (sym is)
      (record { honest = λ h. honest_before (m.agrees (n ∷ old)) (replay m old).honest h; world = refl; events = refl })

  pub none : (old new : List Noted) → new ≡ old → Same (replay m old) (replay m new)
  none old new is = subst (λ l. Same (replay m old) (replay m l)) (sym is) (record { honest = λ h. h; world = refl; events = refl })

  pub settled_start : (notes : List Noted) → notes ≡ [] → IsTrue (replay m notes).honest → IsSettled (replay m notes).events
  settled_start notes is h = subst (λ l. IsSettled (replay m l).events) (sym is) settled_none

  -- looking at something that failed

  pub silent_missed : (fault : HostFault) (old new : List Noted) → IsUndeclined fault → (fault ≡ Device → new ≡ Missed ∷ old) → (fault ≡ NoMemory → new ≡ old) → Silent (replay m old) (replay m new)
  silent_missed Device old new is device memory = silent_failed (replay m old) (replay m new) (one Missed old new (device refl))
  silent_missed NoMemory old new is device memory = silent_same (replay m old) (replay m new) (none old new (memory refl))
  silent_missed fault.Declined old new is device memory = absurd is

  pub counts_missed : (T : Type 0) (fault : HostFault) (old new : List Noted) → IsUndeclined fault → (fault ≡ Device → new ≡ Missed ∷ old) → (fault ≡ NoMemory → new ≡ old) → Counts {T = T} (replay m old) (replay m new) (Err fault)
  counts_missed T Device old new is device memory = has_failed [] (replay m old) (replay m new) refl (one Missed old new (device refl))
  counts_missed T NoMemory old new is device memory = no_fault_same (replay m old) (replay m new) (ap (λ l. (replay m l).events) (memory refl))
  counts_missed T fault.Declined old new is device memory = absurd is

  pub reads_missed : (fault : HostFault) (old new : List Noted) → IsUndeclined fault → (fault ≡ Device → new ≡ Missed ∷ old) → (fault ≡ NoMemory → new ≡ old) → Reads (replay m old) (replay m new)
  reads_missed Device old new is device memory = let goes = one Missed old new (device refl) in record { honest = goes.honest; world = goes.world; added = Failed ∷ []; failed = tt; events = goes.events }
  reads_missed NoMemory old new is device memory = let same = none old new (memory refl) in record { honest = same.honest; world = same.world; added = []; failed = tt; events = same.events ∙ sym (append-nil (replay m old).events) }
  reads_missed fault.Declined old new is device memory = absurd is

  module _ (sound : IsSound m) where
    -- a step of which Device was told
    stops : (a : Asked) (old new : List Noted) (left : Option _) → m.left old ≡ left → new ≡ Undone a ∷ old → Stops (step_of a) (replay m old) (replay m new)
    stops a old new None is noted = Stops.nothing (subst (λ o. Happens (failing o) (replay m old) (replay m new)) is (one (Undone a) old new noted))
    stops a old new (Some t) is noted = Stops.some t
        (λ h. subst (IsLeftOf (step_of a)) is (sound.answers (Undone a) old (subst (λ l. IsTrue (replay m l).honest) noted h)))
        (subst (λ o. Happens (failing o) (replay m old) (replay m new)) is (one (Undone a) old new noted))

    -- a step that was declined
    declines : (a : Asked) (old new : List Noted) (left : Option _) → m.left old ≡ left → new ≡ Declined a ∷ old → Declines (step_of a) (replay m old) (replay m new)
    declines a old new None is noted =
        Declines.nothing (subst (λ o. Happens (declining a o) (replay m old) (replay m new)) is (one (Declined a) old new noted))
    declines a old new (Some t) is noted = Declines.undone t
        (λ h. subst (IsTakenBack (step_of a) (replay m old).world) is (sound.answers (Declined a) old (subst (λ l. IsTrue (replay m l).honest) noted h)))
        (subst (λ o. Happens (declining a o) (replay m old) (replay m new)) is (one (Declined a) old new noted))

    pub does_by : {T : Type 0} (result : Result T HostFault) (a : Asked) (old new : List Noted) → OnOk result (new ≡ Done a ∷ old) → (result ≡ Err Device → new ≡ Undone a ∷ old) → (result ≡ Err NoMemory → new ≡ old)
        → (result ≡ Err fault.Declined → new ≡ Declined a ∷ old) → Does (step_of a) (replay m old) (replay m new) result
    does_by (Ok x) a old new done device memory declined = one (Done a) old new done
    does_by (Err Device) a old new done device memory declined = stops a old new (m.left old) refl (device refl)
    does_by (Err NoMemory) a old new done device memory declined = none old new (memory refl)
    does_by (Err fault.Declined) a old new done device memory declined = declines a old new (m.left old) refl (declined refl)

    pub ended : (call : Call) (keep : _) (o : Outcome) (old new : List Noted) → new ≡ Ended call keep o ∷ old → Runs (is_kept keep) call (replay m old) (replay m new) (Ok o)
    ended call keep o old new noted = (m.change old, λ h. sound.answers (Ended call keep o) old (subst (λ l. IsTrue (replay m l).honest) noted h), one (Ended call keep o) old new noted)

    pub broken : (call : Call) (keep : _) (fault : HostFault) (old new : List Noted) → IsUndeclined fault → (fault ≡ Device → new ≡ Broke call keep ∷ old) → (fault ≡ NoMemory → new ≡ old) → Runs (is_kept keep) call (replay m old) (replay m new) (Err fault)
    broken call keep Device old new is device memory =
        inr (m.change old, λ h. sound.answers (Broke call keep) old (subst (λ l. IsTrue (replay m l).honest) (device refl) h), one (Broke call keep) old new (device refl))
    broken call keep NoMemory old new is device memory = none old new (memory refl)
    broken call keep fault.Declined old new is device memory = absurd is

    -- what is owed for the step is owed for what was done of it
    left_keeps : (events : List Event) (s t : Step) → (t ≡ s) ⊎ IsPart s t → KeepsSettled events s → KeepsSettled events t
    left_keeps events s t (inl same) owed = subst (KeepsSettled events) (sym same) owed
    left_keeps events s t (inr part) owed = keeps_part events s t part owed

    -- a fault at the end
    settled_failing : (a : Asked) (events : List Event) (left : Option Step) → IsLeftOf (step_of a) left → KeepsSettled events (step_of a) → IsSettled events → IsSettled (events ++ failing left)
    settled_failing a events None is owed settled = settled_event events Failed tt settled
    settled_failing a events (Some t) is owed settled =
        subst IsSettled (append_assoc events (Did t ∷ []) (Failed ∷ []))
        (settled_event (events ++ Did t ∷ []) Failed tt (settled_event events (Did t) (left_keeps events (step_of a) t is owed) settled))

    -- nothing is owed for what takes a part away
    undo_owed : (events : List Event) (s : Step) → KeepsSettled events (undo_of s)
    undo_owed events (Write p n) = tt
    undo_owed events (Move a b) = tt
    undo_owed events (Take p) = tt
    undo_owed events (MakeDir p m) = tt
    undo_owed events (RemoveDir p) = tt
    undo_owed events (HardLink a b) = tt
    undo_owed events (MakeLink p t) = tt
    undo_owed events (Sync p) = tt
    undo_owed events Barrier = tt
    undo_owed events SyncAll = tt
    undo_owed events SyncRoot = tt
    undo_owed events (Lower p) = tt

    -- a step that was declined, at the end
    settled_declining : (a : Asked) (events : List Event) (w : _) (left : Option Step) → IsTakenBack (step_of a) w left → KeepsSettled events (step_of a) → IsSettled events → IsSettled (events ++ declining a left)
    settled_declining a events w None is owed settled = settled_event events (Denied (place_of (step_of a))) tt settled
    settled_declining a events w (Some t) is owed settled =
        let some : List Event = events ++ Did t ∷ [] in
        let undo : Event = Did (undo_of (step_of a)) in
        let denied : Event = Denied (place_of (step_of a)) in
        subst IsSettled (append_assoc some (undo ∷ []) (denied ∷ []) ∙ append_assoc events (Did t ∷ []) (undo ∷ denied ∷ []))
        (settled_event (some ++ undo ∷ []) denied tt
        (settled_event some undo (undo_owed some (step_of a))
        (settled_event events (Did t) (keeps_part events (step_of a) t is.0 owed) settled)))

    unmoved_events : (events : List Event) → IsSettled events → IsSettled (events ++ [])
    unmoved_events events settled = subst IsSettled (sym (append-nil events)) settled

    -- one note more
    settled_more : (n : Noted) (old : List Noted) → IsOwed (replay m old).events n → IsSettled (replay m old).events → IsTrue (replay m (n ∷ old)).honest → IsSettled (replay m (n ∷ old)).events
    settled_more (Looked p o) old owed settled h = unmoved_events (replay m old).events settled
    settled_more (Seen p k) old owed settled h = unmoved_events (replay m old).events settled
    settled_more (Listed p l) old owed settled h = unmoved_events (replay m old).events settled
    settled_more (Compared one two same) old owed settled h = unmoved_events (replay m old).events settled
    settled_more (Done a) old owed settled h = settled_event (replay m old).events (Did (step_of a)) owed settled
    settled_more (Undone a) old owed settled h = settled_failing a (replay m old).events (m.left old) (sound.answers (Undone a) old h) owed settled
    settled_more (Declined a) old owed settled h = settled_declining a (replay m old).events (replay m old).world (m.left old) (sound.answers (Declined a) old h) owed settled
    settled_more (Ended c k o) old owed settled h = settled_event (replay m old).events (Finished (ran_of c o (m.change old))) tt settled
    settled_more (Broke c k) old owed settled h =
        subst IsSettled (append_assoc (replay m old).events (Cut c (m.change old) ∷ []) (Failed ∷ []))
        (settled_event ((replay m old).events ++ Cut c (m.change old) ∷ []) Failed tt (settled_event (replay m old).events (Cut c (m.change old)) tt settled))
    settled_more Missed old owed settled h = settled_event (replay m old).events Failed tt settled

    pub settled_note : (n : Noted) (old new : List Noted) → new ≡ n ∷ old → (IsTrue (replay m old).honest → IsOwed (replay m old).events n)
        → (IsTrue (replay m old).honest → IsSettled (replay m old).events) → IsTrue (replay m new).honest → IsSettled (replay m new).events
    settled_note n old new is owed settled h =
        let there : IsTrue (replay m (n ∷ old)).honest = subst (λ l. IsTrue (replay m l).honest) is h in
        let before : IsTrue (replay m old).honest = honest_before (m.agrees (n ∷ old)) (replay m old).honest there in
        subst (λ l. IsSettled (replay m l).events) (sym is) (settled_more n old (owed before) (settled before) there)

    pub settled_same : (old new : List Noted) → new ≡ old → (IsTrue (replay m old).honest → IsSettled (replay m old).events) → IsTrue (replay m new).honest → IsSettled (replay m new).events
    settled_same old new is settled = subst (λ l. IsTrue (replay m l).honest → IsSettled (replay m l).events) (sym is) settled
