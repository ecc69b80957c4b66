-- Moment after moment of bringing the files to the interests.
use Rattle.std.proofs.Common.{◌≡◌, ◌==◌, arith, inl, inr, Bool, true, false, IsTrue, List, [], ◌∷◌, ℕ, length, Result, Ok, Err, OnOk, refl, subst, sym}
use Rattle.std.specs.Prelude.{IfOk}
use Rattle.std.proofs.lemmas.Bool.{eqb-true, true≢false}
use Rattle.std.proofs.lemmas.List.{append-nil}
use Rattle.host_core.specs.Events.{Event}
use Rattle.host_core.specs.Host.{Does, Falls, Reads, Since, State}
use Rattle.host_core.specs.Loss.{IsAnswered}
use Rattle.host_core.specs.declared.fault.HostFault.{HostFault}
use Rattle.host_core.proofs.Barriers.{on_disk}
use Rattle.host_core.specs.World.{Barrier, IsDirectory, World}
use Rattle.status_records.specs.declared.record.Record.{Record}
use Rattle.trigger_journal.specs.Places.{triggers_directory}
use Rattle.trigger_files.specs.Entries.{entries_of}
use Rattle.trigger_files.specs.Registered.{HasRegistered, IsRegistering}
use Rattle.trigger_files.specs.declared.registering.Plan.{Plan}
use Rattle.host_core.proofs.Moments.{reads_then, since_reads, since_then, since_weaker_if}
use Rattle.trigger_interests.specs.declared.interests.Interest.{Interest}
use Rattle.trigger_watch.specs.Names.{is_among}
use Rattle.trigger_files.specs.Lines.{file_of, lines_for}
use Rattle.trigger_files.specs.Places.{is_register, place}
use Rattle.trigger_files.specs.Steps.{AreBeingWritten, AreWritten, IsPlan, IsPutting}
use Rattle.trigger_files.proofs.Planned.{plan_registered, plan_registering, registering_start}
use Rattle.trigger_files.proofs.Written.{being_more, being_written, written_start}

-- it was only looked at, behind which something was done
pub only_looked : (P : World → World → Type 0) (s m : State) → ((w : World) → P w w) → Reads s m → Since (λ so_far. P s.world) s m
only_looked P s m start reads = since_reads (λ so_far. P s.world) s m reads (λ fs all. start s.world)

pub looked_then : (P : World → World → Type 0) (s m t : State) → ((w : World) → P w w) → Reads s m → Since (λ so_far. P m.world) m t → Since (λ so_far. P s.world) s t
looked_then P s m t start reads since = since_then (λ so_far. P s.world) s m t (only_looked P s m start reads) (subst (λ (w : World). Since (λ so_far. P w) m t) reads.world since)

reads_same : (s : State) → Reads s s
reads_same s = record { honest = λ h. h; world = refl; added = []; failed = tt; events = sym (append-nil s.events) }

-- nothing was done
pub start_here : (P : World → World → Type 0) (s : State) → ((w : World) → P w w) → Since (λ so_far. P s.world) s s
start_here P s start = only_looked P s s start (reads_same s)

-- on the disk

pub ok_anyway : {T E : Type 0} (P : Type 0) (result : Result T E) → P → OnOk result P
ok_anyway P (Ok x) p = p
ok_anyway P (Err e) p = tt

pub to_disk : {T : Type 0} (result : Result T HostFault) (s m t : State) → Does Barrier m t result → OnOk result (IsAnswered s t)
to_disk (Ok x) s m t does = inl (on_disk m t does)
to_disk (Err e) s m t does = tt

pub answered_from : (s m t : State) → Reads s m → IsAnswered m t → IsAnswered s t
answered_from s m t reads (inl disk) = inl disk
answered_from s m t reads (inr more) = inr (reads_then s m t reads more)

pub answered_behind : {T E : Type 0} (result : Result T E) (s m t : State) → Reads s m → OnOk result (IsAnswered m t) → OnOk result (IsAnswered s t)
answered_behind (Ok x) s m t reads answered = answered_from s m t reads answered
answered_behind (Err e) s m t reads answered = tt

-- none is written

pub none_written : (entries : List Interest) (names : List (List ℕ)) (w : World) → (length names == 0) ≡ true → AreWritten entries names w w
none_written entries [] w e = written_start entries w
none_written entries (x ∷ names) w e = absurd (omega (arith, eqb-true (length (x ∷ names)) 0 e))

pub being_start : (entries : List Interest) (names : List (List ℕ)) (w : World) → AreBeingWritten entries names w w
being_start entries names w = being_written entries w names [] w (λ name among. absurd (true≢false (sym among))) (written_start entries w)

-- one more file
pub since_put : (entries : List Interest) (names some : List (List ℕ)) (x : List ℕ) (s m t : State) → is_register x ≡ true → is_among names x ≡ true
    → ((name : List ℕ) → is_among some name ≡ true → is_among names name ≡ true) → (IsTrue m.honest → AreWritten entries some s.world m.world) → Falls m t
    → Since (λ so_far. IsPutting (place x) (file_of (lines_for entries x)) m.world) m t → Since (λ so_far. AreBeingWritten entries names s.world) m t
since_put entries names some x s m t register among within written falls since =
    since_weaker_if (λ so_far. IsPutting (place x) (file_of (lines_for entries x)) m.world) (λ so_far. AreBeingWritten entries names s.world) m t
    (λ h so_far v putting. being_more entries s.world names some x m.world v register among within (written (falls h)) putting) since

-- by a plan

pub registering_here : (records : List Record) (w : World) → IsRegistering records w w
registering_here records w = registering_start (entries_of w records) w

module _ (records : List Record) (plan : Plan) (s m t : State) (entries : List Interest) (names : List (List ℕ)) (reads : Reads s m) (there : IsTrue s.honest → IsDirectory (s.world triggers_directory))
    (is : IsTrue m.honest → IsPlan (entries_of s.world records) plan s.world) (whose : entries ≡ plan.entries.items) (which : names ≡ plan.free.items) where
  by_plan : (P : List Interest → List (List ℕ) → Type 0) → P entries names → P plan.entries.items plan.free.items
  by_plan P p = subst (λ (l : List (List ℕ)). P plan.entries.items l) which (subst (λ (es : List Interest). P es names) whose p)

  pub registering_from : Falls m t → Since (λ so_far. AreBeingWritten entries names m.world) m t → Since (λ so_far. IsRegistering records s.world) s t
  registering_from falls since =
      since_then (λ so_far. IsRegistering records s.world) s m t (only_looked (IsRegistering records) s m (registering_here records) reads)
      (since_weaker_if (λ so_far. AreBeingWritten entries names m.world) (λ so_far. IsRegistering records s.world) m t
      (λ h so_far v being. plan_registering records plan s.world (is (falls h)) (there (reads.honest (falls h))) v
      (by_plan (λ (es : List Interest) (l : List (List ℕ)). AreBeingWritten es l s.world v) (subst (λ (w : World). AreBeingWritten entries names w v) reads.world being))) since)

  pub registered_by : (free : Bool) → IsTrue m.honest → AreWritten entries names m.world t.world → free ≡ (length plan.free.items == length plan.due.items) → HasRegistered records free s.world t.world
  registered_by free h written count =
      plan_registered records plan s.world (is h) (there (reads.honest h)) t.world free
      (by_plan (λ (es : List Interest) (l : List (List ℕ)). AreWritten es l s.world t.world) (subst (λ (w : World). AreWritten entries names w t.world) reads.world written)) count

-- behind a look at the directory

pub registered_behind : {E : Type 0} (result : Result Bool E) (records : List Record) (w v u : World) → v ≡ w → IfOk result (λ free. HasRegistered records free v u) → IfOk result (λ free. HasRegistered records free w u)
registered_behind (Ok free) records w v u same is = subst (λ (x : World). HasRegistered records free x u) same is
registered_behind (Err e) records w v u same is = tt
