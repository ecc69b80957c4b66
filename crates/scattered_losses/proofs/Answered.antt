-- What stood at a barrier stays behind such a loss too.
use Rattle.std.specs.Prelude.{◌≡◌, ◌⊎◌, Bool, false, List, [], ◌∷◌, ◌++◌}
use Rattle.std.proofs.Common.{refl, sym, ◌∙◌, ap, subst, inl, inr, append_assoc}
use Rattle.std.proofs.lemmas.Bool.{true≢false}
use Rattle.std.proofs.lemmas.List.{append-nil}
use Rattle.host_core.specs.Paths.{Path}
use Rattle.host_core.specs.World.{World, Change, Barrier}
use Rattle.host_core.specs.Events.{Event, Did, Finished, Cut, Failed, Denied, follow_all, changes_of}
use Rattle.host_core.specs.Unsynced.{unsynced, unsynced_all}
use Rattle.host_core.specs.Host.{State, AllFailed}
use Rattle.host_core.specs.Loss.{HasNoBarrier, IsBlurred, IsMoment, IsOnDisk, IsAnswered, IsLater}
use Rattle.host_core.proofs.Losses.{unsynced-append}
use Rattle.host_core.proofs.Moments.{follow_all-append, unmoved}
use Rattle.scattered_losses.specs.Scattered.{parent_of, IsScattered, LosesScattered}

-- lists

tail_of : {A : Type 0} (x y : A) (a b : List A) → x ∷ a ≡ y ∷ b → a ≡ b
tail_of x y a b e = cc e

head_of : {A : Type 0} (x y : A) (a b : List A) → x ∷ a ≡ y ∷ b → x ≡ y
head_of x y a b e = cc e

pub cancel : {A : Type 0} (a b c : List A) → a ++ b ≡ a ++ c → b ≡ c
cancel [] b c e = e
cancel (x ∷ a) b c e = cancel a b c (tail_of x x (a ++ b) (a ++ c) e)

-- one list in two parts, in two ways: one of the fronts goes on from the other
pub two_splits : {A : Type 0} (a b c d : List A) → a ++ b ≡ c ++ d
    → ((e : List A) × (a ≡ c ++ e) × (d ≡ e ++ b)) ⊎ ((e : List A) × (c ≡ a ++ e) × (b ≡ e ++ d))
two_splits [] b c d e = inr (c, refl, e)
two_splits (x ∷ a) b [] d e = inl (x ∷ a, refl, sym e)
two_splits (x ∷ a) b (y ∷ c) d e = elim (two_splits a b c d (tail_of x y (a ++ b) (c ++ d) e)) [
  | inl m ↦ inl (m.0, ap (λ l. x ∷ l) m.1 ∙ ap (λ z. z ∷ (c ++ m.0)) (head_of x y (a ++ b) (c ++ d) e), m.2)
  | inr m ↦ inr (m.0, ap (λ l. y ∷ l) m.1 ∙ ap (λ z. z ∷ (a ++ m.0)) (sym (head_of x y (a ++ b) (c ++ d) e)), m.2)
]

-- behind what is on the disk, and before a later barrier, there are faults alone

failed_behind : (a b : List Event) → AllFailed (a ++ b) → AllFailed b
failed_behind [] b all = all
failed_behind (Did s ∷ a) b all = absurd all
failed_behind (Finished ran ∷ a) b all = absurd all
failed_behind (Cut call change ∷ a) b all = absurd all
failed_behind (Failed ∷ a) b all = failed_behind a b all
failed_behind (Denied path ∷ a) b all = absurd all

pub failed_before : (a b : List Event) → AllFailed (a ++ b) → AllFailed a
failed_before [] b all = tt
failed_before (Did s ∷ a) b all = absurd all
failed_before (Finished ran ∷ a) b all = absurd all
failed_before (Cut call change ∷ a) b all = absurd all
failed_before (Failed ∷ a) b all = failed_before a b all
failed_before (Denied path ∷ a) b all = absurd all

pub unflushed_behind : (a b : List Event) → HasNoBarrier (a ++ b) → HasNoBarrier b
unflushed_behind [] b none = none
unflushed_behind (e ∷ a) b none = unflushed_behind a b none.1

pub unflushed_before : (a b : List Event) → HasNoBarrier (a ++ b) → HasNoBarrier a
unflushed_before [] b none = tt
unflushed_before (e ∷ a) b none = (none.0, unflushed_before a b none.1)

no_barrier : (most fs rest : List Event) → HasNoBarrier ((most ++ Did Barrier ∷ fs) ++ rest) → ⊥
no_barrier [] fs rest none = true≢false none.0
no_barrier (e ∷ most) fs rest none = no_barrier most fs rest none.1

abbrev AreOnDisk : List Event → Type 0
AreOnDisk first = AllFailed first ⊎ IsOnDisk first

faults_behind : (m e fs rest : List Event) → AllFailed fs → Did Barrier ∷ fs ≡ m ++ e → HasNoBarrier (e ++ rest) → AllFailed e
faults_behind [] e fs rest all is none = absurd (no_barrier [] fs rest (subst (λ l. HasNoBarrier (l ++ rest)) (sym is) none))
faults_behind (x ∷ m) e fs rest all is none = failed_behind m e (subst AllFailed (tail_of (Did Barrier) x fs (m ++ e) is) all)

faults_alone : (a e rest : List Event) → AreOnDisk (a ++ e) → HasNoBarrier (e ++ rest) → AllFailed e
faults_alone a e rest (inl all) none = failed_behind a e all
faults_alone a e rest (inr (most, fs, is, all)) none = elim (two_splits a e most (Did Barrier ∷ fs) is) [
  | inl m ↦ faults_behind m.0 e fs rest all m.2 none
  | inr m ↦ absurd (no_barrier m.0 fs rest (subst (λ l. HasNoBarrier (l ++ rest)) m.2 none))
]

on_disk_behind : (before first : List Event) → IsOnDisk (before ++ first) → AreOnDisk first
on_disk_behind before first (most, fs, is, all) = elim (two_splits before first most (Did Barrier ∷ fs) is) [
  | inl m ↦ inside m.0 m.2
  | inr m ↦ inr (m.0, fs, m.2, all)
]
  where
    inside : (m : List Event) → Did Barrier ∷ fs ≡ m ++ first → AreOnDisk first
    inside [] same = inr ([], fs, sym same, all)
    inside (x ∷ m) same = inl (failed_behind m first (subst AllFailed (tail_of (Did Barrier) x fs (m ++ first) same) all))

-- so it is with faults behind what is on the disk, before what no barrier follows
pub failed_on_disk : (before durable e rest : List Event) → IsOnDisk (before ++ (durable ++ e)) → HasNoBarrier (e ++ rest) → AllFailed e
failed_on_disk before durable e rest disk none = faults_alone durable e rest (on_disk_behind before (durable ++ e) disk) none

-- faults write nothing
unsynced_faults : (es : List Event) (u : Path → Bool) → AllFailed es → unsynced_all es u ≡ u
unsynced_faults [] u all = refl
unsynced_faults (Did s ∷ es) u all = absurd all
unsynced_faults (Finished ran ∷ es) u all = absurd all
unsynced_faults (Cut call change ∷ es) u all = absurd all
unsynced_faults (Failed ∷ es) u all = unsynced_faults es u all
unsynced_faults (Denied path ∷ es) u all = absurd all

-- a loss at a moment behind mid, which is behind what is on the disk
module _ (wrote : Change) (old mid : State) (first later : List Event) (left : World) (events : mid.events ≡ old.events ++ first) (world : mid.world ≡ follow_all first old.world) (loss : IsScattered wrote old (first ++ later) left) where
  -- the front of a directory, seen from mid
  record IsMoved (durable late : List Event) (d : Path) : Type 0 where
    front : List Event
    rest : List Event
    split : late ≡ front ++ rest
    here : unsynced (old.events ++ (loss.durable ++ loss.front d)) ≡ unsynced (mid.events ++ (durable ++ front))
    there : follow_all (loss.durable ++ loss.front d) old.world ≡ follow_all (durable ++ front) mid.world

  scattered_as : (durable late : List Event) → later ≡ durable ++ late → HasNoBarrier late → ((d : Path) → IsMoved durable late d) → IsScattered wrote mid later left
  scattered_as durable late split none moved = record {
    durable = durable;
    late = late;
    split = split;
    unflushed = none;
    front = λ d. (moved d).front;
    rest = λ d. (moved d).rest;
    fronts = λ d. (moved d).split;
    whole = λ q free s. loss.whole q free (ap (λ f. f q) (moved (parent_of q)).here ∙ s) ∙ ap (λ w. w q) (moved (parent_of q)).there;
    bytes = λ q free s. subst (λ w. IsBlurred (w q) (left q)) (moved (parent_of q)).there (loss.bytes q free (ap (λ f. f q) (moved (parent_of q)).here ∙ s));
  }

  -- the barrier is behind mid
  moved_on : (e front : List Event) → loss.durable ≡ first ++ e → old.events ++ (loss.durable ++ front) ≡ mid.events ++ (e ++ front)
  moved_on e front is =
      ap (λ l. old.events ++ (l ++ front)) is ∙ ap (λ l. old.events ++ l) (append_assoc first e front) ∙ sym (append_assoc old.events first (e ++ front)) ∙ ap (λ l. l ++ (e ++ front)) (sym events)

  barrier_later : (e : List Event) → loss.durable ≡ first ++ e → later ≡ e ++ loss.late → IsScattered wrote mid later left
  barrier_later e is both = scattered_as e loss.late both loss.unflushed (λ d. record {
    front = loss.front d;
    rest = loss.rest d;
    split = loss.fronts d;
    here = ap unsynced (moved_on e (loss.front d) is);
    there = ap (λ l. follow_all (l ++ loss.front d) old.world) is ∙ ap (λ l. follow_all l old.world) (append_assoc first e (loss.front d)) ∙ follow_all-append first (e ++ loss.front d) old.world ∙ ap (follow_all (e ++ loss.front d)) (sym world);
  })

  -- or before it, with faults alone between
  module _ (e : List Event) (is : first ≡ loss.durable ++ e) (both : loss.late ≡ e ++ later) (failed : AllFailed e) where
    goes_on : (d : Path) (n : List Event) → loss.front d ≡ e ++ n → later ≡ n ++ loss.rest d → IsMoved [] later d
    goes_on d n front more =
        let list : loss.durable ++ loss.front d ≡ first ++ n = ap (λ l. loss.durable ++ l) front ∙ sym (append_assoc loss.durable e n) ∙ ap (λ l. l ++ n) (sym is) in
        record {
          front = n;
          rest = loss.rest d;
          split = more;
          here = ap (λ l. unsynced (old.events ++ l)) list ∙ ap unsynced (sym (append_assoc old.events first n) ∙ ap (λ l. l ++ n) (sym events));
          there = ap (λ l. follow_all l old.world) list ∙ follow_all-append first n old.world ∙ ap (follow_all n) (sym world);
        }

    stops_before : (d : Path) (n : List Event) → e ≡ loss.front d ++ n → IsMoved [] later d
    stops_before d n front =
        let upto : List Event = loss.durable ++ loss.front d in
        let faults : AllFailed n = failed_behind (loss.front d) n (subst AllFailed front failed) in
        let list : first ≡ upto ++ n = is ∙ ap (λ l. loss.durable ++ l) front ∙ sym (append_assoc loss.durable (loss.front d) n) in
        let all : mid.events ≡ (old.events ++ upto) ++ n = events ∙ ap (λ l. old.events ++ l) list ∙ sym (append_assoc old.events upto n) in
        record {
          front = [];
          rest = later;
          split = refl;
          here = sym (unsynced_faults n (unsynced (old.events ++ upto)) faults) ∙ sym (unsynced-append (old.events ++ upto) n (λ q. false)) ∙ ap unsynced (sym all) ∙ ap unsynced (sym (append-nil mid.events));
          there = sym (unmoved n (follow_all upto old.world) faults) ∙ sym (follow_all-append upto n old.world) ∙ ap (λ l. follow_all l old.world) (sym list) ∙ sym world;
        }

    barrier_before : IsScattered wrote mid later left
    barrier_before = scattered_as [] later refl (unflushed_behind e later (subst HasNoBarrier both loss.unflushed)) (λ d.
        elim (two_splits (loss.front d) (loss.rest d) e later (sym (loss.fronts d) ∙ both)) [ inl n ↦ goes_on d n.0 n.1 n.2 | inr n ↦ stops_before d n.0 n.1 ])

  scattered_behind : AreOnDisk first → IsScattered wrote mid later left
  scattered_behind disk = elim (two_splits loss.durable loss.late first later (sym loss.split)) [
    | inl m ↦ barrier_later m.0 m.1 m.2
    | inr m ↦ barrier_before m.0 m.1 m.2 (faults_alone loss.durable m.0 later (subst AreOnDisk m.1 disk) (subst HasNoBarrier m.2 loss.unflushed))
  ]

-- a moment of two parts is one of the first, or behind it one of the second
pub moment_split : (a b moment : List Event) → IsMoment (a ++ b) moment → IsMoment a moment ⊎ ((more : List Event) × (moment ≡ a ++ more) × IsMoment b more)
moment_split a b moment (inl (later, split)) = elim (two_splits a b moment later split) [
  | inl m ↦ inl (inl (m.0, m.1))
  | inr m ↦ inr (m.0, m.1, inl (later, m.2))
]
moment_split a b moment (inr (done, later, event, part, split, cut, here)) = elim (two_splits a b done (event ∷ later) split) [
  | inl m ↦ inside m.0 m.1 m.2
  | inr m ↦ inr (m.0 ++ part ∷ [], here ∙ ap (λ l. l ++ part ∷ []) m.1 ∙ append_assoc a m.0 (part ∷ []), inr (m.0, later, event, part, m.2, cut, refl))
]
  where
    inside : (e : List Event) → a ≡ done ++ e → event ∷ later ≡ e ++ b → IsMoment a moment ⊎ ((more : List Event) × (moment ≡ a ++ more) × IsMoment b more)
    inside [] is rest = inr (part ∷ [], here ∙ ap (λ l. l ++ part ∷ []) (sym (append-nil done) ∙ sym is), inr ([], later, event, part, sym rest, cut, refl))
    inside (x ∷ e) is rest = inl (inr (done, e, event, part, is ∙ ap (λ z. done ++ z ∷ e) (sym (head_of event x later (e ++ b) rest)), cut, here))

session_on : (begun old mid : State) (earlier first : List Event) → old.events ≡ begun.events ++ earlier → mid.events ≡ old.events ++ first → mid.events ≡ begun.events ++ (earlier ++ first)
session_on begun old mid earlier first session events = events ∙ ap (λ l. l ++ first) session ∙ append_assoc begun.events earlier first

-- THE LAW FOR RUNS: such a loss is one before a command in between has answered, or one since
pub scattered_in_part : (begun old mid new : State) (left : World) → IsLater old mid → IsLater mid new → IsAnswered old mid → LosesScattered begun old new left
    → LosesScattered begun old mid left ⊎ LosesScattered begun mid new left
scattered_in_part begun old mid new left first second answered loses =
    let both : new.events ≡ old.events ++ (first.added ++ second.added) =
    second.events ∙ ap (λ (l : List Event). l ++ second.added) first.events ∙ append_assoc old.events first.added second.added in
    let is : IsMoment (first.added ++ second.added) loses.moment =
    subst (λ l. IsMoment l loses.moment) (cancel old.events loses.added (first.added ++ second.added) (sym loses.events ∙ both)) loses.is in
    elim (moment_split first.added second.added loses.moment is) [
      | inl before ↦ inl record { earlier = loses.earlier; session = loses.session; added = first.added; events = first.events; moment = loses.moment; is = before; loss = loses.loss }
      | inr behind ↦ inr record {
        earlier = loses.earlier ++ first.added;
        session = session_on begun old mid loses.earlier first.added loses.session first.events;
        added = second.added;
        events = second.events;
        moment = behind.0;
        is = behind.2;
        loss = subst (λ l. IsScattered (changes_of l) mid behind.0 left) (sym (append_assoc loses.earlier first.added behind.0))
            (scattered_behind _ old mid first.added behind.0 left first.events first.world (subst (λ l. IsScattered (changes_of (loses.earlier ++ l)) old l left) behind.1 loses.loss) done);
      }
    ]
  where
    done : AreOnDisk first.added
    done = elim answered [
      | inl disk ↦ on_disk_behind old.events first.added (subst IsOnDisk first.events disk)
      | inr reads ↦ inl (subst AllFailed (cancel old.events reads.added first.added (sym reads.events ∙ first.events)) reads.failed)
    ]
