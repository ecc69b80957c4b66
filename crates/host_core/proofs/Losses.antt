-- What a loss of power leaves is like what a stop leaves.
use Rattle.std.specs.Prelude.{◌≡◌, ◌≢◌, ◌⊎◌, ℕ, Bool, true, false, List, [], ◌∷◌, ◌++◌, Option, Some, None, cond, ◌||◌, ◌&&◌, not, IsTrue, Result, Ok, Err, codes, length, drop, ◌-◌}
use Rattle.std.proofs.Common.{refl, sym, ◌∙◌, ap, subst, inl, inr, append_assoc, arith, length-append}
use Rattle.std.proofs.Math.Seq.{drop-append_seam}
use Rattle.std.proofs.lemmas.Bool.{true≢false, false≢true}
use Rattle.std.proofs.lemmas.List.{append-nil}
use Rattle.std.specs.Str.{bytes_eq}
use Rattle.std.proofs.lemmas.Slice.Eq.{bytes_eq-Decides}
use Rattle.host_core.specs.Paths.{Path}
use Rattle.host_core.specs.World.{World, Change, Avoids, Step, Write, Move, Take, MakeDir, RemoveDir, HardLink, MakeLink, Sync, Barrier, SyncAll, SyncRoot, Lower, IsPart, SameOn, KeepsBut}
use Rattle.host_core.specs.Events.{Event, Did, Finished, Cut, Failed, Denied, follow, follow_all, IsCutOf, Ran, scripts_of, changes_of}
use Rattle.host_core.specs.Unsynced.{unsynced, unsynced_all, unsynced_after, unsynced_step, marked, is_temporary, IsSettled, KeepsSettled}
use Rattle.host_core.specs.Host.{State, AllFailed, Throughout, Since, Silent, Runs, Calls, finished, ScriptsBut, OnlyScripts}
use Rattle.host_core.proofs.Scripts.{Avoids-front, Avoids-append, changes_of-append, changed_kept}
use Rattle.host_core.specs.declared.call.Call.{Call}
use Rattle.host_core.specs.declared.call.Outcome.{Outcome}
use Rattle.host_core.specs.declared.fault.HostFault.{HostFault}
use Rattle.host_core.specs.declared.fault.HostFault.TheVariants.{Device, NoMemory, Declined}
use Rattle.host_core.proofs.Moments.{follow_all-append, unmoved, since_now}
use Rattle.host_core.specs.Loss.{writes, HasNoBarrier, IsOnDisk, IsBlurred, IsMoment, IsLoss, LosesSince, IsLike, IsBlind, unwritten, ScriptsAvoid, IsLikeAStop, LosesBehind, IsLikeOne, IsAnswered, IsLater}
use Rattle.host_core.specs.declared.node.Node.{Node}
use Rattle.host_core.specs.declared.node.Node.TheVariants.{File, Dir, Link}

-- lists

tail_of : {A : Type 0} (x y : A) (a b : List A) → x ∷ a ≡ y ∷ b → a ≡ b
tail_of x y a b e = cc e

head_of : {A : Type 0} (x y : A) (a b : List A) → x ∷ a ≡ y ∷ b → x ≡ y
head_of x y a b e = cc e

cancel : {A : Type 0} (a b c : List A) → a ++ b ≡ a ++ c → b ≡ c
cancel [] b c e = e
cancel (x ∷ a) b c e = cancel a b c (tail_of x x (a ++ b) (a ++ c) e)

-- one list in two parts, in two ways: one of the fronts goes on from the other
two_splits : {A : Type 0} (a b c d : List A) → a ++ b ≡ c ++ d
    → ((e : List A) × (a ≡ c ++ e) × (d ≡ e ++ b)) ⊎ ((e : List A) × (c ≡ a ++ e) × (b ≡ e ++ d))
two_splits [] b c d e = inr (c, refl, e)
two_splits (x ∷ a) b [] d e = inl (x ∷ a, refl, sym e)
two_splits (x ∷ a) b (y ∷ c) d e = elim (two_splits a b c d (tail_of x y (a ++ b) (c ++ d) e)) [
  | inl m ↦ inl (m.0, ap (λ l. x ∷ l) m.1 ∙ ap (λ z. z ∷ (c ++ m.0)) (head_of x y (a ++ b) (c ++ d) e), m.2)
  | inr m ↦ inr (m.0, ap (λ l. y ∷ l) m.1 ∙ ap (λ z. z ∷ (a ++ m.0)) (sym (head_of x y (a ++ b) (c ++ d) e)), m.2)
]

one_only : {A : Type 0} (s : A) (e rest : List A) → s ∷ [] ≡ e ++ rest → (e ≡ []) ⊎ (e ≡ s ∷ [])
one_only s [] rest is = inl refl
one_only s (x ∷ []) rest is = inr (ap (λ z. z ∷ []) (sym (head_of s x [] rest is)))
one_only s (x ∷ y ∷ e) rest is = absurd (let n : [] ≡ y ∷ (e ++ rest) = tail_of s x [] (y ∷ e ++ rest) is in cc n)

-- a front of a list with one more
front_of_more : {A : Type 0} (a : List A) (s : A) (front rest : List A) → a ++ s ∷ [] ≡ front ++ rest
    → ((more : List A) × (a ≡ front ++ more)) ⊎ (front ≡ a ++ s ∷ [])
front_of_more a s front rest is = elim (two_splits a (s ∷ []) front rest is) [
  | inl m ↦ inl (m.0, m.1)
  | inr m ↦ elim (one_only s m.0 rest m.2) [
    | inl none ↦ inl ([], sym (append-nil a) ∙ sym (append-nil (a ++ [])) ∙ ap (λ l. (a ++ l) ++ []) (sym none) ∙ ap (λ l. l ++ []) (sym m.1))
    | inr one ↦ inr (m.1 ∙ ap (λ l. a ++ l) one)
  ]
]

-- unsynced files

pub unsynced-append : (a b : List Event) (u : Path → Bool) → unsynced_all (a ++ b) u ≡ unsynced_all b (unsynced_all a u)
unsynced-append [] b u = refl
unsynced-append (e ∷ a) b u = unsynced-append a b (unsynced_after e u)

pub unsynced_more : (events : List Event) (e : Event) → unsynced (events ++ e ∷ []) ≡ unsynced_after e (unsynced events)
unsynced_more events e = unsynced-append events (e ∷ []) (λ q. false)

-- faults of the device write nothing
unsynced_failed : (es : List Event) (u : Path → Bool) → AllFailed es → unsynced_all es u ≡ u
unsynced_failed [] u all = refl
unsynced_failed (Did s ∷ es) u all = absurd all
unsynced_failed (Finished ran ∷ es) u all = absurd all
unsynced_failed (Cut call change ∷ es) u all = absurd all
unsynced_failed (Failed ∷ es) u all = unsynced_failed es u all
unsynced_failed (Denied path ∷ es) u all = absurd all

-- of a file that is written in part the same is said
part_unsynced : (s t : Step) (u : Path → Bool) → IsPart s t → unsynced_step t u ≡ unsynced_step s u
part_unsynced (Write p (File b m)) t u part = ap (λ x. unsynced_step x u) part.3.1
part_unsynced (Write p (Dir m)) t u part = absurd part
part_unsynced (Write p (Link l)) t u part = absurd part
part_unsynced (Move a b) t u part = absurd part
part_unsynced (Take p) t u part = absurd part
part_unsynced (MakeDir p m) t u part = ap (λ x. unsynced_step x u) part.1
part_unsynced (RemoveDir p) t u part = absurd part
part_unsynced (HardLink a b) t u part = absurd part
part_unsynced (MakeLink p l) t u part = absurd part
part_unsynced (Sync p) t u part = absurd part
part_unsynced Barrier t u part = absurd part
part_unsynced SyncAll t u part = absurd part
part_unsynced SyncRoot t u part = absurd part
part_unsynced (Lower p) t u part = absurd part

cut_unsynced : (e d : Event) (u : Path → Bool) → IsCutOf e d → unsynced_after d u ≡ unsynced_after e u
cut_unsynced (Did s) d u cut = ap (λ x. unsynced_after x u) cut.2 ∙ part_unsynced s cut.0 u cut.1
cut_unsynced (Finished ran) d u cut = ap (λ x. unsynced_after x u) cut.3
cut_unsynced (Cut call change) d u cut = ap (λ x. unsynced_after x u) cut.3
cut_unsynced Failed d u cut = absurd cut
cut_unsynced (Denied path) d u cut = absurd cut

abbrev Temporary : (Path → Bool) → Type 0
Temporary u = (q : Path) → u q ≡ true → is_temporary q ≡ true

bool_cases : (b : Bool) → (b ≡ true) ⊎ (b ≡ false)
bool_cases true = inl refl
bool_cases false = inr refl

one_marked : (u : Path → Bool) (p q : Path) (b : Bool) → marked u p b q ≡ true → ((p ≡ q) × (b ≡ true)) ⊎ (u q ≡ true)
one_marked u p q b is = at (bytes_eq p q) refl is
  where
    at : (t : Bool) → bytes_eq p q ≡ t → cond t b (u q) ≡ true → ((p ≡ q) × (b ≡ true)) ⊎ (u q ≡ true)
    at true same is = inl ((bytes_eq-Decides p q).0 same, is)
    at false other is = inr is

temporary_marked : (u : Path → Bool) (p : Path) (b : Bool) → Temporary u → (b ≡ true → is_temporary p ≡ true) → Temporary (marked u p b)
temporary_marked u p b all here q is = elim (one_marked u p q b is) [
  | inl m ↦ subst (λ x. is_temporary x ≡ true) m.0 (here m.1)
  | inr old ↦ all q old
]

no : {T : Type 0} (b : Bool) → b ≡ false → b ≡ true → T
no b e is = absurd (true≢false (sym is ∙ e))

-- one step more
temporary_step : (events : List Event) (s : Step) → KeepsSettled events s → Temporary (unsynced events) → Temporary (unsynced_step s (unsynced events))
temporary_step events (Write p n) owed all = temporary_marked (unsynced events) p true all (λ is. owed)
temporary_step events (Move a b) owed all =
    temporary_marked (marked (unsynced events) a false) b (unsynced events a) (temporary_marked (unsynced events) a false all (no false refl)) (no (unsynced events a) owed)
temporary_step events (HardLink a b) owed all = temporary_marked (unsynced events) b (unsynced events a) all (no (unsynced events a) owed)
temporary_step events (Take p) owed all = temporary_marked (unsynced events) p false all (no false refl)
temporary_step events (MakeDir p m) owed all = temporary_marked (unsynced events) p false all (no false refl)
temporary_step events (RemoveDir p) owed all = all
temporary_step events (MakeLink p t) owed all = temporary_marked (unsynced events) p false all (no false refl)
temporary_step events (Sync p) owed all = temporary_marked (unsynced events) p false all (no false refl)
temporary_step events Barrier owed all = all
temporary_step events SyncAll owed all = λ q is. no false refl is
temporary_step events SyncRoot owed all = all
temporary_step events (Lower p) owed all = all

-- what is owed before a step is enough for a part of it
pub keeps_part : (events : List Event) (s t : Step) → IsPart s t → KeepsSettled events s → KeepsSettled events t
keeps_part events (Write p (File b m)) t part owed = subst (KeepsSettled events) (sym part.3.1) owed
keeps_part events (Write p (Dir m)) t part owed = absurd part
keeps_part events (Write p (Link l)) t part owed = absurd part
keeps_part events (Move a b) t part owed = absurd part
keeps_part events (Take p) t part owed = absurd part
keeps_part events (MakeDir p m) t part owed = subst (KeepsSettled events) (sym part.1) tt
keeps_part events (RemoveDir p) t part owed = absurd part
keeps_part events (HardLink a b) t part owed = absurd part
keeps_part events (MakeLink p l) t part owed = absurd part
keeps_part events (Sync p) t part owed = absurd part
keeps_part events Barrier t part owed = absurd part
keeps_part events SyncAll t part owed = absurd part
keeps_part events SyncRoot t part owed = absurd part
keeps_part events (Lower p) t part owed = absurd part

-- the same of an event: only a step owes something
abbrev pub EventKeepsSettled : List Event → Event → Type 0
EventKeepsSettled events (Did s) = KeepsSettled events s
EventKeepsSettled events (Finished ran) = Unit {0}
EventKeepsSettled events (Cut call change) = Unit {0}
EventKeepsSettled events Failed = Unit {0}
EventKeepsSettled events (Denied path) = Unit {0}

temporary_after : (events : List Event) (e : Event) → EventKeepsSettled events e → Temporary (unsynced events) → Temporary (unsynced_after e (unsynced events))
temporary_after events (Did s) owed all = temporary_step events s owed all
temporary_after events (Finished ran) owed all = all
temporary_after events (Cut call change) owed all = all
temporary_after events Failed owed all = all
temporary_after events (Denied path) owed all = all

pub settled_none : IsSettled []
settled_none front rest is q u = absurd (none front rest is q u)
  where
    none : (front rest : List Event) → [] ≡ front ++ rest → (q : Path) → unsynced front q ≡ true → ⊥
    none [] rest is q u = false≢true u
    none (s ∷ front) rest is q u = cc is

-- what the host owes at each event
pub settled_event : (events : List Event) (e : Event) → EventKeepsSettled events e → IsSettled events → IsSettled (events ++ e ∷ [])
settled_event events e owed all front rest is q u = elim (front_of_more events e front rest is) [
  | inl m ↦ all front m.0 m.1 q u
  | inr same ↦ temporary_after events e owed (all events [] (sym (append-nil events))) q (subst (λ f. f q ≡ true) (ap unsynced same ∙ unsynced_more events e) u)
]

-- the moments of some events

-- a front of a moment is a moment
pub front_of_moment : (added moment front rest : List Event) → IsMoment added moment → moment ≡ front ++ rest → IsMoment added front
front_of_moment added moment front rest (inl later) is =
    inl (rest ++ later.0, later.1 ∙ ap (λ l. l ++ later.0) is ∙ append_assoc front rest later.0)
front_of_moment added moment front rest (inr (done, later, event, part, split, cut, here)) is = elim (front_of_more done part front rest (sym here ∙ is)) [
  | inl m ↦ inl (m.0 ++ event ∷ later, split ∙ ap (λ l. l ++ event ∷ later) m.1 ∙ append_assoc front m.0 (event ∷ later))
  | inr e ↦ inr (done, later, event, part, split, cut, e)
]

-- what is settled at the end was at each moment
settled_moment : (old added moment : List Event) → IsSettled (old ++ added) → IsMoment added moment → Temporary (unsynced (old ++ moment))
settled_moment old added moment settled (inl later) q u =
    settled (old ++ moment) later.0 (ap (λ l. old ++ l) later.1 ∙ sym (append_assoc old moment later.0)) q u
settled_moment old added moment settled (inr (done, later, event, part, split, cut, here)) q u =
    let same : unsynced (old ++ moment) ≡ unsynced (old ++ (done ++ event ∷ [])) =
    ap (λ l. unsynced (old ++ l)) here ∙ ap unsynced (sym (append_assoc old done (part ∷ []))) ∙ unsynced_more (old ++ done) part
    ∙ cut_unsynced event part (unsynced (old ++ done)) cut ∙ sym (unsynced_more (old ++ done) event) ∙ ap unsynced (append_assoc old done (event ∷ [])) in
    settled (old ++ (done ++ event ∷ [])) later
    (ap (λ l. old ++ l) (split ∙ sym (append_assoc done (event ∷ []) later)) ∙ sym (append_assoc old (done ++ event ∷ []) later)) q (subst (λ f. f q ≡ true) same u)

-- P holds at each moment
throughout_front : (P : List Event → World → Type 0) (a b : List Event) (w : World) → Throughout P w (a ++ b) → P a (follow_all a w)
throughout_front P [] [] w each = each
throughout_front P [] (e ∷ b) w each = each.0
throughout_front P (e ∷ a) b w each = throughout_front (λ so_far. P (e ∷ so_far)) a b (follow e w) each.2

throughout_part : (P : List Event → World → Type 0) (a : List Event) (e d : Event) (b : List Event) (w : World) → Throughout P w (a ++ e ∷ b) → IsCutOf e d → P (a ++ d ∷ []) (follow d (follow_all a w))
throughout_part P [] e d b w each cut = each.1 d cut
throughout_part P (x ∷ a) e d b w each cut = throughout_part (λ so_far. P (x ∷ so_far)) a e d b (follow x w) each.2 cut

throughout_moment : (P : List Event → World → Type 0) (w : World) (added moment : List Event) → Throughout P w added → IsMoment added moment → P moment (follow_all moment w)
throughout_moment P w added moment each (inl later) = throughout_front P moment later.0 w (subst (Throughout P w) later.1 each)
throughout_moment P w added moment each (inr (done, later, event, part, split, cut, here)) =
    subst (λ l. P l (follow_all l w)) (sym here)
    (subst (P (done ++ part ∷ [])) (sym (follow_all-append done (part ∷ []) w)) (throughout_part P done event part later w (subst (Throughout P w) split each) cut))

-- the events between two states are one list
same_added : (old new : State) (a b : List Event) → new.events ≡ old.events ++ a → new.events ≡ old.events ++ b → a ≡ b
same_added old new a b first second = cancel old.events a b (sym first ∙ second)

-- what scripts wrote

Avoids-back : (kept : Path → Bool) (a b : Change) → Avoids kept (a ++ b) → Avoids kept b
Avoids-back kept [] b all = all
Avoids-back kept (e ∷ a) b all = Avoids-back kept a b all.1

avoided : (kept : Path → Bool) (c : Change) (q : Path) → Avoids kept c → kept q ≡ true → writes c q ≡ false
avoided kept [] q all is = refl
avoided kept (e ∷ c) q all is = ap (λ b. b || writes c q) (other (bytes_eq e.0 q) refl) ∙ avoided kept c q all.1 is
  where
    other : (t : Bool) → bytes_eq e.0 q ≡ t → bytes_eq e.0 q ≡ false
    other true same = absurd (true≢false (sym is ∙ ap kept (sym ((bytes_eq-Decides e.0 q).0 same)) ∙ all.0))
    other false same = same

-- what one event wrote that is a script's
abbrev change_in : Event → Change
change_in e = changes_of (e ∷ [])

one_change : (e : Event) (es : List Event) → changes_of (e ∷ es) ≡ change_in e ++ changes_of es
one_change e es = changes_of-append (e ∷ []) es

-- what a part of an event wrote, the event wrote
part_wrote : (kept : Path → Bool) (e d : Event) → IsCutOf e d → Avoids kept (change_in e) → Avoids kept (change_in d)
part_wrote kept (Did s) d cut all = subst (λ x. Avoids kept (change_in x)) (sym cut.2) tt
part_wrote kept (Finished ran) d cut all =
    subst (λ x. Avoids kept (change_in x)) (sym cut.3) (subst (Avoids kept) (sym (append-nil cut.0)) (Avoids-front kept cut.0 cut.1 (subst (Avoids kept) (append-nil ran.change ∙ cut.2) all)))
part_wrote kept (Cut call change) d cut all =
    subst (λ x. Avoids kept (change_in x)) (sym cut.3) (subst (Avoids kept) (sym (append-nil cut.0)) (Avoids-front kept cut.0 cut.1 (subst (Avoids kept) (append-nil change ∙ cut.2) all)))
part_wrote kept Failed d cut all = absurd cut
part_wrote kept (Denied path) d cut all = absurd cut

avoids_append : (kept : Path → Bool) (a b : List Event) → Avoids kept (changes_of a) → Avoids kept (changes_of b) → Avoids kept (changes_of (a ++ b))
avoids_append kept a b first second = subst (Avoids kept) (sym (changes_of-append a b)) (Avoids-append kept (changes_of a) (changes_of b) first second)

avoids_back : (kept : Path → Bool) (a b : List Event) → Avoids kept (changes_of (a ++ b)) → Avoids kept (changes_of b)
avoids_back kept a b all = Avoids-back kept (changes_of a) (changes_of b) (subst (Avoids kept) (changes_of-append a b) all)

avoids_front : (kept : Path → Bool) (a b : List Event) → Avoids kept (changes_of (a ++ b)) → Avoids kept (changes_of a)
avoids_front kept a b all = Avoids-front kept (changes_of a) (changes_of b) (subst (Avoids kept) (changes_of-append a b) all)

pub avoids_moment : (kept : Path → Bool) (added moment : List Event) → IsMoment added moment → Avoids kept (changes_of added) → Avoids kept (changes_of moment)
avoids_moment kept added moment (inl later) all = avoids_front kept moment later.0 (subst (λ l. Avoids kept (changes_of l)) later.1 all)
avoids_moment kept added moment (inr (done, later, event, part, split, cut, here)) all =
    let whole : Avoids kept (changes_of (done ++ event ∷ later)) = subst (λ l. Avoids kept (changes_of l)) split all in
    let at : Avoids kept (change_in event) = avoids_front kept (event ∷ []) later (avoids_back kept done (event ∷ later) whole) in
    subst (λ l. Avoids kept (changes_of l)) (sym here)
    (avoids_append kept done (part ∷ []) (avoids_front kept done (event ∷ later) whole) (part_wrote kept event part cut at))

-- like itself

pub blurred_same : (node left : Option Node) → left ≡ node → IsBlurred node left
blurred_same None left is = is
blurred_same (Some (File b m)) left is = (b, is)
blurred_same (Some (Dir m)) left is = is
blurred_same (Some (Link t)) left is = is

-- THE LAW: a loss leaves, on kept paths, what a stop at some step could have left, apart from the bytes at temporary names
pub loss_is_like_a_stop : (kept : Path → Bool) (begun old new : State) (left : World) → IsSettled new.events → ScriptsAvoid kept begun new → LosesSince begun old new left → IsLikeAStop kept old new left
loss_is_like_a_stop kept begun old new left settled scripts loses =
    let loss = loses.loss in
    let stop = loss.durable ++ loss.front in
    let split : loses.moment ≡ stop ++ loss.rest = loss.split ∙ sym (append_assoc loss.durable loss.front loss.rest) in
    let is : IsMoment loses.added stop = front_of_moment loses.added loses.moment stop loss.rest loses.is split in
    let whole : new.events ≡ begun.events ++ (loses.earlier ++ loses.added) =
    loses.events ∙ ap (λ l. l ++ loses.added) loses.session ∙ append_assoc begun.events loses.earlier loses.added in
    let wrote : changes_of (loses.earlier ++ loses.added) ≡ scripts.wrote =
    cancel (changes_of begun.events) (changes_of (loses.earlier ++ loses.added)) scripts.wrote
    (sym (changes_of-append begun.events (loses.earlier ++ loses.added)) ∙ ap changes_of (sym whole) ∙ scripts.changes) in
    let all : Avoids kept (changes_of (loses.earlier ++ loses.added)) = subst (Avoids kept) (sym wrote) scripts.avoids in
    let added : Avoids kept (changes_of loses.added) = avoids_back kept loses.earlier loses.added all in
    let until : Avoids kept (changes_of (loses.earlier ++ loses.moment)) =
    avoids_append kept loses.earlier loses.moment (avoids_front kept loses.earlier loses.added all) (avoids_moment kept loses.added loses.moment loses.is added) in
    let free : (q : Path) → kept q ≡ true → writes (changes_of (loses.earlier ++ loses.moment)) q ≡ false =
    λ q here. avoided kept (changes_of (loses.earlier ++ loses.moment)) q until here in
    let temporary : Temporary (unsynced (old.events ++ stop)) = settled_moment old.events loses.added stop (subst IsSettled loses.events settled) is in
    record {
      added = loses.added;
      events = loses.events;
      stop = stop;
      is = is;
      avoids = avoids_moment kept loses.added stop is added;
      like = record {
        whole = λ q here proper. elim (bool_cases (unsynced (old.events ++ stop) q)) [
          | inl u ↦ absurd (true≢false (sym (temporary q u) ∙ proper))
          | inr s ↦ loss.whole q (free q here) s
        ];
        bytes = λ q here t. elim (bool_cases (unsynced (old.events ++ stop) q)) [
          | inl u ↦ loss.bytes q (free q here) u
          | inr s ↦ blurred_same (follow_all stop old.world q) (left q) (loss.whole q (free q here) s)
        ];
      };
    }

-- what holds at each moment holds at this one
pub since_stop : (P : List Event → World → Type 0) (old new : State) (added stop : List Event) → IsTrue new.honest → Since P old new → new.events ≡ old.events ++ added → IsMoment added stop → P stop (follow_all stop old.world)
since_stop P old new added stop h since events is =
    throughout_moment P old.world added stop (subst (Throughout P old.world) (same_added old new since.added added since.events events) (since.each h)) is

-- THE LEMMA: what holds at each moment, and looks at no bytes of temporary names, holds after a loss of power too
pub since_loss : (kept : Path → Bool) (P : List Event → World → Type 0) (begun old new : State) (left : World) → IsTrue new.honest → ((so_far : List Event) → IsBlind kept (P so_far))
    → IsSettled new.events → ScriptsAvoid kept begun new → Since P old new → LosesSince begun old new left → (stop : List Event) × P stop left
since_loss kept P begun old new left h blind settled scripts since loses =
    let like = loss_is_like_a_stop kept begun old new left settled scripts loses in
    (like.stop, blind like.stop (follow_all like.stop old.world) left like.like (since_stop P old new like.added like.stop h since like.events like.is))

-- P needs not be blind: what is left is like a world in which it holds
pub since_loss_one : (kept : Path → Bool) (P : List Event → World → Type 0) (begun old new : State) (left : World) → IsTrue new.honest
    → IsSettled new.events → ScriptsAvoid kept begun new → Since P old new → LosesSince begun old new left → IsLikeOne kept P left
since_loss_one kept P begun old new left h settled scripts since loses =
    let like = loss_is_like_a_stop kept begun old new left settled scripts loses in
    (like.stop, follow_all like.stop old.world, since_stop P old new like.added like.stop h since like.events like.is, like.avoids, like.like)

-- after a barrier

AllFailed-back : (a b : List Event) → AllFailed (a ++ b) → AllFailed b
AllFailed-back [] b all = all
AllFailed-back (Did s ∷ a) b all = absurd all
AllFailed-back (Finished ran ∷ a) b all = absurd all
AllFailed-back (Cut call change ∷ a) b all = absurd all
AllFailed-back (Failed ∷ a) b all = AllFailed-back a b all
AllFailed-back (Denied path ∷ a) b all = absurd all

HasNoBarrier-back : (a b : List Event) → HasNoBarrier (a ++ b) → HasNoBarrier b
HasNoBarrier-back [] b none = none
HasNoBarrier-back (e ∷ a) b none = HasNoBarrier-back a b none.1

barrier_late : (most fs rest : List Event) → HasNoBarrier ((most ++ Did Barrier ∷ fs) ++ rest) → ⊥
barrier_late [] fs rest none = true≢false none.0
barrier_late (e ∷ most) fs rest none = barrier_late most fs rest none.1

-- behind what is on the disk, and before a later barrier, there are faults alone
abbrev IsAllOnDisk : List Event → Type 0
IsAllOnDisk first = AllFailed first ⊎ IsOnDisk first

behind_barrier : (m e fs : List Event) (rest : List Event) → AllFailed fs → Did Barrier ∷ fs ≡ m ++ e → HasNoBarrier (e ++ rest) → AllFailed e
behind_barrier [] e fs rest all is none = absurd (barrier_late [] fs rest (subst (λ l. HasNoBarrier (l ++ rest)) (sym is) none))
behind_barrier (x ∷ m) e fs rest all is none = AllFailed-back m e (subst AllFailed (tail_of (Did Barrier) x fs (m ++ e) is) all)

faults_alone : (a e rest : List Event) → IsAllOnDisk (a ++ e) → HasNoBarrier (e ++ rest) → AllFailed e
faults_alone a e rest (inl all) none = AllFailed-back a e all
faults_alone a e rest (inr (most, fs, is, all)) none = elim (two_splits a e most (Did Barrier ∷ fs) is) [
  | inl m ↦ behind_barrier m.0 e fs rest all m.2 none
  | inr m ↦ absurd (barrier_late m.0 fs rest (subst (λ l. HasNoBarrier (l ++ rest)) m.2 none))
]

-- a loss seen from another state
loss_as : (wrote : Change) (old mid : State) (moment : List Event) (left : World) (loss : IsLoss wrote old moment left) (later durable front rest : List Event) → later ≡ durable ++ (front ++ rest) → HasNoBarrier (front ++ rest)
    → unsynced (old.events ++ (loss.durable ++ loss.front)) ≡ unsynced (mid.events ++ (durable ++ front))
    → follow_all (loss.durable ++ loss.front) old.world ≡ follow_all (durable ++ front) mid.world
    → IsLoss wrote mid later left
loss_as wrote old mid moment left loss later durable front rest split late here there = record {
  durable = durable;
  front = front;
  rest = rest;
  split = split;
  late = late;
  whole = λ q free s. loss.whole q free (ap (λ f. f q) here ∙ s) ∙ ap (λ w. w q) there;
  bytes = λ q free s. subst (λ w. IsBlurred (w q) (left q)) there (loss.bytes q free (ap (λ f. f q) here ∙ s));
}

-- a loss behind a barrier is one since the barrier
loss_behind : (wrote : Change) (old mid : State) (first later : List Event) (left : World) → IsAllOnDisk first → mid.events ≡ old.events ++ first → mid.world ≡ follow_all first old.world
    → IsLoss wrote old (first ++ later) left → IsLoss wrote mid later left
loss_behind wrote old mid first later left disk events world loss = elim (two_splits loss.durable (loss.front ++ loss.rest) first later (sym loss.split)) [
  | inl m ↦ loss_as wrote old mid (first ++ later) left loss later m.0 loss.front loss.rest m.2 loss.late
      (ap unsynced (moved_on m.0 loss.front m.1))
      (ap (λ l. follow_all (l ++ loss.front) old.world) m.1 ∙ ap (λ l. follow_all l old.world) (append_assoc first m.0 loss.front) ∙ follow_all-append first (m.0 ++ loss.front) old.world ∙ ap (follow_all (m.0 ++ loss.front)) (sym world))
  | inr m ↦ cut_before m.0 m.1 m.2
]
  where
    moved_on : (e front : List Event) → loss.durable ≡ first ++ e → old.events ++ (loss.durable ++ front) ≡ mid.events ++ (e ++ front)
    moved_on e front is =
        ap (λ l. old.events ++ (l ++ front)) is ∙ ap (λ l. old.events ++ l) (append_assoc first e front) ∙ sym (append_assoc old.events first (e ++ front)) ∙ ap (λ l. l ++ (e ++ front)) (sym events)

    cut_before : (e : List Event) → first ≡ loss.durable ++ e → loss.front ++ loss.rest ≡ e ++ later → IsLoss wrote mid later left
    cut_before e is both =
        let none : HasNoBarrier (e ++ later) = subst HasNoBarrier both loss.late in
        let failed : AllFailed e = faults_alone loss.durable e later (subst IsAllOnDisk is disk) none in
        let late : HasNoBarrier later = HasNoBarrier-back e later none in
        elim (two_splits loss.front loss.rest e later both) [
          | inl n ↦
              let list : loss.durable ++ loss.front ≡ first ++ n.0 = ap (λ l. loss.durable ++ l) n.1 ∙ sym (append_assoc loss.durable e n.0) ∙ ap (λ l. l ++ n.0) (sym is) in
              loss_as wrote old mid (first ++ later) left loss later [] n.0 loss.rest n.2 (subst HasNoBarrier n.2 late)
              (ap (λ l. unsynced (old.events ++ l)) list ∙ ap unsynced (sym (append_assoc old.events first n.0) ∙ ap (λ l. l ++ n.0) (sym events)))
              (ap (λ l. follow_all l old.world) list ∙ follow_all-append first n.0 old.world ∙ ap (follow_all n.0) (sym world))
          | inr n ↦
              let rest : AllFailed n.0 = AllFailed-back loss.front n.0 (subst AllFailed n.1 failed) in
              let list : first ≡ (loss.durable ++ loss.front) ++ n.0 = is ∙ ap (λ l. loss.durable ++ l) n.1 ∙ sym (append_assoc loss.durable loss.front n.0) in
              let upto : mid.events ≡ (old.events ++ (loss.durable ++ loss.front)) ++ n.0 = events ∙ ap (λ l. old.events ++ l) list ∙ sym (append_assoc old.events (loss.durable ++ loss.front) n.0) in
              loss_as wrote old mid (first ++ later) left loss later [] [] later refl late
              (sym (unsynced_failed n.0 (unsynced (old.events ++ (loss.durable ++ loss.front))) rest) ∙ sym (unsynced-append (old.events ++ (loss.durable ++ loss.front)) n.0 (λ q. false)) ∙ ap unsynced (sym upto) ∙ ap unsynced (sym (append-nil mid.events)))
              (sym (unmoved n.0 (follow_all (loss.durable ++ loss.front) old.world) rest) ∙ sym (follow_all-append (loss.durable ++ loss.front) n.0 old.world) ∙ ap (λ l. follow_all l old.world) (sym list) ∙ sym world)
        ]

front_on_disk : (before first : List Event) → IsOnDisk (before ++ first) → IsAllOnDisk first
front_on_disk before first (most, fs, is, all) = elim (two_splits before first most (Did Barrier ∷ fs) is) [
  | inl m ↦ within m.0 m.2
  | inr m ↦ inr (m.0, fs, m.2, all)
]
  where
    within : (m : List Event) → Did Barrier ∷ fs ≡ m ++ first → IsAllOnDisk first
    within [] same = inr ([], fs, sym same, all)
    within (x ∷ m) same = inl (AllFailed-back m first (subst AllFailed (tail_of (Did Barrier) x fs (m ++ first) same) all))

-- the session goes on
session_on : (begun old mid : State) (earlier first : List Event) → old.events ≡ begun.events ++ earlier → mid.events ≡ old.events ++ first → mid.events ≡ begun.events ++ (earlier ++ first)
session_on begun old mid earlier first session events = events ∙ ap (λ l. l ++ first) session ∙ append_assoc begun.events earlier first

-- what stood at a barrier stays: a loss behind it is one since it
pub loses_behind_barrier : (begun old mid new : State) (left : World) → IsOnDisk mid.events → LosesBehind begun old mid new left → LosesSince begun mid new left
loses_behind_barrier begun old mid new left disk loses = record {
  earlier = loses.earlier ++ loses.first;
  session = session_on begun old mid loses.earlier loses.first loses.session loses.events;
  added = loses.later;
  events = loses.more;
  moment = loses.moment;
  is = loses.is;
  loss = subst (λ l. IsLoss (changes_of l) mid loses.moment left) (sym (append_assoc loses.earlier loses.first loses.moment))
      (loss_behind _ old mid loses.first loses.moment left (front_on_disk old.events loses.first (subst IsOnDisk loses.events disk)) loses.events loses.world loses.loss);
}

-- a moment of two parts is one of the first, or behind it one of the second
moment_split : (a b moment : List Event) → IsMoment (a ++ b) moment → IsMoment a moment ⊎ ((more : List Event) × (moment ≡ a ++ more) × IsMoment b more)
moment_split a b moment (inl (later, split)) = elim (two_splits a b moment later split) [
  | inl m ↦ inl (inl (m.0, m.1))
  | inr m ↦ inr (m.0, m.1, inl (later, m.2))
]
moment_split a b moment (inr (done, later, event, part, split, cut, here)) = elim (two_splits a b done (event ∷ later) split) [
  | inl m ↦ within m.0 m.1 m.2
  | inr m ↦ inr (m.0 ++ part ∷ [], here ∙ ap (λ l. l ++ part ∷ []) m.1 ∙ append_assoc a m.0 (part ∷ []), inr (m.0, later, event, part, m.2, cut, refl))
]
  where
    within : (e : List Event) → a ≡ done ++ e → event ∷ later ≡ e ++ b → IsMoment a moment ⊎ ((more : List Event) × (moment ≡ a ++ more) × IsMoment b more)
    within [] is rest = inr (part ∷ [], here ∙ ap (λ l. l ++ part ∷ []) (sym (append-nil done) ∙ sym is), inr ([], later, event, part, sym rest, cut, refl))
    within (x ∷ e) is rest = inl (inr (done, e, event, part, is ∙ ap (λ z. done ++ z ∷ e) (sym (head_of event x later (e ++ b) rest)), cut, here))

-- THE LAW FOR RUNS: a loss from old to new is one before a command in between has answered, or one since
pub loses_in_part : (begun old mid new : State) (left : World) → IsLater old mid → IsLater mid new → IsAnswered old mid → LosesSince begun old new left → LosesSince begun old mid left ⊎ LosesSince begun mid new left
loses_in_part begun old mid new left first second answered loses =
    let both : new.events ≡ old.events ++ (first.added ++ second.added) =
    second.events ∙ ap (λ (l : List Event). l ++ second.added) first.events ∙ append_assoc old.events first.added second.added in
    let is : IsMoment (first.added ++ second.added) loses.moment =
    subst (λ l. IsMoment l loses.moment) (same_added old new loses.added (first.added ++ second.added) loses.events both) loses.is in
    elim (moment_split first.added second.added loses.moment is) [
      | inl before ↦ inl record { earlier = loses.earlier; session = loses.session; added = first.added; events = first.events; moment = loses.moment; is = before; loss = loses.loss }
      | inr behind ↦ inr record {
        earlier = loses.earlier ++ first.added;
        session = session_on begun old mid loses.earlier first.added loses.session first.events;
        added = second.added;
        events = second.events;
        moment = behind.0;
        is = behind.2;
        loss = subst (λ l. IsLoss (changes_of l) mid behind.0 left) (sym (append_assoc loses.earlier first.added behind.0))
            (loss_behind _ old mid first.added behind.0 left done first.events first.world (subst (λ l. IsLoss (changes_of (loses.earlier ++ l)) old l left) behind.1 loses.loss));
      }
    ]
  where
    done : IsAllOnDisk first.added
    done = elim answered [
      | inl disk ↦ front_on_disk old.events first.added (subst IsOnDisk first.events disk)
      | inr reads ↦ inl (subst AllFailed (same_added old mid reads.added first.added reads.events first.events) reads.failed)
    ]

pub settled_front : (a b : List Event) → IsSettled (a ++ b) → IsSettled a
settled_front a b all front rest is = all front (rest ++ b) (ap (λ l. l ++ b) is ∙ append_assoc front rest b)

pub settled_before : (old new : State) → IsLater old new → IsSettled new.events → IsSettled old.events
settled_before old new later all = settled_front old.events later.added (subst IsSettled later.events all)

-- which scripts' work is to be thought of

-- the changes of those that were begun are all changes
changes_of-scripts : (es : List Event) → changes_of (scripts_of es) ≡ changes_of es
changes_of-scripts [] = refl
changes_of-scripts (Did s ∷ es) = changes_of-scripts es
changes_of-scripts (Finished ran ∷ es) = ap (λ (c : Change). ran.change ++ c) (changes_of-scripts es)
changes_of-scripts (Cut call change ∷ es) = ap (λ (c : Change). change ++ c) (changes_of-scripts es)
changes_of-scripts (Failed ∷ es) = changes_of-scripts es
changes_of-scripts (Denied path ∷ es) = changes_of-scripts es

-- what scripts wrote isn't among what they didn't write
pub avoid_unwritten : (kept : Path → Bool) (c : Change) → Avoids (unwritten kept c) c
avoid_unwritten kept c = among c (λ p is. is)
  where
    not_both : (a b : Bool) → b ≡ true → a && not b ≡ false
    not_both true true is = refl
    not_both true false is = absurd (false≢true is)
    not_both false b is = refl

    itself : (p : Path) (n : Option Node) (d : Change) → writes ((p, n) ∷ d) p ≡ true
    itself p n d = ap (λ b. b || writes d p) ((bytes_eq-Decides p p).1 refl)

    behind : (e : Path × Option Node) (d : Change) (p : Path) → writes d p ≡ true → writes (e ∷ d) p ≡ true
    behind e d p is = either (bytes_eq e.0 p) (writes d p) is
      where
        either : (a b : Bool) → b ≡ true → a || b ≡ true
        either true b is = refl
        either false b is = is

    among : (d : Change) → ((p : Path) → writes d p ≡ true → writes c p ≡ true) → Avoids (unwritten kept c) d
    among [] all = tt
    among (e ∷ d) all = (not_both (kept e.0) (writes c e.0) (all e.0 (itself e.0 e.1 d)), among d (λ p is. all p (behind e d p is)))

-- so of any session: its scripts avoid the kept paths that they didn't write
pub avoid_session : (kept : Path → Bool) (begun new : State) (added : List Event) → new.events ≡ begun.events ++ added → ScriptsAvoid (unwritten kept (changes_of added)) begun new
avoid_session kept begun new added events = record {
  wrote = changes_of added;
  changes = ap changes_of events ∙ changes_of-append begun.events added;
  avoids = avoid_unwritten kept (changes_of added);
}

pub avoid_silent : (kept : Path → Bool) (a b : State) → Silent a b → ScriptsAvoid kept a b
avoid_silent kept a b silent = record {
  wrote = [];
  changes = sym (changes_of-scripts b.events) ∙ ap changes_of silent.scripts ∙ changes_of-scripts a.events ∙ sym (append-nil (changes_of a.events));
  avoids = tt;
}

pub avoid_then : (kept : Path → Bool) (a b c : State) → ScriptsAvoid kept a b → ScriptsAvoid kept b c → ScriptsAvoid kept a c
avoid_then kept a b c first second = record {
  wrote = first.wrote ++ second.wrote;
  changes = second.changes ∙ ap (λ (l : Change). l ++ second.wrote) first.changes ∙ append_assoc (changes_of a.events) first.wrote second.wrote;
  avoids = Avoids-append kept first.wrote second.wrote first.avoids second.avoids;
}

-- of what happened no script wrote a kept path
pub avoid_added : (kept : Path → Bool) (added : List Event) (a b : State) → b.events ≡ a.events ++ added → Avoids kept (changes_of added) → ScriptsAvoid kept a b
avoid_added kept added a b events avoids = record { wrote = changes_of added; changes = ap changes_of events ∙ changes_of-append a.events added; avoids = avoids }

pub avoid_runs : (kept : Path → Bool) (call : Call) (a b : State) (result : Result Outcome HostFault) → IsTrue b.honest → Runs kept call a b result → ScriptsAvoid kept a b
avoid_runs kept call a b (Ok x) h runs = avoid_added kept _ a b runs.2.events (subst (Avoids kept) (sym (append-nil runs.0)) (runs.1 h))
avoid_runs kept call a b (Err Device) h (inl goes) = avoid_added kept (Failed ∷ []) a b goes.events tt
avoid_runs kept call a b (Err Device) h (inr more) = avoid_added kept _ a b more.2.events (subst (Avoids kept) (sym (append-nil more.0)) (more.1 h))
avoid_runs kept call a b (Err Declined) h never = absurd never
avoid_runs kept call a b (Err NoMemory) h same = avoid_added kept [] a b (same.events ∙ sym (append-nil a.events)) tt

pub avoid_calls : (kept : Path → Bool) (ts : List Ran) (a b : State) → IsTrue b.honest → Calls kept ts a b → ScriptsAvoid kept a b
avoid_calls kept ts a b h made = avoid_added kept (finished ts) a b made.goes.events (made.avoids h)

-- scripts and nothing else
pub avoid_only : (kept : Path → Bool) (w : World) (a b : State) → IsTrue b.honest → Since (OnlyScripts kept w) a b → ScriptsAvoid kept a b
avoid_only kept w a b h since = avoid_added kept since.added a b since.events (since_now _ a b since h).avoids

-- how P is shown to be blind

-- it looks at an area alone, in which all is kept and nothing is a temporary name
pub blind_on : (kept area : Path → Bool) (P : World → Type 0) → ((q : Path) → area q ≡ true → (kept q ≡ true) × (is_temporary q ≡ false))
    → ((w v : World) → SameOn area w v → P w → P v) → IsBlind kept P
blind_on kept area P within looks w v like holds = looks w v (λ q is. like.whole q (within q is).0 (within q is).1) holds

pub blind_both : (kept : Path → Bool) (P Q : World → Type 0) → IsBlind kept P → IsBlind kept Q → IsBlind kept (λ w. P w × Q w)
blind_both kept P Q first second w v like both = (first w v like both.0, second w v like both.1)

pub blind_either : (kept : Path → Bool) (P Q : World → Type 0) → IsBlind kept P → IsBlind kept Q → IsBlind kept (λ w. P w ⊎ Q w)
blind_either kept P Q first second w v like (inl p) = inl (first w v like p)
blind_either kept P Q first second w v like (inr q) = inr (second w v like q)

-- what stands at one path
pub blind_at : (kept : Path → Bool) (p : Path) (n : Option Node) → kept p ≡ true → is_temporary p ≡ false → IsBlind kept (λ w. w p ≡ n)
blind_at kept p n here proper w v like is = like.whole p here proper ∙ is

-- being like a world is itself blind
blurred_then : (n m o : Option Node) → IsBlurred n m → IsBlurred m o → IsBlurred n o
blurred_then None m o first second = subst (λ x. IsBlurred x o) first second
blurred_then (Some (File b m)) l o first second = subst (λ x. IsBlurred x o) first.1 second
blurred_then (Some (Dir m)) l o first second = subst (λ x. IsBlurred x o) first second
blurred_then (Some (Link t)) l o first second = subst (λ x. IsBlurred x o) first second

pub like_then : (kept : Path → Bool) (u w v : World) → IsLike kept u w → IsLike kept w v → IsLike kept u v
like_then kept u w v first second = record {
  whole = λ q here proper. second.whole q here proper ∙ first.whole q here proper;
  bytes = λ q here t. blurred_then (u q) (w q) (v q) (first.bytes q here t) (second.bytes q here t);
}

pub like_same : (kept : Path → Bool) (w : World) → IsLike kept w w
like_same kept w = record { whole = λ q here proper. refl; bytes = λ q here t. blurred_same (w q) (w q) refl }

pub blind_like : (kept some : Path → Bool) (u : World) → ((q : Path) → some q ≡ true → kept q ≡ true) → IsBlind kept (IsLike some u)
blind_like kept some u within w v like is = like_then some u w v is record { whole = λ q here proper. like.whole q (within q here) proper; bytes = λ q here t. like.bytes q (within q here) t }

-- a frame becomes a likeness
pub like_keeps : (kept area : Path → Bool) (u w v : World) → KeepsBut area u w → IsLike kept w v → IsLike (λ q. kept q && not (area q)) u v
like_keeps kept area u w v keeps like = record {
  whole = λ q here proper. like.whole q (left_of (kept q) (area q) here) proper ∙ keeps q (right_of (kept q) (area q) here);
  bytes = λ q here t. subst (λ n. IsBlurred n (v q)) (keeps q (right_of (kept q) (area q) here)) (like.bytes q (left_of (kept q) (area q) here) t);
}
  where
    left_of : (a b : Bool) → a && not b ≡ true → a ≡ true
    left_of true b is = refl
    left_of false b is = absurd (false≢true is)

    right_of : (a b : Bool) → a && not b ≡ true → b ≡ false
    right_of true true is = absurd (false≢true is)
    right_of true false is = refl
    right_of false b is = absurd (false≢true is)

-- the frames of parts with script calls, where the scripts kept what they are to keep

both_of : (a b : Bool) → a && b ≡ true → (a ≡ true) × (b ≡ true)
both_of true true is = (refl, refl)
both_of true false is = absurd (false≢true is)
both_of false b is = absurd (false≢true is)

not_of : (b : Bool) → not b ≡ true → b ≡ false
not_of true is = absurd (false≢true is)
not_of false is = refl

pub like_outside : (kept area : Path → Bool) (so_far : List Event) (u w v : World) → Avoids kept (changes_of so_far) → ScriptsBut area u so_far w → IsLike kept w v → IsLike (λ q. kept q && not (area q)) u v
like_outside kept area so_far u w v avoids outside like = record {
  whole = λ q here proper. like.whole q (both_of (kept q) (not (area q)) here).0 proper ∙ same q here;
  bytes = λ q here t. subst (λ n. IsBlurred n (v q)) (same q here) (like.bytes q (both_of (kept q) (not (area q)) here).0 t);
}
  where
    same : (q : Path) → kept q && not (area q) ≡ true → w q ≡ u q
    same q here = outside q (not_of (area q) (both_of (kept q) (not (area q)) here).1) ∙ changed_kept kept (changes_of so_far) u avoids q (both_of (kept q) (not (area q)) here).0

pub like_only : (kept : Path → Bool) (so_far : List Event) (u w v : World) → OnlyScripts kept u so_far w → IsLike kept w v → IsLike kept u v
like_only kept so_far u w v only like = record {
  whole = λ q here proper. like.whole q here proper ∙ same q here;
  bytes = λ q here t. subst (λ n. IsBlurred n (v q)) (same q here) (like.bytes q here t);
}
  where
    same : (q : Path) → kept q ≡ true → w q ≡ u q
    same q here = ap (λ x. x q) only.world ∙ changed_kept kept (changes_of so_far) u only.avoids q here

-- names

pub temporary_suffix : (p : Path) → is_temporary (p ++ codes ".dpkg-inst") ≡ true
temporary_suffix p =
    let s = codes ".dpkg-inst" in
    let n : length (p ++ s) - length s ≡ length p = omega (arith, length-append p s) in
    ap (λ k. bytes_eq s (drop k (p ++ s))) n ∙ (bytes_eq-Decides s (drop (length p) (p ++ s))).1 (sym (drop-append_seam p s))

-- what a host's own proof needs

pub settled_by : (old new : List Event) (s : Step) → KeepsSettled old s → IsSettled old → new ≡ old ++ Did s ∷ [] → IsSettled new
settled_by old new s owed settled is = subst IsSettled (sym is) (settled_event old (Did s) owed settled)

-- an event that is no step
pub settled_still : (old new : List Event) (e : Event) → EventKeepsSettled old e → IsSettled old → new ≡ old ++ e ∷ [] → IsSettled new
settled_still old new e owed settled is = subst IsSettled (sym is) (settled_event old e owed settled)

-- once all files are on the disk, each is
pub all_synced_by : (old new : List Event) → new ≡ old ++ Did SyncAll ∷ [] → (p : Path) → unsynced new p ≡ false
all_synced_by old new is p = ap (λ l. unsynced l p) is ∙ ap (λ f. f p) (unsynced_more old (Did SyncAll))

pub synced_by : (old new : List Event) (p : Path) → new ≡ old ++ Did (Sync p) ∷ [] → unsynced new p ≡ false
synced_by old new p is = ap (λ l. unsynced l p) is ∙ ap (λ f. f p) (unsynced_more old (Did (Sync p))) ∙ ap (λ b. cond b false (unsynced old p)) ((bytes_eq-Decides p p).1 refl)

pub made_link_synced : (old new : List Event) (p : Path) (target : List ℕ) → new ≡ old ++ Did (MakeLink p target) ∷ [] → unsynced new p ≡ false
made_link_synced old new p target is = ap (λ l. unsynced l p) is ∙ ap (λ f. f p) (unsynced_more old (Did (MakeLink p target))) ∙ ap (λ b. cond b false (unsynced old p)) ((bytes_eq-Decides p p).1 refl)

-- a step elsewhere leaves an unsynced file as it is, and a synced one

pub still_synced : (old new : List Event) (s : Event) (p : Path) → new ≡ old ++ s ∷ [] → unsynced_after s (unsynced old) p ≡ unsynced old p → unsynced old p ≡ false → unsynced new p ≡ false
still_synced old new s p is same synced = ap (λ l. unsynced l p) is ∙ ap (λ f. f p) (unsynced_more old s) ∙ same ∙ synced

pub marked_other : (u : Path → Bool) (p q : Path) (b : Bool) → p ≢ q → marked u p b q ≡ u q
marked_other u p q b ne = at (bytes_eq p q) refl
  where
    at : (t : Bool) → bytes_eq p q ≡ t → cond t b (u q) ≡ u q
    at true same = absurd (ne ((bytes_eq-Decides p q).0 same))
    at false other = refl

-- at no other name than a temporary one stands an unsynced file
pub proper_synced : (events : List Event) (p : Path) → IsSettled events → is_temporary p ≡ false → unsynced events p ≡ false
proper_synced events p settled proper = elim (bool_cases (unsynced events p)) [
  | inl u ↦ absurd (true≢false (sym (settled events [] (sym (append-nil events)) p u) ∙ proper))
  | inr s ↦ s
]
