-- Where the names of an area change apart from all others: how such work goes on, and what a loss leaves of it.
use Rattle.std.specs.Prelude.{◌≡◌, ◌⊎◌, ℕ, Bool, true, false, List, [], ◌∷◌, ◌++◌, Option, Some, None, Result, Ok, IsTrue}
use Rattle.std.proofs.Common.{refl, sym, ◌∙◌, ap, subst, inl, inr, append_assoc, append-nil}
use Rattle.std.proofs.lemmas.Bool.{true≢false}
use Rattle.host_core.specs.Paths.{Path}
use Rattle.host_core.specs.World.{World, Avoids, Barrier, Change, KeepsBut, SameOn}
use Rattle.host_core.specs.Events.{Event, Did, follow_all, changes_of}
use Rattle.host_core.specs.Unsynced.{is_temporary, IsSettled}
use Rattle.host_core.specs.Host.{State, AtEachMoment, AtEachMomentOf, Does, Happens}
use Rattle.host_core.specs.Loss.{HasNoBarrier, IsBlurred, IsLater, IsLike, IsMoment, ScriptsAvoid}
use Rattle.host_core.specs.declared.fault.HostFault.{HostFault}
use Rattle.host_core.specs.declared.node.Node.{Node}
use Rattle.host_core.specs.declared.node.Node.TheVariants.{File, Dir, Link}
use Rattle.host_core.proofs.Losses.{avoids_moment, front_of_moment, since_stop}
use Rattle.host_core.proofs.Moments.{follow_all-append, since_barrier, since_start, since_weaker}
use Rattle.scattered_losses.specs.Scattered.{parent_of, LosesScattered}
use Rattle.scattered_losses.specs.Turns.{IsQuiet, KeepsOutside, TakeTurns}
use Rattle.scattered_losses.specs.Apart.{GoApart, IsApart, KeepsBeside, KeepsOn, WaitsForBarrier}
use Rattle.scattered_losses.proofs.Answered.{cancel, moment_split, two_splits, unflushed_before, unflushed_behind}
use Rattle.scattered_losses.proofs.Settled.{session_avoids}
use Rattle.scattered_losses.proofs.TakingTurns.{left_whole, like_in_turns, moment_of, turns_by_moments, turns_then}

-- what was done from a to b, and then to c
module _ (area : Path → Bool) (a b c : State) (first second : List Event) (events : b.events ≡ a.events ++ first) (world : b.world ≡ follow_all first a.world) (more : c.events ≡ b.events ++ second) where
  through : (e : List Event) → follow_all (first ++ e) a.world ≡ follow_all e b.world
  through e = follow_all-append first e a.world ∙ ap (follow_all e) (sym world)

  joined : c.events ≡ a.events ++ (first ++ second)
  joined = more ∙ ap (λ l. l ++ second) events ∙ append_assoc a.events first second

  all_first : IsMoment first first
  all_first = inl ([], sym (append-nil first))

  of_both : (added moment : List Event) → c.events ≡ a.events ++ added → IsMoment added moment → IsMoment first moment ⊎ ((m : List Event) × (moment ≡ first ++ m) × IsMoment second m)
  of_both added moment all is = moment_split first second moment (subst (λ l. IsMoment l moment) (cancel a.events added (first ++ second) (sym all ∙ joined)) is)

  both_wait : WaitsForBarrier area a b → WaitsForBarrier area b c → WaitsForBarrier area a c
  both_wait early late added moment all is none q there = elim (of_both added moment all is) [
    | inl before ↦ early first moment events before none q there
    | inr behind ↦ at_second behind.0 behind.1 behind.2
  ]
    where
      at_second : (m : List Event) → moment ≡ first ++ m → IsMoment second m → follow_all moment a.world q ≡ a.world q
      at_second m split part =
          let both : HasNoBarrier (first ++ m) = subst HasNoBarrier split none in
          ap (λ l. follow_all l a.world q) split ∙ ap (λ w. w q) (through m) ∙ late second m more part (unflushed_behind first m both) q there
          ∙ ap (λ w. w q) world ∙ early first first events all_first (unflushed_before first m both) q there

  module _ (quiet : IsQuiet area a b) (waits : WaitsForBarrier area b c) where
    -- the last barrier is before b
    module _ (m durable e late : List Event) (is : IsMoment second m) (before : first ≡ durable ++ e) (both : late ≡ e ++ m) (none : HasNoBarrier late) where
      flushed : HasNoBarrier (e ++ m)
      flushed = subst HasNoBarrier both none

      here : (front rest : List Event) → e ≡ front ++ rest → SameOn area (follow_all durable a.world) (follow_all (durable ++ front) a.world)
      here = quiet durable e (events ∙ ap (λ l. a.events ++ l) before) (unflushed_before e m flushed)

      reached : follow_all (durable ++ e) a.world ≡ b.world
      reached = ap (λ l. follow_all l a.world) (sym before) ∙ sym world

      waited : (n rest : List Event) → m ≡ n ++ rest → SameOn area b.world (follow_all n b.world)
      waited n rest parts = waits second n more (front_of_moment second m n rest is parts) (unflushed_before n rest (subst HasNoBarrier parts (unflushed_behind e m flushed)))

      still : (front rest : List Event) → late ≡ front ++ rest → SameOn area (follow_all durable a.world) (follow_all (durable ++ front) a.world)
      still front rest parts q there = elim (two_splits front rest e m (sym parts ∙ both)) [
        | inl n ↦ ap (λ l. follow_all (durable ++ l) a.world q) n.1 ∙ ap (λ l. follow_all l a.world q) (sym (append_assoc durable e n.0)) ∙ ap (λ w. w q) (follow_all-append (durable ++ e) n.0 a.world ∙ ap (follow_all n.0) reached)
            ∙ waited n.0 rest n.2 q there ∙ ap (λ w. w q) (sym reached) ∙ here e [] (sym (append-nil e)) q there
        | inr n ↦ here front n.0 n.1 q there
      ]

    both_apart : GoApart area a b → GoApart area b c → GoApart area a c
    both_apart apart again added moment durable late all is split none = elim (of_both added moment all is) [
      | inl before ↦ apart first moment durable late events before split none
      | inr behind ↦ elim (two_splits first behind.0 durable late (sym behind.1 ∙ split)) [
        | inl m ↦ inl (λ front rest parts q there. ap (λ w. w q) (sym (follow_all-append durable front a.world)) ∙ still behind.0 durable m.0 late behind.2 m.1 m.2 none front rest parts q there)
        | inr m ↦ subst (λ w. KeepsOn area w late ⊎ KeepsBeside area w late) (sym (ap (λ l. follow_all l a.world) m.1 ∙ through m.0)) (again second behind.0 m.0 late more behind.2 m.2 none)
      ]
    ]

    both_quiet : IsQuiet area b c → IsQuiet area a c
    both_quiet again durable late all none front rest parts q there = elim (two_splits first second durable late (cancel a.events (first ++ second) (durable ++ late) (sym joined ∙ all))) [
      | inl m ↦ still second durable m.0 late (inl ([], sym (append-nil second))) m.1 m.2 none front rest parts q there
      | inr m ↦ later m.0 m.1 m.2
    ]
      where
        later : (e : List Event) → durable ≡ first ++ e → second ≡ e ++ late → follow_all (durable ++ front) a.world q ≡ follow_all durable a.world q
        later e behind both =
            ap (λ l. follow_all (l ++ front) a.world q) behind ∙ ap (λ l. follow_all l a.world q) (append_assoc first e front) ∙ ap (λ w. w q) (through (e ++ front))
            ∙ again e late (more ∙ ap (λ l. b.events ++ l) both) none front rest parts q there ∙ ap (λ w. w q) (sym (ap (λ l. follow_all l a.world) behind ∙ through e))

pub waits_then : (area : Path → Bool) (a b c : State) → IsLater a b → IsLater b c → WaitsForBarrier area a b → WaitsForBarrier area b c → WaitsForBarrier area a c
waits_then area a b c first second = both_wait area a b c first.added second.added first.events first.world second.events

pub apart_then : (area : Path → Bool) (a b c : State) → IsLater a b → IsLater b c → IsApart area a b → IsQuiet area a b → IsApart area b c → IsApart area a c
apart_then area a b c first second early quiet late = record {
  turns = turns_then area a b c first second early.turns quiet late.turns;
  apart = both_apart area a b c first.added second.added first.events first.world second.events quiet late.waits early.apart late.apart;
  waits = waits_then area a b c first second early.waits late.waits;
}

pub quiet_too : (area : Path → Bool) (a b c : State) → IsLater a b → IsLater b c → IsQuiet area a b → WaitsForBarrier area b c → IsQuiet area b c → IsQuiet area a c
quiet_too area a b c first second quiet waits again = both_quiet area a b c first.added second.added first.events first.world second.events quiet waits again

-- work that leaves the area alone
module _ (area : Path → Bool) (old new : State) (h : IsTrue new.honest) (since : AtEachMoment (SameOn area) old new) where
  same_at : (added stop : List Event) → new.events ≡ old.events ++ added → IsMoment added stop → SameOn area old.world (follow_all stop old.world)
  same_at added stop events is = since_stop (λ so_far. SameOn area old.world) old new added stop h since events is

  same_between : (added moment durable late front rest : List Event) → new.events ≡ old.events ++ added → IsMoment added moment → moment ≡ durable ++ late → late ≡ front ++ rest
      → SameOn area (follow_all durable old.world) (follow_all (durable ++ front) old.world)
  same_between added moment durable late front rest events is split parts q there =
      same_at added (durable ++ front) events (front_of_moment added moment (durable ++ front) rest is (split ∙ ap (λ l. durable ++ l) parts ∙ sym (append_assoc durable front rest))) q there
      ∙ sym (same_at added durable events (front_of_moment added moment durable late is split) q there)

  pub same_quiet : IsQuiet area old new
  same_quiet durable late events none front rest parts = same_between (durable ++ late) (durable ++ late) durable late front rest events (inl ([], sym (append-nil (durable ++ late)))) refl parts

  pub same_apart : IsApart area old new
  same_apart = record {
    turns = turns_by_moments area [] old new h (since_weaker (λ so_far. SameOn area old.world) (λ so_far. KeepsOutside area [] old.world) old new (λ so_far w is q here out. is q here) since);
    apart = λ added moment durable late events is split none. inl (λ front rest parts q there. ap (λ w. w q) (sym (follow_all-append durable front old.world)) ∙ same_between added moment durable late front rest events is split parts q there);
    waits = λ added moment events is none. same_at added moment events is;
  }

pub apart_here : (area : Path → Bool) (s : State) → IsTrue s.honest → IsApart area s s × IsQuiet area s s
apart_here area s h =
    let since : AtEachMoment (SameOn area) s s = since_start (λ so_far. SameOn area s.world) s (λ q there. refl) in
    (same_apart area s s h since, same_quiet area s s h since)

-- a barrier, and what comes behind it
pub barrier_apart : {T : Type 0} (area : Path → Bool) (result : Result T HostFault) (a b : State) → IsTrue b.honest → Does Barrier a b result → IsApart area a b × IsQuiet area a b
barrier_apart area result a b h does =
    let since : AtEachMoment (SameOn area) a b = since_barrier (λ w. SameOn area a.world w) result a b does (λ h q there. refl) in
    (same_apart area a b h since, same_quiet area a b h since)

pub waits_behind : (area : Path → Bool) (a b c : State) → IsTrue c.honest → Happens (Did Barrier ∷ []) a b → IsLater b c → WaitsForBarrier area a c
waits_behind area a b c h goes later = λ added moment all is none. elim (of_both area a b c (Did Barrier ∷ []) later.added goes.events goes.world later.events added moment all is) [
  | inl before ↦ (barrier_apart {T = Unit {0}} area (Ok tt) a b (later.honest h) goes).0.waits (Did Barrier ∷ []) moment goes.events before none
  | inr behind ↦ absurd (true≢false (subst HasNoBarrier behind.1 none).0)
]

-- work that changes the area's names alone
pub alone_apart : (area : Path → Bool) (old new : State) → IsTrue new.honest → AtEachMoment (KeepsBut area) old new → TakeTurns area old new → WaitsForBarrier area old new → IsApart area old new
alone_apart area old new h since turns waits = record {
  turns = turns;
  apart = λ added moment durable late events is split none. inr (λ front rest parts q out.
      let at : (stop after : List Event) → moment ≡ stop ++ after → follow_all stop old.world q ≡ old.world q =
      λ stop after cut. since_stop (λ so_far. KeepsBut area old.world) old new added stop h since events (front_of_moment added moment stop after is cut) q out in
      ap (λ w. w q) (sym (follow_all-append durable front old.world))
      ∙ at (durable ++ front) rest (split ∙ ap (λ l. durable ++ l) parts ∙ sym (append_assoc durable front rest)) ∙ sym (at durable late split));
  waits = waits;
}

-- what a loss leaves

blurred_back : (n m : Option Node) → IsBlurred n m → IsBlurred m n
blurred_back None m is = subst (λ x. IsBlurred x None) (sym is) refl
blurred_back (Some (File bytes access)) m is = subst (λ x. IsBlurred x (Some (File bytes access))) (sym is.1) (bytes, refl)
blurred_back (Some (Dir access)) m is = subst (λ x. IsBlurred x (Some (Dir access))) (sym is) refl
blurred_back (Some (Link target)) m is = subst (λ x. IsBlurred x (Some (Link target))) (sym is) refl

like_back : (area : Path → Bool) (w left : World) → IsLike area w left → IsLike area left w
like_back area w left like = record {
  whole = λ q here proper. sym (like.whole q here proper);
  bytes = λ q here t. blurred_back (w q) (left q) (like.bytes q here t);
}

like_same : (area : Path → Bool) (left w v : World) → IsLike area left w → SameOn area w v → IsLike area left v
like_same area left w v like same = record {
  whole = λ q here proper. same q here ∙ like.whole q here proper;
  bytes = λ q here t. subst (IsBlurred (left q)) (sym (same q here)) (like.bytes q here t);
}

out_of : (area kept : Bool) → (area ≡ true → kept ≡ true) → kept ≡ false → area ≡ false
out_of true kept within out = absurd (true≢false (sym (within refl) ∙ out))
out_of false kept within out = refl

avoids_area : (kept area : Path → Bool) → ((p : Path) → area p ≡ true → kept p ≡ true) → (c : Change) → Avoids kept c → Avoids area c
avoids_area kept area within [] all = tt
avoids_area kept area within (e ∷ c) all = (out_of (area e.0) (kept e.0) (within e.0) all.0, avoids_area kept area within c all.1)

module _ (kept area : Path → Bool) (q : Path) (begun old new : State) (left : World) (h : IsTrue new.honest) (settled : IsSettled new.events) (scripts : ScriptsAvoid kept begun new)
    (within : (p : Path) → area p ≡ true → kept p ≡ true) (here : kept q ≡ true) (out : area q ≡ false) (proper : is_temporary q ≡ false) (turns : TakeTurns area old new) (apart : GoApart area old new)
    (loses : LosesScattered begun old new left) (since : AtEachMomentOf (λ w so_far now. IsLike area left now → Avoids kept (changes_of so_far) → now q ≡ w q) old new) where
  narrow : ScriptsAvoid area begun new
  narrow = record { wrote = scripts.wrote; changes = scripts.changes; avoids = avoids_area kept area within scripts.wrote scripts.avoids }

  abbrev upto : Path → List Event
  upto d = loses.loss.durable ++ loses.loss.front d

  is_moment : (d : Path) → IsMoment loses.added (upto d)
  is_moment = moment_of kept begun old new left settled scripts loses

  -- where the area is like what is left of it, the path is as before
  as_before : (d : Path) → IsLike area left (follow_all (upto d) old.world) → follow_all (upto d) old.world q ≡ old.world q
  as_before d said =
      since_stop (λ so_far now. IsLike area left now → Avoids kept (changes_of so_far) → now q ≡ old.world q) old new loses.added (upto d) h since loses.events (is_moment d) said
      (avoids_moment kept loses.added (upto d) (is_moment d) (session_avoids kept begun old new loses.earlier loses.added loses.session loses.events scripts).1)

  front_left : left q ≡ follow_all (upto (parent_of q)) old.world q
  front_left = left_whole kept begun old new left settled scripts loses q here proper

  like : (d : Path) × IsLike area (follow_all (upto d) old.world) left
  like = like_in_turns area begun old new left settled narrow loses turns

  back : IsLike area left (follow_all (upto like.0) old.world)
  back = like_back area (follow_all (upto like.0) old.world) left like.1

  by_area : KeepsOn area (follow_all loses.loss.durable old.world) loses.loss.late → left q ≡ old.world q
  by_area keeps = front_left ∙ as_before (parent_of q) (like_same area left (follow_all (upto like.0) old.world) (follow_all (upto (parent_of q)) old.world) back
      (λ p there. at (parent_of q) p there ∙ sym (at like.0 p there)))
    where
      at : (d p : Path) → area p ≡ true → follow_all (upto d) old.world p ≡ follow_all loses.loss.durable old.world p
      at d p there = ap (λ w. w p) (follow_all-append loses.loss.durable (loses.loss.front d) old.world) ∙ keeps (loses.loss.front d) (loses.loss.rest d) (loses.loss.fronts d) p there

  by_others : KeepsBeside area (follow_all loses.loss.durable old.world) loses.loss.late → left q ≡ old.world q
  by_others keeps = front_left ∙ at (parent_of q) ∙ sym (at like.0) ∙ as_before like.0 back
    where
      at : (d : Path) → follow_all (upto d) old.world q ≡ follow_all loses.loss.durable old.world q
      at d = ap (λ w. w q) (follow_all-append loses.loss.durable (loses.loss.front d) old.world) ∙ keeps (loses.loss.front d) (loses.loss.rest d) (loses.loss.fronts d) q out

  -- THE LAW: what is left outside the area is no further than what is left in it says
  pub left_first : left q ≡ old.world q
  left_first = elim (apart loses.added loses.moment loses.loss.durable loses.loss.late loses.events loses.is loses.loss.split loses.loss.unflushed) [
    | inl keeps ↦ by_area keeps
    | inr keeps ↦ by_others keeps
  ]
