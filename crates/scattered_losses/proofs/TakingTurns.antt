-- Where directories take turns, what a loss leaves of all of them is what one stop leaves.
use Rattle.std.specs.Prelude.{◌≡◌, ◌⊎◌, Bool, true, false, List, [], ◌++◌, IsTrue}
use Rattle.std.proofs.Common.{refl, sym, ◌∙◌, ap, subst, inl, inr, append_assoc, append-nil}
use Rattle.std.proofs.lemmas.Bool.{true≢false}
use Rattle.std.proofs.lemmas.Slice.Eq.{bytes_eq-Decides}
use Rattle.host_core.specs.Paths.{Path}
use Rattle.host_core.specs.World.{World, SameOn}
use Rattle.host_core.specs.Events.{Event, follow_all, changes_of}
use Rattle.host_core.specs.Unsynced.{unsynced, is_temporary, IsSettled}
use Rattle.host_core.specs.Host.{State, AllFailed, AtEachMoment}
use Rattle.host_core.specs.Loss.{HasNoBarrier, IsBlurred, IsLater, IsLike, IsLikeAStop, IsMoment, IsOnDisk, ScriptsAvoid, writes}
use Rattle.host_core.proofs.Losses.{avoids_moment, blurred_same, front_of_moment, since_stop}
use Rattle.host_core.proofs.Moments.{follow_all-append, unmoved}
use Rattle.scattered_losses.specs.Scattered.{is_in, parent_of, IsScattered, LosesScattered}
use Rattle.scattered_losses.specs.Turns.{ChangesIn, IsQuiet, KeepsOutside, TakeTurns}
use Rattle.scattered_losses.proofs.Answered.{cancel, failed_before, failed_on_disk, moment_split, two_splits, unflushed_before, unflushed_behind}
use Rattle.scattered_losses.proofs.Settled.{session_avoids, settled_moment, unwritten_until}

bool_cases : (b : Bool) → (b ≡ true) ⊎ (b ≡ false)
bool_cases true = inl refl
bool_cases false = inr refl

module _ (kept : Path → Bool) (begun old new : State) (left : World) (settled : IsSettled new.events) (scripts : ScriptsAvoid kept begun new) (loses : LosesScattered begun old new left) where
  abbrev loss : IsScattered (changes_of (loses.earlier ++ loses.moment)) old loses.moment left
  loss = loses.loss

  abbrev upto : Path → List Event
  upto d = loss.durable ++ loss.front d

  pub moment_of : (d : Path) → IsMoment loses.added (upto d)
  moment_of d =
      front_of_moment loses.added loses.moment (upto d) (loss.rest d) loses.is (loss.split ∙ ap (λ l. loss.durable ++ l) (loss.fronts d) ∙ sym (append_assoc loss.durable (loss.front d) (loss.rest d)))

  free : (q : Path) → kept q ≡ true → writes (changes_of (loses.earlier ++ loses.moment)) q ≡ false
  free = unwritten_until kept begun old new loses.earlier loses.added loses.moment loses.session loses.events loses.is scripts

  synced : (q : Path) → is_temporary q ≡ false → unsynced (old.events ++ upto (parent_of q)) q ≡ true → ⊥
  synced q proper u = true≢false (sym (settled_moment old.events loses.added (upto (parent_of q)) (subst IsSettled loses.events settled) (moment_of (parent_of q)) q u) ∙ proper)

  -- what is left at a path that was settled, by the front of its directory
  pub left_whole : (q : Path) → kept q ≡ true → is_temporary q ≡ false → left q ≡ follow_all (upto (parent_of q)) old.world q
  left_whole q here proper = elim (bool_cases (unsynced (old.events ++ upto (parent_of q)) q)) [
    | inl u ↦ absurd (synced q proper u)
    | inr s ↦ loss.whole q (free q here) s
  ]

  -- where since the barrier one directory alone changed, its front is one for all
  module _ (d : Path) (alone : ChangesIn kept d (follow_all loss.durable old.world) loss.late) where
    outside : (e q : Path) → kept q ≡ true → is_in d q ≡ false → follow_all (upto e) old.world q ≡ follow_all loss.durable old.world q
    outside e q here out = ap (λ w. w q) (follow_all-append loss.durable (loss.front e) old.world) ∙ alone (loss.front e) (loss.rest e) (loss.fronts e) q here out

    same : (q : Path) → kept q ≡ true → follow_all (upto (parent_of q)) old.world q ≡ follow_all (upto d) old.world q
    same q here = elim (bool_cases (is_in d q)) [
      | inl own ↦ ap (λ e. follow_all (upto e) old.world q) ((bytes_eq-Decides (parent_of q) d).0 own)
      | inr out ↦ outside (parent_of q) q here out ∙ sym (outside d q here out)
    ]

    like_front : IsLike kept (follow_all (upto d) old.world) left
    like_front = record {
      whole = λ q here proper. left_whole q here proper ∙ same q here;
      bytes = λ q here t. elim (bool_cases (unsynced (old.events ++ upto (parent_of q)) q)) [
        | inl u ↦ subst (λ n. IsBlurred n (left q)) (same q here) (loss.bytes q (free q here) u)
        | inr s ↦ blurred_same (follow_all (upto d) old.world q) (left q) (loss.whole q (free q here) s ∙ same q here)
      ];
    }

  -- what is left of all kept names, by the front of one directory
  pub like_in_turns : TakeTurns kept old new → (d : Path) × IsLike kept (follow_all (upto d) old.world) left
  like_in_turns turns =
      let now = turns loses.added loses.moment loss.durable loss.late loses.events loses.is loss.split loss.unflushed in
      (now.0, like_front now.0 now.1)

  like_one : (d : Path) → IsLike kept (follow_all (upto d) old.world) left → IsLikeAStop kept old new left
  like_one d like = record {
    added = loses.added;
    events = loses.events;
    stop = upto d;
    is = moment_of d;
    avoids = avoids_moment kept loses.added (upto d) (moment_of d) (session_avoids kept begun old new loses.earlier loses.added loses.session loses.events scripts).1;
    like = like;
  }

-- THE LAW: where directories take turns, all kept names are left as at one stop
pub turns_like_a_stop : (kept : Path → Bool) (begun old new : State) (left : World) → IsSettled new.events → ScriptsAvoid kept begun new → TakeTurns kept old new → LosesScattered begun old new left
    → IsLikeAStop kept old new left
turns_like_a_stop kept begun old new left settled scripts turns loses =
    let one = like_in_turns kept begun old new left settled scripts loses turns in
    like_one kept begun old new left settled scripts loses one.0 one.1

-- how it is shown that they do

-- what held of the names outside one directory at each moment
pub turns_by_moments : (area : Path → Bool) (d : Path) (old new : State) → IsTrue new.honest → AtEachMoment (KeepsOutside area d) old new → TakeTurns area old new
turns_by_moments area d old new h since added moment durable late events is split none = (
  d,
  λ front rest parts q here out.
      let at : (stop after : List Event) → moment ≡ stop ++ after → follow_all stop old.world q ≡ old.world q =
      λ stop after cut. since_stop (λ so_far. KeepsOutside area d old.world) old new added stop h since events (front_of_moment added moment stop after is cut) q here out in
      ap (λ w. w q) (sym (follow_all-append durable front old.world))
      ∙ at (durable ++ front) rest (split ∙ ap (λ l. durable ++ l) parts ∙ sym (append_assoc durable front rest)) ∙ sym (at durable late split),
)

-- what was done from a to b, and then to c
module _ (area : Path → Bool) (a b c : State) (first second : List Event) (events : b.events ≡ a.events ++ first) (world : b.world ≡ follow_all first a.world) (more : c.events ≡ b.events ++ second) where
  through : (e : List Event) → follow_all (first ++ e) a.world ≡ follow_all e b.world
  through e = follow_all-append first e a.world ∙ ap (follow_all e) (sym world)

  joined : c.events ≡ a.events ++ (first ++ second)
  joined = more ∙ ap (λ l. l ++ second) events ∙ append_assoc a.events first second

  -- a moment of both, split at what is durable
  abbrev OfBoth : Type 0
  OfBoth = (moment durable late : List Event) → IsMoment second moment → first ++ moment ≡ durable ++ late → HasNoBarrier late → (directory : Path) × ChangesIn area directory (follow_all durable a.world) late

  turns_of : TakeTurns area a b → OfBoth → TakeTurns area a c
  turns_of turns both added moment durable late all is split none = elim (moment_split first second moment (subst (λ l. IsMoment l moment) (cancel a.events added (first ++ second) (sym all ∙ joined)) is)) [
    | inl before ↦ turns first moment durable late events before split none
    | inr behind ↦ both behind.0 durable late behind.2 (sym behind.1 ∙ split) none
  ]

  -- where nothing has changed since the barrier, they begin anew
  module _ (turns : TakeTurns area a b) (quiet : IsQuiet area a b) (again : TakeTurns area b c) where
    anew : (moment durable late : List Event) → IsMoment second moment → (e : List Event) → first ≡ durable ++ e → late ≡ e ++ moment → HasNoBarrier late → (directory : Path) × ChangesIn area directory (follow_all durable a.world) late
    anew moment durable late is e before both none = (now.0, outside)
      where
        flushed : HasNoBarrier (e ++ moment)
        flushed = subst HasNoBarrier both none

        now : (directory : Path) × ChangesIn area directory b.world moment
        now = again second moment [] moment more is refl (unflushed_behind e moment flushed)

        here : (front rest : List Event) → e ≡ front ++ rest → SameOn area (follow_all durable a.world) (follow_all (durable ++ front) a.world)
        here = quiet durable e (events ∙ ap (λ l. a.events ++ l) before) (unflushed_before e moment flushed)

        reached : follow_all (durable ++ e) a.world ≡ b.world
        reached = ap (λ l. follow_all l a.world) (sym before) ∙ sym world

        outside : ChangesIn area now.0 (follow_all durable a.world) late
        outside front rest parts q there out = elim (two_splits front rest e moment (sym parts ∙ both)) [
          | inl m ↦ ap (λ l. follow_all l (follow_all durable a.world) q) m.1 ∙ ap (λ w. w q) (follow_all-append e m.0 (follow_all durable a.world) ∙ ap (follow_all m.0) (sym (follow_all-append durable e a.world) ∙ reached))
              ∙ now.1 m.0 rest m.2 q there out ∙ ap (λ w. w q) (sym reached) ∙ here e [] (sym (append-nil e)) q there
          | inr m ↦ ap (λ w. w q) (sym (follow_all-append durable front a.world)) ∙ here front m.0 m.1 q there
        ]

    goes_on : (moment durable late : List Event) → IsMoment second moment → (e : List Event) → durable ≡ first ++ e → moment ≡ e ++ late → HasNoBarrier late → (directory : Path) × ChangesIn area directory (follow_all durable a.world) late
    goes_on moment durable late is e behind both none =
        let now = again second moment e late more is both none in
        (now.0, subst (λ w. ChangesIn area now.0 w late) (sym (ap (λ l. follow_all l a.world) behind ∙ through e)) now.1)

    turns_behind : TakeTurns area a c
    turns_behind = turns_of turns (λ moment durable late is split none. elim (two_splits first moment durable late split) [
      | inl m ↦ anew moment durable late is m.0 m.1 m.2 none
      | inr m ↦ goes_on moment durable late is m.0 m.1 m.2 none
    ])

  -- where nothing changes behind b
  module _ (stays : (moment : List Event) → IsMoment second moment → SameOn area b.world (follow_all moment b.world)) where
    -- durable is before b
    module _ (moment durable e : List Event) (is : IsMoment second moment) (before : first ≡ durable ++ e) where
      reached : follow_all (durable ++ e) a.world ≡ b.world
      reached = ap (λ l. follow_all l a.world) (sym before) ∙ sym world

      -- a front that goes on behind b leaves what e left
      as_there : (front n rest : List Event) → front ≡ e ++ n → moment ≡ n ++ rest → SameOn area (follow_all (durable ++ e) a.world) (follow_all (durable ++ front) a.world)
      as_there front n rest longer parts q there =
          ap (λ l. follow_all (durable ++ l) a.world q) longer ∙ ap (λ l. follow_all l a.world q) (sym (append_assoc durable e n)) ∙ ap (λ w. w q) (follow_all-append (durable ++ e) n a.world ∙ ap (follow_all n) reached)
          ∙ stays n (front_of_moment second moment n rest is parts) q there ∙ ap (λ w. w q) (sym reached)

    -- or behind it
    as_behind : (moment durable late e front rest : List Event) → IsMoment second moment → durable ≡ first ++ e → moment ≡ e ++ late → late ≡ front ++ rest → SameOn area (follow_all durable a.world) (follow_all (durable ++ front) a.world)
    as_behind moment durable late e front rest is behind both parts q there =
        ap (λ l. follow_all (l ++ front) a.world q) behind ∙ ap (λ l. follow_all l a.world q) (append_assoc first e front) ∙ ap (λ w. w q) (through (e ++ front))
        ∙ stays (e ++ front) (front_of_moment second moment (e ++ front) rest is (both ∙ ap (λ l. e ++ l) parts ∙ sym (append_assoc e front rest))) q there
        ∙ sym (stays e (front_of_moment second moment e late is both) q there) ∙ ap (λ w. w q) (sym (ap (λ l. follow_all l a.world) behind ∙ through e))

    still_quiet : IsQuiet area a b → IsQuiet area a c
    still_quiet quiet durable late all none front rest parts q there = elim (two_splits first second durable late (cancel a.events (first ++ second) (durable ++ late) (sym joined ∙ all))) [
      | inl m ↦ earlier m.0 m.1 m.2
      | inr m ↦ as_behind second durable late m.0 front rest whole m.1 m.2 parts q there
    ]
      where
        whole : IsMoment second second
        whole = inl ([], sym (append-nil second))

        earlier : (e : List Event) → first ≡ durable ++ e → late ≡ e ++ second → follow_all (durable ++ front) a.world q ≡ follow_all durable a.world q
        earlier e before both = elim (two_splits front rest e second (sym parts ∙ both)) [
          | inl m ↦ as_there second durable e whole before front m.0 rest m.1 m.2 q there ∙ here e [] (sym (append-nil e)) q there
          | inr m ↦ here front m.0 m.1 q there
        ]
          where
            here : (front rest : List Event) → e ≡ front ++ rest → SameOn area (follow_all durable a.world) (follow_all (durable ++ front) a.world)
            here = quiet durable e (events ∙ ap (λ l. a.events ++ l) before) (unflushed_before e second (subst HasNoBarrier both none))

    still_turns : TakeTurns area a b → TakeTurns area a c
    still_turns turns = turns_of turns (λ moment durable late is split none. elim (two_splits first moment durable late split) [
      | inl m ↦ earlier moment durable late is m.0 m.1 m.2 none
      | inr m ↦ ([], λ front rest parts q there out. ap (λ w. w q) (sym (follow_all-append durable front a.world)) ∙ as_behind moment durable late m.0 front rest is m.1 m.2 parts q there)
    ])
      where
        earlier : (moment durable late : List Event) → IsMoment second moment → (e : List Event) → first ≡ durable ++ e → late ≡ e ++ moment → HasNoBarrier late → (directory : Path) × ChangesIn area directory (follow_all durable a.world) late
        earlier moment durable late is e before both none = (now.0, outside)
          where
            now : (directory : Path) × ChangesIn area directory (follow_all durable a.world) e
            now = turns first first durable e events (inl ([], sym (append-nil first))) before (unflushed_before e moment (subst HasNoBarrier both none))

            outside : ChangesIn area now.0 (follow_all durable a.world) late
            outside front rest parts q there out = elim (two_splits front rest e moment (sym parts ∙ both)) [
              | inl m ↦ ap (λ w. w q) (sym (follow_all-append durable front a.world)) ∙ as_there moment durable e is before front m.0 rest m.1 m.2 q there ∙ ap (λ w. w q) (follow_all-append durable e a.world) ∙ now.1 e [] (sym (append-nil e)) q there out
              | inr m ↦ now.1 front m.0 m.1 q there out
            ]

pub quiet_on_disk : (area : Path → Bool) (a b : State) → IsOnDisk b.events → IsQuiet area a b
quiet_on_disk area a b disk durable late all none front rest parts q there =
    let failed : AllFailed late = failed_on_disk a.events durable late [] (subst IsOnDisk all disk) (subst HasNoBarrier (sym (append-nil late)) none) in
    ap (λ w. w q) (follow_all-append durable front a.world ∙ unmoved front (follow_all durable a.world) (failed_before front rest (subst AllFailed parts failed)))

pub turns_then : (area : Path → Bool) (a b c : State) → IsLater a b → IsLater b c → TakeTurns area a b → IsQuiet area a b → TakeTurns area b c → TakeTurns area a c
turns_then area a b c first second turns quiet again = turns_behind area a b c first.added second.added first.events first.world second.events turns quiet again

module _ (area : Path → Bool) (a b c : State) (h : IsTrue c.honest) (first : IsLater a b) (since : AtEachMoment (SameOn area) b c) where
  stays_so : (moment : List Event) → IsMoment since.added moment → SameOn area b.world (follow_all moment b.world)
  stays_so moment is = since_stop (λ so_far. SameOn area b.world) b c since.added moment h since since.events is

  pub quiet_then : IsQuiet area a b → IsQuiet area a c
  quiet_then = still_quiet area a b c first.added since.added first.events first.world since.events stays_so

  pub turns_on : TakeTurns area a b → TakeTurns area a c
  turns_on = still_turns area a b c first.added since.added first.events first.world since.events stays_so
