-- Turns go on with one more.
use Rattle.std.proofs.Common.{◌≡◌, inl, List, [], ◌∷◌, ◌++◌, refl, sym, ap, subst, ◌∙◌, append_assoc}
use Rattle.std.proofs.lemmas.List.{append-nil}
use Rattle.host_core.specs.Events.{Event}
use Rattle.host_core.specs.Host.{State, AtEachMomentOf, Since}
use Rattle.host_core.proofs.Moments.{since_then, since_weaker, since_weaker_if}
use Rattle.host_core.specs.World.{World}
use Rattle.unit_reports.specs.Held.{Held}
use Rattle.unit_reports.specs.declared.report.Unit.{Unit as AUnit}
use Rattle.unit_runs.specs.Taking.{AddsNone, AddsTurn}
use Rattle.unit_runs.specs.Turns.{GoesTo, HasStopped, HaveAllTurned, HaveTurned, IsAmidNext, IsAmidTurns, IsBrokenNext, IsStill, TurnsTo}

pub still_here : (w : World) → IsStill w [] w
still_here w = record { same = refl; quiet = refl }

-- what waits comes further
pub goes_then : {L : Type 0} (goes : L → L → Type 0) (start q later : L) → GoesTo goes start q → GoesTo goes q later → GoesTo goes start later
goes_then goes start q later first GoesTo.here = first
goes_then goes start q later first (GoesTo.then mid end rest one) = GoesTo.then mid end (goes_then goes start q mid first rest) one

pub goes_once : {L : Type 0} (goes : L → L → Type 0) (q later : L) → goes q later → GoesTo goes q later
goes_once goes q later one = GoesTo.then q later GoesTo.here one

module _ {L : Type 0} (turn : L → Held → AUnit → L → Held → State → State → Type 0) (start : L) (before : Held) (s : State) where
  pub no_turn : (us : List AUnit) → HaveTurned turn start before s us us start before s
  no_turn us = record { turned = []; are = sym (append-nil us); come = TurnsTo.begun }

  pub one_turn_more : (first now new : List AUnit) (q later : L) (mid after : Held) (m t : State) → HaveTurned turn start before s first now q mid m → AddsTurn turn q later mid after m t now new → HaveTurned turn start before s first new later after t
  one_turn_more first now new q later mid after m t have one = record {
    turned = have.turned ++ one.unit ∷ [];
    are = one.grown ∙ ap (λ (l : List AUnit). l ++ one.unit ∷ []) have.are ∙ append_assoc first have.turned (one.unit ∷ []);
    come = TurnsTo.turned have.turned one.unit q later mid after m t have.come one.is;
  }

  -- no turn was left behind these
  pub all_turned : (over : L → Held → Type 0) (first now new : List AUnit) (q : L) (mid after : Held) (m t : State) → HaveTurned turn start before s first now q mid m → AddsNone over q mid after m t now new
      → HaveAllTurned turn over start before s first new after t
  all_turned over first now new q mid after m t have none = record {
    q = q;
    turned =
        subst (λ us. HaveTurned turn start before s first us q after t) (sym none.same)
        (subst (λ h. HaveTurned turn start before s first now q h t) (sym none.is.held)
        (subst (λ (x : State). HaveTurned turn start before s first now q mid x) (sym none.is.here) have));
    ended = none.is.ended;
  }

  module _ (amid : L → L → Held → World → List Event → World → Type 0) where
    pub since_turns_start : (may : L → Type 0) → may start → Since (IsAmidTurns turn amid may start before s) s s
    since_turns_start may so = record {
      added = [];
      events = sym (append-nil s.events);
      honest = λ h. h;
      world = refl;
      each = λ h. record {
        us = [];
        q = start;
        later = start;
        behind = so;
        after = before;
        m = s;
        honest = h;
        come = TurnsTo.begun;
        front = [];
        rest = [];
        events = sym (append-nil s.events);
        are = refl;
        next = inl (still_here s.world);
      };
    }

    pub since_turns : (may : L → Type 0) (first now : List AUnit) (q later : L) (mid : Held) (m t : State) → HaveTurned turn start before s first now q mid m → Since (IsAmidTurns turn amid may start before s) s m → may later
        → AtEachMomentOf (IsAmidNext amid q later mid) m t → Since (IsAmidTurns turn amid may start before s) s t
    since_turns may first now q later mid m t have so_far so next =
        since_then (IsAmidTurns turn amid may start before s) s m t so_far
        (since_weaker_if (IsAmidNext amid q later mid m.world) (λ x. IsAmidTurns turn amid may start before s (so_far.added ++ x)) m t
        (λ h x w is. record {
          us = have.turned;
          q = q;
          later = later;
          behind = so;
          after = mid;
          m = m;
          honest = next.honest h;
          come = have.come;
          front = so_far.added;
          rest = x;
          events = so_far.events;
          are = refl;
          next = is;
        }) next)

    -- what waits behind a unit may be more
    pub amid_wider : (may also : L → Type 0) → ((q : L) → may q → also q) → (so_far : List Event) (now : World) → IsAmidTurns turn amid may start before s so_far now → IsAmidTurns turn amid also start before s so_far now
    amid_wider may also so so_far now is = record {
      us = is.us;
      q = is.q;
      later = is.later;
      behind = so is.later is.behind;
      after = is.after;
      m = is.m;
      honest = is.honest;
      come = is.come;
      front = is.front;
      rest = is.rest;
      events = is.events;
      are = is.are;
      next = is.next;
    }

    pub since_wider : (may also : L → Type 0) → ((q : L) → may q → also q) → (t : State) → Since (IsAmidTurns turn amid may start before s) s t → Since (IsAmidTurns turn amid also start before s) s t
    since_wider may also so t since = since_weaker (IsAmidTurns turn amid may start before s) (IsAmidTurns turn amid also start before s) s t (λ x w is. amid_wider may also so x w is) since

    -- the moments of one turn more, where what waits goes on
    pub since_more : (goes : L → L → Type 0) (first now : List AUnit) (q later : L) (mid : Held) (m t : State) → HaveTurned turn start before s first now q mid m
        → Since (IsAmidTurns turn amid (λ x. GoesTo goes x q) start before s) s m → goes q later → AtEachMomentOf (IsAmidNext amid q later mid) m t → Since (IsAmidTurns turn amid (λ x. GoesTo goes x later) start before s) s t
    since_more goes first now q later mid m t have so_far one next =
        since_turns (λ x. GoesTo goes x later) first now q later mid m t have
        (since_wider (λ x. GoesTo goes x q) (λ x. GoesTo goes x later) (λ x to. goes_then goes x q later to (goes_once goes q later one)) m so_far) GoesTo.here next

  pub stopped : (amid : L → L → Held → World → List Event → World → Type 0) (called : L → L → Held → State → State → AUnit → Type 0) (first now new : List AUnit) (q later : L) (mid : Held) (m t : State) (u : AUnit) → HaveTurned turn start before s first now q mid m
      → new ≡ now → AtEachMomentOf (IsAmidNext amid q later mid) m t → IsBrokenNext called q later mid m t u → HasStopped turn amid called start before s first new later t u
  stopped amid called first now new q later mid m t u have same since broken = record {
    q = q;
    after = mid;
    m = m;
    turned = subst (λ (us : List AUnit). HaveTurned turn start before s first us q mid m) (sym same) have;
    since = since;
    broken = broken;
  }
