-- A loss of power in a run of commands.
use Rattle.std.specs.Prelude.{List, [], ◌++◌, ◌≡◌, ℕ, zero, suc, ◌≤◌}
use Rattle.std.proofs.Common.{refl, ap, sym, subst, arith, inl, inr}
use Rattle.std.proofs.lemmas.List.{append-nil}
use Rattle.host_core.specs.World.{World}
use Rattle.host_core.specs.Events.{Event, follow_all}
use Rattle.host_core.specs.Host.{State}
use Rattle.host_core.proofs.Moments.{since_then}
use Rattle.host_core.specs.Loss.{IsLater, LosesSince, IsMoment, HasNoBarrier, IsAnswered}
use Rattle.host_core.proofs.Losses.{blurred_same, loses_in_part}

-- so many commands, one after another, each of which is as U says
abbrev pub HasRun : (State → State → Type 0) → ℕ → State → State → Type 0
HasRun U zero s t = t ≡ s
HasRun U (suc n) s t = (m : State) × U s m × HasRun U n m t

later_run : (U : State → State → Type 0) → ((s m : State) → U s m → IsLater s m) → (n : ℕ) (s m t : State) → HasRun U n s m → IsLater m t → IsLater s t
later_run U later zero s m t run last = subst (λ x. IsLater x t) run last
later_run U later (suc n) s m t run last = since_then _ s run.0 t (later s run.0 run.1) (later_run U later n run.0 m t run.2 last)

-- What a loss leaves in a run of commands that have answered, and one more that may have been cut off: some of them stand
-- whole, and of the next one it leaves what a loss in it alone leaves.
pub loses_in_run : (begun : State) (U : State → State → Type 0) (P : State → World → Type 0) → ((s m : State) → U s m → IsLater s m) → ((s m : State) → U s m → IsAnswered s m)
    → ((s m : State) (left : World) → U s m → LosesSince begun s m left → P s left)
    → (n : ℕ) (s m t : State) (left : World) → HasRun U n s m → IsLater m t → (LosesSince begun m t left → P m left) → LosesSince begun s t left
    → (k : ℕ) × (a : State) × (k ≤ n) × HasRun U k s a × P a left
loses_in_run begun U P later answered leaves zero s m t left run last amid loses = (zero, s, omega arith, refl, subst (λ x. P x left) run (amid (subst (λ x. LosesSince begun x t left) (sym run) loses)))
loses_in_run begun U P later answered leaves (suc n) s m t left run last amid loses =
    elim (loses_in_part begun s run.0 t left (later s run.0 run.1) (later_run U later n run.0 m t run.2 last) (answered s run.0 run.1) loses) [
      | inl here ↦ (zero, s, omega arith, refl, leaves s run.0 left run.1 here)
      | inr behind ↦
          let more = loses_in_run begun U P later answered leaves n run.0 m t left run.2 last amid behind in
          (suc more.0, more.1, omega (arith, more.2), (run.0, run.1, more.3), more.4)
    ]

-- a loss may leave all that was done
pub nothing_lost : (begun old new : State) (earlier added moment : List Event) → old.events ≡ begun.events ++ earlier → new.events ≡ old.events ++ added → IsMoment added moment → LosesSince begun old new (follow_all moment old.world)
nothing_lost begun old new earlier added moment session events is =
    let all : moment ≡ moment ++ [] = sym (append-nil moment) in
    record {
      earlier = earlier;
      session = session;
      added = added;
      events = events;
      moment = moment;
      is = is;
      loss = record {
        durable = moment;
        front = [];
        rest = [];
        split = all;
        late = tt;
        whole = λ q free s. ap (λ l. follow_all l old.world q) all;
        bytes = λ q free u. blurred_same _ _ (ap (λ l. follow_all l old.world q) all);
      };
    }

-- and where no barrier was made nothing of it
pub all_lost : (begun old new : State) (earlier added moment : List Event) → old.events ≡ begun.events ++ earlier → new.events ≡ old.events ++ added → IsMoment added moment → HasNoBarrier moment → LosesSince begun old new old.world
all_lost begun old new earlier added moment session events is none = record {
  earlier = earlier;
  session = session;
  added = added;
  events = events;
  moment = moment;
  is = is;
  loss = record { durable = []; front = []; rest = moment; split = refl; late = none; whole = λ q free s. refl; bytes = λ q free u. blurred_same _ _ refl };
}
