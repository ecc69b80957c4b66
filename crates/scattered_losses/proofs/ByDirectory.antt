-- What such a loss leaves is, in each directory by itself, what a loss leaves that keeps one order of all names.
use Rattle.std.specs.Prelude.{◌≡◌, Bool, true, false, List, [], ◌∷◌, ◌++◌, nat_eq, cond, ◌&&◌, ◌||◌, IsTrue}
use Rattle.std.proofs.Common.{refl, sym, ◌∙◌, ap, subst}
use Rattle.std.proofs.lemmas.Bool.{true≢false, false≢true}
use Rattle.std.proofs.lemmas.Slice.Eq.{bytes_eq-Decides}
use Rattle.host_core.specs.Paths.{Path}
use Rattle.host_core.specs.World.{World, Change, Avoids, SameOn}
use Rattle.host_core.specs.Events.{Event, follow_all, changes_of}
use Rattle.host_core.specs.Unsynced.{unsynced, IsSettled}
use Rattle.host_core.specs.Host.{State, Since}
use Rattle.host_core.specs.Loss.{writes, HasNoBarrier, IsBlurred, IsMoment, IsLoss, LosesSince, IsLike, IsLikeAStop, IsLikeOne, ScriptsAvoid}
use Rattle.host_core.proofs.Losses.{blurred_same, loss_is_like_a_stop, since_loss_one}
use Rattle.scattered_losses.specs.Scattered.{has_slash, parent_of, is_in, within, IsScattered, LosesScattered, IsLeftInOrder}

-- directories

none_slashed : (u : Path) → has_slash u ≡ false → parent_of u ≡ []
none_slashed [] free = refl
none_slashed (b ∷ rest) free = ap (λ s. cond s (b ∷ parent_of rest) []) (right_false (nat_eq 47 b) (has_slash rest) free)
  where
    right_false : (a c : Bool) → a || c ≡ false → c ≡ false
    right_false true c is = absurd (true≢false is)
    right_false false c is = is

slash_before : (p u : Path) → has_slash u ≡ false → has_slash (p ++ u) ≡ has_slash p
slash_before [] u free = free
slash_before (b ∷ p) u free = ap (λ s. nat_eq 47 b || s) (slash_before p u free)

-- an ending without a slash leaves a name in its directory
pub parent_beside : (p u : Path) → has_slash u ≡ false → parent_of (p ++ u) ≡ parent_of p
parent_beside [] u free = none_slashed u free
parent_beside (b ∷ p) u free =
    ap (λ s. cond s (b ∷ parent_of (p ++ u)) []) (slash_before p u free) ∙ ap (λ d. cond (has_slash p) (b ∷ d) []) (parent_beside p u free)

pub is_in_own : (q : Path) → is_in (parent_of q) q ≡ true
is_in_own q = (bytes_eq-Decides (parent_of q) (parent_of q)).1 refl

pub in_parent : (d q : Path) → parent_of q ≡ d → is_in d q ≡ true
in_parent d q is = (bytes_eq-Decides (parent_of q) d).1 is

both_of : (a b : Bool) → a && b ≡ true → (a ≡ true) × (b ≡ true)
both_of true true is = (refl, refl)
both_of true false is = absurd (false≢true is)
both_of false b is = absurd (false≢true is)

both : (a b : Bool) → a ≡ true → b ≡ true → a && b ≡ true
both a b first second = ap (λ x. x && b) first ∙ second

pub in_own : (kept : Path → Bool) (q : Path) → kept q ≡ true → within kept (parent_of q) q ≡ true
in_own kept q here = both (kept q) (is_in (parent_of q) q) here (is_in_own q)

pub in_directory : (kept : Path → Bool) (d q : Path) → kept q ≡ true → parent_of q ≡ d → within kept d q ≡ true
in_directory kept d q here is = both (kept q) (is_in d q) here (in_parent d q is)

-- what avoids the kept paths avoids those in a directory

less_kept : (a b : Bool) → a ≡ false → a && b ≡ false
less_kept a b out = ap (λ x. x && b) out

pub avoids_within : (kept : Path → Bool) (d : Path) (c : Change) → Avoids kept c → Avoids (within kept d) c
avoids_within kept d [] all = tt
avoids_within kept d (e ∷ c) all = (less_kept (kept e.0) (is_in d e.0) all.0, avoids_within kept d c all.1)

pub scripts_within : (kept : Path → Bool) (d : Path) (old new : State) → ScriptsAvoid kept old new → ScriptsAvoid (within kept d) old new
scripts_within kept d old new avoid = record { wrote = avoid.wrote; changes = avoid.changes; avoids = avoids_within kept d avoid.wrote avoid.avoids }

-- what is left in a directory, and elsewhere another world
abbrev pub joined : Path → World → World → World
joined d left there q = cond (is_in d q) (left q) (there q)

module _ (wrote : Change) (old : State) (moment : List Event) (left : World) (loss : IsScattered wrote old moment left) (d : Path) where
  abbrev upto : List Event
  upto = loss.durable ++ loss.front d

  abbrev there : World
  there = follow_all upto old.world

  -- at a path in the directory, what holds of its own front
  moved_front : (q : Path) → is_in d q ≡ true → loss.durable ++ loss.front (parent_of q) ≡ upto
  moved_front q is = ap (λ e. loss.durable ++ loss.front e) ((bytes_eq-Decides (parent_of q) d).0 is)

  whole_at : (q : Path) (t : Bool) → is_in d q ≡ t → writes wrote q ≡ false → unsynced (old.events ++ upto) q ≡ false → joined d left there q ≡ there q
  whole_at q true is free s =
      ap (λ b. cond b (left q) (there q)) is ∙ loss.whole q free (ap (λ l. unsynced (old.events ++ l) q) (moved_front q is) ∙ s) ∙ ap (λ l. follow_all l old.world q) (moved_front q is)
  whole_at q false is free s = ap (λ b. cond b (left q) (there q)) is

  bytes_at : (q : Path) (t : Bool) → is_in d q ≡ t → writes wrote q ≡ false → unsynced (old.events ++ upto) q ≡ true → IsBlurred (there q) (joined d left there q)
  bytes_at q true is free s =
      subst (IsBlurred (there q)) (sym (ap (λ b. cond b (left q) (there q)) is))
      (subst (λ l. IsBlurred (follow_all l old.world q) (left q)) (moved_front q is) (loss.bytes q free (ap (λ l. unsynced (old.events ++ l) q) (moved_front q is) ∙ s)))
  bytes_at q false is free s = blurred_same (there q) (joined d left there q) (ap (λ b. cond b (left q) (there q)) is)

  -- the front of one directory for all
  pub loss_in_order : IsLoss wrote old moment (joined d left there)
  loss_in_order = record {
    durable = loss.durable;
    front = loss.front d;
    rest = loss.rest d;
    split = loss.split ∙ ap (λ l. loss.durable ++ l) (loss.fronts d);
    late = subst HasNoBarrier (loss.fronts d) loss.unflushed;
    whole = λ q free s. whole_at q (is_in d q) refl free s;
    bytes = λ q free s. bytes_at q (is_in d q) refl free s;
  }

-- THE LAW: directory by directory it is a loss in one order of all names
pub left_in_order : (begun old new : State) (left : World) (d : Path) → LosesScattered begun old new left → IsLeftInOrder begun old new d left
left_in_order begun old new left d loses = record {
  ordered = joined d left (follow_all (loses.loss.durable ++ loses.loss.front d) old.world);
  loses = record {
    earlier = loses.earlier;
    session = loses.session;
    added = loses.added;
    events = loses.events;
    moment = loses.moment;
    is = loses.is;
    loss = loss_in_order (changes_of (loses.earlier ++ loses.moment)) old loses.moment left loses.loss d;
  };
  same = λ q is. sym (ap (λ b. cond b (left q) (follow_all (loses.loss.durable ++ loses.loss.front d) old.world q)) is);
}

like_in : (kept : Path → Bool) (d : Path) (w one left : World) → IsLike (within kept d) w one → SameOn (is_in d) one left → IsLike (within kept d) w left
like_in kept d w one left like same = record {
  whole = λ q here proper. same q (both_of (kept q) (is_in d q) here).1 ∙ like.whole q here proper;
  bytes = λ q here t. subst (IsBlurred (w q)) (sym (same q (both_of (kept q) (is_in d q) here).1)) (like.bytes q here t);
}

-- so it leaves what a stop leaves, all names of one directory as at the same one
pub stop_within : (kept : Path → Bool) (begun old new : State) (left : World) → IsSettled new.events → ScriptsAvoid kept begun new → LosesScattered begun old new left
    → (d : Path) → IsLikeAStop (within kept d) old new left
stop_within kept begun old new left settled scripts loses d =
    let one = left_in_order begun old new left d loses in
    let like = loss_is_like_a_stop (within kept d) begun old new one.ordered settled (scripts_within kept d begun new scripts) one.loses in
    record { added = like.added; events = like.events; stop = like.stop; is = like.is; avoids = like.avoids; like = like_in kept d (follow_all like.stop old.world) one.ordered left like.like one.same }

-- what holds at each moment holds of a world that is like what is left in the directory
pub since_within : (kept : Path → Bool) (P : List Event → World → Type 0) (begun old new : State) (left : World) → IsTrue new.honest → IsSettled new.events → ScriptsAvoid kept begun new
    → Since P old new → LosesScattered begun old new left → (d : Path) → IsLikeOne (within kept d) P left
since_within kept P begun old new left h settled scripts since loses d =
    let one = left_in_order begun old new left d loses in
    let like = since_loss_one (within kept d) P begun old new one.ordered h settled (scripts_within kept d begun new scripts) since one.loses in
    (like.0, like.1, like.2, like.3, like_in kept d like.1 one.ordered left like.4 one.same)

-- which losses there are

-- one front for all directories
pub scattered_by_one : (begun old new : State) (left : World) → LosesSince begun old new left → LosesScattered begun old new left
scattered_by_one begun old new left loses = record {
  earlier = loses.earlier;
  session = loses.session;
  added = loses.added;
  events = loses.events;
  moment = loses.moment;
  is = loses.is;
  loss = record {
    durable = loses.loss.durable;
    late = loses.loss.front ++ loses.loss.rest;
    split = loses.loss.split;
    unflushed = loses.loss.late;
    front = λ d. loses.loss.front;
    rest = λ d. loses.loss.rest;
    fronts = λ d. refl;
    whole = loses.loss.whole;
    bytes = loses.loss.bytes;
  };
}

-- and any choice of fronts
pub any_fronts : (begun old new : State) (earlier added durable late : List Event) (front rest : Path → List Event) → old.events ≡ begun.events ++ earlier → new.events ≡ old.events ++ added
    → IsMoment added (durable ++ late) → HasNoBarrier late → ((d : Path) → late ≡ front d ++ rest d)
    → LosesScattered begun old new (λ q. follow_all (durable ++ front (parent_of q)) old.world q)
any_fronts begun old new earlier added durable late front rest session events is none fronts = record {
  earlier = earlier;
  session = session;
  added = added;
  events = events;
  moment = durable ++ late;
  is = is;
  loss = record {
    durable = durable;
    late = late;
    split = refl;
    unflushed = none;
    front = front;
    rest = rest;
    fronts = fronts;
    whole = λ q free s. refl;
    bytes = λ q free u. blurred_same _ _ refl;
  };
}
