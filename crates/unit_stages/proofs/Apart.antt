-- The places of records change apart from all others: part by part, call by call, stage by stage.
use Rattle.std.specs.Prelude.{Bool, List, Result, Ok, Err, OnOk, IsTrue}
use Rattle.std.proofs.Common.{IsErrAnd, ap, inl, inr, refl}
use Rattle.host_core.specs.Paths.{Path}
use Rattle.host_core.specs.World.{World, SameOn, is_kept}
use Rattle.host_core.specs.Events.{Event}
use Rattle.host_core.specs.Host.{AtEachMoment, AtEachMomentOf, OnlyScripts, Reads, Since, State}
use Rattle.host_core.specs.Loss.{IsLater}
use Rattle.host_core.proofs.Moments.{since_reads, since_weaker, since_weaker_if}
use Rattle.host_core.proofs.Scripts.{only_kept}
use Rattle.scattered_losses.specs.Apart.{IsApart, WorksApart}
use Rattle.scattered_losses.specs.Turns.{IsQuiet}
use Rattle.scattered_losses.proofs.Parted.{apart_here, apart_then, quiet_too, same_apart, same_quiet}
use Rattle.status_db.specs.Held.{is_record_place}
use Rattle.status_db.proofs.Barriered.{always, so_too}
use Rattle.unit_stages.specs.Doing.{MayDrop}
use Rattle.unit_stages.proofs.Keeping.{kept_own, own_record}
use Rattle.unit_stages.proofs.Outside.{IsOutside}
use Rattle.unit_stages.proofs.Places.{Stays, members_stay, record_within}

-- parts that note nothing leave the places of records alone

pub outside_same : (v w : World) → IsOutside v w → SameOn is_record_place v w
outside_same v w same q there = same q (record_within q there).0

pub stays_same : (v w : World) → Stays v w → SameOn is_record_place v w
stays_same v w stays q there = let r = record_within q there in stays.same q r.0 r.1

pub drop_same : (name : Path) (keep : Bool) (v w : World) → MayDrop name keep v w → SameOn is_record_place v w
drop_same name keep v w (inl same) = λ q there. ap (λ x. x q) same
drop_same name keep v w (inr drop) = stays_same v w (members_stay name v w drop.2.rest)

pub beside_apart : {T E : Type 0} (result : Result T E) (P : World → World → Type 0) (a b : State) → (IsTrue b.honest → (now : World) → P a.world now → SameOn is_record_place a.world now) → AtEachMoment P a b → WorksApart result is_record_place a b
beside_apart result P a b so since h =
    let same = since_weaker_if (λ so_far. P a.world) (λ so_far. SameOn is_record_place a.world) a b (λ h0 so_far now is. so h0 now is) since in
    (same_apart is_record_place a b h same, always result (same_quiet is_record_place a b h same))

-- where a fault is passed on nothing is asked of success
pub passed_on : {T E : Type 0} (P : E → Type 0) (Q : Type 0) (result : Result T E) → IsErrAnd result P → OnOk result Q
passed_on P Q (Ok x) told = absurd told
passed_on P Q (Err e) told = tt

-- what was done so far

abbrev pub GoesApart : State → State → Type 0
GoesApart a b = IsTrue b.honest → IsApart is_record_place a b × IsQuiet is_record_place a b

pub goes_here : (s : State) → GoesApart s s
goes_here s h = apart_here is_record_place s h

pub later_of : (P : List Event → World → Type 0) (a b : State) → Since P a b → IsLater a b
later_of P a b since = since_weaker P _ a b (λ so_far w is. tt) since

module _ (a b c : State) (first : IsLater a b) (second : IsLater b c) (early : GoesApart a b) where
  pub goes_on : GoesApart b c → GoesApart a c
  goes_on late h =
      let e = early (second.honest h) in
      let l = late h in
      (apart_then is_record_place a b c first second e.0 e.1 l.0, quiet_too is_record_place a b c first second e.1 l.0.waits l.1)

  pub apart_on : (IsTrue c.honest → IsApart is_record_place b c) → IsTrue c.honest → IsApart is_record_place a c
  apart_on late h =
      let e = early (second.honest h) in
      apart_then is_record_place a b c first second e.0 e.1 (late h)

  pub works_on : {T E : Type 0} (result : Result T E) → WorksApart result is_record_place b c → WorksApart result is_record_place a c
  works_on result late h =
      let e = early (second.honest h) in
      let l = late h in
      (apart_then is_record_place a b c first second e.0 e.1 l.0, so_too result (λ quiet. quiet_too is_record_place a b c first second e.1 l.0.waits quiet) l.1)

-- script calls change no place of a record
pub scripts_apart : (places : List Path) (a b : State) → AtEachMomentOf (OnlyScripts (is_kept places)) a b → GoesApart a b
scripts_apart places a b since h =
    let same : AtEachMoment (SameOn is_record_place) a b = since_weaker (OnlyScripts (is_kept places) a.world) (λ so_far. SameOn is_record_place a.world) a b
    (λ so_far now only q there. only_kept (is_kept places) a.world now so_far only q (kept_own places q (own_record q there))) since in
    (same_apart is_record_place a b h same, same_quiet is_record_place a b h same)

-- nor does looking
pub reads_later : (a b : State) → Reads a b → IsLater a b
reads_later a b reads = since_reads _ a b reads (λ fs all. tt)

pub reads_apart : (a b : State) → Reads a b → GoesApart a b
reads_apart a b reads h =
    let same : AtEachMoment (SameOn is_record_place) a b = since_reads (λ so_far. SameOn is_record_place a.world) a b reads (λ fs all q there. refl) in
    (same_apart is_record_place a b h same, same_quiet is_record_place a b h same)
