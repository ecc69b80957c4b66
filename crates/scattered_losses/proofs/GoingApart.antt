-- Work in which the names of an area change apart from all others goes on part by part, with calls of scripts between.
use Rattle.std.specs.Prelude.{◌≡◌, Bool, true, ◌||◌, List, Result, Ok, Err, OnOk, IsTrue}
use Rattle.std.specs.List.{list_any}
use Rattle.std.proofs.Common.{IsErrAnd, ap, refl}
use Rattle.host_core.specs.Paths.{Path, is_own, is_named_by}
use Rattle.host_core.specs.World.{World, SameOn, is_kept}
use Rattle.host_core.specs.Events.{Event}
use Rattle.host_core.specs.Host.{AtEachMoment, AtEachMomentOf, OnlyScripts, Reads, Since, State}
use Rattle.host_core.specs.Loss.{IsLater}
use Rattle.host_core.proofs.Moments.{since_reads, since_start, since_then, since_weaker, since_weaker_if}
use Rattle.host_core.proofs.Scripts.{only_kept}
use Rattle.scattered_losses.specs.Apart.{IsApart, WorksApart}
use Rattle.scattered_losses.specs.Turns.{IsQuiet}
use Rattle.scattered_losses.proofs.Parted.{apart_here, apart_then, quiet_too, same_apart, same_quiet}

on_any : {T E Q : Type 0} (result : Result T E) → Q → OnOk result Q
on_any (Ok x) is = is
on_any (Err e) is = tt

on_more : {T E Q R : Type 0} (result : Result T E) → (Q → R) → OnOk result Q → OnOk result R
on_more (Ok x) so is = so is
on_more (Err e) so is = tt

-- where a fault is passed on nothing is asked of success
pub passed_on : {T E : Type 0} (P : E → Type 0) (Q : Type 0) (result : Result T E) → IsErrAnd result P → OnOk result Q
passed_on P Q (Ok x) told = absurd told
passed_on P Q (Err e) told = tt

-- what was done so far, with a barrier behind the last change in the area
abbrev pub GoesApart : (Path → Bool) → State → State → Type 0
GoesApart area a b = IsTrue b.honest → IsApart area a b × IsQuiet area a b

pub later_of : (P : List Event → World → Type 0) (a b : State) → Since P a b → IsLater a b
later_of P a b since = since_weaker P _ a b (λ so_far w is. tt) since

pub goes_here : (area : Path → Bool) (s : State) → GoesApart area s s
goes_here area s h = apart_here area s h

-- work that did nothing
pub works_here : {T E : Type 0} (area : Path → Bool) (result : Result T E) (s : State) → WorksApart result area s s
works_here area result s h = let here = apart_here area s h in (here.0, on_any result here.1)

-- a part that succeeded was done, and another answer may be told of it
pub done_so : {T E : Type 0} (area : Path → Bool) (result : Result T E) (a b : State) → GoesApart area a b → WorksApart result area a b
done_so area result a b goes h = let is = goes h in (is.0, on_any result is.1)

-- what is told of a fault is nothing but that the work went apart
pub faults_so : {T E : Type 0} (area : Path → Bool) (result : Result T E) (a b : State) → (IsTrue b.honest → IsApart area a b) → OnOk result (IsQuiet area a b) → WorksApart result area a b
faults_so area result a b apart told h = (apart h, told)

-- work at each moment of which the area is as before
module _ (area : Path → Bool) (P : World → World → Type 0) (a b : State) (so : IsTrue b.honest → (now : World) → P a.world now → SameOn area a.world now) (since : AtEachMoment P a b) where
  pub beside_goes : GoesApart area a b
  beside_goes h =
      let same = since_weaker_if (λ so_far. P a.world) (λ so_far. SameOn area a.world) a b (λ h0 so_far now is. so h0 now is) since in
      (same_apart area a b h same, same_quiet area a b h same)

  pub beside_apart : {T E : Type 0} (result : Result T E) → WorksApart result area a b
  beside_apart result = done_so area result a b beside_goes

-- one part, and then another
module _ (area : Path → Bool) (a b c : State) (first : IsLater a b) (second : IsLater b c) (early : GoesApart area a b) where
  pub goes_on : GoesApart area b c → GoesApart area a c
  goes_on late h =
      let e = early (second.honest h) in
      let l = late h in
      (apart_then area a b c first second e.0 e.1 l.0, quiet_too area a b c first second e.1 l.0.waits l.1)

  pub apart_on : (IsTrue c.honest → IsApart area b c) → IsTrue c.honest → IsApart area a c
  apart_on late h =
      let e = early (second.honest h) in
      apart_then area a b c first second e.0 e.1 (late h)

  pub works_on : {T E : Type 0} (result : Result T E) → WorksApart result area b c → WorksApart result area a c
  works_on result late h =
      let e = early (second.honest h) in
      let l = late h in
      (apart_then area a b c first second e.0 e.1 l.0, on_more result (λ quiet. quiet_too area a b c first second e.1 l.0.waits quiet) l.1)

kept_own : (places : List Path) (q : Path) → is_own q ≡ true → is_kept places q ≡ true
kept_own places q own = ap (λ b. b || list_any (is_named_by q) places) own

-- script calls change nothing in an area that is the administration's own
pub scripts_apart : (area : Path → Bool) → ((q : Path) → area q ≡ true → is_own q ≡ true) → (places : List Path) (a b : State) → AtEachMomentOf (OnlyScripts (is_kept places)) a b → GoesApart area a b
scripts_apart area own places a b since h =
    let same : AtEachMoment (SameOn area) a b = since_weaker (OnlyScripts (is_kept places) a.world) (λ so_far. SameOn area a.world) a b
    (λ so_far now only q there. only_kept (is_kept places) a.world now so_far only q (kept_own places q (own q there))) since in
    (same_apart area a b h same, same_quiet area a b h same)

-- nor does looking
pub reads_later : (a b : State) → Reads a b → IsLater a b
reads_later a b reads = since_reads (λ so_far w. Unit {0}) a b reads (λ fs all. tt)

pub reads_apart : (area : Path → Bool) (a b : State) → Reads a b → GoesApart area a b
reads_apart area a b reads h =
    let same : AtEachMoment (SameOn area) a b = since_reads (λ so_far. SameOn area a.world) a b reads (λ fs all q there. refl) in
    (same_apart area a b h same, same_quiet area a b h same)

-- the same with what came later

abbrev pub HasGone : (Path → Bool) → State → State → Type 0
HasGone area a b = IsLater a b × GoesApart area a b

pub gone_here : (area : Path → Bool) (s : State) → HasGone area s s
gone_here area s = (since_start (λ so_far w. Unit {0}) s tt, goes_here area s)

pub gone_by : (area : Path → Bool) (P : List Event → World → Type 0) (a b : State) → Since P a b → GoesApart area a b → HasGone area a b
gone_by area P a b since goes = (later_of P a b since, goes)

pub gone_on : (area : Path → Bool) (a b c : State) → HasGone area a b → HasGone area b c → HasGone area a c
gone_on area a b c early late = (since_then (λ so_far w. Unit {0}) a b c early.0 late.0, goes_on area a b c early.0 late.0 early.1 late.1)

pub works_behind : {T E : Type 0} (area : Path → Bool) (result : Result T E) (a b c : State) → HasGone area a b → IsLater b c → WorksApart result area b c → WorksApart result area a c
works_behind area result a b c early later late = works_on area a b c early.0 later early.1 result late

pub faults_behind : {T E : Type 0} (area : Path → Bool) (result : Result T E) (a b c : State) → HasGone area a b → IsLater b c → (IsTrue c.honest → IsApart area b c) → OnOk result (IsQuiet area a c) → WorksApart result area a c
faults_behind area result a b c early later late told h = (apart_on area a b c early.0 later early.1 late h, told)

pub ends_so : {T E : Type 0} (area : Path → Bool) (result : Result T E) (a b : State) → HasGone area a b → WorksApart result area a b
ends_so area result a b gone = done_so area result a b gone.1

pub fails_so : {T E : Type 0} (area : Path → Bool) (result : Result T E) (a b : State) → HasGone area a b → OnOk result (IsQuiet area a b) → WorksApart result area a b
fails_so area result a b gone told h = ((gone.1 h).0, told)

pub scripts_gone : (area : Path → Bool) → ((q : Path) → area q ≡ true → is_own q ≡ true) → (places : List Path) (a b : State) → AtEachMomentOf (OnlyScripts (is_kept places)) a b → HasGone area a b
scripts_gone area own places a b since = (later_of _ a b since, scripts_apart area own places a b since)

pub reads_gone : (area : Path → Bool) (a b : State) → Reads a b → HasGone area a b
reads_gone area a b reads = (reads_later a b reads, reads_apart area a b reads)
