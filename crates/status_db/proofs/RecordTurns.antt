-- The directory of the status file and that of the notes take turns.
use Rattle.std.specs.Prelude.{◌≡◌, ◌≢◌, ◌+◌, ◌/◌, ◌%◌, ◌||◌, ℕ, Bool, true, false, List, [], ◌∷◌, ◌++◌, IsTrue, OnOk, Result, Ok, nat_eq, codes}
use Rattle.std.proofs.Common.{refl, sym, ◌∙◌, ap, arith}
use Rattle.std.proofs.lemmas.Bool.{true≢false}
use Rattle.std.proofs.lemmas.Bool.Decides.{nat_tests}
use Rattle.host_core.specs.Paths.{Path}
use Rattle.host_core.specs.World.{World, SameOn, Barrier}
use Rattle.host_core.specs.Events.{Did}
use Rattle.host_core.specs.Host.{AtEachMoment, Does, Falls, Happens, State}
use Rattle.host_core.specs.Loss.{IsLater, IsOnDisk}
use Rattle.host_core.specs.declared.fault.HostFault.{HostFault}
use Rattle.host_core.specs.declared.node.Node.{Node}
use Rattle.host_core.proofs.Barriers.{on_disk}
use Rattle.host_core.proofs.Moments.{since_start, since_then, since_weaker}
use Rattle.administration.specs.Files.{IsReplacing}
use Rattle.administration.specs.Places.{home_path, status_path, temporary, updates_path}
use Rattle.status_db.specs.Held.{is_record_place}
use Rattle.status_db.specs.Notes.{digits, note_path}
use Rattle.status_db.specs.Taking.{IsTakingNotes}
use Rattle.status_db.specs.Noting.{IsNoting}
use Rattle.status_db.proofs.Barriered.{always, moments_before, so_too}
use Rattle.status_records.specs.declared.record.Record.{Record}
use Rattle.scattered_losses.specs.Scattered.{has_slash, is_in, parent_of}
use Rattle.scattered_losses.specs.Apart.{GoBehindBarrier, IsApart, WaitsForBarrier, WorksApart}
use Rattle.scattered_losses.specs.Turns.{GoByTurns, IsQuiet, KeepsOutside, TakeTurns}
use Rattle.scattered_losses.proofs.ByDirectory.{in_parent, parent_beside}
use Rattle.scattered_losses.proofs.Parted.{alone_apart, apart_here, barrier_apart, waits_behind, waits_then}
use Rattle.scattered_losses.proofs.TakingTurns.{quiet_on_disk, turns_by_moments, turns_on, turns_then}

-- which directories the places of records lie in

no_slash : (k : ℕ) → nat_eq 47 (48 + k) ≡ false
no_slash k = grind (arith, nat_tests)

neither : (a b : Bool) → a ≡ false → b ≡ false → a || b ≡ false
neither a b first second = ap (λ x. x || b) first ∙ second

digits_slashless : (n : ℕ) → has_slash (digits n) ≡ false
digits_slashless n =
    neither _ _ (no_slash (n / 1000)) (neither _ _ (no_slash (n / 100 % 10)) (neither _ _ (no_slash (n / 10 % 10)) (neither _ _ (no_slash (n % 10)) refl)))

note_in : (n : ℕ) → parent_of (note_path n) ≡ updates_path
note_in n = parent_beside (codes "/var/lib/dpkg/updates/") (digits n) (digits_slashless n)

spare_in : (n : ℕ) → parent_of (temporary (note_path n)) ≡ updates_path
spare_in n = parent_beside (note_path n) (codes ".dpkg-inst") refl ∙ note_in n

-- a path that isn't in a directory is none that is
elsewhere : (d p q : Path) → parent_of p ≡ d → is_in d q ≡ false → q ≢ p
elsewhere d p q here out e = true≢false (sym (in_parent d p here) ∙ ap (is_in d) (sym e) ∙ out)

pub note_alone : (n : ℕ) (node : Node) (old now : World) → IsReplacing (note_path n) node old now → KeepsOutside is_record_place updates_path old now
note_alone n node old now is q here out = is.rest q (elsewhere updates_path (note_path n) q (note_in n) out) (elsewhere updates_path (temporary (note_path n)) q (spare_in n) out)

pub status_alone : (node : Node) (old now : World) → IsReplacing status_path node old now → KeepsOutside is_record_place home_path old now
status_alone node old now is q here out = is.rest q (elsewhere home_path status_path q refl out) (elsewhere home_path (temporary status_path) q refl out)

pub taking_alone : (old now : World) → IsTakingNotes old now → KeepsOutside is_record_place updates_path old now
taking_alone old now is q here out = is.1.rest q (λ n lt. elsewhere updates_path (note_path n) q (note_in n) out)

-- how turns go on

pub later_by : (P : World → World → Type 0) (a b : State) → AtEachMoment P a b → IsLater a b
later_by P a b since = since_weaker (λ so_far. P a.world) _ a b (λ so_far w is. tt) since

pub goes_here : (s : State) → GoByTurns is_record_place s s
goes_here s h = turns_by_moments is_record_place home_path s s h (since_start (λ so_far. KeepsOutside is_record_place home_path s.world) s (λ q here out. refl))

barrier_same : {T : Type 0} (result : Result T HostFault) (a b : State) → Does Barrier a b result → AtEachMoment (SameOn is_record_place) a b
barrier_same result a b does = moments_before result a a b (SameOn is_record_place) (since_start (λ so_far. SameOn is_record_place a.world) a (λ q here. refl)) does

-- a barrier changes nothing
pub turns_to_barrier : {T : Type 0} (result : Result T HostFault) (begun a b : State) → IsLater begun a → TakeTurns is_record_place begun a → Does Barrier a b result → GoByTurns is_record_place begun b
turns_to_barrier result begun a b later turns does h = turns_on is_record_place begun a b h later (barrier_same result a b does) turns

-- and behind it one directory changes
pub turns_from_barrier : (d : Path) (begun a b c : State) → IsLater begun a → TakeTurns is_record_place begun a → Happens (Did Barrier ∷ []) a b → AtEachMoment (KeepsOutside is_record_place d) b c → GoByTurns is_record_place begun c
turns_from_barrier d begun a b c later turns does since h =
    let same = barrier_same {T = Unit {0}} (Ok tt) a b does in
    turns_then is_record_place begun b c (since_then _ begun a b later (later_by (SameOn is_record_place) a b same)) (later_by (KeepsOutside is_record_place d) b c since)
    (turns_on is_record_place begun a b (since.honest h) later same turns) (quiet_on_disk is_record_place begun b (on_disk a b does)) (turns_by_moments is_record_place d b c h since)

-- and then comes another barrier
pub turns_through_barrier : {T : Type 0} (d : Path) (begun a b c e : State) (result : Result T HostFault) → IsLater begun a → TakeTurns is_record_place begun a → Happens (Did Barrier ∷ []) a b → AtEachMoment (KeepsOutside is_record_place d) b c
    → Does Barrier c e result → Falls c e → GoByTurns is_record_place begun e
turns_through_barrier d begun a b c e result later turns does since last falls h =
    let same = barrier_same {T = Unit {0}} (Ok tt) a b does in
    turns_to_barrier result begun c e (since_then _ begun b c (since_then _ begun a b later (later_by (SameOn is_record_place) a b same)) (later_by (KeepsOutside is_record_place d) b c since))
    (turns_from_barrier d begun a b c later turns does since (falls h)) last h

-- the records' places wait for a barrier

pub waits_here : (s : State) → GoBehindBarrier is_record_place s s
waits_here s h = (apart_here is_record_place s h).0.waits

pub waits_at : {T : Type 0} (result : Result T HostFault) (a b : State) → Does Barrier a b result → GoBehindBarrier is_record_place a b
waits_at result a b does h = (barrier_apart is_record_place result a b h does).0.waits

-- behind a barrier there is what was done, and maybe another barrier
pub waits_before_barrier : {T : Type 0} (P : World → World → Type 0) (result : Result T HostFault) (a b c d : State) → Happens (Did Barrier ∷ []) a b → AtEachMoment P b c → Does Barrier c d result → GoBehindBarrier is_record_place a d
waits_before_barrier P result a b c d does since last h =
    waits_behind is_record_place a b d h does (since_then _ b c d (later_by P b c since) (later_by (SameOn is_record_place) c d (barrier_same result c d last)))

pub waits_on : (P : World → World → Type 0) (a b c : State) → Happens (Did Barrier ∷ []) a b → AtEachMoment P b c → GoBehindBarrier is_record_place a c
waits_on P a b c does since h = waits_behind is_record_place a b c h does (later_by P b c since)

pub waits_too : (P Q : World → World → Type 0) (a b c : State) → AtEachMoment P a b → AtEachMoment Q b c → GoBehindBarrier is_record_place a b → GoBehindBarrier is_record_place b c → GoBehindBarrier is_record_place a c
waits_too P Q a b c first second early late h = waits_then is_record_place a b c (later_by P a b first) (later_by Q b c second) (early (second.honest h)) (late h)

-- a barrier, and turns behind it
pub turns_since_barrier : (P : World → World → Type 0) (a b c : State) → Happens (Did Barrier ∷ []) a b → AtEachMoment P b c → GoByTurns is_record_place b c → GoByTurns is_record_place a c
turns_since_barrier P a b c does since again h =
    let first = barrier_apart {T = Unit {0}} is_record_place (Ok tt) a b (since.honest h) does in
    turns_then is_record_place a b c (later_by (SameOn is_record_place) a b (barrier_same {T = Unit {0}} (Ok tt) a b does)) (later_by P b c since) first.0.turns first.1 (again h)

-- records alone are noted
pub noted_apart : {T E : Type 0} (result : Result T E) (before after : List Record) (a b : State) → AtEachMoment (IsNoting before after) a b → GoByTurns is_record_place a b → GoBehindBarrier is_record_place a b → OnOk result (IsOnDisk b.events)
    → WorksApart result is_record_place a b
noted_apart result before after a b since turns waits disk h =
    (alone_apart is_record_place a b h (since_weaker _ _ a b (λ so_far w is. is.rest) since) (turns h) (waits h), so_too result (λ last. quiet_on_disk is_record_place a b last) disk)

pub works_here : {T E : Type 0} (result : Result T E) (s : State) → WorksApart result is_record_place s s
works_here result s h = let here = apart_here is_record_place s h in (here.0, always result here.1)
