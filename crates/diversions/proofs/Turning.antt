-- A node is moved so that the names of one directory alone change between two barriers.
use Rattle.std.specs.Prelude.{◌≡◌, ◌≢◌, ◌⊎◌, ◌≤◌, ◌++◌, ◌∷◌, [], Bool, true, false, cond, List, None, IsTrue, OnOk, Result, Ok, Err}
use Rattle.std.proofs.Common.{refl, sym, ◌∙◌, ap, subst, inl, inr, append_assoc, arith}
use Rattle.std.specs.Str.{bytes_eq}
use Rattle.std.proofs.lemmas.Bool.{true≢false}
use Rattle.std.proofs.lemmas.Slice.Eq.{bytes_eq-Decides}
use Rattle.host_core.specs.Paths.{Path}
use Rattle.host_core.specs.World.{World, Step, HardLink, Take, Barrier, SyncRoot, after, moved, put, IsLoose, IsPart, SameOn}
use Rattle.host_core.specs.Events.{Event, Did, denials_of}
use Rattle.host_core.specs.Host.{AtEachMoment, Does, HasDeclined, Reads, Since, State, denials}
use Rattle.host_core.specs.Loss.{IsLater, IsOnDisk}
use Rattle.host_core.specs.declared.fault.HostFault.{HostFault}
use Rattle.host_core.specs.declared.node.Node.{Node}
use Rattle.host_core.proofs.Barriers.{on_disk}
use Rattle.host_core.proofs.Counted.{denials_of-append}
use Rattle.host_core.proofs.Moments.{grown, since_barrier, since_does, since_reads, since_start, since_then, since_weaker}
use Rattle.host_core.proofs.WorldLaws.{put_same, put_other}
use Rattle.administration.specs.Files.{IsReplacing}
use Rattle.administration.specs.Places.{home_path, diversions_path, temporary}
use Rattle.scattered_losses.specs.Scattered.{is_in, parent_of}
use Rattle.scattered_losses.specs.Turns.{GoByTurns, IsQuiet, KeepsOutside, TakeTurns}
use Rattle.scattered_losses.proofs.ByDirectory.{in_parent}
use Rattle.scattered_losses.proofs.Parted.{apart_here}
use Rattle.scattered_losses.proofs.TakingTurns.{quiet_on_disk, quiet_then, turns_by_moments, turns_on, turns_then}
use Rattle.diversions.specs.Changes.{BeginsOnDisk, CanMove, IsMoving, IsSame, doubled_if, moved_if}
use Rattle.diversions.specs.Turns.{GoesByTurns}

-- one step, and a barrier

-- of a step without parts
pub since_one : {T : Type 0} (result : Result T HostFault) (s : Step) (a b : State) → ((t : Step) → IsPart s t → ⊥) → Does s a b result → Since (λ so_far now. (now ≡ a.world) ⊎ (now ≡ after s a.world)) a b
since_one result s a b whole does =
    since_does (λ now. (now ≡ a.world) ⊎ (now ≡ after s a.world)) result s a b does (λ h. record { before = inl refl; inside = λ t part. absurd (whole t part); behind = inr refl })

pub disk_behind : {T : Type 0} (result : Result T HostFault) (a b : State) → Does Barrier a b result → OnOk result (IsOnDisk b.events)
disk_behind (Ok x) a b does = on_disk a b does
disk_behind (Err e) a b does = tt

pub always : {T E Q : Type 0} (result : Result T E) → Q → OnOk result Q
always (Ok x) q = q
always (Err e) q = tt

pub barrier_same : {T : Type 0} (area : Path → Bool) (result : Result T HostFault) (a b : State) → Does Barrier a b result → AtEachMoment (SameOn area) a b
barrier_same area result a b does = since_barrier (SameOn area a.world) result a b does (λ h q there. refl)

pub later_by : (Q : List Event → World → Type 0) (a b : State) → Since Q a b → IsLater a b
later_by Q a b since = since_weaker Q _ a b (λ so_far w is. tt) since

pub later_then : (a b c : State) → IsLater a b → IsLater b c → IsLater a c
later_then a b c first second = since_then _ a b c first second

-- whatever comes behind what was brought to the disk first
pub begins_then : (a b c : State) → BeginsOnDisk a b → IsLater b c → BeginsOnDisk a c
begins_then a b c (fs, rest, all, events) later =
    (fs, rest ++ later.added, all, grown a.events b.events c.events (fs ++ Did SyncRoot ∷ rest) later.added events later.events ∙ ap (λ (l : List Event). a.events ++ l) (append_assoc fs (Did SyncRoot ∷ rest) later.added))

-- which names change

-- a path that isn't in a path's directory is another one
elsewhere : (d p q : Path) → parent_of p ≡ d → is_in d q ≡ false → q ≢ p
elsewhere d p q here out e = true≢false (sym (in_parent d p here) ∙ ap (is_in d) (sym e) ∙ out)

pub put_alone : (area : Path → Bool) (p : Path) (n : World → World) (old now : World) → ((q : Path) → q ≢ p → n old q ≡ old q) → (now ≡ old) ⊎ (now ≡ n old) → KeepsOutside area (parent_of p) old now
put_alone area p n old now still (inl same) q here out = ap (λ w. w q) same
put_alone area p n old now still (inr goes) q here out = ap (λ w. w q) goes ∙ still q (elsewhere (parent_of p) p q refl out)

pub table_alone : (area : Path → Bool) (node : Node) (old now : World) → IsReplacing diversions_path node old now → KeepsOutside area home_path old now
table_alone area node old now is q here out = is.rest q (elsewhere home_path diversions_path q refl out) (elsewhere home_path (temporary diversions_path) q refl out)

pub start : (s : State) → IsLater s s
start s = since_start (λ so_far w. Unit {0}) s tt

pub turns_still : (area : Path → Bool) (a b : State) → IsTrue b.honest → Since (λ so_far now. now ≡ a.world) a b → TakeTurns area a b × IsQuiet area a b
turns_still area a b h since =
    let here = apart_here area a (since.honest h) in
    let same : AtEachMoment (SameOn area) a b = since_weaker (λ so_far now. now ≡ a.world) (λ so_far. SameOn area a.world) a b (λ so_far w is q there. ap (λ v. v q) is) since in
    (turns_on area a a b h (start a) same here.0.turns, quiet_then area a a b h (start a) same here.1)

-- behind a barrier, or where nothing was done
pub quiet_rests : (area : Path → Bool) (a b c : State) → IsQuiet area a b → IsOnDisk c.events ⊎ (c ≡ b) → IsQuiet area a c
quiet_rests area a b c quiet (inl disk) = quiet_on_disk area a c disk
quiet_rests area a b c quiet (inr same) = subst (IsQuiet area a) (sym same) quiet

-- no step was declined

pub denials_grow : (a b : State) → IsLater a b → denials a ≤ denials b
denials_grow a b later = omega (arith, ap denials_of later.events, denials_of-append a.events later.added)

pub none_within : (a b c d : State) → IsLater a b → IsLater b c → IsLater c d → denials d ≡ denials a → denials c ≡ denials b
none_within a b c d first second third none = omega (arith, denials_grow a b first, denials_grow b c second, denials_grow c d third, none)

pub none_declined : (a b c : State) → HasDeclined a b → IsLater b c → denials c ≡ denials a → ⊥
none_declined a b c declined later none = omega (arith, declined.denials, denials_grow b c later, none)

pub goes_here : (s : State) → GoesByTurns s s
goes_here s none area h = (apart_here area s h).0.turns

-- the node

bool_cases : (b : Bool) → (b ≡ true) ⊎ (b ≡ false)
bool_cases true = inl refl
bool_cases false = inr refl

pub either_path : (q p : Path) → (q ≡ p) ⊎ (q ≢ p)
either_path q p = elim (bool_cases (bytes_eq q p)) [
  | inl same ↦ inl ((bytes_eq-Decides q p).0 same)
  | inr other ↦ inr (λ e. true≢false (sym ((bytes_eq-Decides q p).1 e) ∙ other))
]

module _ (w : World) (from to : Path) (other : from ≢ to) where
  pub moved_from : (q : Path) → q ≡ from → moved w from to q ≡ None
  moved_from q e = put_other (put w from None) to q (w from) (λ f. other (sym e ∙ f)) ∙ put_same w from q None e

  pub moved_to : (q : Path) → q ≡ to → moved w from to q ≡ w from
  moved_to q e = put_same (put w from None) to q (w from) e

  pub moved_rest : (q : Path) → q ≢ from → q ≢ to → moved w from to q ≡ w q
  moved_rest q no_from no_to = put_other (put w from None) to q (w from) no_to ∙ put_other w from q None no_from

  -- the old name is taken away, where the node has both
  pub doubled_taken : IsSame (moved w from to) (put (put w to (w from)) from None)
  doubled_taken q = elim (either_path q from) [
    | inl e ↦ put_same (put w to (w from)) from q None e ∙ sym (moved_from q e)
    | inr away ↦ put_other (put w to (w from)) from q None away ∙ elim (either_path q to) [
      | inl e ↦ put_same w to q (w from) e ∙ sym (moved_to q e)
      | inr far ↦ put_other w to q (w from) far ∙ sym (moved_rest q away far)
    ]
  ]

  pub twice_taken : w to ≡ w from → IsSame (moved w from to) (put w from None)
  twice_taken both q = elim (either_path q from) [
    | inl e ↦ put_same w from q None e ∙ sym (moved_from q e)
    | inr away ↦ put_other w from q None away ∙ elim (either_path q to) [
      | inl e ↦ ap w e ∙ both ∙ sym (moved_to q e)
      | inr far ↦ sym (moved_rest q away far)
    ]
  ]

pub moving_taken : (moves : Bool) (from to a : Path) (old now : World) → moves ≡ true → a ≡ from → from ≢ to → old to ≡ old from → (now ≡ old) ⊎ (now ≡ put old a None) → IsMoving moves from to old now
moving_taken moves from to a old now is at other both (inl same) = inl same
moving_taken true from to a old now is at other both (inr gone) = inr (inr (λ q. ap (λ v. v q) (gone ∙ ap (λ p. put old p None) at) ∙ twice_taken old from to other both q))
moving_taken false from to a old now is at other both (inr gone) = absurd (true≢false (sym is))

pub moving_is : (moves : Bool) (from to a b : Path) (old now : World) → moves ≡ true → a ≡ from → b ≡ to → IsMoving true a b old now → IsMoving moves from to old now
moving_is moves from to a b old now is at on goes = subst (λ m. IsMoving m from to old now) (sym is) (subst (λ p. IsMoving true p to old now) at (subst (λ p. IsMoving true a p old now) on goes))

pub moved_taken : (moves : Bool) (from to a : Path) (old now : World) → moves ≡ true → a ≡ from → from ≢ to → old to ≡ old from → now ≡ put old a None → IsSame (moved_if moves from to old) now
moved_taken true from to a old now is at other both gone q = ap (λ v. v q) (gone ∙ ap (λ p. put old p None) at) ∙ twice_taken old from to other both q
moved_taken false from to a old now is at other both gone q = absurd (true≢false (sym is))

pub moved_there : (moves : Bool) (from to a b : Path) (old now : World) → moves ≡ true → a ≡ from → b ≡ to → IsSame (moved old a b) now → IsSame (moved_if moves from to old) now
moved_there moves from to a b old now is at on goes = subst (λ m. IsSame (moved_if m from to old) now) (sym is) (subst (λ p. IsSame (moved old p to) now) at (subst (λ p. IsSame (moved old a p) now) on goes))

pub can_twice : (twice : Bool) (from to : Path) (w : World) → twice ≡ true → CanMove twice from to w → w to ≡ w from
can_twice true from to w is can = can.target
can_twice false from to w is can = absurd (true≢false (sym is))

pub can_free : (twice : Bool) (from to : Path) (w : World) → twice ≡ false → CanMove twice from to w → w to ≡ None
can_free true from to w is can = absurd (true≢false is)
can_free false from to w is can = can.target

-- it has both names, and then the new one alone
pub moving_left : (from to : Path) (old mid now : World) → from ≢ to → mid ≡ put old to (old from) → (now ≡ mid) ⊎ (now ≡ put mid from None) → IsMoving true from to old now
moving_left from to old mid now other is (inl same) = inr (inl (same ∙ is))
moving_left from to old mid now other is (inr gone) = inr (inr (λ q. ap (λ v. v q) (gone ∙ ap (λ v. put v from None) is) ∙ doubled_taken old from to other q))

pub moving_second : (from to : Path) (old now : World) → (now ≡ old) ⊎ (now ≡ after (HardLink from to) old) → IsMoving true from to old now
moving_second from to old now (inl same) = inl same
moving_second from to old now (inr both) = inr (inl both)

pub moving_over : (from to : Path) (old mid now : World) → mid ≡ old → (now ≡ mid) ⊎ (now ≡ moved mid from to) → IsMoving true from to old now
moving_over from to old mid now is (inl same) = inl (same ∙ is)
moving_over from to old mid now is (inr goes) = inr (inr (λ q. ap (λ v. v q) (goes ∙ ap (λ v. moved v from to) is)))

-- all is brought to the disk first
pub begun_by : {T : Type 0} (result : Result T HostFault) (a b : State) → Does SyncRoot a b result → OnOk result (BeginsOnDisk a b)
begun_by (Ok x) a b does = ([], [], tt, does.events)
begun_by (Err e) a b does = tt

-- what is looked at leaves all as it was

pub looks_turn : (a b : State) → Reads a b → GoesByTurns a b
looks_turn a b reads none area h = (turns_still area a b h (since_reads (λ so_far now. now ≡ a.world) a b reads (λ fs all. refl))).0

pub looks_then_turn : (a b c : State) → Reads a b → IsLater b c → GoesByTurns b c → GoesByTurns a c
looks_then_turn a b c reads later goes none area h =
    let since : Since (λ so_far now. now ≡ a.world) a b = since_reads (λ so_far now. now ≡ a.world) a b reads (λ fs all. refl) in
    let still = turns_still area a b (later.honest h) since in
    let first = later_by _ a b since in
    turns_then area a b c first later still.0 still.1 (goes (none_within a b c c first later (start c) none) area h)

-- behind a change nothing changes
pub turns_still_behind : (Q : List Event → World → Type 0) (a b c : State) → Since Q a b → GoesByTurns a b → Since (λ so_far now. now ≡ b.world) b c → GoesByTurns a c
turns_still_behind Q a b c since goes still none area h =
    let first = later_by Q a b since in
    let second = later_by _ b c still in
    turns_on area a b c h first (since_weaker (λ so_far now. now ≡ b.world) (λ so_far. SameOn area b.world) b c (λ so_far w is q there. ap (λ v. v q) is) still)
    (goes (none_within a a b c (start a) first second none) area (still.honest h))
