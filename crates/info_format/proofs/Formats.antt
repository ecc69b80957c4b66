-- Format 0, step after step.
use Rattle.std.proofs.Common.{◌≡◌, ◌⊎◌, inl, inr, IsTrue, List, [], ◌∷◌, Option, None, Result, Ok, Err, refl, sym, ap, subst, ◌∙◌, Contains}
use Rattle.std.specs.Prelude.{OnOk}
use Rattle.host_core.specs.Paths.{Path}
use Rattle.host_core.specs.Events.{Did}
use Rattle.host_core.specs.Host.{State, Does, Falls, Happens, Since}
use Rattle.host_core.specs.Loss.{IsOnDisk}
use Rattle.host_core.specs.World.{World, Barrier, IsLoose, Take, put}
use Rattle.host_core.specs.declared.fault.HostFault.{HostFault}
use Rattle.host_core.proofs.Barriers.{on_disk}
use Rattle.host_core.proofs.Moments.{since_barrier, since_does, since_now, since_then, since_weaker, since_weaker_if}
use Rattle.info_format.specs.Format.{format_path}
use Rattle.info_format.specs.Steps.{AreApart, AreGiven, AreGiving, AreTaken, AreTaking, IsBringing, IsBrought}
use Rattle.info_format.specs.declared.pairs.Pair.{Pair}
use Rattle.info_format.proofs.Copies.{no_spare}
use Rattle.info_format.proofs.Steps.{taking_start}

abbrev done : Result (Unit {0}) HostFault
done = Ok tt

-- the format goes

pub since_left : {T : Type 0} (result : Result T HostFault) (format : Path) (a b : State) → Does (Take format) a b result → Since (λ so_far now. (now ≡ a.world) ⊎ (now ≡ put a.world format None)) a b
since_left result format a b does = since_does (λ now. (now ≡ a.world) ⊎ (now ≡ put a.world format None)) result (Take format) a b does (λ h. record { before = inl refl; inside = λ t part. absurd part; behind = inr refl })

pub moments_between : (format : Path) (a b c : State) → Happens (Did Barrier ∷ []) a b → Since (λ so_far now. (now ≡ b.world) ⊎ (now ≡ put b.world format None)) b c → Since (λ so_far now. (now ≡ a.world) ⊎ (now ≡ put a.world format None)) a c
moments_between format a b c goes since =
    since_then (λ so_far now. (now ≡ a.world) ⊎ (now ≡ put a.world format None)) a b c (since_barrier (λ now. (now ≡ a.world) ⊎ (now ≡ put a.world format None)) done a b goes (λ h. inl refl))
    (subst (λ (v : World). Since (λ so_far now. (now ≡ v) ⊎ (now ≡ put v format None)) b c) goes.world since)

pub left_barrier : {T : Type 0} (result : Result T HostFault) (format : Path) (old b : World) (c d : State) → b ≡ old → c.world ≡ put b format None → Does Barrier c d result → OnOk result (d.world ≡ put old format None)
left_barrier (Ok x) format old b c d is left does = does.world ∙ left ∙ ap (λ (w : World). put w format None) is
left_barrier (Err e) format old b c d is left does = tt

pub since_left_from : {T : Type 0} (result : Result T HostFault) (format : Path) (a b c : State) → Since (λ so_far now. (now ≡ a.world) ⊎ (now ≡ put a.world format None)) a b → Falls b c → Does Barrier b c result → Since (λ so_far now. (now ≡ a.world) ⊎ (now ≡ put a.world format None)) a c
since_left_from result format a b c first falls does =
    since_then (λ so_far now. (now ≡ a.world) ⊎ (now ≡ put a.world format None)) a b c first
    (since_barrier (λ now. (now ≡ a.world) ⊎ (now ≡ put a.world format None)) result b c does (λ h. since_now (λ so_far now. (now ≡ a.world) ⊎ (now ≡ put a.world format None)) a b first (falls h)))

pub disk_behind : {T : Type 0} (result : Result T HostFault) (a b : State) → Does Barrier a b result → OnOk result (IsOnDisk b.events)
disk_behind (Ok x) a b does = on_disk a b does
disk_behind (Err e) a b does = tt

module _ (pairs : List Pair) where
  -- in format 0

  start : (w : World) → AreTaking pairs w w
  start w q = inl refl

  pub moments_barrier : {T : Type 0} (result : Result T HostFault) (a b : State) → Does Barrier a b result → Since (λ so_far. AreTaking pairs a.world) a b
  moments_barrier result a b does = since_barrier (AreTaking pairs a.world) result a b does (λ h. start a.world)

  pub taking_barrier : (a b c : State) → Happens (Did Barrier ∷ []) a b → Since (λ so_far. AreTaking pairs b.world) b c → Since (λ so_far. AreTaking pairs a.world) a c
  taking_barrier a b c goes since =
      since_then (λ so_far. AreTaking pairs a.world) a b c (moments_barrier done a b goes)
      (subst (λ (v : World). Since (λ so_far. AreTaking pairs v) b c) goes.world since)

  pub taken_behind : {T : Type 0} (result : Result T HostFault) (u v w : World) → v ≡ u → OnOk result (AreTaken pairs v w) → OnOk result (AreTaken pairs u w)
  taken_behind (Ok x) u v w is taken = subst (λ (x : World). AreTaken pairs x w) is taken
  taken_behind (Err e) u v w is taken = tt

  -- from format 1

  pub moments_given : (a b : State) → Since (λ so_far. AreGiving pairs a.world) a b → Since (λ so_far. IsBringing pairs a.world) a b
  moments_given a b since = since_weaker (λ so_far. AreGiving pairs a.world) (λ so_far. IsBringing pairs a.world) a b (λ so_far w is. IsBringing.giving is) since

  pub format_loose : (old now : World) → AreApart pairs → AreGiving pairs old now → IsLoose (old format_path) → IsLoose (now format_path)
  format_loose old now apart giving is = elim (giving format_path) [
    | inl same ↦ subst IsLoose (sym same) is
    | inr (inl given) ↦ absurd ((apart.aside given.0 given.1).1 (sym given.2))
    | inr (inr aside) ↦ absurd (no_spare format_path aside.0.short refl aside.2)
  ]

  module _ (format : Path) where
    left_at : (old mid now : World) → format ≡ format_path → AreGiven pairs old mid → (now ≡ mid) ⊎ (now ≡ put mid format None) → IsBringing pairs old now
    left_at old mid now place given (inl same) = IsBringing.giving (subst (AreGiving pairs old) (sym same) given.giving)
    left_at old mid now place given (inr left) = IsBringing.taking mid given (subst (AreTaking pairs (put mid format_path None)) (sym (left ∙ ap (λ (p : Path). put mid p None) place)) (start (put mid format_path None)))

    pub moments_left : (a b c : State) → format ≡ format_path → Falls b c → (IsTrue b.honest → AreGiven pairs a.world b.world) → Since (λ so_far. AreGiving pairs a.world) a b → Since (λ so_far now. (now ≡ b.world) ⊎ (now ≡ put b.world format None)) b c → Since (λ so_far. IsBringing pairs a.world) a c
    moments_left a b c place falls given first second =
        since_then (λ so_far. IsBringing pairs a.world) a b c (moments_given a b first)
        (since_weaker_if (λ so_far now. (now ≡ b.world) ⊎ (now ≡ put b.world format None)) (λ so_far. IsBringing pairs a.world) b c (λ h so_far w is. left_at a.world b.world w place (given (falls h)) is) second)

    pub moments_taken : (a b c d : State) → format ≡ format_path → Falls b c → Falls c d → (IsTrue b.honest → AreGiven pairs a.world b.world) → (IsTrue c.honest → c.world ≡ put b.world format None) → Since (λ so_far. IsBringing pairs a.world) a c → Since (λ so_far. AreTaking pairs c.world) c d → Since (λ so_far. IsBringing pairs a.world) a d
    moments_taken a b c d place early late given left first second =
        since_then (λ so_far. IsBringing pairs a.world) a c d first
        (since_weaker_if (λ so_far. AreTaking pairs c.world) (λ so_far. IsBringing pairs a.world) c d (λ h so_far w is. IsBringing.taking b.world (given (early (late h))) (subst (λ (v : World). AreTaking pairs v w) (left (late h) ∙ ap (λ (p : Path). put b.world p None) place) is)) second)

    pub brought_by : {T : Type 0} (result : Result T HostFault) (old mid left new : World) → format ≡ format_path → AreGiven pairs old mid → left ≡ put mid format None → OnOk result (AreTaken pairs left new) → OnOk result (IsBrought pairs old new)
    brought_by (Ok x) old mid left new place given is taken = (mid, given, subst (λ (v : World). AreTaken pairs v new) (is ∙ ap (λ (p : Path). put mid p None) place) taken)
    brought_by (Err e) old mid left new place given is taken = tt
