-- What holds at each moment of a part: it is under way, the records can be opened, and no entry of `info` is a directory.
use Rattle.std.proofs.Common.{◌≡◌, inl, inr, ℕ, Bool, true, List, [], ◌∷◌, ◌∙◌, IsTrue, refl, sym, subst, arith}
use Rattle.texts.specs.PackageNames.{is_package_name}
use Rattle.host_core.specs.Host.{State, AtEachMoment, Needs}
use Rattle.host_core.proofs.Moments.{since_weaker_if}
use Rattle.host_core.specs.World.{World, IsDirectory}
use Rattle.host_core.specs.declared.node.Node.{Node}
use Rattle.host_core.specs.declared.node.Node.TheVariants.{Dir}
use Rattle.conffiles.specs.Settling.{AreSettling, CanSettle, HasSettled, IsFirstSettling}
use Rattle.conffiles.specs.declared.entries.Settled.{Settled}
use Rattle.std.proofs.lemmas.List.Elements.{All-nil}
use Rattle.file_lists.specs.Info.{AreLoose}
use Rattle.file_lists.specs.declared.paths.PackageList.{PackageList}
use Rattle.status_db.specs.Held.{IsKept}
use Rattle.status_db.specs.Recorded.{Recorded}
use Rattle.std.specs.List.{All}
use Rattle.std.specs.Prelude.{Option, Some, None, Result, Ok, Err, OnOk}
use Rattle.unit_stages.specs.Doing.{IsDoing, IsFirstDoing, MayDo, MayDrop}
use Rattle.unit_stages.specs.PartFitting.{AreSettleable}
use Rattle.held_administration.specs.Order.{IsInOrder}
use Rattle.unit_stages.specs.declared.part.Part.{Part}
use Rattle.unit_stages.specs.declared.part.Part.TheVariants.{Note, Forget, Settle, Remove, RemoveDirectories, Clear, List as Listing, DropList, DropMembers}
use Rattle.unit_stages.proofs.Order.{home_there, outside_order, own_list, taking_kept, taking_loose}
use Rattle.unit_stages.proofs.Outside.{IsOutside, settling_outside}
use Rattle.unit_stages.proofs.Places.{kept_opens}

-- where a directory stands is something
none_some : (n : Node) → None ≡ Some n → ⊥
none_some n same = cc

never_none : (there : Option Node) → IsDirectory there → there ≡ None → ⊥
never_none there is none = none_some (Dir is.0) (sym none ∙ is.1)

-- the first of some parts can be done alone
pub settle_first : (part : Part) (parts : List Part) (w : World) → AreSettleable (part ∷ parts) w → AreSettleable (part ∷ []) w
settle_first (Note r) parts w can = tt
settle_first Forget parts w can = tt
settle_first (Settle settled) parts w can = (can.0, tt)
settle_first (Remove leaving) parts w can = tt
settle_first (RemoveDirectories leaving) parts w can = tt
settle_first (Clear names) parts w can = tt
settle_first (Listing paths) parts w can = tt
settle_first DropList parts w can = tt
settle_first (DropMembers keep) parts w can = tt

module _ (name : List ℕ) (d : Recorded) (ls : List PackageList) (v : World) (order : IsInOrder d ls v) where
  -- where the records are kept
  pub kept_doing : (part : Part) (now : World) → MayDo name part d.records v now → IsKept d now → AreLoose now → IsDoing name part d.records v now
  kept_doing part now may kept loose = record { may = may; records = inl kept.holds; opens = kept_opens d now kept; loose = loose }

  -- where nothing in the administration changes
  pub outside_doing : (part : Part) (now : World) → MayDo name part d.records v now → IsOutside v now → IsDoing name part d.records v now
  outside_doing part now may same = (let o = outside_order d ls v order now same in kept_doing part now may o.kept o.loose)

  pub members_doing : (keep : Bool) (now : World) → MayDrop name keep v now → IsDoing name (DropMembers keep) d.records v now
  members_doing keep now (inl same) = kept_doing (DropMembers keep) now (inl same) (subst (IsKept d) (sym same) order.kept) (subst AreLoose (sym same) order.loose)
  members_doing keep now (inr drop) = kept_doing (DropMembers keep) now (inr drop) (taking_kept d ls v order name _ now drop.2) (taking_loose d ls v order name _ now drop.2)

  -- before anything is done

  settling_none : (list : List Settled) → All (λ e. CanSettle e.path v) list → IsFirstSettling v v list
  settling_none [] can = tt
  settling_none (e ∷ es) can = (record { files = inl refl; spare = (can 0 e (omega arith)).spare }, λ k d there. record { files = refl; spare = refl })

  settling_start : (list : List Settled) → All (λ e. CanSettle e.path v) list → AreSettling list v v
  settling_start list can = record { front = []; back = list; is = refl; settled = All-nil (HasSettled v v); next = settling_none list can; rest = λ q out. refl }

  may_start : is_package_name name ≡ true → (part : Part) → AreSettleable (part ∷ []) v → MayDo name part d.records v v
  may_start named (Note r) can = record { records = inl order.kept.holds; opens = kept_opens d v order.kept; rest = λ q out. refl }
  may_start named Forget can = record { records = inl order.kept.holds; opens = kept_opens d v order.kept; rest = λ q out. refl }
  may_start named (Settle settled) can = settling_start settled.items can.0
  may_start named (Remove leaving) can = record { each = λ p. inl refl; below = λ p is none. absurd (never_none (v p) is none) }
  may_start named (RemoveDirectories leaving) can = record { each = λ p. inl refl; below = λ p is none. absurd (never_none (v p) is none) }
  may_start named (Clear names) can = record { each = λ p. inl refl }
  may_start named (Listing paths) can = record { target = inl refl; spare = (own_list d ls v order name named).spare; rest = λ q ne spare. refl }
  may_start named DropList can = record { target = inl refl; rest = λ q ne. refl }
  may_start named (DropMembers keep) can = inl refl

  pub first_doing : is_package_name name ≡ true → (parts : List Part) → AreSettleable parts v → IsFirstDoing name parts d.records v v
  first_doing named [] can = record { same = refl; records = order.kept.holds; opens = kept_opens d v order.kept; loose = order.loose }
  first_doing named (part ∷ parts) can = kept_doing part v (may_start named part (settle_first part parts v can)) order.kept order.loose

-- what holds at each moment of a call
pub since_doing : (P : World → World → Type 0) (name : List ℕ) (part : Part) (d : Recorded) (ls : List PackageList) (a b : State) → Needs a (IsInOrder d ls)
    → ((now : World) → IsInOrder d ls a.world → P a.world now → IsDoing name part d.records a.world now) → AtEachMoment P a b → AtEachMoment (IsDoing name part d.records) a b
since_doing P name part d ls a b order so since =
    since_weaker_if (λ so_far. P a.world) (λ so_far. IsDoing name part d.records a.world) a b (λ h so_far now is. so now (order (since.honest h)) is) since

-- conffiles that can be settled as the call is made
pub since_settled : (name : List ℕ) (part : Part) (list : List Settled) (d : Recorded) (ls : List PackageList) (a b : State) → Needs a (IsInOrder d ls) → (IsTrue a.honest → All (λ e. CanSettle e.path a.world) list)
    → ((now : World) → AreSettling list a.world now → MayDo name part d.records a.world now) → AtEachMoment (AreSettling list) a b → AtEachMoment (IsDoing name part d.records) a b
since_settled name part list d ls a b order can may since =
    since_weaker_if (λ so_far. AreSettling list a.world) (λ so_far. IsDoing name part d.records a.world) a b
    (λ h so_far now is. (let h0 = since.honest h in
    outside_doing name d ls a.world (order h0) part now (may now is) (settling_outside list a.world now (home_there d ls a.world (order h0)) (can h0) is))) since

-- what a call leaves, by two of its clauses
pub on_both : {T E : Type 0} (result : Result T E) (P Q R : Type 0) → (P → Q → R) → OnOk result P → OnOk result Q → OnOk result R
on_both (Ok x) P Q R so first second = so first second
on_both (Err e) P Q R so first second = tt

-- the same by three
pub on_three : {T E : Type 0} (result : Result T E) (P Q R S : Type 0) → (P → Q → R → S) → OnOk result P → OnOk result Q → OnOk result R → OnOk result S
on_three (Ok x) P Q R S so first second third = so first second third
on_three (Err e) P Q R S so first second third = tt
