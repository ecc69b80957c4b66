-- A barrier behind what was done.
use Rattle.std.specs.Prelude.{OnOk}
use Rattle.std.proofs.Common.{◌≡◌, ◌⊎◌, inl, inr, true, false, ℕ, nat_eq, arith, length, List, [], ◌∷◌, ◌++◌, Option, Result, Ok, Err, refl, sym, subst, ◌∙◌}
use Rattle.std.proofs.lemmas.Bool.{and_parts, eqb-true, true≢false}
use Rattle.disappearance.specs.declared.losing.Losing.{Losing}
use Rattle.diversions.specs.Ways.{Ways}
use Rattle.file_lists.specs.declared.paths.PackageList.{PackageList}
use Rattle.host_core.specs.World.{World, Barrier}
use Rattle.host_core.specs.Events.{Event, Did, scripts_of}
use Rattle.host_core.specs.Host.{State, Does, Happens, Needs, Since}
use Rattle.host_core.specs.Loss.{IsAnswered}
use Rattle.host_core.specs.declared.call.Call.{Call}
use Rattle.host_core.specs.declared.fault.HostFault.{HostFault}
use Rattle.status_db.specs.Recorded.{Recorded}
use Rattle.held_administration.specs.Order.{IsInOrder}
use Rattle.unit_stages.specs.Holding.{Holding}
use Rattle.undo_rows.specs.declared.rows.Called.{Called}
use Rattle.displaced_packages.specs.Displacing.{HaveBeenDisplaced, IsBroughtToDisk, is_nothing}
use Rattle.host_core.proofs.Barriers.{since_to_disk, answered_here}

-- also where nothing was called at all
pub since_brought : (P : List Event → World → Type 0) (result : Result Unit HostFault) (a b c : State) → ((x quiet : List Event) (w : World) → scripts_of quiet ≡ [] → P x w → P (x ++ quiet) w)
    → Since P a b → (c ≡ b) ⊎ Does Barrier b c result → Since P a c
since_brought P result a b c still first (inl same) = subst (λ (x : State). Since P a x) (sym same) first
since_brought P result a b c still first (inr does) = since_to_disk P result a b c still first does

order_barrier : (d : Recorded) (lists : List PackageList) (m t : State) → Happens (Did Barrier ∷ []) m t → Needs m (IsInOrder d lists) → Needs t (IsInOrder d lists)
order_barrier d lists m t goes order = λ h. subst (IsInOrder d lists) (sym goes.world) (order (goes.honest h))

pub order_behind : (d : Recorded) (lists : List PackageList) (losing : List Losing) (names : List (List ℕ)) (m t : State) → IsBroughtToDisk losing names m t → Needs m (IsInOrder d lists) → Needs t (IsInOrder d lists)
order_behind d lists [] [] m t same order = subst (λ (x : State). Needs x (IsInOrder d lists)) (sym same) order
order_behind d lists [] (name ∷ names) m t goes order = order_barrier d lists m t goes order
order_behind d lists (one ∷ more) names m t goes order = order_barrier d lists m t goes order

-- what is brought to the disk

pub nothing_brought : (losing : List Losing) (names : List (List ℕ)) (s : State) → is_nothing losing names ≡ true → IsBroughtToDisk losing names s s
nothing_brought [] [] s none = refl
nothing_brought [] (name ∷ names) s none = let is : length (name ∷ names) ≡ 0 = eqb-true (length (name ∷ names)) 0 (and_parts (nat_eq 0 0) (nat_eq (length (name ∷ names)) 0) none).1 in absurd (omega (arith, is))
nothing_brought (one ∷ more) names s none = let is : length (one ∷ more) ≡ 0 = eqb-true (length (one ∷ more)) 0 (and_parts (nat_eq (length (one ∷ more)) 0) (nat_eq (length names) 0) none).0 in absurd (omega (arith, is))

pub some_brought : (result : Result Unit HostFault) (losing : List Losing) (names : List (List ℕ)) (s t : State) → is_nothing losing names ≡ false → Does Barrier s t result → OnOk result (IsBroughtToDisk losing names s t)
some_brought (Ok x) [] [] s t some does = absurd (true≢false some)
some_brought (Ok x) [] (name ∷ names) s t some does = does
some_brought (Ok x) (one ∷ more) names s t some does = does
some_brought (Err fault) losing names s t some does = tt

disk_answered : (s m t : State) → Happens (Did Barrier ∷ []) m t → IsAnswered s t
disk_answered s m t goes = inl (m.events, [], goes.events, tt)

-- all of it is on the disk, or nothing was done
pub displaced_answered : (incoming version : List ℕ) (ways : Ways) (losing : List Losing) (conflicting names : List (List ℕ)) (failed : Option Call) (before after : Holding) (s t : State) (told now : List Called)
    → HaveBeenDisplaced incoming version ways losing conflicting names failed before after s t told now → IsAnswered s t
displaced_answered incoming version ways [] [] names failed before after s t told now is =
    let gone = is.gone.disappeared in
    let removed = is.gone.removed.removed in
    subst (λ (x : State). IsAnswered s x) (sym (is.disk ∙ removed.2 ∙ gone.3)) (answered_here s)
displaced_answered incoming version ways [] (one ∷ more) names failed before after s t told now is = disk_answered s is.end t is.disk
displaced_answered incoming version ways (one ∷ more) conflicting names failed before after s t told now is = disk_answered s is.end t is.disk
