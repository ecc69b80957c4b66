-- A barrier behind what was done.
use Rattle.std.specs.Prelude.{◌≡◌, List, [], ◌∷◌, ◌++◌, Result, Ok, Err, IsTrue}
use Rattle.std.proofs.Common.{inl, inr, refl, sym, ap, subst, ◌∙◌}
use Rattle.std.proofs.lemmas.List.{append-nil}
use Rattle.host_core.specs.World.{World, Step, Barrier, SyncAll, SyncRoot, after, IsPart}
use Rattle.host_core.specs.Events.{Event, Did, Failed, Denied, scripts_of, follow, follow_all}
use Rattle.host_core.specs.Host.{State, Does, Happens, Since, Stops, Declines}
use Rattle.host_core.specs.Loss.{IsAnswered, IsOnDisk}
use Rattle.host_core.proofs.Moments.{ThroughEvent, declined_world, since_failed, since_fails, since_goes, since_now, since_then}
use Rattle.host_core.specs.declared.fault.HostFault.{HostFault}
use Rattle.host_core.specs.declared.fault.HostFault.TheVariants.{Device, NoMemory, Declined}

-- all is on the disk
pub on_disk : (s t : State) → Happens (Did Barrier ∷ []) s t → IsOnDisk t.events
on_disk s t goes = (s.events, [], goes.events, tt)

-- nothing was done
pub answered_here : (s : State) → IsAnswered s s
answered_here s = inr (record { honest = λ h. h; world = refl; added = []; failed = tt; events = sym (append-nil s.events) })

-- a step that changes nothing, whole or in part
pub still_world : {T : Type 0} (step : Step) (result : Result T HostFault) (s t : State) → ((w : World) → after step w ≡ w) → ((part : Step) → IsPart step part → ⊥) → Does step s t result → IsTrue t.honest
    → t.world ≡ s.world
still_world step (Ok x) s t still whole does h = does.world ∙ still s.world
still_world step (Err Device) s t still whole (Stops.nothing goes) h = goes.world
still_world step (Err Device) s t still whole (Stops.some u is goes) h = elim (is h) [
  | inl same ↦ goes.world ∙ ap (λ x. follow_all (Did x ∷ Failed ∷ []) s.world) same ∙ still s.world
  | inr part ↦ absurd (whole u part)
]
still_world step (Err NoMemory) s t still whole does h = does.world
still_world step (Err Declined) s t still whole does h = declined_world step s t does h

pub barrier_world : {T : Type 0} (result : Result T HostFault) (s t : State) → Does Barrier s t result → IsTrue t.honest → t.world ≡ s.world
barrier_world result s t does h = still_world Barrier result s t (λ w. refl) (λ part is. is) does h

pub sync_root_world : {T : Type 0} (result : Result T HostFault) (s t : State) → Does SyncRoot s t result → IsTrue t.honest → t.world ≡ s.world
sync_root_world result s t does h = still_world SyncRoot result s t (λ w. refl) (λ part is. is) does h

pub sync_all_world : {T : Type 0} (result : Result T HostFault) (s t : State) → Does SyncAll s t result → IsTrue t.honest → t.world ≡ s.world
sync_all_world result s t does h = still_world SyncAll result s t (λ w. refl) (λ part is. is) does h

-- what holds at each moment, and asks no more of what was done than which scripts were called and what they changed, goes on to
-- hold
pub since_to_disk : {T : Type 0} (P : List Event → World → Type 0) (result : Result T HostFault) (a b c : State) → ((x quiet : List Event) (w : World) → scripts_of quiet ≡ [] → P x w → P (x ++ quiet) w)
    → Since P a b → Does Barrier b c result → Since P a c
since_to_disk {T} P result a b c still first does = since_then P a b c first (more result does)
  where
    Q : List Event → World → Type 0
    Q so_far w = P (first.added ++ so_far) w

    here : IsTrue b.honest → (x : List Event) → scripts_of x ≡ [] → Q x b.world
    here h x none = still first.added x b.world none (since_now P a b first h)

    through : IsTrue b.honest → ThroughEvent Q b.world (Did Barrier)
    through h = record { before = here h [] refl; inside = λ d cut. absurd cut.1; behind = here h (Did Barrier ∷ []) refl }

    whole : (u : Step) → IsTrue b.honest → u ≡ Barrier → ThroughEvent Q b.world (Did u)
    whole u h same = subst (λ x. ThroughEvent Q b.world (Did x)) (sym same) (through h)

    after : (u : Step) → IsTrue b.honest → u ≡ Barrier → Q (Did u ∷ Failed ∷ []) (follow (Did u) b.world)
    after u h same = subst (λ x. Q (Did x ∷ Failed ∷ []) (follow (Did x) b.world)) (sym same) (here h (Did Barrier ∷ Failed ∷ []) refl)

    more : (result : Result T HostFault) → Does Barrier b c result → Since Q b c
    more (Ok x) does = since_goes Q (Did Barrier) b c does (λ h. through (does.honest h))
    more (Err Device) (Stops.nothing goes) = since_failed Q b c goes (λ h. here (goes.honest h) [] refl) (λ h. here (goes.honest h) (Failed ∷ []) refl)
    more (Err Device) (Stops.some u is goes) = since_fails Q (Did u) b c goes (λ h. elim (is h) [ inl same ↦ whole u (goes.honest h) same | inr part ↦ absurd part ])
        (λ h. elim (is h) [ inl same ↦ after u (goes.honest h) same | inr part ↦ absurd part ])
    more (Err NoMemory) does = record { added = []; events = does.events ∙ sym (append-nil b.events); honest = does.honest; world = does.world; each = λ h. here (does.honest h) [] refl }
    more (Err Declined) (Declines.nothing goes) = since_goes Q (Denied []) b c goes
        (λ h. record { before = here (goes.honest h) [] refl; inside = λ d cut. absurd cut; behind = here (goes.honest h) (Denied [] ∷ []) refl })
    more (Err Declined) (Declines.undone t is goes) = record {
      added = Did t ∷ Did Barrier ∷ Denied [] ∷ [];
      events = goes.events;
      honest = goes.honest;
      world = goes.world;
      each = λ h. absurd (is h).0;
    }
