-- The removal of one package: its moments, its calls and its unit.
use Rattle.std.proofs.Common.{◌≡◌, ◌⊎◌, inl, ℕ, Bool, List, [], ◌++◌, Option, Result, refl, sym, ap, subst, ◌∙◌, append_assoc}
use Rattle.std.proofs.lemmas.List.{append-nil}
use Rattle.host_core.specs.Events.{Event, scripts_of, calls_of as calls_in}
use Rattle.host_core.specs.Host.{State, Does, Needs, Silent, Since, calls}
use Rattle.host_core.proofs.Moments.{scripts_of-append, since_start, since_weaker}
use Rattle.host_core.proofs.Scripts.{calls_of-scripts}
use Rattle.host_core.specs.World.{World, Barrier}
use Rattle.host_core.specs.declared.call.Call.{Call}
use Rattle.host_core.specs.declared.fault.HostFault.{HostFault}
use Rattle.removal_engine.specs.Units.{HasCalled, IsAmidUnit, given}
use Rattle.removal_engine.specs.declared.extent.Extent.{Extent}
use Rattle.held_administration.specs.Order.{IsInOrder}
use Rattle.unit_reports.specs.Held.{Held}
use Rattle.unit_reports.specs.Units.{IsBroken, IsBrokenBy}
use Rattle.unit_reports.specs.declared.report.Breakage.TheVariants.{NoMemory}
use Rattle.unit_reports.specs.declared.report.Unit.{Unit as AUnit}
use Rattle.undo_rows.specs.declared.rows.Called.{Called}
use Rattle.removal_run.specs.Units.{Answers, HasCalledRemoving, IsAmidRemoval, IsBroughtToDisk, IsRemoval, extent_of, given_by, holding_of}
use Rattle.removal_run.proofs.Replies.{broken_or}
use Rattle.host_core.proofs.Barriers.{since_to_disk}

-- its moments

module _ (purge : Bool) (name : List ℕ) (before : Held) where
  amid_of : (old : World) (so_far : List Event) (now : World) → IsAmidUnit (given_by purge name before) old so_far now → IsAmidRemoval purge name before old so_far now
  amid_of old so_far now amid = record { front = so_far; quiet = []; split = sym (append-nil so_far); silent = refl; amid = amid }

  amid_still : (old : World) (x quiet : List Event) (now : World) → scripts_of quiet ≡ [] → IsAmidRemoval purge name before old x now → IsAmidRemoval purge name before old (x ++ quiet) now
  amid_still old x quiet now none amid = record {
    front = amid.front;
    quiet = amid.quiet ++ quiet;
    split = ap (λ (l : List Event). l ++ quiet) amid.split ∙ append_assoc amid.front amid.quiet quiet;
    silent = scripts_of-append amid.quiet quiet ∙ ap (λ (l : List Event). l ++ scripts_of quiet) amid.silent ∙ none;
    amid = amid.amid;
  }

  -- of the extent that is asked for
  module _ (extent : Extent) (asked : extent ≡ extent_of purge) where
    abbrev IsAmidAsked : World → List Event → World → Type 0
    IsAmidAsked old so_far now = IsAmidUnit (given extent name before.ways (holding_of before)) old so_far now

    pub since_removing : (s t : State) → Since (IsAmidAsked s.world) s t → Since (IsAmidRemoval purge name before s.world) s t
    since_removing s t since = since_weaker (IsAmidUnit (given_by purge name before) s.world) (IsAmidRemoval purge name before s.world) s t (λ so_far now amid. amid_of s.world so_far now amid)
        (subst (λ (e : Extent). Since (IsAmidUnit (given e name before.ways (holding_of before)) s.world) s t) asked since)

    pub since_removed : (result : Result Unit HostFault) (s m t : State) → Since (IsAmidAsked s.world) s m → Does Barrier m t result → Since (IsAmidRemoval purge name before s.world) s t
    since_removed result s m t since does = since_to_disk (IsAmidRemoval purge name before s.world) result s m t (λ x quiet w none amid. amid_still s.world x quiet w none amid) (since_removing s m since) does

  pub since_removal_start : (s : State) → Since (IsAmidRemoval purge name before s.world) s s
  since_removal_start s = since_start (IsAmidRemoval purge name before s.world) s (amid_of s.world [] s.world (inl (refl, refl)))

-- its calls

pub silent_here : (s : State) → Silent s s
silent_here s = record { honest = λ h. h; scripts = refl }

-- no call has ended
pub silent_calls : (s t : State) → Silent s t → calls t ≡ calls s
silent_calls s t silent = sym (calls_of-scripts t.events) ∙ ap calls_in silent.scripts ∙ calls_of-scripts s.events

module _ (purge : Bool) (name : List ℕ) (before : Held) where
  pub called_first : (s t : State) (told now : List Called) → HasCalled (given_by purge name before) s t told now → HasCalledRemoving purge name before s t told now
  called_first s t told now called = record { m = t; called = called; silent = silent_here t }

  pub called_none : (s : State) (now : List Called) → now ≡ [] → HasCalledRemoving purge name before s s [] now
  called_none s now none = called_first s s [] now (HasCalled.unplanned (silent_here s) none)

  pub called_as : (s t : State) (old now told : List Called) → old ≡ [] → told ≡ now → HasCalledRemoving purge name before s t old now → HasCalledRemoving purge name before s t [] told
  called_as s t old now told empty is called = subst (λ l. HasCalledRemoving purge name before s t l told) empty (subst (HasCalledRemoving purge name before s t old) (sym is) called)

-- its unit

module _ (purge : Bool) (name : List ℕ) where
  -- a removal that wasn't broken off
  pub is_removal : (failed : Option Call) (before after : Held) (u : AUnit) (s t : State) (old now : List Called) → old ≡ [] → u.calls.items ≡ now → IsBroughtToDisk purge name before failed after s t old now
      → Needs t (IsInOrder after.records after.lists) → after.ways ≡ before.ways → IsBrokenBy NoMemory u.reply ⊎ Answers name after.records.records failed u → IsBroken u.reply ⊎ IsRemoval purge name before after u s t
  is_removal failed before after u s t old now none same removed order entries either = broken_or NoMemory u.reply (λ answers. record {
    failed = failed;
    removed = subst (λ l. IsBroughtToDisk purge name before failed after s t [] l) (sym same) (subst (λ l. IsBroughtToDisk purge name before failed after s t l now) none removed);
    order = order;
    ways = entries;
    answers = answers;
  }) either
