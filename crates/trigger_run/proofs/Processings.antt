-- The triggers of one package processed: its moments, its calls and its unit.
use Rattle.std.proofs.Common.{◌≡◌, ◌⊎◌, inl, inr, ℕ, List, [], ◌∷◌, ◌++◌, Contains, Option, Result, refl, sym, ap, subst, ◌∙◌, append_assoc}
use Rattle.std.proofs.lemmas.List.{append-nil}
use Rattle.std.proofs.lemmas.List.Elements.{Contains-push}
use Rattle.undo_rows.proofs.Makes.{tells_none, tells_then}
use Rattle.undo_rows.proofs.Tellings.{begun_calls}
use Rattle.undo_rows.specs.Transcript.{TellsAll}
use Rattle.undo_rows.specs.declared.rows.Called.{Called}
use Rattle.host_core.specs.Events.{Event, scripts_of, calls_of as calls_in}
use Rattle.host_core.specs.Host.{AtEachMomentOf, State, Does, Needs, Silent, Since, calls}
use Rattle.host_core.specs.Loss.{IsAnswered}
use Rattle.host_core.proofs.Barriers.{since_to_disk}
use Rattle.host_core.proofs.Moments.{scripts_of-append, since_start, since_weaker}
use Rattle.host_core.proofs.Scripts.{calls_of-scripts}
use Rattle.host_core.specs.World.{World, Barrier}
use Rattle.host_core.specs.declared.call.Call.{Call}
use Rattle.host_core.specs.declared.fault.HostFault.{HostFault}
use Rattle.held_administration.specs.Order.{IsInOrder}
use Rattle.recorded_packages.specs.Packages.{ArePackagesOf}
use Rattle.recorded_packages.specs.Renewal.{AreSameBut}
use Rattle.relation_index.specs.declared.package.Package.{Package}
use Rattle.status_db.specs.Order.{AreInOrder}
use Rattle.status_records.specs.declared.record.Record.{Record}
use Rattle.unit_reports.specs.Held.{Held}
use Rattle.unit_reports.specs.Units.{IsBroken, IsBrokenBy}
use Rattle.unit_reports.specs.declared.report.Breakage.TheVariants.{NoMemory}
use Rattle.unit_reports.specs.declared.report.Reply.{Reply}
use Rattle.unit_reports.specs.declared.report.Unit.{Unit as AUnit}
use Rattle.unit_runs.proofs.Going.{still_here}
use Rattle.unit_stages.specs.Calls.{MayRunStages}
use Rattle.trigger_engine.specs.Units.{Given, HasCalled, HasEnded, IsAmidUnit}
use Rattle.trigger_run.specs.Needs.{IsReady}
use Rattle.trigger_run.specs.Units.{Answers, HasCalledProcessing, HasCalledUnitOf, IsAmidProcessing, IsAmidUnitOf, IsBroughtToDisk, IsProcessing, IsUnitOf, given_by}
use Rattle.trigger_run.proofs.Replies.{broken_or}

-- its moments

module _ (name : List ℕ) (before : Held) where
  amid_of : (old : World) (so_far : List Event) (now : World) → IsAmidUnit (given_by name before) old so_far now → IsAmidProcessing name before old so_far now
  amid_of old so_far now amid = record { front = so_far; quiet = []; split = sym (append-nil so_far); silent = refl; amid = amid }

  amid_still : (old : World) (x quiet : List Event) (now : World) → scripts_of quiet ≡ [] → IsAmidProcessing name before old x now → IsAmidProcessing name before old (x ++ quiet) now
  amid_still old x quiet now none amid = record {
    front = amid.front;
    quiet = amid.quiet ++ quiet;
    split = ap (λ (l : List Event). l ++ quiet) amid.split ∙ append_assoc amid.front amid.quiet quiet;
    silent = scripts_of-append amid.quiet quiet ∙ ap (λ (l : List Event). l ++ scripts_of quiet) amid.silent ∙ none;
    amid = amid.amid;
  }

  pub since_processing : (s t : State) → Since (IsAmidUnit (given_by name before) s.world) s t → Since (IsAmidProcessing name before s.world) s t
  since_processing s t since = since_weaker (IsAmidUnit (given_by name before) s.world) (IsAmidProcessing name before s.world) s t (λ so_far now amid. amid_of s.world so_far now amid) since

  pub since_processed : (result : Result Unit HostFault) (s m t : State) → Since (IsAmidUnit (given_by name before) s.world) s m → Does Barrier m t result → Since (IsAmidProcessing name before s.world) s t
  since_processed result s m t since does = since_to_disk (IsAmidProcessing name before s.world) result s m t (λ x quiet w none amid. amid_still s.world x quiet w none amid) (since_processing s m since) does

  pub since_ready : (s t : State) → IsReady before.records.records name → AtEachMomentOf (IsAmidProcessing name before) s t → AtEachMomentOf (IsAmidUnitOf name before) s t
  since_ready s t ready since = since_weaker (IsAmidProcessing name before s.world) (IsAmidUnitOf name before s.world) s t (λ so_far now amid. inr (ready, amid)) since

  pub since_nothing : (s : State) → AtEachMomentOf (IsAmidUnitOf name before) s s
  since_nothing s = since_start (IsAmidUnitOf name before s.world) s (inl (still_here s.world))

-- its calls

pub silent_here : (s : State) → Silent s s
silent_here s = record { honest = λ h. h; scripts = refl }

-- no call has ended
silent_calls : (s t : State) → Silent s t → calls t ≡ calls s
silent_calls s t silent = sym (calls_of-scripts t.events) ∙ ap calls_in silent.scripts ∙ calls_of-scripts s.events

called_tells : (g : Given) (s t : State) (told now : List Called) → HasCalled g s t told now → TellsAll s t told now
called_tells g s t told now (HasCalled.unplanned silent same) = tells_none s t told now (silent_calls s t silent) same
called_tells g s t told now (HasCalled.planned stages plan begun) = let made = begun_calls (MayRunStages stages) s t told now begun in (made.0, made.2, made.3.1)

module _ (name : List ℕ) (before : Held) where
  pub called_as : (s t : State) (old now told : List Called) → old ≡ [] → told ≡ now → HasCalledProcessing name before s t old now → HasCalledProcessing name before s t [] told
  called_as s t old now told empty is called = subst (λ l. HasCalledProcessing name before s t l told) empty (subst (HasCalledProcessing name before s t old) (sym is) called)

  pub processing_tells : (s t : State) (told now : List Called) → HasCalledProcessing name before s t told now → TellsAll s t told now
  processing_tells s t told now called =
      tells_then s called.m t told now now (called_tells (given_by name before) s called.m told now called.called) (tells_none called.m t now now (silent_calls called.m t called.silent) refl)

  pub unit_tells : (s t : State) (u : AUnit) → HasCalledUnitOf name before s t u → TellsAll s t [] u.calls.items
  unit_tells s t u (inl none) = tells_none s t [] u.calls.items (silent_calls s t none.silent) none.told
  unit_tells s t u (inr called) = processing_tells s t [] u.calls.items called.1

  pub called_nothing : (s : State) (u : AUnit) → u.calls.items ≡ [] → HasCalledUnitOf name before s s u
  called_nothing s u none = inl (record { silent = silent_here s; told = none })

-- its unit

module _ (name : List ℕ) where
  -- of triggers that were processed, where it wasn't broken off
  pub is_processing : (failed : Option Call) (before after : Held) (u : AUnit) (s t : State) (old now : List Called) → old ≡ [] → u.calls.items ≡ now → IsBroughtToDisk name before failed after s t old now → HasEnded name failed before.records.records after.records.records
      → Needs t (IsInOrder after.records after.lists) → after.ways ≡ before.ways → IsBrokenBy NoMemory u.reply ⊎ Answers name after.records.records failed u → IsBroken u.reply ⊎ IsProcessing name before after u s t
  is_processing failed before after u s t old now none same processed ended order ways either = broken_or NoMemory u.reply (λ answers. record {
    failed = failed;
    processed = subst (λ l. IsBroughtToDisk name before failed after s t [] l) (sym same) (subst (λ l. IsBroughtToDisk name before failed after s t l now) none processed);
    ended = ended;
    order = order;
    ways = ways;
    answers = answers;
  }) either

  module _ (before after : Held) (u : AUnit) (s t : State) where
    pub is_processed : IsReady before.records.records name → AtEachMomentOf (IsAmidProcessing name before) s t → IsBroken u.reply ⊎ IsProcessing name before after u s t → IsBroken u.reply ⊎ IsAnswered s t → IsBroken u.reply ⊎ IsUnitOf name before after u s t
    is_processed ready moments (inl broken) answered = inl broken
    is_processed ready moments (inr is) (inl broken) = inl broken
    is_processed ready moments (inr is) (inr answered) = inr (IsUnitOf.processed ready (record { is = is; moments = moments; answered = answered }))

    pub order_behind_it : IsBroken u.reply ⊎ IsProcessing name before after u s t → IsBroken u.reply ⊎ Needs t (IsInOrder after.records after.lists)
    order_behind_it (inl broken) = inl broken
    order_behind_it (inr is) = inr is.order

-- no record but its own has changed
others_same : (name : List ℕ) (failed : Option Call) (old new : List Record) → HasEnded name failed old new → AreSameBut (name ∷ []) old new
others_same name failed old new ended q out = ended.others q (λ same. out (subst (λ (n : List ℕ). Contains (name ∷ []) n) (sym same) (Contains-push [] name)))

-- and the packages, of which its own was read anew, are those of the records again
pub renewed : (name : List ℕ) (failed : Option Call) (reply : Reply) (old new : List Record) (before after : List Package) → AreInOrder old → ArePackagesOf old before → HasEnded name failed old new
    → IsBroken reply ⊎ ((records : List Record) → AreInOrder records → ArePackagesOf records before → AreSameBut (name ∷ []) records new → ArePackagesOf new after) → IsBroken reply ⊎ ArePackagesOf new after
renewed name failed reply old new before after order indexed ended (inl broken) = inl broken
renewed name failed reply old new before after order indexed ended (inr renews) = inr (renews old order indexed (others_same name failed old new ended))
