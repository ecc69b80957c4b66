-- Units that were told keep to how many may fail.
use Rattle.std.proofs.Common.{◌≡◌, ◌∙◌, ◌++◌, ◌∷◌, [], ℕ, List, Option, Result, Ok, Err, append_assoc, append-nil, refl, subst, sym}
use Rattle.std.specs.Prelude.{IfOk, IsTrue}
use Rattle.std.specs.List.{flat_map}
use Rattle.host_core.specs.Host.{State}
use Rattle.dpkg_session.specs.declared.installing.Installed.{Installed}
use Rattle.trigger_turns.specs.Told.{AreTold, AreToldInTurns}
use Rattle.undo_rows.specs.declared.rows.Called.{Called}
use Rattle.unit_reports.specs.Units.{IsRefusal}
use Rattle.unit_reports.specs.Watching.{IsToldBehind}
use Rattle.unit_reports.specs.declared.report.Report.{Report}
use Rattle.unit_reports.specs.declared.report.Unit.{Unit as AUnit}
use Rattle.command_line.specs.Limits.{KeepsLimit, KeepsTo, is_over, left_behind}
use Rattle.command_line.specs.Printing.{AreRoundsTold, IsDoneTold, units_of, units_of_round}
use Rattle.command_line.specs.Triggering.{AreAllTold, AreTriggersTold, units_behind}
use Rattle.command_line.specs.Unpacks.{IsAllTold}
use Rattle.command_line.specs.declared.ending.Ended.{Ended}
use Rattle.command_line.specs.declared.triggering.Triggered.{Triggered}
use Rattle.command_line.specs.declared.unpacking.Done.{Done}
use Rattle.command_line.specs.declared.unpacking.Done.TheVariants as done

kept_then : (a : Option ℕ) (us : List AUnit) (b : Option ℕ) (vs : List AUnit) (c : Option ℕ) → KeepsTo a us b → KeepsTo b vs c → KeepsTo a (us ++ vs) c
kept_then a [] b vs c first rest = subst (λ (l : Option ℕ). KeepsTo l vs c) first rest
kept_then a (u ∷ us) b vs c first rest = (first.0, kept_then (left_behind a u.reply) us b vs c first.1 rest)

module _ {W : Type 0} (tells : W → AUnit → State → W → Type 0) (left_of : W → Option ℕ)
    (one : (old : W) (u : AUnit) (at : State) (new : W) → tells old u at new → (left_of new ≡ left_behind (left_of old) u.reply) × (IsTrue (is_over (left_of old)) → IsRefusal u.reply)) where
  kept_on : (s : State) (calls : List Called) (us : List AUnit) (old new : W) → IsToldBehind tells s calls old us new → KeepsTo (left_of old) us (left_of new)
  kept_on s calls [] old new same = λ i. left_of (same i)
  kept_on s calls (u ∷ us) old new told =
      let here = one old u told.1 told.0 told.2 in
      (here.1, subst (λ (l : Option ℕ). KeepsTo l us (left_of new)) here.0 (kept_on s (calls ++ u.calls.items) us told.0 new told.5))

  kept_told : (us : List AUnit) (old new : W) → AreTold tells old us new → KeepsTo (left_of old) us (left_of new)
  kept_told us old new told = kept_on told.0 [] us old new told.1

  kept_in_turns : (old : W) (us : List AUnit) (new : W) → AreToldInTurns tells old us new → KeepsTo (left_of old) us (left_of new)
  kept_in_turns old us new AreToldInTurns.nothing = refl
  kept_in_turns old us new (AreToldInTurns.then vs others at end told last) =
      kept_then (left_of old) vs (left_of at) others (left_of end) (kept_in_turns old vs at told) (kept_told others at end last)

  kept_triggers : (came : Triggered) (old new : W) → AreTriggersTold tells old came new → KeepsTo (left_of old) (units_behind came) (left_of new)
  kept_triggers came old new (mid, noted, processed) =
      kept_then (left_of old) came.noted.units.items (left_of mid) came.processed.units.items (left_of new) (kept_told came.noted.units.items old mid noted) (kept_in_turns mid came.processed.units.items new processed)

  kept_rounds : (came : List Installed) (old new : W) → AreRoundsTold tells old came new → KeepsTo (left_of old) (flat_map units_of_round came) (left_of new)
  kept_rounds [] old new same = λ i. left_of (same i)
  kept_rounds (c ∷ cs) old new told =
      kept_then (left_of old) (units_of_round c) (left_of told.0) (flat_map units_of_round cs) (left_of new) (kept_told (units_of_round c) old told.0 told.1) (kept_rounds cs told.0 new told.2)

  kept_done : (came : Done) (old new : W) → IsDoneTold tells old came new → KeepsTo (left_of old) (units_of came) (left_of new)
  kept_done (done.Unpacked report) old new told = kept_told report.units.items old new told
  kept_done (done.Installed rounds) old new told = kept_rounds rounds.items old new told

  pub kept_work : {E : Type 0} (result : Result (Ended Report) E) (old new : W) → IfOk result (λ ended. AreAllTold tells old ended.done.units.items ended.triggered new)
      → IfOk result (λ ended. KeepsLimit (left_of old) (ended.done.units.items ++ units_behind ended.triggered))
  kept_work (Ok ended) old new (mid, told, behind) =
      (left_of new, kept_then (left_of old) ended.done.units.items (left_of mid) (units_behind ended.triggered) (left_of new) (kept_told ended.done.units.items old mid told) (kept_triggers ended.triggered mid new behind))
  kept_work (Err e) old new told = tt

  pub kept_trees : {E : Type 0} (result : Result (Ended Done) E) (old new : W) → IfOk result (λ ended. IsAllTold tells old ended new)
      → IfOk result (λ ended. KeepsLimit (left_of old) (units_of ended.done ++ units_behind ended.triggered))
  kept_trees (Ok ended) old new (mid, told, behind) =
      (left_of new, kept_then (left_of old) (units_of ended.done) (left_of mid) (units_behind ended.triggered) (left_of new) (kept_done ended.done old mid told) (kept_triggers ended.triggered mid new behind))
  kept_trees (Err e) old new told = tt
