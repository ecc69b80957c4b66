-- Which calls the stages of a removal and of configuring have, and that a run of stages makes no others.
use Rattle.std.proofs.Common.{◌≡◌, inl, inr, ℕ, Bool, true, false, cond, List, [], ◌∷◌, ◌++◌, Option, Some, None, is_some, refl, sym, ap, subst, ◌∙◌}
use Rattle.std.specs.List.{AllByRecursion}
use Rattle.host_core.specs.Events.{Ran}
use Rattle.host_core.specs.World.{World}
use Rattle.host_core.specs.declared.call.Call.{Call}
use Rattle.host_core.specs.declared.call.Script.{Script}
use Rattle.host_core.specs.declared.call.Script.TheVariants.{Postinst}
use Rattle.host_core.specs.declared.call.Side.TheVariants.{Old}
use Rattle.administration.specs.Places.{script_path}
use Rattle.file_lists.specs.Owners.{paths_of}
use Rattle.status_records.specs.declared.record.Record.{Record}
use Rattle.undo_rows.specs.Transcript.{Tries, UndoesRow}
use Rattle.undo_rows.specs.declared.rows.Owner.{Owner}
use Rattle.undo_rows.specs.declared.rows.Row.{Row}
use Rattle.unit_stages.specs.Calls.{AreCallsOf, Fails, MayRunStages}
use Rattle.unit_stages.specs.declared.stage.Stage.{Stage}
use Rattle.configure_engine.specs.Stages.{AreConfigureStages, postinst_call, postinst_row, quiet_row}
use Rattle.configure_engine.specs.Units.{Given, IsPlanOf}
use Rattle.removal_engine.proofs.Tables.{is_named}
use Rattle.stop_laws.specs.Called.{CallsStored, IsCallAmong, IsCallOf}

-- the calls of a run

abbrev AreOf : (Call → Type 0) → List Ran → Type 0
AreOf P ts = AllByRecursion (λ (t : Ran). P t.call) ts

all_weaker : (P Q : Call → Type 0) (ts : List Ran) → ((call : Call) → P call → Q call) → AreOf P ts → AreOf Q ts
all_weaker P Q [] so all = tt
all_weaker P Q (t ∷ ts) so all = (so t.call all.0, all_weaker P Q ts so all.1)

all_both : (P : Call → Type 0) (a b : List Ran) → AreOf P a → AreOf P b → AreOf P (a ++ b)
all_both P [] b first second = second
all_both P (t ∷ a) b first second = (first.0, all_both P a b first.1 second)

tries_of : (row : Row) (ts : List Ran) (ok : Bool) → Tries row ts ok → AreOf (IsCallOf row) ts
tries_of row ts ok (Tries.absent none) = tt
tries_of row ts ok (Tries.done t is succeeds) = (IsCallOf.forward is, tt)
tries_of row ts ok (Tries.failed t is fails none) = (IsCallOf.forward is, tt)
tries_of row ts ok (Tries.fell_back t u same is fails falls ends) = (IsCallOf.forward is, (IsCallOf.fallback falls, tt))

undoes_of : (row : Row) (owners now : List Owner) (ts : List Ran) → UndoesRow row owners ts now → AreOf (IsCallOf row) ts
undoes_of row owners now ts (UndoesRow.absent all none) = tt
undoes_of row owners now ts (UndoesRow.spared all has) = tt
undoes_of row owners now ts (UndoesRow.done all t is free succeeds) = (IsCallOf.undo is, tt)
undoes_of row owners now ts (UndoesRow.failed all then t is free fails same) = (IsCallOf.undo is, tt)

fails_of : (row : Row) (failed : Option Call) (ts : List Ran) → Fails row failed ts → AreOf (IsCallOf row) ts
fails_of row failed ts f =
    subst (AreOf (IsCallOf row)) (sym f.are)
    (all_both (IsCallOf row) f.own f.back (tries_of row f.own false f.tries) (undoes_of row [] f.undoes.0 f.back f.undoes.1))

calls_of_stages : (stages : List Stage) (failed : Option Call) (ts : List Ran) → AreCallsOf stages failed ts → AreOf (IsCallAmong stages) ts
calls_of_stages [] failed ts none = subst (AreOf (IsCallAmong [])) (sym none.1) tt
calls_of_stages (stage ∷ stages) failed ts (inl s) =
    subst (AreOf (IsCallAmong (stage ∷ stages))) (sym s.are)
    (all_both (IsCallAmong (stage ∷ stages)) s.own s.more
    (all_weaker (IsCallOf stage.row) (IsCallAmong (stage ∷ stages)) s.own (λ call is. inl is) (tries_of stage.row s.own true s.tries))
    (all_weaker (IsCallAmong stages) (IsCallAmong (stage ∷ stages)) s.more (λ call is. inr is) (calls_of_stages stages failed s.more s.rest)))
calls_of_stages (stage ∷ stages) failed ts (inr f) =
    all_weaker (IsCallOf stage.row) (IsCallAmong (stage ∷ stages)) ts (λ call is. inl is) (fails_of stage.row failed ts f)

pub run_of : (stages : List Stage) (ts : List Ran) → MayRunStages stages ts → AllByRecursion (λ (t : Ran). IsCallAmong stages t.call) ts
run_of stages ts may = calls_of_stages stages may.0 ts may.1

-- a call that a row has where the script is stored

pub no_call : {X : Type 0} (call : Call) → None ≡ Some call → X
no_call call is = absurd (let none : None ≡ Some call = is in cc)

pub stored_call : (name : List ℕ) (s : Script) (there : Bool) (w : World) (made call : Call) → made.side ≡ Old → made.«package» ≡ name → made.script ≡ s → made.at ≡ script_path name s
    → there ≡ is_some (w (script_path name s)) → cond there (Some made) None ≡ Some call → CallsStored name w call × (call.script ≡ s)
stored_call name s true w made call side own script at seen is =
    let same : made ≡ call = cc is in
    subst (λ (c : Call). CallsStored name w c × (c.script ≡ s)) same
    (record { side = side; own = own; at = at ∙ ap (script_path name) (sym script); stood = ap (λ q. is_some (w q)) at ∙ sym seen }, script)
stored_call name s false w made call side own script at seen is = no_call call is

-- the calls of configuring

module _ (r : Record) (stored : Bool) (w : World) (seen : stored ≡ is_some (w (script_path r.name Postinst))) (call : Call) where
  postinst_calls : IsCallOf (postinst_row r stored) call → CallsStored r.name w call
  postinst_calls (IsCallOf.forward is) = (stored_call r.name Postinst stored w (postinst_call r) call refl refl refl refl seen is).0
  postinst_calls (IsCallOf.fallback is) = no_call call is
  postinst_calls (IsCallOf.undo is) = no_call call is

  quiet_calls : IsCallOf (quiet_row r.name) call → CallsStored r.name w call
  quiet_calls (IsCallOf.forward is) = no_call call is
  quiet_calls (IsCallOf.fallback is) = no_call call is
  quiet_calls (IsCallOf.undo is) = no_call call is

module _ (g : Given) (w : World) (stages : List Stage) (plan : IsPlanOf g w true stages) (call : Call) where
  abbrev r : Record
  r = plan.entry

  these : AreConfigureStages r (paths_of g.before.lists g.name) plan.plan.decisions plan.plan.stored stages
  these = plan.plan.stages_are

  two_calls : IsCallAmong (these.first ∷ these.second ∷ []) call → CallsStored r.name w call
  two_calls (inl first) = postinst_calls r plan.plan.stored w (plan.plan.seen refl) call (subst (λ (row : Row). IsCallOf row call) these.row first)
  two_calls (inr (inl second)) = quiet_calls r plan.plan.stored w (plan.plan.seen refl) call (subst (λ (row : Row). IsCallOf row call) these.no_call second)
  two_calls (inr (inr none)) = absurd none

  pub configure_calls_stored : IsCallAmong stages call → CallsStored g.name w call
  configure_calls_stored is =
      subst (λ (n : List ℕ). CallsStored n w call) (is_named g.before.records g.name r plan.found) (two_calls (subst (λ (l : List Stage). IsCallAmong l call) these.are is))
