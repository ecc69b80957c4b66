-- How the calls of a row, and of stages, go on.
use Rattle.std.proofs.Common.{◌≡◌, inl, inr, Bool, true, false, List, [], ◌∷◌, ◌++◌, Option, Some, None, refl, sym, ap, subst, ◌∙◌, append_assoc, arith}
use Rattle.std.proofs.lemmas.List.{append-nil}
use Rattle.host_core.specs.Events.{Ran}
use Rattle.host_core.specs.declared.call.Call.{Call}
use Rattle.undo_rows.specs.Transcript.{Tries, TriesRow, UndoesAny, UndoesRow}
use Rattle.undo_rows.specs.declared.rows.Row.{Row}
use Rattle.undo_rows.proofs.Rowwise.{may_succeed, succeeded}
use Rattle.unit_stages.specs.Calls.{AreCallsOf, AreCallsOfRow, Fails, MayCallRow, MayRunStages}
use Rattle.unit_stages.specs.declared.stage.Stage.{Stage}

-- a row whose call failed has one

tried : (row : Row) (ts : List Ran) (ok : Bool) → Tries row ts ok → ok ≡ false → (call : Call) × (row.forward ≡ Some call)
tried row ts ok (Tries.absent none) fails = absurd cc
tried row ts ok (Tries.done t is succeeds) fails = absurd cc
tried row ts ok (Tries.failed t is fails-t none) fails = (t.call, is)
tried row ts ok (Tries.fell_back t u same is fails-t falls ends) fails = (t.call, is)

pub failed_call : (row : Row) (ts : List Ran) → Tries row ts false → (call : Call) × (row.forward ≡ Some call)
failed_call row ts tries = tried row ts false tries refl

-- each row can be undone

undoes_by : (row : Row) (undo : Option Call) → row.undo ≡ undo → (ts : List Ran) × UndoesAny row [] ts
undoes_by row None is = ([], ([], UndoesRow.absent [] is))
undoes_by row (Some call) is = (succeeded call ∷ [], ([], UndoesRow.done [] (succeeded call) is (λ has. absurd (omega (arith, has.1))) refl))

pub may_undo : (row : Row) → (ts : List Ran) × UndoesAny row [] ts
may_undo row = undoes_by row row.undo refl

-- the calls of a row on the way forward can go on to be all of its calls

fails_of : (row : Row) (own back : List Ran) → Tries row own false → UndoesAny row [] back → MayCallRow row (own ++ back)
fails_of row own back tries undoes =
    let call = failed_call row own tries in
    (row.forward, inr (record { call = call.0; answer = call.1; forward = call.1; own = own; back = back; are = refl; tries = tries; undoes = undoes }))

goes_on : (row : Row) (own : List Ran) (ok : Bool) → Tries row own ok → (more : List Ran) × MayCallRow row (own ++ more)
goes_on row own true tries = ([], (None, inl (refl, subst (λ ts. Tries row ts true) (sym (append-nil own)) tries)))
goes_on row own false tries = let some = may_undo row in (some.0, fails_of row own some.0 tries some.1)

pub tries_on : (row : Row) (own : List Ran) → TriesRow row own → (more : List Ran) × MayCallRow row (own ++ more)
tries_on row own tries = goes_on row own tries.0 tries.1

pub undoes_on : (row : Row) (own back : List Ran) → Tries row own false → UndoesAny row [] back → MayCallRow row (own ++ back)
undoes_on row own back tries undoes = fails_of row own back tries undoes

-- the calls of one stage are those of its row

pub one_stage : (stage : Stage) (failed : Option Call) (ts : List Ran) → AreCallsOfRow stage.row failed ts → AreCallsOf (stage ∷ []) failed ts
one_stage stage failed ts (inl passes) = inl (record { own = ts; more = []; are = sym (append-nil ts); tries = passes.1; rest = (passes.0, refl) })
one_stage stage failed ts (inr fails) = inr fails

pub one_may : (stage : Stage) (ts : List Ran) → MayCallRow stage.row ts → MayRunStages (stage ∷ []) ts
one_may stage ts is = (is.0, one_stage stage is.0 ts is.1)

-- stages that passed, and others behind them

no_failure : (row : Row) (ts : List Ran) → Fails row None ts → ⊥
no_failure row ts fails = (let e : None ≡ Some fails.call = fails.answer in cc)

pub calls_on : (front back : List Stage) (failed : Option Call) (x y : List Ran) → AreCallsOf front None x → AreCallsOf back failed y → AreCallsOf (front ++ back) failed (x ++ y)
calls_on [] back failed x y first second = subst (λ l. AreCallsOf back failed (l ++ y)) (sym first.1) second
calls_on (stage ∷ front) back failed x y (inl passes) second = inl (record {
  own = passes.own;
  more = passes.more ++ y;
  are = ap (λ (l : List Ran). l ++ y) passes.are ∙ append_assoc passes.own passes.more y;
  tries = passes.tries;
  rest = calls_on front back failed passes.more y passes.rest second;
})
calls_on (stage ∷ front) back failed x y (inr fails) second = absurd (no_failure stage.row x fails)

-- all of them can pass
pub may_pass : (stages : List Stage) → (ts : List Ran) × AreCallsOf stages None ts
may_pass [] = ([], (refl, refl))
may_pass (stage ∷ stages) =
    let own = may_succeed stage.row in
    let more = may_pass stages in
    (own.0 ++ more.0, inl (record { own = own.0; more = more.0; are = refl; tries = own.1; rest = more.1 }))

-- the calls of the first stages can go on to be those of all

failed_on : (front back : List Stage) (call : Call) (ts : List Ran) → AreCallsOf front (Some call) ts → AreCallsOf (front ++ back) (Some call) ts
failed_on [] back call ts is = (let e : Some call ≡ None = is.0 in absurd cc)
failed_on (stage ∷ front) back call ts (inl passes) = inl (record { own = passes.own; more = passes.more; are = passes.are; tries = passes.tries; rest = failed_on front back call passes.more passes.rest })
failed_on (stage ∷ front) back call ts (inr fails) = inr fails

runs_by : (front back : List Stage) (failed : Option Call) (ts : List Ran) → AreCallsOf front failed ts → (more : List Ran) × MayRunStages (front ++ back) (ts ++ more)
runs_by front back None ts is = let some = may_pass back in (some.0, (None, calls_on front back None ts some.0 is some.1))
runs_by front back (Some call) ts is = ([], (Some call, subst (AreCallsOf (front ++ back) (Some call)) (sym (append-nil ts)) (failed_on front back call ts is)))

pub may_run_on : (front back : List Stage) (ts : List Ran) → MayRunStages front ts → (more : List Ran) × MayRunStages (front ++ back) (ts ++ more)
may_run_on front back ts is = runs_by front back is.0 ts is.1
