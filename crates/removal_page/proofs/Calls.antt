-- Which calls may be made for stages.
use Rattle.std.proofs.Common.{◌≡◌, inl, inr, ℕ, List, [], ◌∷◌, ◌++◌, Option, Some, None, map, refl, sym, ap, subst, ◌∙◌}
use Rattle.std.proofs.lemmas.List.{append-nil}
use Rattle.host_core.specs.Events.{Ran}
use Rattle.host_core.specs.declared.call.Call.{Call}
use Rattle.undo_rows.specs.Transcript.{Tries, UndoesRow}
use Rattle.status_records.specs.declared.record.Record.{Record}
use Rattle.unit_stages.specs.Calls.{AreCallsOf, Fails}
use Rattle.unit_stages.specs.declared.stage.Stage.{Stage}
use Rattle.policy_page.specs.Answers.{answer_of, fails, works}
use Rattle.policy_page.proofs.Rows.{Are, joined, of_none, parted}
use Rattle.removal_page.specs.Lines.{Line}
use Rattle.removal_page.proofs.Rows.{can_fail, failed, never_fails, tried, tried_quiet, tries, undo_fails, undoes_well, undone, undone_quietly}
use Rattle.removal_page.proofs.Steps.{Among, FitAll, Fits, Step, among-either, among-left, among-right, behind, failing, lines}

-- behind a call that succeeded
pub behind_is : (call : Call) (ls : List Line) (fell : Option Call) (own more ts : List Ran) → ts ≡ own ++ more → Are own (works call ∷ []) → Among ls fell more → Among (behind call ls) fell ts
behind_is call [] fell own more ts is first none = absurd none
behind_is call (l ∷ ls) fell own more ts is first (inl here) =
    inl (record { calls = ap (map answer_of) is ∙ joined own more (works call ∷ []) l.calls first here.calls; ends = here.ends })
behind_is call (l ∷ ls) fell own more ts is first (inr later) = inr (behind_is call ls fell own more ts is first later)

pub of_behind : (call : Call) (ls : List Line) (fell : Option Call) (ts : List Ran) → Among (behind call ls) fell ts → (own more : List Ran) × (ts ≡ own ++ more) × Are own (works call ∷ []) × Among ls fell more
of_behind call [] fell ts none = absurd none
of_behind call (l ∷ ls) fell ts (inl here) =
    let parts = parted (works call ∷ []) l.calls ts here.calls in
    (parts.0, parts.1, parts.2, parts.3, inl (record { calls = parts.4; ends = here.ends }))
of_behind call (l ∷ ls) fell ts (inr later) = let rest = of_behind call ls fell ts later in (rest.0, rest.1, rest.2, rest.3, inr rest.4)

-- where a call fails
failing_is : (stage : Stage) (call : Call) (undo : Option Call) (left restored : Option Record) → stage.row.forward ≡ Some call → stage.row.fallback ≡ None → stage.row.undo ≡ undo
    → (fell : Option Call) (ts : List Ran) → Fails stage.row fell ts → Among (failing call undo left restored) fell ts
failing_is stage call None left restored forward alone back fell ts f =
    let quiet = undone_quietly stage.row back f.undoes.0 f.back f.undoes.1 in
    inl (record {
      calls = ap (map answer_of) (f.are ∙ ap (λ l. f.own ++ l) quiet.0 ∙ append-nil f.own) ∙ failed stage.row call forward alone f.own f.tries;
      ends = f.answer ∙ sym f.forward ∙ forward;
    })
failing_is stage call (Some undo) left restored forward alone back fell ts f =
    let first = failed stage.row call forward alone f.own f.tries in
    let fell_for : fell ≡ Some call = f.answer ∙ sym f.forward ∙ forward in
    elim (undone stage.row undo back f.undoes.0 f.back f.undoes.1) [
      | inl well ↦ inl (record { calls = ap (map answer_of) f.are ∙ joined f.own f.back _ _ first well.1; ends = fell_for })
      | inr badly ↦ inr (inl (record { calls = ap (map answer_of) f.are ∙ joined f.own f.back _ _ first badly.1; ends = fell_for }))
    ]

of_failing : (stage : Stage) (call : Call) (undo : Option Call) (left restored : Option Record) → stage.row.forward ≡ Some call → stage.row.fallback ≡ None → stage.row.undo ≡ undo
    → (fell : Option Call) (ts : List Ran) → Among (failing call undo left restored) fell ts → Fails stage.row fell ts
of_failing stage call None left restored forward alone back fell ts (inl here) = record {
  call = call;
  answer = here.ends;
  forward = forward;
  own = ts;
  back = [];
  are = sym (append-nil ts);
  tries = can_fail stage.row call forward alone ts here.calls;
  undoes = ([], UndoesRow.absent [] back);
}
of_failing stage call None left restored forward alone back fell ts (inr none) = absurd none
of_failing stage call (Some undo) left restored forward alone back fell ts (inl here) =
    let parts = parted (fails call ∷ []) (works undo ∷ []) ts here.calls in
    record {
      call = call;
      answer = here.ends;
      forward = forward;
      own = parts.0;
      back = parts.1;
      are = parts.2;
      tries = can_fail stage.row call forward alone parts.0 parts.3;
      undoes = ([], undoes_well stage.row undo back parts.1 parts.4);
    }
of_failing stage call (Some undo) left restored forward alone back fell ts (inr (inl here)) =
    let parts = parted (fails call ∷ []) (fails undo ∷ []) ts here.calls in
    record {
      call = call;
      answer = here.ends;
      forward = forward;
      own = parts.0;
      back = parts.1;
      are = parts.2;
      tries = can_fail stage.row call forward alone parts.0 parts.3;
      undoes = (stage.row.owner ∷ [], undo_fails stage.row undo back parts.1 parts.4);
    }
of_failing stage call (Some undo) left restored forward alone back fell ts (inr (inr none)) = absurd none

-- what may be called for stages is one of the lines of their steps
pub among_lines : (name : List ℕ) (steps : List Step) (stages : List Stage) → FitAll name steps stages → (o : Option Record) (fell : Option Call) (ts : List Ran) → AreCallsOf stages fell ts → Among (lines o steps) fell ts
among_lines name [] [] fit o fell ts run = inl (record { calls = ap (map answer_of) run.1; ends = run.0 })
among_lines name [] (s ∷ ss) fit o fell ts run = absurd fit
among_lines name (p ∷ ps) [] fit o fell ts run = absurd fit
among_lines name (p ∷ ps) (s ∷ ss) (Fits.quiet stage left none leaves, rest) o fell ts (inl passed) =
    let silent = tried_quiet s.row none passed.own passed.tries in
    subst (Among (lines left ps) fell) (sym (passed.are ∙ ap (λ l. l ++ passed.more) silent)) (among_lines name ps ss rest left fell passed.more passed.rest)
among_lines name (p ∷ ps) (s ∷ ss) (Fits.quiet stage left none leaves, rest) o fell ts (inr fails) = absurd (never_fails s.row none fails.own fails.tries)
among_lines name (p ∷ ps) (s ∷ ss) (Fits.calls stage call undo left restored forward alone back leaves restores, rest) o fell ts (inl passed) =
    among-right (failing call undo left restored) (behind call (lines left ps)) fell ts
    (behind_is call (lines left ps) fell passed.own passed.more ts passed.are (tried s.row call forward alone passed.own passed.tries) (among_lines name ps ss rest left fell passed.more passed.rest))
among_lines name (p ∷ ps) (s ∷ ss) (Fits.calls stage call undo left restored forward alone back leaves restores, rest) o fell ts (inr f) =
    among-left (failing call undo left restored) (behind call (lines left ps)) fell ts (failing_is s call undo left restored forward alone back fell ts f)

-- and each of them may be called
pub of_lines : (name : List ℕ) (steps : List Step) (stages : List Stage) → FitAll name steps stages → (o : Option Record) (fell : Option Call) (ts : List Ran) → Among (lines o steps) fell ts → AreCallsOf stages fell ts
of_lines name [] [] fit o fell ts (inl here) = (here.ends, of_none ts here.calls)
of_lines name [] [] fit o fell ts (inr none) = absurd none
of_lines name [] (s ∷ ss) fit o fell ts among = absurd fit
of_lines name (p ∷ ps) [] fit o fell ts among = absurd fit
of_lines name (p ∷ ps) (s ∷ ss) (Fits.quiet stage left none leaves, rest) o fell ts among =
    inl (record { own = []; more = ts; are = refl; tries = Tries.absent none; rest = of_lines name ps ss rest left fell ts among })
of_lines name (p ∷ ps) (s ∷ ss) (Fits.calls stage call undo left restored forward alone back leaves restores, rest) o fell ts among =
    elim (among-either (failing call undo left restored) (behind call (lines left ps)) fell ts among) [
      | inl here ↦ inr (of_failing s call undo left restored forward alone back fell ts here)
      | inr later ↦ let b = of_behind call (lines left ps) fell ts later in inl (record { own = b.0; more = b.1; are = b.2; tries = tries s.row call forward alone b.0 b.3; rest = of_lines name ps ss rest left fell b.1 b.4 })
    ]
