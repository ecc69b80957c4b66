-- A page, from the lines of steps.
use Rattle.std.proofs.Common.{◌≡◌, ◌⊎◌, inl, inr, ℕ, Bool, true, false, cond, ◌&&◌, not, List, [], ◌∷◌, Option, Some, None, map, refl, sym, ap, subst, ◌∙◌}
use Rattle.host_core.specs.Events.{Ran}
use Rattle.host_core.specs.Outcome.{is_success}
use Rattle.host_core.specs.declared.call.Call.{Call}
use Rattle.undo_rows.specs.declared.rows.Called.{Called}
use Rattle.status_records.specs.Records.{record_in}
use Rattle.status_records.specs.declared.record.Record.{Record}
use Rattle.diversions.specs.Ways.{Ways}
use Rattle.unit_stages.specs.Calls.{AreCallsOf}
use Rattle.unit_stages.specs.declared.stage.Stage.{Stage}
use Rattle.policy_page.specs.Answers.{answer_of}
use Rattle.removal_page.specs.Lines.{HasEnded, IsLine, IsPage, Line}
use Rattle.removal_page.proofs.Calls.{among_lines, of_lines}
use Rattle.removal_page.proofs.Runs.{ended_lines}
use Rattle.removal_page.proofs.Steps.{Among, Ended, FitAll, Step, lines}

-- two lists of outcomes are the same
abbrev pub same : List Bool → List Bool → Bool
same [] [] = true
same [] (b ∷ bs) = false
same (a ∷ l) [] = false
same (true ∷ l) (b ∷ bs) = b && same l bs
same (false ∷ l) (b ∷ bs) = not b && same l bs

abbrev pub successes : Line → List Bool
successes line = map (λ a. a.succeeds) line.calls

of_calls : (ts : List Ran) → map (λ a. a.succeeds) (map answer_of ts) ≡ map (λ t. is_success t.outcome) ts
of_calls [] = refl
of_calls (t ∷ ts) = ap (λ l. is_success t.outcome ∷ l) (of_calls ts)

module _ {L : Type 0} (page : L → Line) where
  -- it is one of these
  abbrev pub In : L → List L → Type 0
  In l [] = ⊥
  In l (m ∷ ms) = (l ≡ m) ⊎ In l ms

  -- the first of them whose calls end so
  abbrev pub read : List L → List Bool → Option L
  read [] outcomes = None
  read (l ∷ ls) outcomes = cond (same (successes (page l)) outcomes) (Some l) (read ls outcomes)

  found : (ls : List L) (failed : Option Call) (ts : List Ran) → Among (map page ls) failed ts → (l : L) × IsLine (page l) failed ts
  found [] failed ts none = absurd none
  found (l ∷ ls) failed ts (inl here) = (l, here)
  found (l ∷ ls) failed ts (inr later) = found ls failed ts later

  ended : (ls : List L) (name : List ℕ) (failed : Option Call) (records : List Record) (told now : List Called) → Ended (map page ls) name failed records told now → (l : L) × HasEnded (page l) name failed records told now
  ended [] name failed records told now none = absurd none
  ended (l ∷ ls) name failed records told now (inl here) = (l, here)
  ended (l ∷ ls) name failed records told now (inr later) = ended ls name failed records told now later

  placed : (ls : List L) (l : L) (failed : Option Call) (ts : List Ran) → In l ls → IsLine (page l) failed ts → Among (map page ls) failed ts
  placed [] l failed ts none is = absurd none
  placed (m ∷ ms) l failed ts (inl equal) is = inl (subst (λ x. IsLine (page x) failed ts) equal is)
  placed (m ∷ ms) l failed ts (inr later) is = inr (placed ms l failed ts later is)

  pub is_page : (name : List ℕ) (ways : Ways) (stages : List Stage) (steps : List Step) (ls : List L) → FitAll name steps stages → ((o : Option Record) → lines o steps ≡ map page ls)
      → ((l : L) → In l ls) → ((l : L) → read ls (successes (page l)) ≡ Some l) → IsPage page name ways stages
  is_page name ways stages steps ls fit are all back = record {
    each = each;
    no_other = λ l failed ts is. of_lines name steps stages fit None failed ts (subst (λ x. Among x failed ts) (sym (are None)) (placed ls l failed ts (all l) is));
    decided = λ l failed ts run outcomes.
        let m = each failed ts run in
        let same_calls : successes (page m.0) ≡ successes (page l) = sym (ap (map (λ a. a.succeeds)) m.1.calls) ∙ of_calls ts ∙ outcomes in
        let both : Some m.0 ≡ Some l = sym (back m.0) ∙ ap (read ls) same_calls ∙ back l in
        let equal : m.0 ≡ l = cc in
        subst (λ x. IsLine (page x) failed ts) equal m.1;
    run = λ failed before after old new told now run.
        let o = record_in before.records name in
        ended ls name failed after.records told now (subst (λ x. Ended x name failed after.records told now) (are o) (ended_lines name ways steps stages fit o failed before after old new told now refl run));
  }
    where
      each : (failed : Option Call) (ts : List Ran) → AreCallsOf stages failed ts → (l : L) × IsLine (page l) failed ts
      each failed ts run = found ls failed ts (subst (λ x. Among x failed ts) (are None) (among_lines name steps stages fit None failed ts run))
