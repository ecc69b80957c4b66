-- How the calls end decides the line.
use Rattle.std.proofs.Common.{◌≡◌, Bool, List, [], ◌∷◌, Option, Some, map, refl, sym, ap, subst, ◌∙◌}
use Rattle.host_core.specs.Events.{Ran}
use Rattle.host_core.specs.Outcome.{is_success}
use Rattle.undo_rows.specs.declared.fall.StepFault.{StepFault}
use Rattle.undo_rows.specs.Transcripts.{Ended}
use Rattle.policy_page.specs.Answers.{answer_of}
use Rattle.policy_page.specs.Lines.{IsLine, Line, fault_of}

successes : (ts : List Ran) → map (λ a. a.succeeds) (map answer_of ts) ≡ map (λ t. is_success t.outcome) ts
successes [] = refl
successes (t ∷ ts) = ap (λ l. is_success t.outcome ∷ l) (successes ts)

-- where a line can be read from how its calls end and from the fault of the files
pub decided : {L : Type 0} (page : L → Line) (read : Option StepFault → List Bool → Option L)
    → ((l : L) → read (fault_of (page l).end.ended) (map (λ a. a.succeeds) (page l).calls) ≡ Some l)
    → (l m : L) (ended : Ended) (ts : List Ran) → IsLine (page m) ended ts
    → map (λ t. is_success t.outcome) ts ≡ map (λ a. a.succeeds) (page l).calls → fault_of ended ≡ fault_of (page l).end.ended
    → IsLine (page l) ended ts
decided page read back l m ended ts is outcomes fault =
    let same_calls : map (λ a. a.succeeds) (page m).calls ≡ map (λ a. a.succeeds) (page l).calls = sym (ap (map (λ a. a.succeeds)) is.calls) ∙ successes ts ∙ outcomes in
    let same_fault : fault_of (page m).end.ended ≡ fault_of (page l).end.ended = sym (ap fault_of is.ends) ∙ fault in
    let same : Some m ≡ Some l = sym (back m) ∙ (λ i. read (same_fault i) (same_calls i)) ∙ back l in
    let equal : m ≡ l = cc in
    subst (λ x. IsLine (page x) ended ts) equal is
