-- What is given behind the first line of a rehearsal.
use Rattle.std.proofs.Common.{◌≡◌, ◌⊎◌, ◌∙◌, ◌++◌, ℕ, List, Option, ap, append_assoc, append-nil, inl, inr, subst, sym}
use Rattle.std.specs.Io.KnownBytes.{Appends}
use Rattle.command_line.specs.Printing.{AppendsPart}
use Rattle.command_line.specs.Rehearsed.{behind_line, dry_line}
use Rattle.command_line.specs.Reports.{IsGiven, IsGivenInPart, memory_answer, wanting_answer}
use Rattle.command_line.specs.declared.answer.Answer.{Answer}
use Rattle.command_line.proofs.Printed.{given_cut, given_rest}

part_behind : (answer : Answer) (a b c e f : Option (List ℕ)) (ended : ℕ) → Appends a b dry_line → IsGivenInPart answer b c e f ended → IsGivenInPart (behind_line answer) a c e f ended
part_behind answer a b c e f ended first part =
    (dry_line ++ part.0, part.1, ap (λ (l : List ℕ). dry_line ++ l) part.2 ∙ sym (append_assoc dry_line part.0 part.1), given_rest (wanting_answer part.0) dry_line a b c e f ended first part.3)

pub given_behind : (answer : Answer) (a b c e f : Option (List ℕ)) (ended : ℕ) (P : Type 0) → Appends a b dry_line
    → IsGiven answer b c e f ended ⊎ (IsGiven memory_answer b c e f ended ⊎ (P × IsGivenInPart answer b c e f ended))
    → IsGiven (behind_line answer) a c e f ended ⊎ (IsGiven (behind_line memory_answer) a c e f ended ⊎ (P × IsGivenInPart (behind_line answer) a c e f ended))
given_behind answer a b c e f ended P first (inl given) = inl (given_rest answer dry_line a b c e f ended first given)
given_behind answer a b c e f ended P first (inr (inl want)) = inr (inl (given_rest memory_answer dry_line a b c e f ended first want))
given_behind answer a b c e f ended P first (inr (inr (units, part))) = inr (inr (units, part_behind answer a b c e f ended first part))

-- the line itself couldn't be written whole
pub line_cut : (a b e : Option (List ℕ)) (ended : ℕ) → AppendsPart a b dry_line → ended ≡ 2 → IsGiven (behind_line memory_answer) a b e e ended
line_cut a b e ended part status = given_cut (behind_line memory_answer) a b e ended (subst (AppendsPart a b) (sym (append-nil dry_line)) part) status
