-- What words ask of the diversions, and what came of it.
use Rattle.std.proofs.Common.{ℕ, List, Option, Ok, Err, refl, sym, subst}
use Rattle.command_line.specs.Changes.{IsRead}
use Rattle.command_line.specs.Queries.{bad_path_answer}
use Rattle.command_line.specs.Reports.{IsChangeAnswer, IsReadChange}
use Rattle.command_line.specs.Roots.{Around}
use Rattle.command_line.specs.declared.answer.Answer.{Answer}
use Rattle.command_line.specs.declared.changing.Change.{Change}

pub read_change : (a : Around) (word : List ℕ) (bad : Option (List ℕ)) (P : Change → Type 0) (asked : Change) (answer : Answer) → IsRead bad P (Ok asked) → IsChangeAnswer a word asked answer → IsReadChange a word bad P answer
read_change a word bad P asked answer read is = subst (λ b. IsReadChange a word b P answer) (sym read.0) (asked, read.1, is)

pub read_bad : (a : Around) (word : List ℕ) (bad : Option (List ℕ)) (P : Change → Type 0) (text : List ℕ) → IsRead bad P (Err text) → IsReadChange a word bad P (bad_path_answer text)
read_bad a word bad P text read = subst (λ b. IsReadChange a word b P (bad_path_answer text)) (sym read) refl
