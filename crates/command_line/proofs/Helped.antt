-- Help is told, or memory was wanting for it.
use Rattle.std.proofs.Common.{◌≡◌, ◌⊎◌, Result, Ok, Err, inl, inr, refl}
use Rattle.std.specs.Prelude.{IfOk}
use Rattle.command_words.specs.declared.help.Topic.{Topic}
use Rattle.command_line.specs.Reports.{IsHelpAnswer, memory_answer}
use Rattle.command_line.specs.declared.answer.Answer.{Answer}

pub help_told : {E H : Type 0} (topic : Topic) (hosts : H) (told : Result Answer E) → IfOk told (IsHelpAnswer topic)
    → (answer : Answer) × (IsHelpAnswer topic answer ⊎ ((answer ≡ memory_answer) × (hosts ≡ hosts))) × IfOk told (λ a. a ≡ answer)
help_told topic hosts (Ok answer) is = (answer, inl is, refl)
help_told topic hosts (Err e) is = (memory_answer, inr (refl, refl), tt)
