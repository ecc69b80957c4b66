-- The answer by the program's name.
use Rattle.std.proofs.Common.{◌≡◌, ℕ, Bool, true, false, List, inl, inr, refl, sym, subst}
use Rattle.host_files.specs.Replay.{Model}
use Rattle.command_line.specs.Reports.{memory_answer}
use Rattle.command_line.proofs.Told.{none_told}
use Rattle.command_words.specs.Commands.{asked_of, rehearsal_of}
use Rattle.dpkg_words.specs.Translated.{translated}
use Rattle.dpkg_words.specs.declared.translation.Translated.{Translated}
use Rattle.dpkg_words.specs.declared.translation.Translated.TheVariants.{Ours, Gathers, Prints, Selects, Clears, Refused}
use Rattle.dpkg_cli.specs.Runs.{IsAnswered, IsDpkgAnswer, IsNamedAnswer, IsNamedAnswerBy, are_dpkgs}

pub named_own : (model : Model) (words : List (List ℕ)) (status : ℕ) → are_dpkgs words ≡ false → IsAnswered model words status → IsNamedAnswer model words status
named_own model words status e is = subst (λ (b : Bool). IsNamedAnswerBy b model words status) (sym e) is

pub named_dpkg : (model : Model) (words : List (List ℕ)) (status : ℕ) → are_dpkgs words ≡ true → IsDpkgAnswer model (translated words) status → IsNamedAnswer model words status
named_dpkg model words status e is = subst (λ (b : Bool). IsNamedAnswerBy b model words status) (sym e) is

-- want of memory is an answer to all words
pub want_answer : (model : Model) (come : Translated) → IsDpkgAnswer model come 2
want_answer model (Ours words) = (0, 0, false, (memory_answer, _, none_told (rehearsal_of words) (asked_of words), inr (inl refl), inl refl))
want_answer model (Gathers gathered) = inr (inr refl)
want_answer model (Prints printed) = inr refl
want_answer model (Selects front) = inr refl
want_answer model (Clears clearing) = inr (inr refl)
want_answer model (Refused line) = refl
