-- What stands behind the reply of a rehearsal.
use Rattle.std.proofs.Common.{◌≡◌, ◌⊎◌, ◌∙◌, ◌≤◌, ℕ, zero, suc, Bool, true, false, List, Option, Some, None, ap, arith, inl, inr, refl}
use Rattle.command_words.specs.declared.words.Asked.{Asked}
use Rattle.command_line.specs.Rehearsed.{IsToldBy, IsToldFor, Rehearsal}
use Rattle.command_line.specs.Reports.{IsGiven, memory_answer}
use Rattle.command_line.specs.Telling.{IsToldBehind, ended_behind, told_answer}
use Rattle.command_line.specs.declared.answer.Answer.{Answer}
use Rattle.command_line.specs.declared.telling_hosts.Told.{Told}
use Rattle.command_line.specs.declared.telling_hosts.Told.TheVariants.{Nothing, Lines, Failed}
use Rattle.command_line.proofs.Held.{appends_nothing}

pub told_bound : (told : Told) → (told_answer told).status ≤ 2
told_bound Nothing = omega arith
told_bound (Lines text) = omega arith
told_bound (Failed fault) = omega arith

-- where no root was given back
pub none_behind : (o e : Option (List ℕ)) (first : ℕ) → IsToldBehind Nothing o o e e first first
none_behind o e first = (0, inl (inl (record { status = refl; output = appends_nothing o; error = appends_nothing e })), refl)

told_by : (changes : Bool) (asked : Option Asked) → IsToldBy changes asked Nothing
told_by true asked = inl refl
told_by false asked = refl

pub none_told : (r : Rehearsal) (asked : Option Asked) → IsToldFor r asked Nothing
none_told None asked = refl
none_told (Some r) asked = told_by r.1 asked

-- a reply that was given ends with its status, or with 2
given_status : (answer : Answer) (a b e f : Option (List ℕ)) (ended : ℕ) → IsGiven answer a b e f ended → (ended ≡ answer.status) ⊎ (ended ≡ 2)
given_status answer a b e f ended (inl written) = inl written.status
given_status answer a b e f ended (inr cut) = inr cut.0

-- what is told behind it ends with 0, or with 2
told_status : (told : Told) → ((told_answer told).status ≡ 0) ⊎ ((told_answer told).status ≡ 2)
told_status Nothing = inl refl
told_status (Lines text) = inl refl
told_status (Failed fault) = inr refl

second_status : (told : Told) (a b e f : Option (List ℕ)) (second : ℕ) → IsGiven (told_answer told) a b e f second ⊎ IsGiven memory_answer a b e f second → (second ≡ 0) ⊎ (second ≡ 2)
second_status told a b e f second (inl given) = elim (given_status (told_answer told) a b e f second given) [
  | inl is ↦ elim (told_status told) [ inl none ↦ inl (is ∙ none) | inr failed ↦ inr (is ∙ failed) ]
  | inr cut ↦ inr cut
]
second_status told a b e f second (inr given) = elim (given_status memory_answer a b e f second given) [ inl is ↦ inr is | inr cut ↦ inr cut ]

ended_status : (first second ended status : ℕ) → (first ≡ status) ⊎ (first ≡ 2) → (second ≡ 0) ⊎ (second ≡ 2) → ended ≡ ended_behind first second → (ended ≡ status) ⊎ (ended ≡ 2)
ended_status first second ended status is (inr failed) ends = inr (ends ∙ ap (ended_behind first) failed)
ended_status first second ended status (inl is) (inl none) ends = inl (ends ∙ ap (ended_behind first) none ∙ is)
ended_status first second ended status (inr is) (inl none) ends = inr (ends ∙ ap (ended_behind first) none ∙ is)

pub behind_status : (told : Told) (a b e f : Option (List ℕ)) (first ended status : ℕ) → (first ≡ status) ⊎ (first ≡ 2) → IsToldBehind told a b e f first ended → (ended ≡ status) ⊎ (ended ≡ 2)
behind_status told a b e f first ended status is behind = ended_status first behind.0 ended status is (second_status told a b e f behind.0 behind.1) behind.2
