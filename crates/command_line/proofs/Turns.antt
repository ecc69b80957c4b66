-- One turn of a question.
use Rattle.std.proofs.Common.{◌≡◌, ◌+◌, ℕ, suc, Bool, false, Result, Ok, Err, inl, inr, refl, sym, subst, add-one}
use Rattle.administration.specs.declared.fault.AdministrationFault.{AdministrationFault}
use Rattle.inquiries.specs.Glances.{IsSame}
use Rattle.inquiries.specs.declared.glance.Glance.{Glance}
use Rattle.command_line.specs.Steady.{ArePassed, IsCompared, IsPassed, IsTried, IsTurned, is_final, steady, wanting}
use Rattle.command_line.specs.declared.answer.Answer.{Answer}
use Rattle.command_line.specs.declared.shown.Shown.{Ghosts}
use Rattle.command_line.specs.declared.steady.Turn.{Turn}
use Rattle.command_line.specs.declared.steady.Turn.TheVariants.{Ended, Again}

module _ {W Asked : Type 0} (of : Ghosts W Asked) (asked : Asked) where
  -- what a comparison says of an answer that was tried for
  pub turned : (s t : W) (before after : Glance) (answer : Result Answer AdministrationFault) (turn : Turn) → IsTried of asked s answer after t → IsCompared answer before after turn → IsTurned of asked s before t turn
  turned s t before after answer (Ended result) one (inl same) = steady answer after one same.0 same.1
  turned s t before after answer (Ended result) one (inr none) = wanting answer after one none
  turned s t before after answer (Again shown) one compared = (answer, subst (λ g. IsTried of asked s answer g t) (sym compared.1) one, subst (λ g. IsSame g before → ⊥) (sym compared.1) compared.0)

  -- one more in vain
  pub passed_more : (n : ℕ) (s m t : W) (before shown after : Glance) → ArePassed of asked n s before m shown → IsPassed of asked m shown t after → ArePassed of asked (n + 1) s before t after
  passed_more n s m t before shown after all one = rw add-one (m, shown, all, one)
