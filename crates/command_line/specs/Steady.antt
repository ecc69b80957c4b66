-- An answer of one moment: the same is shown before it and behind it. What is shown may be changed by others at any time.
use Rattle.std.specs.Prelude.{◌≡◌, ◌<◌, ◌⊎◌, ℕ, zero, suc, Bool, true, false, Result, Ok, Err}
use Rattle.host_core.specs.declared.fault.HostFault.{HostFault}
use Rattle.administration.specs.Fault.{fault_of}
use Rattle.administration.specs.declared.fault.AdministrationFault.{AdministrationFault}
use Rattle.administration.specs.declared.fault.AdministrationFault.TheVariants.{Damaged, Device, NoMemory, Declined}
use Rattle.inquiries.specs.Glances.{IsSame}
use Rattle.inquiries.specs.declared.glance.Glance.{Glance}
use Rattle.command_line.specs.declared.answer.Answer.{Answer}
use Rattle.command_line.specs.declared.shown.Shown.{Ghosts}
use Rattle.command_line.specs.declared.steady.Turn.{Turn}
use Rattle.command_line.specs.declared.steady.Turn.TheVariants.{Ended, Again}
use Rattle.command_line.specs.declared.steady.Unanswered.{Unanswered}
use Rattle.command_line.specs.declared.steady.Unanswered.TheVariants.{Unsteady, Fault}

-- a fault of the device, or want of memory, is told at once; damage may be what a change looks like
abbrev pub is_final : Result Answer AdministrationFault → Bool
is_final (Ok answer) = false
is_final (Err (Damaged file line)) = false
is_final (Err Device) = true
is_final (Err NoMemory) = true
is_final (Err Declined) = true

abbrev pub told_of : Result Answer AdministrationFault → Result Answer Unanswered
told_of (Ok answer) = Ok answer
told_of (Err fault) = Err (Fault fault)

-- an answer is told where the same was shown before it and behind it; else it is tried for again
abbrev pub IsCompared : Result Answer AdministrationFault → Glance → Glance → Turn → Type 0
IsCompared answer before after (Ended result) = (IsSame after before × (result ≡ told_of answer)) ⊎ (result ≡ Err (Fault NoMemory))
IsCompared answer before after (Again shown) = (IsSame after before → ⊥) × (shown ≡ after)

module _ {W Asked : Type 0} (of : Ghosts W Asked) (asked : Asked) where
  -- between two moments there was an answer that isn't told at once, and behind it this was shown
  pub record IsTried (s : W) (answer : Result Answer AdministrationFault) (after : Glance) (t : W) : Type 0 where
    pub behind : W
    pub answered : of.answered asked s behind answer
    pub unsure : is_final answer ≡ false
    pub glanced : of.glanced asked behind t after

  -- what a question ended with, behind what was shown first
  pub data IsEnded (s : W) (before : Glance) (t : W) (result : Result Answer Unanswered) : Type 0 where
    at_once : (answer : Result Answer AdministrationFault) → of.answered asked s t answer → is_final answer ≡ true → result ≡ told_of answer → IsEnded s before t result
    missed : (answer : Result Answer AdministrationFault) (behind : W) (fault : HostFault) → of.answered asked s behind answer → is_final answer ≡ false → of.missed asked behind t fault → result ≡ Err (Fault (fault_of fault)) → IsEnded s before t result
    steady : (answer : Result Answer AdministrationFault) (after : Glance) → IsTried s answer after t → IsSame after before → result ≡ told_of answer → IsEnded s before t result
    wanting : (answer : Result Answer AdministrationFault) (after : Glance) → IsTried s answer after t → result ≡ Err (Fault NoMemory) → IsEnded s before t result

  -- an answer was tried for, and something else was shown behind it than before it
  abbrev pub IsPassed : W → Glance → W → Glance → Type 0
  IsPassed s before t after = (answer : Result Answer AdministrationFault) × IsTried s answer after t × (IsSame after before → ⊥)

  abbrev pub IsTurned : W → Glance → W → Turn → Type 0
  IsTurned s before t (Ended result) = IsEnded s before t result
  IsTurned s before t (Again after) = IsPassed s before t after

  -- so many answers were tried for in vain
  abbrev pub ArePassed : ℕ → W → Glance → W → Glance → Type 0
  ArePassed zero s before t after = (t ≡ s) × (after ≡ before)
  ArePassed (suc n) s before t after = (m : W) × (shown : Glance) × ArePassed n s before m shown × IsPassed m shown t after

  -- What a question came to: nothing was shown at first; or behind fewer than ten answers that were tried for in vain it
  -- ended; or ten were.
  pub data IsSettled (s t : W) (result : Result Answer Unanswered) : Type 0 where
    blind : (fault : HostFault) → of.missed asked s t fault → result ≡ Err (Fault (fault_of fault)) → IsSettled s t result
    ended : (n : ℕ) (first m : W) (shown before : Glance) → n < 10 → of.glanced asked s first shown → ArePassed n first shown m before → IsEnded m before t result → IsSettled s t result
    unsteady : (first : W) (shown after : Glance) → of.glanced asked s first shown → ArePassed 10 first shown t after → result ≡ Err Unsteady → IsSettled s t result
