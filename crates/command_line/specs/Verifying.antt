-- What a verification of packages is answered with.
use Rattle.std.specs.Prelude.{◌≡◌, ◌≤◌, ◌⊎◌, ℕ, IsTrue, IfErr, IfOk, List, [], ◌∷◌, Option, Some, None, Result, Ok, Err}
use Rattle.host_core.specs.Host.{NoFault, Reads, Silent, State}
use Rattle.administration.specs.declared.fault.AdministrationFault.{AdministrationFault}
use Rattle.administration.specs.declared.fault.AdministrationFault.TheVariants as opening_faults
use Rattle.inquiries.specs.Read.{IsAllDamage}
use Rattle.package_tree.specs.declared.fault.TreeFault.{TreeFault}
use Rattle.package_tree.specs.declared.package.Package.{Package}
use Rattle.unit_reports.specs.declared.refusal.Rule.TheVariants.{Tree}
use Rattle.unit_reports.specs.declared.report.Reply.TheVariants.{Refused}
use Rattle.report_lines.specs.Replies.{reply_line}
use Rattle.verification.specs.Compared.{IsCompared}
use Rattle.verification.specs.Counting.{CountsVerified}
use Rattle.verification.specs.Verified.{IsVerified}
use Rattle.command_words.specs.declared.owners.TreeOwners.{TreeOwners}
use Rattle.command_words.specs.declared.verifying.Verifying.{Verifying}
use Rattle.command_line.specs.Queries.{IsLookedAt, unanswered_answer}
use Rattle.command_line.specs.Reading.{IsReadFor}
use Rattle.command_line.specs.Roots.{Around, Given}
use Rattle.command_line.specs.declared.answer.Answer.{Answer}
use Rattle.command_line.specs.declared.steady.Unanswered.{Unanswered}
use Rattle.command_line.specs.declared.verifying.Checking.{Checking}
use Rattle.command_line.specs.declared.verifying.Checking.TheVariants.{Listed, Shipped}
use Rattle.command_line.specs.declared.steady.Unanswered.TheVariants.{Unsteady, Fault}

-- what is told is printed; where anything is, the status is 1
abbrev pub verified_answer : List ℕ → Answer
verified_answer [] = record { output = []; error = []; status = 0 }
verified_answer (b ∷ rest) = record { output = b ∷ rest; error = []; status = 1 }

-- the text that is told: of packages by what was known of them, or of a tree's package against the tree
abbrev pub IsChecked : Checking → State → State → List ℕ → Type 0
IsChecked (Listed names) old new text = IsVerified names old new text
IsChecked (Shipped p) old new text = IsCompared p old new text

-- the answer from what stood on a host between two moments
abbrev pub IsVerifiedBetween : Checking → State → State → Answer → Type 0
IsVerifiedBetween asked old new answer = (text : List ℕ) × IsChecked asked old new text × (answer ≡ verified_answer text)

-- a host was only looked at, to verify packages
pub record HasVerified (asked : Checking) (old new : State) (result : Result Answer AdministrationFault) : Type 0 where
  pub answer : IfOk result (IsVerifiedBetween asked old new)
  pub bound : IfOk result (λ answer. answer.status ≤ 2)
  pub damage : IsTrue new.honest → IfErr result (IsAllDamage old.world)
  pub reads : Reads old new
  pub silent : Silent old new
  pub counts : CountsVerified old new result

-- From one moment to another it was only looked at what changes under the question. Unless it did change, the device didn't fail.
pub record IsBegun (begun from : State) : Type 0 where
  pub reads : Reads begun from
  pub alone : IsTrue from.honest → NoFault begun from

-- the answer from a host that was only looked at: what is told of a failed look is told of those between two moments, before which
-- and behind which the device didn't fail
pub record IsVerifiedOn (left : Given) (begun : State) (asked : Checking) (answer : Answer) : Type 0 where
  pub from : State
  pub to : State
  pub end : State
  pub looked : IsLookedAt left begun end
  pub before : IsBegun begun from
  pub between : Reads from to
  pub behind : Reads to end
  pub sound : NoFault to end
  pub answered : IsVerifiedBetween asked from to answer

-- why there is no answer from one
pub record IsUnverifiedOn (left : Given) (begun : State) (fault : AdministrationFault) : Type 0 where
  pub from : State
  pub end : State
  pub looked : IsLookedAt left begun end
  pub before : IsBegun begun from
  pub counts : CountsVerified {T = Unit {0}} from end (Err fault)
  pub damage : IsTrue end.honest → IsAllDamage begun.world fault

-- a host changed under the question again and again: it didn't tell of one world, as it does where nobody else writes
pub record IsNeverVerifiedOn (left : Given) (begun : State) : Type 0 where
  pub end : State
  pub looked : IsLookedAt left begun end
  pub dishonest : IsTrue end.honest → ⊥

abbrev pub IsLeftUnverifiedOn : Given → State → Unanswered → Type 0
IsLeftUnverifiedOn left begun Unsteady = IsNeverVerifiedOn left begun
IsLeftUnverifiedOn left begun (Fault fault) = IsUnverifiedOn left begun fault

-- the same, on a host behind the root's word
abbrev pub HasVerifiedUnder : Around → List ℕ → Checking → Answer → Type 0
HasVerifiedUnder a word asked answer = (begun : State) × a.root word begun × IsVerifiedOn a.left begun asked answer

-- a tree that can't be read is refused, as where it is to be unpacked
abbrev pub tree_answer : List ℕ → TreeFault → Answer
tree_answer word fault = record { output = reply_line (Refused (record { rule = Tree fault; «package» = word })); error = []; status = 1 }

-- the answer by what a tree's word was read as: of a tree that can't be read the host was given back as it was opened
abbrev pub IsComparedWith : Given → State → List ℕ → Result Package TreeFault → Answer → Type 0
IsComparedWith left begun word (Ok p) answer = IsVerifiedOn left begun (Shipped p) answer
IsComparedWith left begun word (Err fault) answer = left begun × (answer ≡ tree_answer word fault)

abbrev pub IsComparedOn : Around → State → List ℕ → TreeOwners → Answer → Type 0
IsComparedOn a begun word owners answer = (read : Result Package TreeFault) × IsReadFor a owners word read × IsComparedWith a.left begun word read answer

-- the same, on a host behind the root's word
abbrev pub HasComparedUnder : Around → List ℕ → List ℕ → TreeOwners → Answer → Type 0
HasComparedUnder a root word owners answer = (begun : State) × a.root root begun × IsComparedOn a begun word owners answer

-- by the names of packages, or where a tree is given by that
abbrev pub HasCheckedUnder : Around → List ℕ → List (List ℕ) → Option (List ℕ) → TreeOwners → Answer → Type 0
HasCheckedUnder a root names None owners answer = HasVerifiedUnder a root (Listed names) answer
HasCheckedUnder a root names (Some word) owners answer = HasComparedUnder a root word owners answer

-- or there is none from it, or none was opened: the device failed, or memory was wanting
abbrev pub IsUnverified : Around → List ℕ → Unanswered → Type 0
IsUnverified a word Unsteady = (begun : State) × a.root word begun × IsNeverVerifiedOn a.left begun
IsUnverified a word (Fault fault) =
    ((begun : State) × a.root word begun × IsUnverifiedOn a.left begun fault)
    ⊎ (a.unopened × (((fault ≡ opening_faults.Device) × a.failed) ⊎ (fault ≡ opening_faults.NoMemory)))

-- the answer under a root, or why there is none
abbrev pub IsVerifyAnswer : Around → Verifying → Answer → Type 0
IsVerifyAnswer a v answer = HasCheckedUnder a v.root v.names v.tree v.owners answer
    ⊎ ((why : Unanswered) × IsUnverified a v.root why × (answer ≡ unanswered_answer why))
