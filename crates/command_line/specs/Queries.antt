-- What a question about an administration is answered with.
use Rattle.std.specs.Prelude.{◌≡◌, ◌≤◌, ◌⊎◌, ℕ, Bool, true, false, IsTrue, IfErr, IfOk, List, [], ◌∷◌, ◌++◌, Option, Some, None, Result, Ok, Err, codes, if◌then◌else◌}
use Rattle.host_core.specs.Host.{Counts, NoFault, Reads, Silent, State}
use Rattle.host_core.specs.Paths.{Path, is_path_text, path_of}
use Rattle.host_core.specs.World.{World}
use Rattle.host_core.specs.declared.fault.HostFault.{HostFault}
use Rattle.administration.specs.Fault.{CountsAdministration}
use Rattle.administration.specs.declared.fault.AdministrationFault.{AdministrationFault}
use Rattle.administration.specs.declared.fault.AdministrationFault.TheVariants as opening_faults
use Rattle.opening.specs.Parts.{IsDamage}
use Rattle.inquiries.specs.Glances.{IsGlance}
use Rattle.inquiries.specs.declared.glance.Glance.{Glance}
use Rattle.inquiries.specs.Read.{AreDiversions, AreFiles, AreSelections, IsAllDamage, IsAudit, IsFilesDamage, IsList, IsMatching, IsSearch, IsStatus, IsTruename, diversions_parts, records_parts}
use Rattle.queries.specs.declared.asked.Told.{Told}
use Rattle.dpkg_session.specs.Standing.{CountsRefusal}
use Rattle.shown_lines.specs.Lines.{line}
use Rattle.command_words.specs.declared.query.Query.{Query}
use Rattle.command_words.specs.declared.query.Question.{Question}
use Rattle.command_words.specs.declared.query.Question.TheVariants as question
use Rattle.command_line.specs.Roots.{Around, Given, opening_answer}
use Rattle.command_line.specs.declared.answer.Answer.{Answer}
use Rattle.command_line.specs.declared.fault.Lock.TheVariants.{Administration}
use Rattle.command_line.specs.declared.fault.NotOpened.TheVariants.{Locked, Opening}
use Rattle.command_line.specs.declared.questions.Inquiry.{Inquiry}
use Rattle.command_line.specs.declared.questions.Inquiry.TheVariants as inquiry
use Rattle.command_line.specs.declared.steady.Unanswered.{Unanswered}
use Rattle.command_line.specs.declared.steady.Unanswered.TheVariants.{Unsteady, Fault}

-- a question about the path that a text names, or the text that names none
abbrev pub on_path : (Path → Inquiry) → List ℕ → Result Inquiry (List ℕ)
on_path asked text = if is_path_text text then Ok (asked (path_of text)) else Err text

-- a question with the path that it names, or the text that names none
abbrev pub inquiry_of : Question → Result Inquiry (List ℕ)
inquiry_of question.Audit = Ok inquiry.Audit
inquiry_of question.Diversions = Ok inquiry.Diversions
inquiry_of (question.List layout patterns) = Ok (inquiry.List layout patterns)
inquiry_of (question.ListFiles name) = Ok (inquiry.ListFiles name)
inquiry_of (question.Search path) = on_path inquiry.Search path
inquiry_of (question.SearchMatching pattern) = Ok (inquiry.SearchMatching pattern)
inquiry_of (question.Selections patterns) = Ok (inquiry.Selections patterns)
inquiry_of (question.Status name) = Ok (inquiry.Status name)
inquiry_of (question.Truename user path) = on_path (inquiry.Truename user) path

-- a text that names no path is told on standard error
abbrev pub bad_path_answer : List ℕ → Answer
bad_path_answer text = record { output = []; error = line (codes "bad path " ++ text); status = 2 }

-- a text is printed
abbrev pub text_answer : List ℕ → Answer
text_answer text = record { output = text; error = []; status = 0 }

-- what is told of packages; where a pattern matches none, the status is 1
abbrev pub asked_answer : Told → Answer
asked_answer told = record { output = told.text; error = []; status = if told.complete then 0 else 1 }

-- what is told of a package; one without a record is unknown
abbrev pub package_answer : List ℕ → Option (List ℕ) → Answer
package_answer name (Some text) = text_answer text
package_answer name None = record { output = line (codes "refused " ++ (name ++ codes " Unknown")); error = []; status = 1 }

-- what is found is printed; where nothing is, the status is 1
abbrev pub search_answer : List ℕ → Answer
search_answer [] = record { output = []; error = []; status = 1 }
search_answer (b ∷ rest) = text_answer (b ∷ rest)

-- the answer from what stands on a host
abbrev pub IsAnsweredFrom : State → Inquiry → Answer → Type 0
IsAnsweredFrom s inquiry.Audit answer = (text : List ℕ) × IsAudit s text × (answer ≡ text_answer text)
IsAnsweredFrom s inquiry.Diversions answer = (text : List ℕ) × AreDiversions s text × (answer ≡ text_answer text)
IsAnsweredFrom s (inquiry.List layout patterns) answer = (told : Told) × IsList layout patterns s told × (answer ≡ asked_answer told)
IsAnsweredFrom s (inquiry.ListFiles name) answer = (text : Option (List ℕ)) × AreFiles name s text × (answer ≡ package_answer name text)
IsAnsweredFrom s (inquiry.Search path) answer = (text : List ℕ) × IsSearch path s text × (answer ≡ search_answer text)
IsAnsweredFrom s (inquiry.SearchMatching pattern) answer = (text : List ℕ) × IsMatching pattern s text × (answer ≡ search_answer text)
IsAnsweredFrom s (inquiry.Selections patterns) answer = (told : Told) × AreSelections patterns s told × (answer ≡ asked_answer told)
IsAnsweredFrom s (inquiry.Status name) answer = (text : Option (List ℕ)) × IsStatus name s text × (answer ≡ package_answer name text)
IsAnsweredFrom s (inquiry.Truename user path) answer = (text : List ℕ) × IsTruename user path s text × (answer ≡ text_answer text)

-- why a question can't be answered: by the first that can't be read of what it reads
abbrev pub IsUnread : Inquiry → World → AdministrationFault → Type 0
IsUnread inquiry.Audit w fault = IsAllDamage w fault
IsUnread inquiry.Diversions w fault = IsDamage diversions_parts w fault
IsUnread (inquiry.List layout patterns) w fault = IsDamage records_parts w fault
IsUnread (inquiry.ListFiles name) w fault = IsFilesDamage name w fault
IsUnread (inquiry.Search path) w fault = IsAllDamage w fault
IsUnread (inquiry.SearchMatching pattern) w fault = IsAllDamage w fault
IsUnread (inquiry.Selections patterns) w fault = IsDamage records_parts w fault
IsUnread (inquiry.Status name) w fault = IsDamage records_parts w fault
IsUnread (inquiry.Truename user path) w fault = IsDamage diversions_parts w fault

-- of this the names in `info` are looked at too, since it reads what stands there
abbrev pub reads_info : Inquiry → Bool
reads_info inquiry.Audit = true
reads_info inquiry.Diversions = false
reads_info (inquiry.List layout patterns) = false
reads_info (inquiry.ListFiles name) = true
reads_info (inquiry.Search path) = true
reads_info (inquiry.SearchMatching pattern) = true
reads_info (inquiry.Selections patterns) = false
reads_info (inquiry.Status name) = false
reads_info (inquiry.Truename user path) = false

-- a host was only looked at, and showed this of what changes under a question, with the names in `info` or without
pub record HasShown (info : Bool) (old new : State) (glance : Glance) : Type 0 where
  pub reads : Reads old new
  pub silent : Silent old new
  pub sound : NoFault old new
  pub shown : IsTrue new.honest → IsGlance info old.world glance

-- or it showed nothing, for a fault
pub record HasMissed (old new : State) (fault : HostFault) : Type 0 where
  pub reads : Reads old new
  pub silent : Silent old new
  pub counts : Counts {T = Unit {0}} old new (Err fault)

-- a host was only looked at, for an answer
pub record HasAnswered (asked : Inquiry) (old new : State) (result : Result Answer AdministrationFault) : Type 0 where
  pub answer : IfOk result (IsAnsweredFrom new asked)
  pub bound : IfOk result (λ answer. answer.status ≤ 2)
  pub damage : IsTrue new.honest → IfErr result (IsUnread asked old.world)
  pub reads : Reads old new
  pub silent : Silent old new
  pub counts : CountsAdministration old new result

-- a host was given back; before that it was only looked at, and no script was called
pub record IsLookedAt (left : Given) (begun end : State) : Type 0 where
  pub given : left end
  pub reads : Reads begun end
  pub silent : Silent begun end

-- the answer from what stands on a host that was only looked at
pub record IsInquiredOn (left : Given) (begun : State) (asked : Inquiry) (answer : Answer) : Type 0 where
  pub end : State
  pub looked : IsLookedAt left begun end
  pub sound : NoFault begun end
  pub answered : IsAnsweredFrom end asked answer

-- why there is no answer from one
pub record IsUnansweredOn (left : Given) (begun : State) (asked : Inquiry) (fault : AdministrationFault) : Type 0 where
  pub end : State
  pub looked : IsLookedAt left begun end
  pub counts : CountsRefusal fault begun end
  pub damage : IsTrue end.honest → IsUnread asked begun.world fault

-- A host changed under the question again and again: it didn't tell of one world, as it does where nobody else writes.
pub record IsUnsteadyOn (left : Given) (begun : State) : Type 0 where
  pub end : State
  pub looked : IsLookedAt left begun end
  pub sound : NoFault begun end
  pub dishonest : IsTrue end.honest → ⊥

-- why there is no answer from a host
abbrev pub IsLeftOpenOn : Given → State → Inquiry → Unanswered → Type 0
IsLeftOpenOn left begun asked Unsteady = IsUnsteadyOn left begun
IsLeftOpenOn left begun asked (Fault fault) = IsUnansweredOn left begun asked fault

-- the same, on a host behind the root's word
abbrev pub HasInquired : Around → List ℕ → Inquiry → Answer → Type 0
HasInquired a word asked answer = (begun : State) × a.root word begun × IsInquiredOn a.left begun asked answer

-- or there is none from it, or none was opened: the device failed, or memory was wanting
abbrev pub IsUnanswered : Around → List ℕ → Inquiry → Unanswered → Type 0
IsUnanswered a word asked Unsteady = (begun : State) × a.root word begun × IsUnsteadyOn a.left begun
IsUnanswered a word asked (Fault fault) =
    ((begun : State) × a.root word begun × IsUnansweredOn a.left begun asked fault)
    ⊎ (a.unopened × (((fault ≡ opening_faults.Device) × a.failed) ⊎ (fault ≡ opening_faults.NoMemory)))

-- a root that changes again and again is told as one whose lock another program holds
abbrev pub unanswered_answer : Unanswered → Answer
unanswered_answer Unsteady = opening_answer (Locked Administration)
unanswered_answer (Fault fault) = opening_answer (Opening fault)

-- the answer under a root, or why there is none
abbrev pub IsInquired : Around → List ℕ → Inquiry → Answer → Type 0
IsInquired a word asked answer = HasInquired a word asked answer
    ⊎ ((why : Unanswered) × IsUnanswered a word asked why × (answer ≡ unanswered_answer why))

-- the path of a question is read first, and only where it names one is the root opened
abbrev pub IsReadAnswer : Around → List ℕ → Result Inquiry (List ℕ) → Answer → Type 0
IsReadAnswer a word (Ok asked) answer = IsInquired a word asked answer
IsReadAnswer a word (Err text) answer = answer ≡ bad_path_answer text

abbrev pub IsQueryAnswer : Around → Query → Answer → Type 0
IsQueryAnswer a q answer = IsReadAnswer a q.root (inquiry_of q.question) answer
