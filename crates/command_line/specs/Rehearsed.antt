-- How words are answered that ask for a rehearsal.
use Rattle.std.specs.Prelude.{◌≡◌, ◌⊎◌, ◌++◌, ℕ, Bool, true, false, List, Option, Some, None, codes}
use Rattle.host_core.specs.Events.{Event}
use Rattle.host_overlay.specs.Failing.{foretold}
use Rattle.command_words.specs.Rehearsals.{Rehearsed}
use Rattle.command_words.specs.declared.help.Topic.{Topic}
use Rattle.command_words.specs.declared.words.Asked.{Asked}
use Rattle.command_line.specs.Dry.{dry}
use Rattle.command_line.specs.Reports.{IsAnswerOf, memory_answer, opens_root, prints}
use Rattle.command_line.specs.Roots.{Around}
use Rattle.command_line.specs.Telling.{telling}
use Rattle.command_line.specs.declared.answer.Answer.{Answer}
use Rattle.command_line.specs.declared.telling_hosts.Told.{Told}
use Rattle.command_line.specs.declared.telling_hosts.Told.TheVariants.{Nothing}

-- the calls that are assumed to fail, and whether changed paths are told, where it is a rehearsal
abbrev pub Rehearsal : Type 0
Rehearsal = Option Rehearsed

-- hosts that are put over others, of which this is told where that is asked for
abbrev pub over_by : Bool → Told → List Event → Around → Around
over_by false told first a = dry first a
over_by true told first a = telling told first a

-- words are answered over hosts, or for a rehearsal over others that are put over these, with the calls foretold that are assumed to fail
abbrev pub over : Rehearsal → Told → Around → Around
over None told a = a
over (Some rehearsed) told a = over_by rehearsed.1 told (foretold rehearsed.0) a

-- something is told only where that is asked for, and a root opened
abbrev pub IsToldBy : Bool → Option Asked → Told → Type 0
IsToldBy false asked told = told ≡ Nothing
IsToldBy true asked told = (told ≡ Nothing) ⊎ (opens_root asked ≡ true)

abbrev pub IsToldFor : Rehearsal → Option Asked → Told → Type 0
IsToldFor None asked told = told ≡ Nothing
IsToldFor (Some rehearsed) asked told = IsToldBy rehearsed.1 asked told

-- the first line of a rehearsal
abbrev pub dry_line : List ℕ
dry_line = codes "dry run\n"

-- an answer behind it
abbrev pub behind_line : Answer → Answer
behind_line answer = record answer { output = dry_line ++ answer.output }

abbrev pub reply_of : Rehearsal → Answer → Answer
reply_of None answer = answer
reply_of (Some rehearsed) answer = behind_line answer

-- The reply to words: the answer to what they ask for; of a rehearsal this is the answer of the very command, over hosts of which
-- nothing is changed, behind the first line.
abbrev pub IsReplyTo : Around → Rehearsal → Told → Topic → Option Asked → Answer → Type 0
IsReplyTo a rehearsal told named asked reply = (answer : Answer) × IsAnswerOf (over rehearsal told a) named asked answer × (reply ≡ reply_of rehearsal answer)

-- that memory was wanting, behind the first line or in its place
abbrev pub IsWantOf : Rehearsal → Answer → Type 0
IsWantOf rehearsal reply = (reply ≡ memory_answer) ⊎ (reply ≡ reply_of rehearsal memory_answer)

-- only to these is anything written to standard output
abbrev pub writes : Rehearsal → Option Asked → Bool
writes None asked = prints asked
writes (Some rehearsed) asked = true

-- The status that words end with is that of their reply, or of want of memory; it is 2 where not all of that could be written, or of
-- what is told behind it.
abbrev pub IsEndOf : Around → Rehearsal → Topic → Option Asked → ℕ → Type 0
IsEndOf a rehearsal named asked status = (reply : Answer) × (told : Told) × IsToldFor rehearsal asked told
    × (IsReplyTo a rehearsal told named asked reply ⊎ IsWantOf rehearsal reply)
    × ((status ≡ reply.status) ⊎ (status ≡ 2))
