-- What a command writes, and the status that it ends with.
use Rattle.std.specs.Prelude.{ℕ, List, [], ◌∷◌, ◌++◌, ◌⊎◌, ◌≡◌, max, Bool, true, false, Option, Some, None, Result, Ok, Err, codes, if◌then◌else◌, is_ok}
use Rattle.std.specs.List.{flat_map}
use Rattle.std.specs.Option.{option_map_or}
use Rattle.std.specs.Io.KnownBytes.{Appends, Keeps}
use Rattle.version_order.specs.declared.fault.VersionFault.{VersionFault}
use Rattle.command_line.specs.declared.fault.NotOpened.{NotOpened}
use Rattle.unit_reports.specs.declared.report.Report.{Report}
use Rattle.report_lines.specs.Reports.{report_lines, report_status}
use Rattle.command_words.specs.Comparisons.{bad_version, bad_version_line, holds_of}
use Rattle.command_line.specs.declared.answer.Answer.{Answer}
use Rattle.command_line.specs.Changes.{HasEndedChange, IsDivertOf, IsUndivertOf, bad_of_divert, bad_of_undivert, is_good}
use Rattle.command_line.specs.Packages.{HasEndedWork, options_of, work_of}
use Rattle.command_line.specs.declared.packages.Work.{Work}
use Rattle.command_line.specs.declared.packages.Work.TheVariants as work
use Rattle.configure_run.specs.declared.options.ConfigureOptions.{ConfigureOptions}
use Rattle.command_line.specs.Queries.{IsQueryAnswer, bad_path_answer, inquiry_of, text_answer}
use Rattle.command_line.specs.declared.changing.Change.{Change}
use Rattle.command_line.specs.Limits.{KeepsLimit}
use Rattle.command_line.specs.Printing.{AppendsPart, units_of}
use Rattle.command_line.specs.Roots.{Around, IsUnitsFault, opening_answer}
use Rattle.command_line.specs.Triggering.{units_behind, with_triggers}
use Rattle.command_line.specs.Unpacks.{HasUnpacked, triggering_for}
use Rattle.command_line.specs.Verifying.{IsVerifyAnswer}
use Rattle.command_line.specs.Endings.{with_notes}
use Rattle.command_line.specs.declared.ending.Ended.{Ended}
use Rattle.command_line.specs.declared.unpacking.Done.{Done}
use Rattle.command_line.specs.declared.unpacking.Done.TheVariants as done
use Rattle.dpkg_session.specs.declared.installing.Installed.{Installed}
use Rattle.command_words.specs.CommandLine.{lines, subcommand_names}
use Rattle.command_words.specs.Topics.{HasScreen, IsScreen, version_line}
use Rattle.command_words.specs.declared.comparison.Comparison.{Comparison}
use Rattle.command_words.specs.declared.help.Topic.{Topic}
use Rattle.command_words.specs.declared.words.Asked.{Asked}
use Rattle.command_words.specs.declared.words.Asked.TheVariants.{Names, Version, CompareVersions, Help, Configure, Divert, Install, ProcessTriggers, Purge, Query, Remove, RemoveSelected, Select, Undivert, Unpack, Verify}
use Rattle.command_words.specs.declared.unpacking.Unpacking.{Unpacking}

-- the names of the subcommands, one a line
abbrev pub names_answer : Answer
names_answer = record { output = lines subcommand_names; error = []; status = 0 }

-- the program's name and version
abbrev pub version_answer : Answer
version_answer = text_answer version_line

-- a text that isn't a version is named on standard error
abbrev pub bad_answer : List ℕ × VersionFault → Answer
bad_answer bad = record { output = []; error = bad_version_line bad; status = 2 }

-- 0 where the comparison holds, 1 where it doesn't, and 2 with a line for the first text that is no version
abbrev pub comparison_answer : Comparison → Answer
comparison_answer c = option_map_or bad_answer
    (bad_version c.operator c.first c.second)
    (record { output = []; error = []; status = if holds_of c.first c.operator c.second then 0 else 1 })

-- the lines of a report, and its status
abbrev pub report_answer : Report → Answer
report_answer done = record { output = report_lines done; error = []; status = report_status done }

-- the lines of the reports of a round of an install, one after the other, and the worse of their statuses
abbrev pub round_lines : Installed → List ℕ
round_lines came = report_lines came.unpacked ++ report_lines came.configured

abbrev pub round_status : Installed → ℕ
round_status came = max (report_status came.unpacked) (report_status came.configured)

-- the worst status of rounds
abbrev pub rounds_status : List Installed → ℕ
rounds_status [] = 0
rounds_status (came ∷ more) = max (round_status came) (rounds_status more)

-- the lines of all rounds of an install, in turn, and the worst of their statuses
abbrev pub install_answer : List Installed → Answer
install_answer rounds = record { output = flat_map round_lines rounds; error = []; status = rounds_status rounds }

abbrev pub done_answer : Done → Answer
done_answer (done.Unpacked report) = report_answer report
done_answer (done.Installed rounds) = install_answer rounds.items

-- what came of trees, whose packages are configured too where it is told how: reports, of which as many units may fail as is asked
-- for, or why their units weren't begun
abbrev pub HasEndedAs : Around → Option ConfigureOptions → Unpacking → Result (Ended Done) NotOpened → Type 0
HasEndedAs a options u (Ok ended) = HasUnpacked a options u ended × KeepsLimit u.limit (units_of ended.done ++ units_behind ended.triggered)
HasEndedAs a options u (Err fault) = IsUnitsFault (Some (triggering_for u)) a u.root fault

abbrev pub trees_answer : Result (Ended Done) NotOpened → Answer
trees_answer (Ok ended) = with_notes ended.left (with_triggers ended.triggered (done_answer ended.done))
trees_answer (Err fault) = opening_answer fault

-- what came of work on packages under the root of a word: its report, or why it wasn't begun
abbrev pub work_answer : Result (Ended Report) NotOpened → Answer
work_answer (Ok ended) = with_notes ended.left (with_triggers ended.triggered (report_answer ended.done))
work_answer (Err fault) = opening_answer fault

-- what came of a change of the diversions, which notes no record
abbrev pub ended_answer : Result Report NotOpened → Answer
ended_answer (Ok done) = report_answer done
ended_answer (Err fault) = opening_answer fault

-- a change of the diversions has ended as its answer tells
abbrev pub IsChangeAnswer : Around → List ℕ → Change → Answer → Type 0
IsChangeAnswer a word asked answer = (ended : Result Report NotOpened) × HasEndedChange a word asked ended × (answer ≡ ended_answer ended)

-- its paths are read first, and only where each names one is the root opened, for a change as it is asked for
abbrev pub IsReadChange : Around → List ℕ → Option (List ℕ) → (Change → Type 0) → Answer → Type 0
IsReadChange a word None P answer = (asked : Change) × P asked × IsChangeAnswer a word asked answer
IsReadChange a word (Some text) P answer = answer ≡ bad_path_answer text

-- packages are unpacked, or installed, and this has ended as its answer tells
abbrev pub IsTreesAnswer : Around → Option ConfigureOptions → Unpacking → Answer → Type 0
IsTreesAnswer a options u answer = (ended : Result (Ended Done) NotOpened) × HasEndedAs a options u ended × (answer ≡ trees_answer ended)

-- work on packages by their names has ended as its answer tells
abbrev pub IsWorkAnswer : Around → List ℕ → Work → Bool → Option ℕ → Answer → Type 0
IsWorkAnswer a word asked process limit answer = (ended : Result (Ended Report) NotOpened) × HasEndedWork a word asked process limit ended × (answer ≡ work_answer ended)

-- help is the screen of the topic, on standard output
abbrev pub IsHelpAnswer : Topic → Answer → Type 0
IsHelpAnswer topic answer = (text : List ℕ) × IsScreen topic text × (answer ≡ text_answer text)

-- the answer to what is asked for
abbrev pub IsAnswerTo : Around → Asked → Answer → Type 0
IsAnswerTo a Names answer = answer ≡ names_answer
IsAnswerTo a Version answer = answer ≡ version_answer
IsAnswerTo a (Help topic) answer = IsHelpAnswer topic answer
IsAnswerTo a (CompareVersions c) answer = answer ≡ comparison_answer c
IsAnswerTo a (Query q) answer = IsQueryAnswer a q answer
IsAnswerTo a (Verify v) answer = IsVerifyAnswer a v answer
IsAnswerTo a (Divert d) answer = IsReadChange a d.root (bad_of_divert d) (IsDivertOf d) answer
IsAnswerTo a (Undivert u) answer = IsReadChange a u.root (bad_of_undivert u) (IsUndivertOf u) answer
IsAnswerTo a (Unpack u) answer = IsTreesAnswer a None u answer
IsAnswerTo a (Install u) answer = IsTreesAnswer a (Some (options_of u.forced)) u answer
IsAnswerTo a (Configure c) answer = IsWorkAnswer a c.root (work_of c) c.triggers c.limit answer
IsAnswerTo a (ProcessTriggers p) answer = IsWorkAnswer a p.root work.ProcessTriggers true p.limit answer
IsAnswerTo a (Remove r) answer = IsWorkAnswer a r.root (work.Remove r.names r.ignore_depends) r.triggers r.limit answer
IsAnswerTo a (Purge r) answer = IsWorkAnswer a r.root (work.Purge r.names r.ignore_depends) r.triggers r.limit answer
IsAnswerTo a (Select x) answer = IsWorkAnswer a x.root (work.Select x.selections) false None answer
IsAnswerTo a (RemoveSelected x) answer = IsWorkAnswer a x.root (work.RemoveSelected x.ignore_depends) x.triggers x.limit answer

-- for want of memory
abbrev pub memory_answer : Answer
memory_answer = record { output = []; error = codes "broken memory\n"; status = 2 }

-- a usage fault writes a text of usage to standard error alone
abbrev pub usage_answer : List ℕ → Answer
usage_answer text = record { output = []; error = text; status = 2 }

-- What the words are answered with: the answer to what they ask for or, where they ask for nothing, a text on their use, which
-- ends with the screen of the topic that they name.
abbrev pub IsAnswerOf : Around → Topic → Option Asked → Answer → Type 0
IsAnswerOf a named (Some asked) answer = IsAnswerTo a asked answer
IsAnswerOf a named None answer = (text : List ℕ) × HasScreen named text × (answer ≡ usage_answer text)

-- only to these is anything written to standard output
abbrev pub prints : Option Asked → Bool
prints (Some Names) = true
prints (Some Version) = true
prints (Some (Help topic)) = true
prints (Some (CompareVersions c)) = false
prints (Some (Query q)) = is_ok (inquiry_of q.question)
prints (Some (Verify v)) = true
prints (Some (Divert d)) = is_good (bad_of_divert d)
prints (Some (Undivert u)) = is_good (bad_of_undivert u)
prints (Some (Unpack u)) = true
prints (Some (Install u)) = true
prints (Some (Configure c)) = true
prints (Some (ProcessTriggers p)) = true
prints (Some (Remove r)) = true
prints (Some (Purge r)) = true
prints (Some (Select x)) = true
prints (Some (RemoveSelected x)) = true
prints None = false

-- only for these is a root opened: not for a question about a text that names no path, nor for such a diversion
abbrev pub opens_root : Option Asked → Bool
opens_root (Some Names) = false
opens_root (Some Version) = false
opens_root (Some (Help topic)) = false
opens_root (Some (CompareVersions c)) = false
opens_root (Some (Query q)) = is_ok (inquiry_of q.question)
opens_root (Some (Verify v)) = true
opens_root (Some (Divert d)) = is_good (bad_of_divert d)
opens_root (Some (Undivert u)) = is_good (bad_of_undivert u)
opens_root (Some (Unpack u)) = true
opens_root (Some (Install u)) = true
opens_root (Some (Configure c)) = true
opens_root (Some (ProcessTriggers p)) = true
opens_root (Some (Remove r)) = true
opens_root (Some (Purge r)) = true
opens_root (Some (Select x)) = true
opens_root (Some (RemoveSelected x)) = true
opens_root None = false

-- an answer is written to what standard output and standard error held, and its status returned
pub record IsWritten (answer : Answer) (output_old output_new error_old error_new : Option (List ℕ)) (ended : ℕ) : Type 0 where
  pub status : ended ≡ answer.status
  pub output : Appends output_old output_new answer.output
  pub error : Appends error_old error_new answer.error

-- the writing of an answer was cut short: on standard output, or after that on standard error
abbrev pub IsCut : Answer → Option (List ℕ) → Option (List ℕ) → Option (List ℕ) → Option (List ℕ) → Type 0
IsCut answer output_old output_new error_old error_new = (AppendsPart output_old output_new answer.output × Keeps error_old error_new)
    ⊎ (Appends output_old output_new answer.output × AppendsPart error_old error_new answer.error)

-- an answer is written, or the status is 2 and its writing was cut short
abbrev pub IsGiven : Answer → Option (List ℕ) → Option (List ℕ) → Option (List ℕ) → Option (List ℕ) → ℕ → Type 0
IsGiven answer output_old output_new error_old error_new ended = IsWritten answer output_old output_new error_old error_new ended
    ⊎ ((ended ≡ 2) × IsCut answer output_old output_new error_old error_new)

-- these have units, each of which is told as it is finished
abbrev pub has_units : Option Asked → Bool
has_units (Some Names) = false
has_units (Some Version) = false
has_units (Some (Help topic)) = false
has_units (Some (CompareVersions c)) = false
has_units (Some (Query q)) = false
has_units (Some (Verify v)) = false
has_units (Some (Divert d)) = false
has_units (Some (Undivert u)) = false
has_units (Some (Unpack u)) = true
has_units (Some (Install u)) = true
has_units (Some (Configure c)) = true
has_units (Some (ProcessTriggers p)) = true
has_units (Some (Remove r)) = true
has_units (Some (Purge r)) = true
has_units (Some (Select x)) = true
has_units (Some (RemoveSelected x)) = true
has_units None = false

-- memory was wanting behind the first lines of an answer
abbrev pub wanting_answer : List ℕ → Answer
wanting_answer front = record { output = front; error = codes "broken memory\n"; status = 2 }

-- the first lines of an answer were written, and in place of the others that memory was wanting for them
abbrev pub IsGivenInPart : Answer → Option (List ℕ) → Option (List ℕ) → Option (List ℕ) → Option (List ℕ) → ℕ → Type 0
IsGivenInPart answer output_old output_new error_old error_new ended = (front rest : List ℕ) × (answer.output ≡ front ++ rest)
    × IsGiven (wanting_answer front) output_old output_new error_old error_new ended
