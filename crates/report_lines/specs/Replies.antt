-- The last line of a unit: its reply.
use Rattle.std.specs.Prelude.{ℕ, Bool, true, false, List, ◌++◌, codes}
use Rattle.unit_reports.specs.declared.report.Breakage.{Breakage}
use Rattle.unit_reports.specs.declared.report.Breakage.TheVariants.{Device, NoMemory, Declined, Damaged, Closed, Abandoned}
use Rattle.unit_reports.specs.declared.report.Cycle.{Cycle}
use Rattle.unit_reports.specs.declared.report.Reply.{Reply}
use Rattle.unit_reports.specs.declared.report.Reply.TheVariants.{Done, Refused, Failed, Looped, Broken}
use Rattle.report_lines.specs.Calls.{call_text}
use Rattle.report_lines.specs.Faults.{rule_text, step_text}
use Rattle.shown_lines.specs.Lines.{line}
use Rattle.undo_rows.specs.declared.failure.Failure.{Failure as Cause}
use Rattle.undo_rows.specs.declared.failure.Failure.TheVariants.{OfCall, OfFiles}

-- why a unit was broken off
abbrev pub breakage_word : Breakage → List ℕ
breakage_word Device = codes "device"
breakage_word NoMemory = codes "memory"
breakage_word Declined = codes "declined"
breakage_word Damaged = codes "damaged"
breakage_word Closed = codes "closed"
breakage_word Abandoned = codes "abandoned"

-- for what a package's unit failed: a call of a package, its own or another one, or a step fault
abbrev pub cause_text : List ℕ → Cause → List ℕ
cause_text p (OfCall call) = call_text call.package call
cause_text p (OfFiles fault) = p ++ (codes " " ++ step_text fault)

-- the trigger for which a package's triggers were abandoned
abbrev pub cycle_text : Cycle → List ℕ
cycle_text c = c.package ++ (codes " " ++ (codes "TriggerCycle " ++ c.trigger))

-- `done`, `refused PKG RULE` with its detail, `failed PKG SCRIPT ARGS`, `failed PKG STEPFAULT PATH` with the owner, `failed PKG TriggerCycle TRIGGER`, or
-- `broken WHY`
abbrev pub reply_line : Reply → List ℕ
reply_line Done = codes "done\n"
reply_line (Refused r) = line (codes "refused " ++ (r.package ++ (codes " " ++ rule_text r.rule)))
reply_line (Failed f) = line (codes "failed " ++ cause_text f.package f.cause)
reply_line (Looped c) = line (codes "failed " ++ cycle_text c)
reply_line (Broken breakage) = codes "broken " ++ (breakage_word breakage ++ codes "\n")

-- only of a unit that was carried out the touched packages are told
abbrev pub tells_states : Reply → Bool
tells_states Done = true
tells_states (Refused r) = false
tells_states (Failed f) = true
tells_states (Looped c) = true
tells_states (Broken breakage) = false

-- of a unit that was abandoned dpkg's status where it gave up, 2 of one that was broken off
abbrev pub breakage_status : Breakage → ℕ
breakage_status Device = 2
breakage_status NoMemory = 2
breakage_status Declined = 2
breakage_status Damaged = 2
breakage_status Closed = 2
breakage_status Abandoned = 1

-- 0 for what is done, 1 for what is refused, failed or was abandoned, 2 for what was broken off
abbrev pub reply_status : Reply → ℕ
reply_status Done = 0
reply_status (Refused r) = 1
reply_status (Failed f) = 1
reply_status (Looped c) = 1
reply_status (Broken breakage) = breakage_status breakage
