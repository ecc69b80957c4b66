-- Answers of units, and the faults they count.
use Rattle.std.specs.Prelude.{MatchBool}
use Rattle.std.proofs.Common.{◌≡◌, ◌⊎◌, inl, inr, ℕ, Bool, true, false, List, Option, Some, None, Result, Err, sym, subst}
use Rattle.std.proofs.lemmas.Bool.{true≢false}
use Rattle.host_core.specs.Host.{State, Counts, NoFault}
use Rattle.host_core.specs.declared.call.Call.{Call}
use Rattle.host_core.specs.declared.fault.HostFault.{HostFault}
use Rattle.status_records.specs.declared.record.Record.{Record}
use Rattle.unit_reports.proofs.Counting.{counts_broken, counts_no_memory, no_memory_within}
use Rattle.unit_reports.specs.Units.{CountsReply, IsBroken, IsBrokenBy, IsFromBefore, IsRefusedUnit, breakage_of}
use Rattle.unit_reports.specs.declared.refusal.Rule.{Rule}
use Rattle.unit_reports.specs.declared.report.Breakage.{Breakage}
use Rattle.unit_reports.specs.declared.report.Breakage.TheVariants.{NoMemory}
use Rattle.unit_reports.specs.declared.report.Reply.{Reply}
use Rattle.unit_reports.specs.declared.report.Unit.{Unit as AUnit}
use Rattle.configure_run.specs.Turns.{Answers, reply_to}

-- a unit that wasn't broken off is as it says

pub not_broken : {Q : Type 0} (reply : Reply) (b : Bool) → b ≡ false → MatchBool b (IsBroken reply) (IsBroken reply → ⊥) → IsBroken reply ⊎ Q → Q
not_broken reply true e is either = absurd (true≢false e)
not_broken reply false e is (inl broken) = absurd (is broken)
not_broken reply false e is (inr holds) = holds

pub is_whole : (reply : Reply) (b : Bool) → b ≡ false → MatchBool b (IsBroken reply) (IsBroken reply → ⊥) → IsBroken reply → ⊥
is_whole reply true e is broken = absurd (true≢false e)
is_whole reply false e is broken = is broken

pub is_broken_off : (reply : Reply) (b : Bool) → b ≡ true → MatchBool b (IsBroken reply) (IsBroken reply → ⊥) → IsBroken reply
is_broken_off reply true e broken = broken
is_broken_off reply false e is = absurd (true≢false (sym e))

pub broken_by : (breakage : Breakage) (reply : Reply) → IsBrokenBy breakage reply → IsBroken reply
broken_by breakage reply is = subst IsBroken (sym is) tt

pub broken_or : {Q R : Type 0} (breakage : Breakage) (reply : Reply) → (Q → R) → IsBrokenBy breakage reply ⊎ Q → IsBroken reply ⊎ R
broken_or breakage reply so (inl broken) = inl (broken_by breakage reply broken)
broken_or breakage reply so (inr holds) = inr (so holds)

pub either_so : {P Q R : Type 0} → (Q → R) → P ⊎ Q → P ⊎ R
either_so so (inl p) = inl p
either_so so (inr q) = inr (so q)

-- nor was it broken off for what was there before it

reply_within : (name : List ℕ) (failed : Option Call) → IsFromBefore (reply_to name failed) → ⊥
reply_within name None before = before
reply_within name (Some call) before = before

pub answer_within : (name : List ℕ) (records : List Record) (failed : Option Call) (u : AUnit) → IsBrokenBy NoMemory u.reply ⊎ Answers name records failed u → IsFromBefore u.reply → ⊥
answer_within name records failed u (inl broken) before = no_memory_within u.reply broken before
answer_within name records failed u (inr answers) before = reply_within name failed (subst IsFromBefore answers.replied before)

pub refused_within : (rule : Rule) (name : List ℕ) (u : AUnit) → IsBrokenBy NoMemory u.reply ⊎ IsRefusedUnit rule name u → IsFromBefore u.reply → ⊥
refused_within rule name u (inl broken) before = no_memory_within u.reply broken before
refused_within rule name u (inr refused) before = subst IsFromBefore refused.reply before

-- the faults of a unit

counts_reply : (name : List ℕ) (failed : Option Call) (a b : State) → NoFault a b → CountsReply a b (reply_to name failed)
counts_reply name None a b same = same
counts_reply name (Some call) a b same = same

pub counts_answered : (name : List ℕ) (records : List Record) (failed : Option Call) (u : AUnit) (a b : State) → NoFault a b → IsBrokenBy NoMemory u.reply ⊎ Answers name records failed u → CountsReply a b u.reply
counts_answered name records failed u a b same (inl broken) = counts_no_memory u.reply a b same broken
counts_answered name records failed u a b same (inr answers) = subst (CountsReply a b) (sym answers.replied) (counts_reply name failed a b same)

pub counts_refused : (rule : Rule) (name : List ℕ) (u : AUnit) (a b : State) → NoFault a b → IsBrokenBy NoMemory u.reply ⊎ IsRefusedUnit rule name u → CountsReply a b u.reply
counts_refused rule name u a b same (inl broken) = counts_no_memory u.reply a b same broken
counts_refused rule name u a b same (inr refused) = subst (CountsReply a b) (sym refused.reply) same

pub reply_whole : (name : List ℕ) (failed : Option Call) → IsBroken (reply_to name failed) → ⊥
reply_whole name None broken = broken
reply_whole name (Some call) broken = broken

pub counts_broken_by : {T : Type 0} (r : Result T HostFault) (fault : HostFault) (reply : Reply) (a b : State) → r ≡ Err fault → IsBrokenBy (breakage_of fault) reply → Counts a b r → CountsReply a b reply
counts_broken_by {T = T} r fault reply a b is broken counts = counts_broken T fault reply a b broken (subst (Counts a b) is counts)
