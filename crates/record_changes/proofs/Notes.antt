-- What a note of a change leaves, and its moments.
use Rattle.std.proofs.Common.{◌≡◌, ◌⊎◌, inl, inr, ℕ, List, [], Some, sym, subst}
use Rattle.host_core.specs.Events.{scripts_of}
use Rattle.host_core.specs.Host.{State, AtEachMoment, AtEachMomentOf, NoFault, Silent}
use Rattle.host_core.proofs.Moments.{since_weaker}
use Rattle.host_core.proofs.Scripts.{since_silent}
use Rattle.status_db.specs.Noting.{IsNoting}
use Rattle.status_records.specs.Records.{put_record}
use Rattle.status_records.specs.declared.record.Record.{Record}
use Rattle.unit_reports.specs.Held.{Held}
use Rattle.unit_reports.proofs.Counting.{counts_no_memory, no_memory_within}
use Rattle.unit_reports.specs.Units.{CountsReply, IsBroken, IsBrokenBy, IsFromBefore, IsRefusedUnit}
use Rattle.unit_reports.specs.declared.refusal.Rule.{Rule}
use Rattle.unit_reports.specs.declared.report.Breakage.TheVariants.{NoMemory}
use Rattle.unit_reports.specs.declared.report.Reply.{Reply}
use Rattle.unit_reports.specs.declared.report.Unit.{Unit as AUnit}
use Rattle.record_changes.specs.Activated.{changed}
use Rattle.record_changes.specs.Units.{IsAmidChange, IsAnsweredBy, entry_of, reply_by, reply_to}
use Rattle.record_changes.specs.declared.change.Change.{Change}
use Rattle.record_changes.specs.declared.change.Change.TheVariants as change
use Rattle.record_changes.specs.declared.change.RecordChange.{RecordChange}

pub since_noting : (asked : RecordChange) (r entry : Record) (before : Held) (s t : State) → entry_of asked before.records.records ≡ Some r → entry ≡ changed asked.change r → Silent s t
    → AtEachMoment (IsNoting before.records.records (put_record entry before.records.records)) s t → AtEachMomentOf (IsAmidChange asked before) s t
since_noting asked r entry before s t found same silent since =
    let records = before.records.records in
    since_weaker (λ x w. IsNoting records (put_record entry records) s.world w × (scripts_of x ≡ [])) (IsAmidChange asked before s.world) s t
    (λ x w is. inr (record { r = r; found = found; noting = subst (λ (e : Record). IsNoting records (put_record e records) s.world w) same is.0; quiet = is.1 }))
    (since_silent (λ x. IsNoting records (put_record entry records) s.world) s t silent since)

broken_no_memory : (reply : Reply) → IsBrokenBy NoMemory reply → IsBroken reply
broken_no_memory reply is = subst IsBroken (sym is) tt

-- the answer to a change, and the faults of its host

reply_counts : (name : List ℕ) (asked : Change) (a b : State) → NoFault a b → CountsReply a b (reply_by name asked)
reply_counts name (change.Want want) a b same = same
reply_counts name (change.Activate names) a b same = same
reply_counts name (change.Abandon trigger) a b same = same
reply_counts name (change.Await names) a b same = same

pub noted_counts : (asked : RecordChange) (records : List Record) (u : AUnit) (a b : State) → NoFault a b → IsBrokenBy NoMemory u.reply ⊎ IsAnsweredBy (reply_to asked) asked.name records u → CountsReply a b u.reply
noted_counts asked records u a b same (inl broken) = counts_no_memory u.reply a b same broken
noted_counts asked records u a b same (inr is) = subst (CountsReply a b) (sym is.replied) (reply_counts asked.name asked.change a b same)

reply_within : (name : List ℕ) (asked : Change) → IsFromBefore (reply_by name asked) → ⊥
reply_within name (change.Want want) before = before
reply_within name (change.Activate names) before = before
reply_within name (change.Abandon trigger) before = before
reply_within name (change.Await names) before = before

pub answered_within : (reply : Reply) (name : List ℕ) (records : List Record) (u : AUnit) → (IsFromBefore reply → ⊥) → IsBrokenBy NoMemory u.reply ⊎ IsAnsweredBy reply name records u → IsFromBefore u.reply → ⊥
answered_within reply name records u within (inl broken) before = no_memory_within u.reply broken before
answered_within reply name records u within (inr is) before = within (subst IsFromBefore is.replied before)

pub noted_within : (asked : RecordChange) (records : List Record) (u : AUnit) → IsBrokenBy NoMemory u.reply ⊎ IsAnsweredBy (reply_to asked) asked.name records u → IsFromBefore u.reply → ⊥
noted_within asked records u either = answered_within (reply_to asked) asked.name records u (reply_within asked.name asked.change) either

pub refused_within : (rule : Rule) (name : List ℕ) (u : AUnit) → IsBrokenBy NoMemory u.reply ⊎ IsRefusedUnit rule name u → IsFromBefore u.reply → ⊥
refused_within rule name u (inl broken) before = no_memory_within u.reply broken before
refused_within rule name u (inr is) before = subst IsFromBefore is.reply before

-- broken off, or what is done
pub broken_or : {P Q : Type 0} (reply : Reply) → (P → Q) → IsBrokenBy NoMemory reply ⊎ P → IsBroken reply ⊎ Q
broken_or reply so (inl broken) = inl (broken_no_memory reply broken)
broken_or reply so (inr is) = inr (so is)
