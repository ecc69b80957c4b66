-- Units that change the diversions.
use Rattle.std.proofs.Common.{◌≡◌, ◌⊎◌, inl, inr, Bool, true, false, List, [], ◌∷◌, Ok, refl, sym, subst}
use Rattle.std.specs.Prelude.{IsNone}
use Rattle.host_core.specs.World.{World}
use Rattle.host_core.specs.Host.{Reads, State, Since}
use Rattle.host_core.specs.Loss.{IsAnswered, IsOnDisk}
use Rattle.diversions.specs.Changes.{OnRefused}
use Rattle.diversions.specs.declared.fault.DiversionFault.{DiversionFault}
use Rattle.diversions.specs.declared.refusal.Answer.{Answer}
use Rattle.diversions.specs.declared.refusal.Answer.TheVariants as answered
use Rattle.host_core.proofs.Moments.{since_now, since_then, since_weaker_if}
use Rattle.unit_reports.specs.declared.report.Report.{Report}
use Rattle.unit_reports.specs.declared.report.Unit.{Unit as AUnit}
use Rattle.dpkg_session.specs.Diversions.{IsFlushed, IsOneUnit, IsReportOf}
use Rattle.unit_reports.specs.Units.{IsBroken}

-- what holds at each moment goes on to hold while nothing changes
pub since_still : (P : World → Type 0) (a b c : State) → Since (λ so_far. P) a b → Since (λ so_far now. now ≡ b.world) b c → Since (λ so_far. P) a c
since_still P a b c first second =
    since_then (λ so_far. P) a b c first
    (since_weaker_if (λ so_far now. now ≡ b.world) (λ so_far. P) b c (λ h so_far w same. subst P (sym same) (since_now (λ so_far. P) a b first (second.honest h))) second)

-- what is brought to the disk

pub flushed_by : (answer : Answer) (s m t : State) → (answer ≡ answered.Done → IsOnDisk t.events) → (answer ≡ answered.Done) ⊎ (t ≡ m) → OnRefused {E = DiversionFault} (Ok answer) (Reads s m) → IsFlushed answer s t
flushed_by answered.Done s m t disk same reads = disk refl
flushed_by (answered.Refused refusal) s m t disk (inl done) reads = absurd (let e : answered.Refused refusal ≡ answered.Done = done in cc)
flushed_by (answered.Refused refusal) s m t disk (inr same) reads = subst (λ (x : State). Reads s x) (sym same) reads

pub flushed_answered : (answer : Answer) (s t : State) → IsFlushed answer s t → IsAnswered s t
flushed_answered answered.Done s t disk = inl disk
flushed_answered (answered.Refused refusal) s t reads = inr reads

-- a report of one unit that wasn't broken off
pub one_unit : (P : AUnit → Type 0) (u : AUnit) (report : Report) → IsReportOf u report → IsBroken u.reply ⊎ P u → IsNone report.last → IsOneUnit P report.units.items
one_unit P u report is either none = (u, (is.whole none).0, elim either [ inl broken ↦ absurd ((is.whole none).1 broken) | inr holds ↦ holds ])
