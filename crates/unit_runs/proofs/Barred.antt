-- Units that aren't begun, and those that nothing bars.
use Rattle.std.proofs.Common.{◌≡◌, ◌∙◌, true, Option, Some, None, refl, sym, ap, subst}
use Rattle.std.specs.Prelude.{is_some}
use Rattle.std.proofs.lemmas.Bool.{true≢false}
use Rattle.host_core.proofs.Counted.{no_fault_same}
use Rattle.host_core.specs.Host.{State}
use Rattle.unit_reports.proofs.Counting.{no_memory_not_abandoned, no_memory_not_closed}
use Rattle.unit_reports.specs.Units.{CountsReply, IsBroken, IsBrokenBy}
use Rattle.unit_reports.specs.declared.report.Breakage.TheVariants as breakage
use Rattle.unit_reports.specs.declared.report.Reply.{Reply}
use Rattle.unit_reports.specs.declared.report.Reply.TheVariants.{Broken}
use Rattle.unit_runs.specs.Barring.{breakage_by}
use Rattle.unit_runs.specs.declared.barring.Bar.{Bar}
use Rattle.unit_runs.specs.declared.barring.Bar.TheVariants.{NoRoom, Abandoned}

-- nothing bars it
pub not_taken : {P : Type 0} (barred : Option Bar) → barred ≡ None → is_some barred ≡ true → P
not_taken barred none some = absurd (true≢false (sym some ∙ ap is_some none))

-- a unit that isn't begun

pub barred_broken : (b : Bar) (reply : Reply) → IsBrokenBy (breakage_by b) reply → IsBroken reply
barred_broken b reply is = subst IsBroken (sym is) tt

pub barred_not_closed : (b : Bar) (reply : Reply) → IsBrokenBy (breakage_by b) reply → IsBrokenBy breakage.Closed reply → ⊥
barred_not_closed NoRoom reply is closed = no_memory_not_closed reply is closed
barred_not_closed Abandoned reply is closed = let e : Broken breakage.Abandoned ≡ Broken breakage.Closed = sym is ∙ closed in cc

pub barred_abandoned : (b : Bar) (barred : Option Bar) (reply : Reply) → barred ≡ Some b → IsBrokenBy (breakage_by b) reply → IsBrokenBy breakage.Abandoned reply → barred ≡ Some Abandoned
barred_abandoned NoRoom barred reply same is abandoned = absurd (no_memory_not_abandoned reply is abandoned)
barred_abandoned Abandoned barred reply same is abandoned = same

pub barred_counts : (b : Bar) (reply : Reply) (s : State) → IsBrokenBy (breakage_by b) reply → CountsReply s s reply
barred_counts NoRoom reply s is = subst (CountsReply s s) (sym is) (no_fault_same s s refl)
barred_counts Abandoned reply s is = subst (CountsReply s s) (sym is) (no_fault_same s s refl)
