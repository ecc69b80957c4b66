use Rattle.std.proofs.Common.{◌<◌, List, length, inr, refl, subst, sym}
use Rattle.dependency_check.specs.Roles.{plays}
use Rattle.dependency_check.specs.declared.roles.Role.TheVariants.{Breaking}
use Rattle.relation_index.specs.declared.package.Package.{Package}
use Rattle.unit_reports.specs.Held.{held_by}
use Rattle.unit_reports.specs.Units.{IsBrokenBy, IsRefusedUnit}
use Rattle.unit_reports.specs.declared.refusal.Rule.TheVariants.{BrokenBy}
use Rattle.unit_reports.specs.declared.report.Breakage.TheVariants.{NoMemory}
use Rattle.std.proofs.Common.{◌⊎◌}
use Rattle.configure_run.specs.Starting.{name_at}
use Rattle.configure_run.specs.Turns.{IsUnit}
use Rattle.configure_run.proofs.Moments.{since_unit_start, silent_here}
use Rattle.configure_run.proofs.Replies.{broken_or, counts_refused, either_so, refused_within}
use Rattle.configure_run.proofs.Units.{called_nothing, those_within}
use Rattle.configure_run.proofs.unit.unit_of.Goals as goal
use Rattle.host_core.proofs.Barriers.{answered_here}
use Rattle.unit_reports.proofs.Counting.{no_fault_here}

pub refused_for-requires : goal.refused_for-requires
refused_for-requires g c = subst (λ (l : List Package). c.in-Some.breaking < length l) (sym c.as_slice.ensures.list) (those_within (plays Breaking c.args.of.now) c.args.packages.now c.in-Some.breaking c.in-Some.ensures.0)

pub returns-in-Some-clause-unit : goal.returns-in-Some-clause-unit
returns-in-Some-clause-unit g c =
    broken_or NoMemory c.refused_for.result.reply (λ refused. IsUnit.broken c.in-Some.breaking c.in-Some.ensures (record { refused = refused; held = refl; silent = silent_here (g.H.Host.state c.args.host.now); world = λ honest. refl }))
    (subst (λ (l : List Package). IsBrokenBy NoMemory c.refused_for.result.reply ⊎ IsRefusedUnit (BrokenBy (name_at l c.in-Some.breaking)) c.args.of.now.name c.refused_for.result) c.as_slice.ensures.list c.refused_for.ensures.unit)

pub returns-in-Some-clause-answered : goal.returns-in-Some-clause-answered
returns-in-Some-clause-answered g c = inr (answered_here (g.H.Host.state c.args.host.now))

pub returns-in-Some-clause-told : goal.returns-in-Some-clause-told
returns-in-Some-clause-told g c = called_nothing c.args.policy c.args.of.now.name (held_by c.args.administration.now c.args.diversions.now) c.refused_for.result (g.H.Host.state c.args.host.now) (g.H.Host.state c.args.host.now) (silent_here (g.H.Host.state c.args.host.now)) (λ honest. refl) c.refused_for.ensures.told

pub returns-in-Some-clause-any_moment : goal.returns-in-Some-clause-any_moment
returns-in-Some-clause-any_moment g c = since_unit_start c.args.policy c.args.of.now.name (held_by c.args.administration.now c.args.diversions.now) (g.H.Host.state c.args.host.now)

pub returns-in-Some-clause-counts : goal.returns-in-Some-clause-counts
returns-in-Some-clause-counts g c = counts_refused (BrokenBy (name_at c.args.packages.now c.in-Some.breaking)) c.args.of.now.name c.refused_for.result (g.H.Host.state c.args.host.now) (g.H.Host.state c.args.host.now) (no_fault_here (g.H.Host.state c.args.host.now)) (subst (λ (l : List Package). IsBrokenBy NoMemory c.refused_for.result.reply ⊎ IsRefusedUnit (BrokenBy (name_at l c.in-Some.breaking)) c.args.of.now.name c.refused_for.result) c.as_slice.ensures.list c.refused_for.ensures.unit)

pub returns-in-Some-clause-not_closed : goal.returns-in-Some-clause-not_closed
returns-in-Some-clause-not_closed g c = refused_within (BrokenBy (name_at c.args.packages.now c.in-Some.breaking)) c.args.of.now.name c.refused_for.result (subst (λ (l : List Package). IsBrokenBy NoMemory c.refused_for.result.reply ⊎ IsRefusedUnit (BrokenBy (name_at l c.in-Some.breaking)) c.args.of.now.name c.refused_for.result) c.as_slice.ensures.list c.refused_for.ensures.unit)

pub returns-in-None-clause-unit : goal.returns-in-None-clause-unit
returns-in-None-clause-unit g c = either_so (λ is. IsUnit.unbroken c.in-None.ensures is) c.unit_for.ensures.unit
