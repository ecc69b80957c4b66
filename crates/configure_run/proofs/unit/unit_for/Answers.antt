use Rattle.std.proofs.Common.{ℕ, List, Option, inl, inr, ap, refl, subst, sym, ◌∙◌}
use Rattle.configure_engine.specs.Units.{CanConfigure}
use Rattle.unit_reports.specs.Held.{held_by}
use Rattle.unit_reports.specs.declared.refusal.Rule.TheVariants.{ConffileKind}
use Rattle.unit_reports.specs.declared.report.Breakage.TheVariants.{NoMemory}
use Rattle.unit_reports.specs.declared.report.Reply.TheVariants.{Broken}
use Rattle.configure_run.specs.Turns.{HasObstacle, IsUnitFor}
use Rattle.configure_run.proofs.Moments.{order_read, since_unit, since_unit_reads}
use Rattle.configure_run.proofs.Replies.{broken_by, broken_or, counts_refused, either_so, refused_within}
use Rattle.configure_run.proofs.Units.{called_nothing}
use Rattle.configure_run.proofs.unit.unit_for.Goals as goal
use Rattle.unit_reports.proofs.Counting.{counts_broken, counts_from, fault_within}

pub configured_unit-requires-clause-order : goal.configured_unit-requires-clause-order
configured_unit-requires-clause-order g c = order_read (held_by c.args.administration.now c.args.diversions.now) (g.H.Host.state c.args.host.now) (g.H.Host.state c.obstacle_of.new.host) c.obstacle_of.ensures.looks.reads c.requires.order

pub configured_unit-requires-clause-clear : goal.configured_unit-requires-clause-clear
configured_unit-requires-clause-clear g c = λ honest. subst (CanConfigure c.args.diversions.now.ways c.args.administration.now.database.records c.args.name.now) (sym c.obstacle_of.ensures.looks.reads.world) (c.in-Ok-None.ensures.clear honest c.in-Ok-None.field-0-is)

pub returns-in-Ok-None-clause-unit : goal.returns-in-Ok-None-clause-unit
returns-in-Ok-None-clause-unit g c =
    either_so (λ is. IsUnitFor.configured (g.H.Host.state c.obstacle_of.new.host) c.obstacle_of.ensures.looks.reads c.obstacle_of.ensures.looks.silent
    (λ honest. subst (λ (o : Option (List ℕ)). HasObstacle c.args.diversions.now.ways c.args.administration.now.database.records c.args.name.now (g.H.Host.state c.args.host.now).world o) c.in-Ok-None.field-0-is (c.in-Ok-None.ensures.looks.found honest)) is) c.configured_unit.ensures.unit

pub returns-in-Ok-None-clause-order : goal.returns-in-Ok-None-clause-order
returns-in-Ok-None-clause-order g c = either_so (λ is. is.order) c.configured_unit.ensures.unit

pub returns-in-Ok-None-clause-answered : goal.returns-in-Ok-None-clause-answered
returns-in-Ok-None-clause-answered g c = either_so (λ disk. inl disk) c.configured_unit.ensures.on_disk

pub returns-in-Ok-None-clause-told : goal.returns-in-Ok-None-clause-told
returns-in-Ok-None-clause-told g c = record { looked = (g.H.Host.state c.obstacle_of.new.host); quiet = c.obstacle_of.ensures.looks.silent; same = λ honest. c.obstacle_of.ensures.looks.reads.world; called = c.configured_unit.ensures.told }

pub returns-in-Ok-None-clause-any_moment : goal.returns-in-Ok-None-clause-any_moment
returns-in-Ok-None-clause-any_moment g c = since_unit c.args.policy c.args.name.now (held_by c.args.administration.now c.args.diversions.now) (g.H.Host.state c.args.host.now) (g.H.Host.state c.obstacle_of.new.host) _ c.obstacle_of.ensures.looks.reads c.obstacle_of.ensures.looks.silent c.configured_unit.ensures.any_moment

pub returns-in-Ok-None-clause-counts : goal.returns-in-Ok-None-clause-counts
returns-in-Ok-None-clause-counts g c = counts_from c.configured_unit.result.reply (g.H.Host.state c.args.host.now) (g.H.Host.state c.obstacle_of.new.host) (g.H.Host.state c.configured_unit.new.host) c.in-Ok-None.ensures.looks.counts c.configured_unit.ensures.counts

pub returns-in-Ok-Some-clause-unit : goal.returns-in-Ok-Some-clause-unit
returns-in-Ok-Some-clause-unit g c =
    broken_or NoMemory c.refused_named.result.reply (λ refused. IsUnitFor.obstructed c.in-Ok-Some.path
    (λ honest. subst (λ (o : Option (List ℕ)). HasObstacle c.args.diversions.now.ways c.args.administration.now.database.records c.args.name.now (g.H.Host.state c.args.host.now).world o) c.in-Ok-Some.field-0-is (c.in-Ok-Some.ensures.looks.found honest))
    (record { refused = refused; held = refl; silent = c.obstacle_of.ensures.looks.silent; world = λ honest. c.obstacle_of.ensures.looks.reads.world })) c.refused_named.ensures.unit

pub returns-in-Ok-Some-clause-order : goal.returns-in-Ok-Some-clause-order
returns-in-Ok-Some-clause-order g c = inr (order_read (held_by c.args.administration.now c.args.diversions.now) (g.H.Host.state c.args.host.now) (g.H.Host.state c.obstacle_of.new.host) c.obstacle_of.ensures.looks.reads c.requires.order)

pub returns-in-Ok-Some-clause-answered : goal.returns-in-Ok-Some-clause-answered
returns-in-Ok-Some-clause-answered g c = inr (inr c.obstacle_of.ensures.looks.reads)

pub returns-in-Ok-Some-clause-told : goal.returns-in-Ok-Some-clause-told
returns-in-Ok-Some-clause-told g c = called_nothing c.args.policy c.args.name.now (held_by c.args.administration.now c.args.diversions.now) c.refused_named.result (g.H.Host.state c.args.host.now) (g.H.Host.state c.obstacle_of.new.host) c.obstacle_of.ensures.looks.silent (λ honest. c.obstacle_of.ensures.looks.reads.world) c.refused_named.ensures.told

pub returns-in-Ok-Some-clause-any_moment : goal.returns-in-Ok-Some-clause-any_moment
returns-in-Ok-Some-clause-any_moment g c = since_unit_reads c.args.policy c.args.name.now (held_by c.args.administration.now c.args.diversions.now) (g.H.Host.state c.args.host.now) (g.H.Host.state c.obstacle_of.new.host) c.obstacle_of.ensures.looks.reads

pub returns-in-Ok-Some-clause-counts : goal.returns-in-Ok-Some-clause-counts
returns-in-Ok-Some-clause-counts g c = counts_refused (ConffileKind c.in-Ok-Some.path) c.args.name.now c.refused_named.result (g.H.Host.state c.args.host.now) (g.H.Host.state c.obstacle_of.new.host) c.in-Ok-Some.ensures.looks.counts c.refused_named.ensures.unit

pub returns-in-Ok-Some-clause-not_closed : goal.returns-in-Ok-Some-clause-not_closed
returns-in-Ok-Some-clause-not_closed g c = refused_within (ConffileKind c.in-Ok-Some.path) c.args.name.now c.refused_named.result c.refused_named.ensures.unit

pub returns-in-Err-clause-unit : goal.returns-in-Err-clause-unit
returns-in-Err-clause-unit g c = inl (broken_by _ c.broken.result.reply c.broken.ensures.reply)

pub returns-in-Err-clause-order : goal.returns-in-Err-clause-order
returns-in-Err-clause-order g c = inl (broken_by _ c.broken.result.reply c.broken.ensures.reply)

pub returns-in-Err-clause-open : goal.returns-in-Err-clause-open
returns-in-Err-clause-open g c = inl (broken_by _ c.broken.result.reply c.broken.ensures.reply)

pub returns-in-Err-clause-answered : goal.returns-in-Err-clause-answered
returns-in-Err-clause-answered g c = inl (broken_by _ c.broken.result.reply c.broken.ensures.reply)

pub returns-in-Err-clause-told : goal.returns-in-Err-clause-told
returns-in-Err-clause-told g c = called_nothing c.args.policy c.args.name.now (held_by c.args.administration.now c.args.diversions.now) c.broken.result (g.H.Host.state c.args.host.now) (g.H.Host.state c.obstacle_of.new.host) c.obstacle_of.ensures.looks.silent (λ honest. c.obstacle_of.ensures.looks.reads.world) (c.broken.ensures.told ∙ c.new.ensures.items)

pub returns-in-Err-clause-any_moment : goal.returns-in-Err-clause-any_moment
returns-in-Err-clause-any_moment g c = since_unit_reads c.args.policy c.args.name.now (held_by c.args.administration.now c.args.diversions.now) (g.H.Host.state c.args.host.now) (g.H.Host.state c.obstacle_of.new.host) c.obstacle_of.ensures.looks.reads

pub returns-in-Err-clause-counts : goal.returns-in-Err-clause-counts
returns-in-Err-clause-counts g c = counts_broken (Option (List ℕ)) c.in-Err.fault c.broken.result.reply (g.H.Host.state c.args.host.now) (g.H.Host.state c.obstacle_of.new.host) (c.broken.ensures.reply ∙ ap Broken c.breakage_of.ensures) c.in-Err.ensures.looks.counts

pub returns-in-Err-clause-not_closed : goal.returns-in-Err-clause-not_closed
returns-in-Err-clause-not_closed g c = fault_within c.in-Err.fault c.broken.result.reply (c.broken.ensures.reply ∙ ap Broken c.breakage_of.ensures)
