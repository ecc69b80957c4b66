use Rattle.std.proofs.Common.{sym, ◌∙◌, refl}
use Rattle.unit_stages.specs.Holding.{holding_of}
use Rattle.conflict_removal.proofs.One.{called_here, ended_others, passed_here, removed_one, since_here}
use Rattle.conflict_removal.proofs.Removable.{is_removable, not_removable}
use Rattle.conflict_removal.proofs.removing.remove_one.Goals as goal

pub remove-requires-clause-removable : goal.remove-requires-clause-removable
remove-requires-clause-removable g c = is_removable c.args.administration.now.database.records c.args.name.now (sym c.can_be_removed.ensures ∙ c.if-can_be_removed.true)

pub returns-then-can_be_removed-clause-removed : goal.returns-then-can_be_removed-clause-removed
returns-then-can_be_removed-clause-removed g c =
    removed_one c.args.diversions.now.ways c.args.name.now (holding_of c.args.administration.now) c.remove.new.administration.database c.remove.new.administration.lists
    (g.H.Host.state c.args.host.now) (g.H.Host.state c.remove.new.host) c.args.told.now.items c.remove.new.told.items c.remove.result c.remove.ensures.unit c.remove.ensures.end c.remove.ensures.order

pub returns-then-can_be_removed-clause-others : goal.returns-then-can_be_removed-clause-others
returns-then-can_be_removed-clause-others g c = ended_others c.args.name.now c.args.administration.now.database.records c.remove.new.administration.database.records c.remove.result c.remove.ensures.end

pub returns-clause-removed : goal.returns-clause-removed
returns-clause-removed g c =
    passed_here c.args.diversions.now.ways c.args.name.now (holding_of c.args.administration.now) (g.H.Host.state c.args.host.now) c.args.told.now.items
    (not_removable c.args.administration.now.database.records c.args.name.now (sym c.can_be_removed.ensures ∙ c.if-can_be_removed.false))

pub returns-clause-others : goal.returns-clause-others
returns-clause-others g c = λ q other. refl

pub returns-clause-told : goal.returns-clause-told
returns-clause-told g c = called_here c.args.diversions.now.ways c.args.name.now (holding_of c.args.administration.now) (g.H.Host.state c.args.host.now) c.args.told.now.items

pub returns-clause-any_moment : goal.returns-clause-any_moment
returns-clause-any_moment g c = since_here c.args.diversions.now.ways c.args.name.now (holding_of c.args.administration.now) (g.H.Host.state c.args.host.now)
