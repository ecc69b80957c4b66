use Rattle.std.proofs.Common.{◌∙◌, List, sym, ap, subst}
use Rattle.std.specs.List.{AllByRecursion}
use Rattle.std.specs.Option.{option_copied}
use Rattle.texts.specs.PackageNames.{is_package_name}
use Rattle.host_core.specs.Host.{AtEachMomentOf}
use Rattle.file_lists.specs.Filed.{Filed}
use Rattle.status_records.specs.declared.record.Record.{Record}
use Rattle.unit_stages.specs.Holding.{holding, holding_of}
use Rattle.removal_engine.specs.Extents.{BeginsFrom}
use Rattle.removal_engine.specs.Stages.{Planned}
use Rattle.removal_engine.specs.Units.{HasCalled, HasRemoved, IsAmidUnit, IsPlanOf, given}
use Rattle.removal_engine.proofs.Deeds.{ArePlannedFit, IsStillStage, stages_fit, stages_settleable}
use Rattle.removal_engine.proofs.EndRecords.{has_ended}
use Rattle.removal_engine.proofs.Fits.{removal_fit, removal_still}
use Rattle.removal_engine.proofs.Looking.{called_by, if_ok_one, only_looked, removed_by, unit_moments}
use Rattle.removal_engine.proofs.Tables.{is_named, named, one_record}
use Rattle.unit_stages.proofs.Apart.{goes_here, later_of, passed_on, reads_apart, reads_later, works_on}
use Rattle.removal_engine.proofs.unit.remove.Goals as goal

pub plan-requires : goal.plan-requires
plan-requires g c = record { named = named c.unwrap-entry.result.now }

pub run_stages-requires-clause-named : goal.run_stages-requires-clause-named
run_stages-requires-clause-named g c =
    let r = c.unwrap-entry.result.now in
    let found = sym c.get.ensures ∙ ap option_copied c.unwrap-entry.ensures in
    ap is_package_name (sym (is_named c.args.administration.now.database.records c.args.name.now r found)) ∙ named r

pub run_stages-requires-clause-fit : goal.run_stages-requires-clause-fit
run_stages-requires-clause-fit g c =
    let r = c.unwrap-entry.result.now in
    let name = c.args.name.now in
    let rs = c.args.administration.now.database.records in
    let ls = c.index.new.self.lists in
    let plan = c.in-Ok.ensures.planned in
    let found = sym c.get.ensures ∙ ap option_copied c.unwrap-entry.ensures in
    stages_fit name c.in-Ok.stages.items rs ls
    (subst (λ (ps : List Planned). ArePlannedFit name ps rs ls) (sym plan.are)
    (removal_fit c.args.diversions.now.ways ls name plan.stored r (is_named rs name r found) plan.to_come plan.comes c.args.extent rs ls found))

pub run_stages-requires-clause-settleable : goal.run_stages-requires-clause-settleable
run_stages-requires-clause-settleable g c = λ h.
    let plan = c.in-Ok.ensures.planned in
    stages_settleable c.in-Ok.stages.items (g.H.Host.state c.plan.new.host).world
    (subst (AllByRecursion IsStillStage) (sym plan.are) (removal_still c.args.diversions.now.ways c.index.new.self.lists c.args.name.now plan.stored c.unwrap-entry.result.now plan.to_come c.args.extent))

pub returns-in-Ok-clause-unit : goal.returns-in-Ok-clause-unit
returns-in-Ok-clause-unit g c =
    let old = g.H.Host.state c.args.host.now in
    let mid = g.H.Host.state c.plan.new.host in
    let new = g.H.Host.state c.run_stages.new.host in
    let told = c.args.told.now.items in
    let now = c.run_stages.new.told.items in
    let at = λ (f : Filed). given c.args.extent c.args.name.now c.args.diversions.now.ways (holding c.args.administration.now.database f) in
    let found = sym c.get.ensures ∙ ap option_copied c.unwrap-entry.ensures in
    let plan : IsPlanOf (at c.index.new.self) old.world mid.honest c.in-Ok.stages.items = record { entry = c.unwrap-entry.result.now; found = found; plan = c.in-Ok.ensures.planned } in
    let after = holding_of c.run_stages.new.administration in
    let r = c.unwrap-entry.result.now in
    let name = c.args.name.now in
    let rs = c.args.administration.now.database.records in
    let ls = c.index.new.self.lists in
    let planned = c.in-Ok.ensures.planned in
    let fit = stages_fit name c.in-Ok.stages.items rs ls
    (subst (λ (ps : List Planned). ArePlannedFit name ps rs ls) (sym planned.are)
    (removal_fit c.args.diversions.now.ways ls name planned.stored r (is_named rs name r found) planned.to_come planned.comes c.args.extent rs ls found)) in
    let own = ap is_package_name (sym (is_named rs name r found)) ∙ named r in
    if_ok_one c.run_stages.result _ _ (λ failed run.
    subst (λ (f : Filed). HasRemoved (at f) failed after old new told now) c.index.ensures
    (removed_by old mid c.in-Ok.ensures.reads c.in-Ok.ensures.silent (at c.index.new.self) c.in-Ok.stages.items plan new c.run_stages.ensures.any_moment.honest told now failed after own fit run))
    c.run_stages.ensures.ran

pub returns-in-Ok-clause-end : goal.returns-in-Ok-clause-end
returns-in-Ok-clause-end g c =
    let r = c.unwrap-entry.result.now in
    let name = c.args.name.now in
    let rs = c.args.administration.now.database.records in
    let plan = c.in-Ok.ensures.planned in
    let found = sym c.get.ensures ∙ ap option_copied c.unwrap-entry.ensures in
    let same = one_record r c.requires.removable.entry (sym found ∙ c.requires.removable.found) in
    if_ok_one c.run_stages.result _ _ (λ failed run.
    has_ended c.args.diversions.now.ways c.index.new.self.lists plan.stored r plan.to_come name (is_named rs name r found) c.args.extent c.in-Ok.stages.items plan.are
    (subst (λ (x : Record). BeginsFrom c.args.extent x.state) (sym same) c.requires.removable.begins) failed (holding c.args.administration.now.database c.index.new.self) (holding_of c.run_stages.new.administration)
    (g.H.Host.state c.plan.new.host) (g.H.Host.state c.run_stages.new.host) c.args.told.now.items c.run_stages.new.told.items found run)
    c.run_stages.ensures.ran

pub returns-in-Ok-clause-told : goal.returns-in-Ok-clause-told
returns-in-Ok-clause-told g c =
    let old = g.H.Host.state c.args.host.now in
    let mid = g.H.Host.state c.plan.new.host in
    let new = g.H.Host.state c.run_stages.new.host in
    let told = c.args.told.now.items in
    let now = c.run_stages.new.told.items in
    let at = λ (f : Filed). given c.args.extent c.args.name.now c.args.diversions.now.ways (holding c.args.administration.now.database f) in
    let found = sym c.get.ensures ∙ ap option_copied c.unwrap-entry.ensures in
    let plan : IsPlanOf (at c.index.new.self) old.world mid.honest c.in-Ok.stages.items = record { entry = c.unwrap-entry.result.now; found = found; plan = c.in-Ok.ensures.planned } in
    subst (λ (f : Filed). HasCalled (at f) old new told now) c.index.ensures
    (called_by old mid c.in-Ok.ensures.reads c.in-Ok.ensures.silent (at c.index.new.self) c.in-Ok.stages.items plan new c.run_stages.ensures.any_moment.honest told now c.run_stages.ensures.told)

pub returns-in-Ok-clause-any_moment : goal.returns-in-Ok-clause-any_moment
returns-in-Ok-clause-any_moment g c =
    let old = g.H.Host.state c.args.host.now in
    let mid = g.H.Host.state c.plan.new.host in
    let new = g.H.Host.state c.run_stages.new.host in
    let at = λ (f : Filed). given c.args.extent c.args.name.now c.args.diversions.now.ways (holding c.args.administration.now.database f) in
    let found = sym c.get.ensures ∙ ap option_copied c.unwrap-entry.ensures in
    let plan : IsPlanOf (at c.index.new.self) old.world mid.honest c.in-Ok.stages.items = record { entry = c.unwrap-entry.result.now; found = found; plan = c.in-Ok.ensures.planned } in
    subst (λ (f : Filed). AtEachMomentOf (IsAmidUnit (at f)) old new) c.index.ensures
    (unit_moments old mid c.in-Ok.ensures.reads c.in-Ok.ensures.silent (at c.index.new.self) c.in-Ok.stages.items plan new c.run_stages.ensures.any_moment.honest c.in-Ok.ensures.counts.faults c.run_stages.ensures.any_moment)

pub returns-in-Err-clause-any_moment : goal.returns-in-Err-clause-any_moment
returns-in-Err-clause-any_moment g c =
    only_looked (g.H.Host.state c.args.host.now) (g.H.Host.state c.plan.new.host) c.plan.ensures.reads c.plan.ensures.silent (given c.args.extent c.args.name.now c.args.diversions.now.ways (holding_of c.args.administration.now))

pub returns-in_err-index-clause-apart : goal.returns-in_err-index-clause-apart
returns-in_err-index-clause-apart g c = λ h. ((goes_here (g.H.Host.state c.args.host.now) h).0, passed_on _ _ c.from_residual.result c.from_residual.ensures.1)

pub returns-in-Ok-clause-apart : goal.returns-in-Ok-clause-apart
returns-in-Ok-clause-apart g c =
    let old = g.H.Host.state c.args.host.now in
    let mid = g.H.Host.state c.plan.new.host in
    works_on old mid (g.H.Host.state c.run_stages.new.host) (reads_later old mid c.plan.ensures.reads) (later_of _ _ _ c.run_stages.ensures.any_moment)
    (reads_apart old mid c.plan.ensures.reads) c.run_stages.result c.run_stages.ensures.apart

pub returns-in-Err-clause-apart : goal.returns-in-Err-clause-apart
returns-in-Err-clause-apart g c = λ h.
    ((reads_apart (g.H.Host.state c.args.host.now) (g.H.Host.state c.plan.new.host) c.plan.ensures.reads h).0, tt)
