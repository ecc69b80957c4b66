use Rattle.std.proofs.Common.{◌≡◌, true, Some, sym, ap, subst, ◌∙◌, option_copied}
use Rattle.host_core.specs.Paths.{Path}
use Rattle.status_records.specs.Records.{record_in}
use Rattle.texts.specs.PackageNames.{is_package_name}
use Rattle.unit_stages.specs.Holding.{holding_of}
use Rattle.unit_stages.specs.Runs.{HaveRun}
use Rattle.trigger_engine.specs.Units.{HasEnded, HasProcessed, IsPlanOf, given}
use Rattle.trigger_engine.proofs.Looking.{called_by, if_ok_one, only_looked, processed_by, unit_moments}
use Rattle.trigger_engine.proofs.Planned.{has_ended, stages_fit, stages_settleable}
use Rattle.trigger_engine.proofs.Tables.{is_named, named}
use Rattle.unit_stages.proofs.Apart.{later_of, reads_apart, reads_later, works_on}
use Rattle.trigger_engine.proofs.unit.process.Goals as goal

pub plan-requires : goal.plan-requires
plan-requires g c = record { named = named c.unwrap-entry.result.now }

pub run_stages-requires-clause-named : goal.run_stages-requires-clause-named
run_stages-requires-clause-named g c =
    let r = c.unwrap-entry.result.now in
    let found : record_in c.args.administration.now.database.records c.args.name.now ≡ Some r = sym c.get.ensures ∙ ap option_copied c.unwrap-entry.ensures in
    subst (λ (n : Path). is_package_name n ≡ true) (is_named c.args.administration.now.database.records c.args.name.now r found) (named r)

pub run_stages-requires-clause-fit : goal.run_stages-requires-clause-fit
run_stages-requires-clause-fit g c =
    let r = c.unwrap-entry.result.now in
    let name = c.args.name.now in
    let rs = c.args.administration.now.database.records in
    let found : record_in rs name ≡ Some r = sym c.get.ensures ∙ ap option_copied c.unwrap-entry.ensures in
    let plan = c.in-Ok.ensures.planned in
    stages_fit r name (is_named rs name r found) plan.stored c.in-Ok.stages.items plan.stages_are rs c.args.administration.now.lists.lists found

pub run_stages-requires-clause-settleable : goal.run_stages-requires-clause-settleable
run_stages-requires-clause-settleable g c = λ h.
    let r = c.unwrap-entry.result.now in
    let name = c.args.name.now in
    let rs = c.args.administration.now.database.records in
    let found : record_in rs name ≡ Some r = sym c.get.ensures ∙ ap option_copied c.unwrap-entry.ensures in
    let plan = c.in-Ok.ensures.planned in
    stages_settleable r name (is_named rs name r found) plan.stored c.in-Ok.stages.items plan.stages_are (g.H.Host.state c.plan.new.host).world

pub returns-in-Ok-clause-unit : goal.returns-in-Ok-clause-unit
returns-in-Ok-clause-unit g c =
    let r = c.unwrap-entry.result.now in
    let name = c.args.name.now in
    let ways = c.args.diversions.now.ways in
    let before = holding_of c.args.administration.now in
    let after = holding_of c.run_stages.new.administration in
    let G = given name ways before in
    let old = g.H.Host.state c.args.host.now in
    let mid = g.H.Host.state c.plan.new.host in
    let new = g.H.Host.state c.run_stages.new.host in
    let stages = c.in-Ok.stages.items in
    let found : record_in c.args.administration.now.database.records name ≡ Some r = sym c.get.ensures ∙ ap option_copied c.unwrap-entry.ensures in
    let plan : IsPlanOf G old.world mid.honest stages = record { entry = r; found = found; plan = c.in-Ok.ensures.planned } in
    if_ok_one c.run_stages.result (λ failed. HaveRun name ways stages failed before after mid new c.args.told.now.items c.run_stages.new.told.items) (λ failed. HasProcessed G failed after old new c.args.told.now.items c.run_stages.new.told.items)
    (λ failed run. processed_by old mid c.plan.ensures.reads c.plan.ensures.silent G stages plan new c.run_stages.ensures.any_moment.honest c.args.told.now.items c.run_stages.new.told.items failed after run) c.run_stages.ensures.ran

pub returns-in-Ok-clause-end : goal.returns-in-Ok-clause-end
returns-in-Ok-clause-end g c =
    let r = c.unwrap-entry.result.now in
    let name = c.args.name.now in
    let ways = c.args.diversions.now.ways in
    let before = holding_of c.args.administration.now in
    let after = holding_of c.run_stages.new.administration in
    let mid = g.H.Host.state c.plan.new.host in
    let new = g.H.Host.state c.run_stages.new.host in
    let stages = c.in-Ok.stages.items in
    let found : record_in c.args.administration.now.database.records name ≡ Some r = sym c.get.ensures ∙ ap option_copied c.unwrap-entry.ensures in
    let plan = c.in-Ok.ensures.planned in
    if_ok_one c.run_stages.result (λ failed. HaveRun name ways stages failed before after mid new c.args.told.now.items c.run_stages.new.told.items) (λ failed. HasEnded name failed c.args.administration.now.database.records c.run_stages.new.administration.database.records)
    (λ failed run. has_ended r name (is_named c.args.administration.now.database.records name r found) plan.stored stages plan.stages_are ways before found failed after mid new c.args.told.now.items c.run_stages.new.told.items run)
    c.run_stages.ensures.ran

pub returns-in-Ok-clause-told : goal.returns-in-Ok-clause-told
returns-in-Ok-clause-told g c =
    let r = c.unwrap-entry.result.now in
    let name = c.args.name.now in
    let before = holding_of c.args.administration.now in
    let G = given name c.args.diversions.now.ways before in
    let old = g.H.Host.state c.args.host.now in
    let mid = g.H.Host.state c.plan.new.host in
    let new = g.H.Host.state c.run_stages.new.host in
    let stages = c.in-Ok.stages.items in
    let found : record_in c.args.administration.now.database.records name ≡ Some r = sym c.get.ensures ∙ ap option_copied c.unwrap-entry.ensures in
    let plan : IsPlanOf G old.world mid.honest stages = record { entry = r; found = found; plan = c.in-Ok.ensures.planned } in
    called_by old mid c.plan.ensures.reads c.plan.ensures.silent G stages plan new c.run_stages.ensures.any_moment.honest c.args.told.now.items c.run_stages.new.told.items c.run_stages.ensures.told

pub returns-in-Ok-clause-any_moment : goal.returns-in-Ok-clause-any_moment
returns-in-Ok-clause-any_moment g c =
    let r = c.unwrap-entry.result.now in
    let name = c.args.name.now in
    let before = holding_of c.args.administration.now in
    let G = given name c.args.diversions.now.ways before in
    let old = g.H.Host.state c.args.host.now in
    let mid = g.H.Host.state c.plan.new.host in
    let new = g.H.Host.state c.run_stages.new.host in
    let stages = c.in-Ok.stages.items in
    let found : record_in c.args.administration.now.database.records name ≡ Some r = sym c.get.ensures ∙ ap option_copied c.unwrap-entry.ensures in
    let plan : IsPlanOf G old.world mid.honest stages = record { entry = r; found = found; plan = c.in-Ok.ensures.planned } in
    unit_moments old mid c.plan.ensures.reads c.plan.ensures.silent G stages plan new c.run_stages.ensures.any_moment.honest c.in-Ok.ensures.counts.faults c.run_stages.ensures.any_moment

pub returns-in-Err-clause-any_moment : goal.returns-in-Err-clause-any_moment
returns-in-Err-clause-any_moment g c =
    only_looked (g.H.Host.state c.args.host.now) (g.H.Host.state c.plan.new.host) c.plan.ensures.reads c.plan.ensures.silent (given c.args.name.now c.args.diversions.now.ways (holding_of c.args.administration.now))

pub returns-in-Ok-clause-apart : goal.returns-in-Ok-clause-apart
returns-in-Ok-clause-apart g c =
    let old = g.H.Host.state c.args.host.now in
    let mid = g.H.Host.state c.plan.new.host in
    works_on old mid (g.H.Host.state c.run_stages.new.host) (reads_later old mid c.plan.ensures.reads) (later_of _ _ _ c.run_stages.ensures.any_moment)
    (reads_apart old mid c.plan.ensures.reads) c.run_stages.result c.run_stages.ensures.apart

pub returns-in-Err-clause-apart : goal.returns-in-Err-clause-apart
returns-in-Err-clause-apart g c = λ h.
    ((reads_apart (g.H.Host.state c.args.host.now) (g.H.Host.state c.plan.new.host) c.plan.ensures.reads h).0, tt)
