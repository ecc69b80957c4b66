use Rattle.std.proofs.Common.{[], ◌∷◌, None, refl, sym}
use Rattle.std.proofs.lemmas.Option.{MatchOption-at_none, MatchOption-at_some}
use Rattle.std.proofs.lemmas.List.{append-nil}
use Rattle.unit_stages.specs.Holding.{holding, holding_of}
use Rattle.disappearance.specs.Stages.{IsPlan, disappear_row}
use Rattle.disappearance.specs.Units.{HasCalledOne}
use Rattle.disappearance.specs.Verdicts.{Goes, Stays}
use Rattle.disappearance.specs.declared.stages.Plan.{Plan}
use Rattle.disappearance.proofs.Looking.{called_by, going_moments, gone_by, if_ok_both, looking_moments, stayed_by}
use Rattle.disappearance.proofs.unit.disappear.Goals as goal

pub run_both-requires-clause-planned : goal.run_both-requires-clause-planned
run_both-requires-clause-planned g c =
    let h = holding_of c.args.administration.now in
    let old = g.H.Host.state c.args.host.now in
    let mid = g.H.Host.state c.decide.new.host in
    let found = MatchOption-at_some (Stays c.args.incoming.now c.args.diversions.now.ways c.args.losing.now h old.world mid.honest)
    (λ (p : Plan). Goes c.args.incoming.now c.args.diversions.now.ways c.args.losing.now h old.world mid.honest × IsPlan c.args.incoming.now c.args.version.now c.args.losing.now.name h old.world mid.honest p.call.items p.gone.items)
    c.in-Ok-Some.plan c.in-Ok-Some.field-0-is c.in-Ok-Some.ensures.decision in
    (disappear_row c.args.losing.now.name c.args.incoming.now c.args.version.now found.1.stored, found.1.stages)

pub returns-in-Ok-clause-decided : goal.returns-in-Ok-clause-decided
returns-in-Ok-clause-decided g c =
    let h = holding_of c.args.administration.now in
    let old = g.H.Host.state c.args.host.now in
    let mid = g.H.Host.state c.decide.new.host in
    let new = g.H.Host.state c.run_both.new.host in
    let own = c.args.losing.now.name ∷ [] in
    let plan = c.in-Ok-Some.plan in
    let after = holding_of c.run_both.new.administration in
    let told = c.args.told.now.items in
    let now = c.run_both.new.told.items in
    let found = MatchOption-at_some (Stays c.args.incoming.now c.args.diversions.now.ways c.args.losing.now h old.world mid.honest)
    (λ (p : Plan). Goes c.args.incoming.now c.args.diversions.now.ways c.args.losing.now h old.world mid.honest × IsPlan c.args.incoming.now c.args.version.now c.args.losing.now.name h old.world mid.honest p.call.items p.gone.items)
    plan c.in-Ok-Some.field-0-is c.in-Ok-Some.ensures.decision in
    if_ok_both c.run_both.result _ _ _
    (λ failed run order. (
      own,
      c.in-Ok.ensures,
      gone_by old mid c.in-Ok-Some.ensures.reads c.in-Ok-Some.ensures.silent c.args.incoming.now c.args.version.now c.args.diversions.now.ways c.args.losing.now h plan.call.items plan.gone.items found.0 found.1 new
          c.run_both.ensures.any_moment.honest own failed after told now refl run (λ honest. record { recorded = c.run_both.new.administration.database; are = refl; order = order honest }),
    ))
    c.run_both.ensures.ran c.run_both.ensures.order

pub returns-in-Ok-clause-told : goal.returns-in-Ok-clause-told
returns-in-Ok-clause-told g c =
    let h = holding_of c.args.administration.now in
    let old = g.H.Host.state c.args.host.now in
    let mid = g.H.Host.state c.decide.new.host in
    let new = g.H.Host.state c.run_both.new.host in
    let plan = c.in-Ok-Some.plan in
    let found = MatchOption-at_some (Stays c.args.incoming.now c.args.diversions.now.ways c.args.losing.now h old.world mid.honest)
    (λ (p : Plan). Goes c.args.incoming.now c.args.diversions.now.ways c.args.losing.now h old.world mid.honest × IsPlan c.args.incoming.now c.args.version.now c.args.losing.now.name h old.world mid.honest p.call.items p.gone.items)
    plan c.in-Ok-Some.field-0-is c.in-Ok-Some.ensures.decision in
    called_by old mid c.in-Ok-Some.ensures.reads c.in-Ok-Some.ensures.silent c.args.incoming.now c.args.version.now c.args.diversions.now.ways c.args.losing.now h plan.call.items plan.gone.items found.0 found.1 new
    c.run_both.ensures.any_moment.honest c.args.told.now.items c.run_both.new.told.items c.run_both.ensures.told

pub returns-in-Ok-clause-any_moment : goal.returns-in-Ok-clause-any_moment
returns-in-Ok-clause-any_moment g c =
    let d = c.args.administration.now.database in
    let f = c.args.administration.now.lists in
    let h = holding d f in
    let old = g.H.Host.state c.args.host.now in
    let mid = g.H.Host.state c.decide.new.host in
    let new = g.H.Host.state c.run_both.new.host in
    let plan = c.in-Ok-Some.plan in
    let found = MatchOption-at_some (Stays c.args.incoming.now c.args.diversions.now.ways c.args.losing.now h old.world mid.honest)
    (λ (p : Plan). Goes c.args.incoming.now c.args.diversions.now.ways c.args.losing.now h old.world mid.honest × IsPlan c.args.incoming.now c.args.version.now c.args.losing.now.name h old.world mid.honest p.call.items p.gone.items)
    plan c.in-Ok-Some.field-0-is c.in-Ok-Some.ensures.decision in
    going_moments old mid c.in-Ok-Some.ensures.reads c.in-Ok-Some.ensures.silent c.args.incoming.now c.args.version.now c.args.diversions.now.ways c.args.losing.now h plan.call.items plan.gone.items found.0 found.1 new
    c.run_both.ensures.any_moment.honest d f.lists c.requires.order c.in-Ok-Some.ensures.counts.faults c.run_both.ensures.any_moment

pub returns-in-Err-push_name-clause-told : goal.returns-in-Err-push_name-clause-told
returns-in-Err-push_name-clause-told g c = HasCalledOne.uncalled c.in-Ok-Some.ensures.silent refl

pub returns-in-Err-push_name-clause-any_moment : goal.returns-in-Err-push_name-clause-any_moment
returns-in-Err-push_name-clause-any_moment g c =
    let d = c.args.administration.now.database in
    let f = c.args.administration.now.lists in
    looking_moments (g.H.Host.state c.args.host.now) (g.H.Host.state c.decide.new.host) c.decide.ensures.reads c.decide.ensures.silent c.args.incoming.now c.args.version.now c.args.diversions.now.ways c.args.losing.now (holding d f) d f.lists c.requires.order

pub returns-in-Ok-None-clause-decided : goal.returns-in-Ok-None-clause-decided
returns-in-Ok-None-clause-decided g c =
    let h = holding_of c.args.administration.now in
    let old = g.H.Host.state c.args.host.now in
    let mid = g.H.Host.state c.decide.new.host in
    let found = MatchOption-at_none (Stays c.args.incoming.now c.args.diversions.now.ways c.args.losing.now h old.world mid.honest)
    (λ (p : Plan). Goes c.args.incoming.now c.args.diversions.now.ways c.args.losing.now h old.world mid.honest × IsPlan c.args.incoming.now c.args.version.now c.args.losing.now.name h old.world mid.honest p.call.items p.gone.items)
    c.in-Ok-None.field-0-is c.in-Ok-None.ensures.decision in
    ([], sym (append-nil c.args.names.now), stayed_by old mid c.in-Ok-None.ensures.reads c.in-Ok-None.ensures.silent c.args.incoming.now c.args.version.now c.args.diversions.now.ways c.args.losing.now h [] None c.args.told.now.items refl refl found)

pub returns-in-Ok-None-clause-told : goal.returns-in-Ok-None-clause-told
returns-in-Ok-None-clause-told g c = HasCalledOne.uncalled c.in-Ok-None.ensures.silent refl

pub returns-in-Ok-None-clause-any_moment : goal.returns-in-Ok-None-clause-any_moment
returns-in-Ok-None-clause-any_moment g c =
    let d = c.args.administration.now.database in
    let f = c.args.administration.now.lists in
    looking_moments (g.H.Host.state c.args.host.now) (g.H.Host.state c.decide.new.host) c.decide.ensures.reads c.decide.ensures.silent c.args.incoming.now c.args.version.now c.args.diversions.now.ways c.args.losing.now (holding d f) d f.lists c.requires.order

pub returns-in-Err-clause-told : goal.returns-in-Err-clause-told
returns-in-Err-clause-told g c = HasCalledOne.uncalled c.decide.ensures.silent refl

pub returns-in-Err-clause-any_moment : goal.returns-in-Err-clause-any_moment
returns-in-Err-clause-any_moment g c =
    let d = c.args.administration.now.database in
    let f = c.args.administration.now.lists in
    looking_moments (g.H.Host.state c.args.host.now) (g.H.Host.state c.decide.new.host) c.decide.ensures.reads c.decide.ensures.silent c.args.incoming.now c.args.version.now c.args.diversions.now.ways c.args.losing.now (holding d f) d f.lists c.requires.order
