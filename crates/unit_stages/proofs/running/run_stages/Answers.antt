use Rattle.std.proofs.Common.{◌≡◌, List, [], ◌∷◌, ◌++◌, Option, Some, None, refl, sym, subst, ◌∙◌, append_assoc, rules}
use Rattle.host_core.specs.declared.call.Call.{Call}
use Rattle.unit_stages.specs.Fitting.{AreStagesFit, AreStagesSettleable, IsStageFit}
use Rattle.unit_stages.specs.Holding.{Holding, holding, holding_of}
use Rattle.unit_stages.specs.Runs.{HaveRun}
use Rattle.unit_stages.specs.declared.stage.Stage.{Stage}
use Rattle.unit_stages.proofs.RunLaws.{run_ended, run_left, run_made, run_on}
use Rattle.unit_stages.proofs.RunMoments.{run_goes_on, run_starts, stage_fits, stage_settleable, stage_settled, unmoved}
use Rattle.unit_stages.proofs.Tellings.{passed_told, run_told}
use Rattle.unit_stages.proofs.Apart.{apart_on, goes_here, goes_on, later_of, passed_on}
use Rattle.unit_stages.proofs.running.run_stages.Goals as goal

pub loop-stage-init : goal.loop-stage-init
loop-stage-init g c =
    let a = g.H.Host.state c.args.host.now in
    let d = c.args.administration.now.database in
    let f = c.args.administration.now.lists in
    record {
      left = search rules;
      ran = (refl, refl {a = holding d f}, refl {a = a}, refl {a = c.args.told.now.items});
      order = c.requires.order;
      is_open = c.requires.open;
      any_moment = run_starts c.args.name.now c.args.diversions.now.ways c.args.stages.items (holding d f) d f a refl c.requires.order;
      counts = search rules;
      apart = goes_here a;
    }

pub run_stage-requires-clause-fit : goal.run_stage-requires-clause-fit
run_stage-requires-clause-fit g c =
    let name = c.args.name.now in
    let ways = c.args.diversions.now.ways in
    let before = holding_of c.args.administration.now in
    let mid = holding_of c.loop-stage.administration in
    let stage = c.in-Some.stage in
    let walk : c.args.stages.items ≡ c.loop-stage.yielded ++ stage ∷ c.next.new.self.rest.items = search rules in
    subst (λ (h : Holding). IsStageFit name stage h.records h.lists)
    (sym (run_left name ways c.loop-stage.yielded None before mid (g.H.Host.state c.args.host.now) (g.H.Host.state c.loop-stage.host) c.args.told.now.items c.loop-stage.told.items c.loop-stage.invariant.ran))
    (stage_fits name c.loop-stage.yielded c.next.new.self.rest.items stage before (subst (λ (l : List Stage). AreStagesFit name l before.records before.lists) walk c.requires.fit))

pub run_stage-requires-clause-settleable : goal.run_stage-requires-clause-settleable
run_stage-requires-clause-settleable g c = λ h.
    let a = g.H.Host.state c.args.host.now in
    let b = g.H.Host.state c.loop-stage.host in
    let walk : c.args.stages.items ≡ c.loop-stage.yielded ++ c.in-Some.stage ∷ c.next.new.self.rest.items = search rules in
    stage_settleable c.next.new.self.rest.items c.in-Some.stage a.world b.world c.loop-stage.yielded
    (unmoved c.args.name.now c.args.diversions.now.ways c.loop-stage.yielded (holding_of c.args.administration.now) (holding_of c.loop-stage.administration) a b c.args.told.now.items c.loop-stage.told.items c.loop-stage.invariant.ran)
    (subst (λ (l : List Stage). AreStagesSettleable l a.world) walk (c.requires.settleable (c.loop-stage.invariant.any_moment.honest h)))

pub run_stage-requires-clause-settled : goal.run_stage-requires-clause-settled
run_stage-requires-clause-settled g c = λ h.
    let a = g.H.Host.state c.args.host.now in
    let b = g.H.Host.state c.loop-stage.host in
    let walk : c.args.stages.items ≡ c.loop-stage.yielded ++ c.in-Some.stage ∷ c.next.new.self.rest.items = search rules in
    stage_settled c.next.new.self.rest.items c.in-Some.stage a.world b.world c.loop-stage.yielded
    (subst (λ (l : List Stage). AreStagesSettleable l a.world) walk (c.requires.settleable (c.loop-stage.invariant.any_moment.honest h)))

pub returns-in_err-call-clause-told : goal.returns-in_err-call-clause-told
returns-in_err-call-clause-told g c =
    let a = g.H.Host.state c.args.host.now in
    let b = g.H.Host.state c.loop-stage.host in
    let before = holding_of c.args.administration.now in
    let mid = holding_of c.loop-stage.administration in
    let walk : c.args.stages.items ≡ c.loop-stage.yielded ++ c.in-Some.stage ∷ c.next.new.self.rest.items = search rules in
    run_told c.args.stages.items c.loop-stage.yielded c.next.new.self.rest.items c.in-Some.stage a b (g.H.Host.state c.run_stage.new.host) c.args.told.now.items c.loop-stage.told.items c.run_stage.new.told.items walk
    (run_made c.args.name.now c.args.diversions.now.ways c.loop-stage.yielded None before mid a b c.args.told.now.items c.loop-stage.told.items c.loop-stage.invariant.ran) c.run_stage.ensures.told

pub returns-in_err-call-clause-any_moment : goal.returns-in_err-call-clause-any_moment
returns-in_err-call-clause-any_moment g c =
    let a = g.H.Host.state c.args.host.now in
    let b = g.H.Host.state c.loop-stage.host in
    let before = holding_of c.args.administration.now in
    let mid = holding_of c.loop-stage.administration in
    let walk : c.args.stages.items ≡ c.loop-stage.yielded ++ c.in-Some.stage ∷ c.next.new.self.rest.items = search rules in
    run_goes_on c.args.name.now c.args.diversions.now.ways c.args.stages.items before c.loop-stage.yielded c.next.new.self.rest.items c.in-Some.stage walk mid a b (g.H.Host.state c.run_stage.new.host) c.args.told.now.items c.loop-stage.told.items
    c.loop-stage.invariant.ran c.loop-stage.invariant.any_moment c.run_stage.ensures.any_moment

pub returns-in-Some-2-clause-ran : goal.returns-in-Some-2-clause-ran
returns-in-Some-2-clause-ran g c =
    let name = c.args.name.now in
    let ways = c.args.diversions.now.ways in
    let a = g.H.Host.state c.args.host.now in
    let b = g.H.Host.state c.loop-stage.host in
    let d = g.H.Host.state c.run_stage.new.host in
    let before = holding_of c.args.administration.now in
    let mid = holding_of c.loop-stage.administration in
    let after = holding_of c.run_stage.new.administration in
    let stage = c.in-Some.stage in
    let rest = c.next.new.self.rest.items in
    let told = c.args.told.now.items in
    let more = c.loop-stage.told.items in
    let now = c.run_stage.new.told.items in
    let call = c.in-Some-2.call in
    let walk : c.args.stages.items ≡ c.loop-stage.yielded ++ stage ∷ rest = search rules in
    let one = subst (λ (o : Option Call). HaveRun name ways (stage ∷ []) o mid after b d more now) c.in-Some-2.is c.in_ok-call.ensures.ran in
    subst (λ (l : List Stage). HaveRun name ways l (Some call) before after a d told now) (sym walk)
    (run_on name ways c.loop-stage.yielded (stage ∷ rest) (Some call) before mid after a b d told more now c.loop-stage.invariant.ran
    (run_ended name ways (stage ∷ []) rest call mid after b d more now one))

pub returns-in-Some-2-clause-told : goal.returns-in-Some-2-clause-told
returns-in-Some-2-clause-told g c =
    let a = g.H.Host.state c.args.host.now in
    let b = g.H.Host.state c.loop-stage.host in
    let before = holding_of c.args.administration.now in
    let mid = holding_of c.loop-stage.administration in
    let walk : c.args.stages.items ≡ c.loop-stage.yielded ++ c.in-Some.stage ∷ c.next.new.self.rest.items = search rules in
    run_told c.args.stages.items c.loop-stage.yielded c.next.new.self.rest.items c.in-Some.stage a b (g.H.Host.state c.run_stage.new.host) c.args.told.now.items c.loop-stage.told.items c.run_stage.new.told.items walk
    (run_made c.args.name.now c.args.diversions.now.ways c.loop-stage.yielded None before mid a b c.args.told.now.items c.loop-stage.told.items c.loop-stage.invariant.ran) c.run_stage.ensures.told

pub returns-in-Some-2-clause-any_moment : goal.returns-in-Some-2-clause-any_moment
returns-in-Some-2-clause-any_moment g c =
    let a = g.H.Host.state c.args.host.now in
    let b = g.H.Host.state c.loop-stage.host in
    let before = holding_of c.args.administration.now in
    let mid = holding_of c.loop-stage.administration in
    let walk : c.args.stages.items ≡ c.loop-stage.yielded ++ c.in-Some.stage ∷ c.next.new.self.rest.items = search rules in
    run_goes_on c.args.name.now c.args.diversions.now.ways c.args.stages.items before c.loop-stage.yielded c.next.new.self.rest.items c.in-Some.stage walk mid a b (g.H.Host.state c.run_stage.new.host) c.args.told.now.items c.loop-stage.told.items
    c.loop-stage.invariant.ran c.loop-stage.invariant.any_moment c.run_stage.ensures.any_moment

pub loop-stage-preserved : goal.loop-stage-preserved
loop-stage-preserved g c =
    let name = c.args.name.now in
    let ways = c.args.diversions.now.ways in
    let inv = c.loop-stage.invariant in
    let a = g.H.Host.state c.args.host.now in
    let b = g.H.Host.state c.loop-stage.host in
    let d = g.H.Host.state c.run_stage.new.host in
    let before = holding_of c.args.administration.now in
    let mid = holding_of c.loop-stage.administration in
    let after = holding_of c.run_stage.new.administration in
    let stage = c.in-Some.stage in
    let told = c.args.told.now.items in
    let more = c.loop-stage.told.items in
    let now = c.run_stage.new.told.items in
    let walk : c.args.stages.items ≡ c.loop-stage.yielded ++ stage ∷ c.next.new.self.rest.items = search rules in
    let one = subst (λ (o : Option Call). HaveRun name ways (stage ∷ []) o mid after b d more now) c.in_default.is c.in_ok-call.ensures.ran in
    record {
      left = walk ∙ sym (append_assoc c.loop-stage.yielded (stage ∷ []) c.next.new.self.rest.items);
      ran = run_on name ways c.loop-stage.yielded (stage ∷ []) None before mid after a b d told more now inv.ran one;
      order = c.in_ok-call.ensures.order;
      is_open = c.in_ok-call.ensures.open;
      any_moment = run_goes_on name ways c.args.stages.items before c.loop-stage.yielded c.next.new.self.rest.items stage walk mid a b d told more inv.ran inv.any_moment c.run_stage.ensures.any_moment;
      counts = search rules;
      apart = goes_on (g.H.Host.state c.args.host.now) (g.H.Host.state c.loop-stage.host) (g.H.Host.state c.run_stage.new.host) (later_of _ _ _ c.loop-stage.invariant.any_moment) (later_of _ _ _ c.run_stage.ensures.any_moment) c.loop-stage.invariant.apart c.in_ok-call.ensures.apart;
    }

pub returns-clause-told : goal.returns-clause-told
returns-clause-told g c =
    let a = g.H.Host.state c.args.host.now in
    let b = g.H.Host.state c.loop-stage.host in
    let before = holding_of c.args.administration.now in
    let mid = holding_of c.loop-stage.administration in
    passed_told c.args.stages.items c.loop-stage.yielded c.loop-stage.stage-iterator.rest.items a b c.args.told.now.items c.loop-stage.told.items c.loop-stage.invariant.left
    (run_made c.args.name.now c.args.diversions.now.ways c.loop-stage.yielded None before mid a b c.args.told.now.items c.loop-stage.told.items c.loop-stage.invariant.ran)

pub returns-in_err-call-clause-apart : goal.returns-in_err-call-clause-apart
returns-in_err-call-clause-apart g c = λ h. (apart_on (g.H.Host.state c.args.host.now) (g.H.Host.state c.loop-stage.host) (g.H.Host.state c.run_stage.new.host) (later_of _ _ _ c.loop-stage.invariant.any_moment) (later_of _ _ _ c.run_stage.ensures.any_moment) c.loop-stage.invariant.apart (λ h0. (c.run_stage.ensures.apart h0).0) h, passed_on _ _ c.from_residual.result c.from_residual.ensures.1)

pub returns-in-Some-2-clause-apart : goal.returns-in-Some-2-clause-apart
returns-in-Some-2-clause-apart g c = goes_on (g.H.Host.state c.args.host.now) (g.H.Host.state c.loop-stage.host) (g.H.Host.state c.run_stage.new.host) (later_of _ _ _ c.loop-stage.invariant.any_moment) (later_of _ _ _ c.run_stage.ensures.any_moment) c.loop-stage.invariant.apart c.in_ok-call.ensures.apart

pub returns-clause-apart : goal.returns-clause-apart
returns-clause-apart g c = c.loop-stage.invariant.apart
