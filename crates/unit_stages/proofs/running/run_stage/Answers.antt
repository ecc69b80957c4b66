use Rattle.std.proofs.Common.{[], ◌∷◌}
use Rattle.unit_stages.specs.Holding.{holding_of}
use Rattle.unit_stages.specs.Runs.{HasCalled, HaveRun}
use Rattle.unit_stages.proofs.Moments.{since_parts, since_stage}
use Rattle.unit_stages.proofs.RunLaws.{if_ok_one, stage_ran}
use Rattle.unit_stages.proofs.Tellings.{parts_told, stage_told}
use Rattle.unit_stages.proofs.Apart.{later_of, works_on}
use Rattle.unit_stages.proofs.running.run_stage.Goals as goal

pub returns-in-Ok-clause-ran : goal.returns-in-Ok-clause-ran
returns-in-Ok-clause-ran g c =
    let name = c.args.name.now in
    let ways = c.args.diversions.now.ways in
    let stage = c.args.stage in
    let before = holding_of c.args.administration.now in
    let mid = holding_of c.do_and_keep.new.administration in
    let after = holding_of c.call_stage.new.administration in
    let s = g.H.Host.state c.args.host.now in
    let ready = g.H.Host.state c.do_and_keep.new.host in
    let t = g.H.Host.state c.call_stage.new.host in
    let told = c.args.told.now.items in
    let now = c.call_stage.new.told.items in
    if_ok_one c.call_stage.result (λ failed. HasCalled name ways stage.row stage.restore.items failed mid after ready t told now) (λ failed. HaveRun name ways (stage ∷ []) failed before after s t told now)
    (λ failed called. stage_ran name ways stage failed before mid after s ready t told now c.in-Ok.ensures.left c.in-Ok.ensures.done called) c.call_stage.ensures.called

pub returns-in-Ok-clause-told : goal.returns-in-Ok-clause-told
returns-in-Ok-clause-told g c = stage_told c.args.stage _ _ _ c.do_and_keep.ensures.silent _ _ c.call_stage.ensures.told

pub returns-in-Ok-clause-any_moment : goal.returns-in-Ok-clause-any_moment
returns-in-Ok-clause-any_moment g c =
    since_stage c.args.name.now c.args.diversions.now.ways c.args.stage (holding_of c.args.administration.now) (holding_of c.do_and_keep.new.administration)
    (g.H.Host.state c.args.host.now) (g.H.Host.state c.do_and_keep.new.host) (g.H.Host.state c.call_stage.new.host) c.in-Ok.ensures.left c.in-Ok.ensures.done c.do_and_keep.ensures.any_moment c.call_stage.ensures.any_moment

pub returns-in-Err-clause-told : goal.returns-in-Err-clause-told
returns-in-Err-clause-told g c = parts_told c.args.stage _ _ _ c.do_and_keep.ensures.silent

pub returns-in-Err-clause-any_moment : goal.returns-in-Err-clause-any_moment
returns-in-Err-clause-any_moment g c =
    since_parts c.args.name.now c.args.diversions.now.ways c.args.stage (holding_of c.args.administration.now) (g.H.Host.state c.args.host.now) (g.H.Host.state c.do_and_keep.new.host) c.do_and_keep.ensures.silent c.do_and_keep.ensures.any_moment

pub returns-in-Ok-clause-apart : goal.returns-in-Ok-clause-apart
returns-in-Ok-clause-apart g c =
    works_on (g.H.Host.state c.args.host.now) (g.H.Host.state c.do_and_keep.new.host) (g.H.Host.state c.call_stage.new.host) (later_of _ _ _ c.do_and_keep.ensures.any_moment) (later_of _ _ _ c.call_stage.ensures.any_moment)
    c.in-Ok.ensures.apart c.call_stage.result c.call_stage.ensures.apart

pub returns-in-Err-clause-apart : goal.returns-in-Err-clause-apart
returns-in-Err-clause-apart g c = λ h. ((c.do_and_keep.ensures.apart h).0, tt)
