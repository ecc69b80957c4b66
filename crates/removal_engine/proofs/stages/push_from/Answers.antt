use Rattle.std.proofs.Common.{◌≡◌, ◌++◌, map}
use Rattle.std.proofs.lemmas.Result.{on_ok_weaker}
use Rattle.removal_engine.specs.Stages.{files_stages, planned}
use Rattle.removal_engine.proofs.Pushed.{prerm_pushed}
use Rattle.removal_engine.proofs.stages.push_from.Goals as goal

pub returns-in_ok-push-in-HalfConfigured : goal.returns-in_ok-push-in-HalfConfigured
returns-in_ok-push-in-HalfConfigured c =
    let ways = c.args.diversions.now.ways in
    let lists = c.args.administration.now.lists.lists in
    let r = c.args.entry.now in
    let mid = c.push.new.self.items in
    let new = map planned c.push_files-in-HalfConfigured.new.stages.items in
    on_ok_weaker c.push_files-in-HalfConfigured.result
    (λ (done : new ≡ map planned mid ++ files_stages ways lists r c.args.stored c.args.purge c.args.to_come.now). prerm_pushed ways lists r c.args.stored c.args.purge c.args.to_come.now r.state c.in-HalfConfigured.is
    c.args.stages.now.items mid c.in_ok-prerm_stage-in-HalfConfigured.field-0 new c.in_ok-push-in-HalfConfigured.ensures.items c.in_ok-prerm_stage-in-HalfConfigured.ensures done)
    c.push_files-in-HalfConfigured.ensures
