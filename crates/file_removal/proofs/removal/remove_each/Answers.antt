use Rattle.std.proofs.Common.{◌≡◌, ◌<◌, ◌+◌, ◌-◌, IsTrue, length, drop, sym, subst, ◌∙◌, arith, rules}
use Rattle.host_core.specs.Host.{WasDenied}
use Rattle.host_core.proofs.Moments.{since_start, since_then}
use Rattle.file_removal.specs.Removal.{RemovedUnless}
use Rattle.file_removal.proofs.Removing.{next_removed, next_moments, next_denied, start_removed, start_moments}
use Rattle.file_removal.proofs.Lowered.{took_start, took_then}
use Rattle.file_removal.proofs.removal.remove_each.Goals as goal

pub loop-count-init : goal.loop-count-init
loop-count-init g c =
    let leaving = c.args.leaving.now in
    let d = c.args.directories_only in
    let old = g.H.Host.state c.args.host.now in
    record {
      within = search rules;
      silent = search rules;
      counts = search rules;
      removed = λ h. start_removed d leaving _ old (search rules);
      any_moment = start_moments d leaving old;
      lowered = took_start old;
    }

pub loop-count-preserved : goal.loop-count-preserved
loop-count-preserved g c =
    let before = c.loop-count.invariant in
    let leaving = c.args.leaving.now in
    let i = c.loop-count.count - 1 in
    let more : i + 1 ≡ c.loop-count.count = omega (arith, c.loop-count-test.true) in
    let within : i < length leaving = omega (arith, c.loop-count-test.true, before.within) in
    let x = c.index-leaving-last.result in
    let d = c.args.directories_only in
    let old = g.H.Host.state c.args.host.now in
    let mid = g.H.Host.state c.loop-count.host in
    let new = g.H.Host.state c.remove_one.new.host in
    let so_far : IsTrue new.honest → RemovedUnless (WasDenied old mid) d (drop (i + 1) leaving) old.world mid.world = λ h. subst (λ n. RemovedUnless (WasDenied old mid) d (drop n leaving) old.world mid.world) (sym more) (before.removed (c.remove_one.ensures.silent.honest h)) in
    record {
      within = omega (arith, before.within);
      silent = search rules;
      counts = search rules;
      removed = λ h. next_removed d leaving i x within c.index-leaving-last.is _ _ old mid new before.any_moment c.remove_one.ensures.any_moment (so_far h) (c.in_ok-remove_one.ensures.visited h);
      any_moment = since_then _ old mid new before.any_moment (next_moments d leaving i x within c.index-leaving-last.is (WasDenied old mid) old.world mid new so_far c.remove_one.ensures.any_moment);
      lowered = took_then old mid new before.lowered c.remove_one.ensures.lowered;
    }

pub returns-in_err-remove_one-clause-any_moment : goal.returns-in_err-remove_one-clause-any_moment
returns-in_err-remove_one-clause-any_moment g c =
    let before = c.loop-count.invariant in
    let leaving = c.args.leaving.now in
    let i = c.loop-count.count - 1 in
    let more : i + 1 ≡ c.loop-count.count = omega (arith, c.loop-count-test.true) in
    let within : i < length leaving = omega (arith, c.loop-count-test.true, before.within) in
    let d = c.args.directories_only in
    let old = g.H.Host.state c.args.host.now in
    let mid = g.H.Host.state c.loop-count.host in
    let new = g.H.Host.state c.remove_one.new.host in
    let so_far : IsTrue new.honest → RemovedUnless (WasDenied old mid) d (drop (i + 1) leaving) old.world mid.world = λ h. subst (λ n. RemovedUnless (WasDenied old mid) d (drop n leaving) old.world mid.world) (sym more) (before.removed (c.remove_one.ensures.silent.honest h)) in
    since_then _ old mid new before.any_moment (next_moments d leaving i c.index-leaving-last.result within c.index-leaving-last.is (WasDenied old mid) old.world mid new so_far c.remove_one.ensures.any_moment)

pub returns-in_err-remove_one-clause-lowered : goal.returns-in_err-remove_one-clause-lowered
returns-in_err-remove_one-clause-lowered g c = took_then _ _ _ c.loop-count.invariant.lowered c.remove_one.ensures.lowered

pub returns-in_err-remove_one-clause-declined : goal.returns-in_err-remove_one-clause-declined
returns-in_err-remove_one-clause-declined g c = λ is.
    let before = c.loop-count.invariant in
    let old = g.H.Host.state c.args.host.now in
    let mid = g.H.Host.state c.loop-count.host in
    let new = g.H.Host.state c.remove_one.new.host in
    next_denied c.args.directories_only (drop c.loop-count.count c.args.leaving.now) _ _ old mid new before.any_moment c.remove_one.ensures.any_moment (λ h. before.removed (c.remove_one.ensures.silent.honest h)) (c.remove_one.ensures.declined (search rules))
