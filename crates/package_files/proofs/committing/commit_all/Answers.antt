use Rattle.std.proofs.Common.{◌+◌, ◌<◌, ◌∷◌, [], IsTrue, take, drop, length, sym, subst, rules, arith}
use Rattle.std.proofs.lemmas.List.{drop_all, take_all}
use Rattle.host_core.specs.World.{World}
use Rattle.host_core.proofs.Moments.{since_start, since_then, since_weaker_if}
use Rattle.package_files.specs.Files.{Each, Written}
use Rattle.package_files.specs.Laid.{AreCommitting, IsCommitting, IsPreparedFrom, IsUndoing}
use Rattle.package_files.specs.Names.{IsNamed}
use Rattle.package_files.proofs.BackLists.{rest_at}
use Rattle.package_files.proofs.WriteLists.{all_is, front_is, each_here}
use Rattle.package_files.proofs.PartWay.{IsPartWay, part_none, part_all, amid_prepared, can_here, part_here, amid_here, can_undo_here, undone_here, undoing_here}
use Rattle.package_files.proofs.committing.commit_all.Goals as goal

pub loop-index-init : goal.loop-index-init
loop-index-init g c = record {
  silent = search rules;
  counts = search rules;
  synced = c.requires.synced;
  part = λ h was from. part_none c.args.works.now was _ from.prepared;
  any_moment = since_start _ _ (λ was from. amid_prepared c.args.works.now was _ from.prepared);
}

pub commit_one-requires-clause-named : goal.commit_one-requires-clause-named
commit_one-requires-clause-named g c =
    let works = c.args.works.now in
    let i = c.loop-index.index in
    let x = c.index-works-index.result in
    let all = all_is works i x (omega (arith, c.loop-index-test.true)) c.index-works-index.is in
    each_here IsNamed (take i works) x (drop (i + 1) works) (subst (Each IsNamed) all c.requires.named)

pub commit_one-requires-clause-ready : goal.commit_one-requires-clause-ready
commit_one-requires-clause-ready g c = λ h.
    let inv = c.loop-index.invariant in
    let works = c.args.works.now in
    let i = c.loop-index.index in
    let x = c.index-works-index.result in
    let old = g.H.Host.state c.args.host.now in
    let mid = g.H.Host.state c.loop-index.host in
    let within : i < length works = omega (arith, c.loop-index-test.true) in
    let a = take i works in
    let b = drop (i + 1) works in
    let all = all_is works i x within c.index-works-index.is in
    let part : IsTrue mid.honest → (was : World) → IsPreparedFrom works was old.world → IsPartWay a (x ∷ b) was mid.world
    = λ h was from. subst (λ l. IsPartWay a l was mid.world) (rest_at works i x within c.index-works-index.is) (inv.part h was from) in
    let can = c.requires.prepared (inv.silent.honest h) in
    can_here works a x b all c.requires.named c.requires.order can.0 old.world mid.world can.1 (part h can.0 can.1)

pub returns-in_err-commit_one-clause-any_moment : goal.returns-in_err-commit_one-clause-any_moment
returns-in_err-commit_one-clause-any_moment g c =
    let inv = c.loop-index.invariant in
    let works = c.args.works.now in
    let i = c.loop-index.index in
    let x = c.index-works-index.result in
    let old = g.H.Host.state c.args.host.now in
    let mid = g.H.Host.state c.loop-index.host in
    let one = g.H.Host.state c.commit_one.new.host in
    let within : i < length works = omega (arith, c.loop-index-test.true) in
    let a = take i works in
    let b = drop (i + 1) works in
    let all = all_is works i x within c.index-works-index.is in
    let part : IsTrue mid.honest → (was : World) → IsPreparedFrom works was old.world → IsPartWay a (x ∷ b) was mid.world
    = λ h was from. subst (λ l. IsPartWay a l was mid.world) (rest_at works i x within c.index-works-index.is) (inv.part h was from) in
    let P = AreCommitting works old.world in
    let first = since_then (λ so_far. P) old mid one inv.any_moment
    (since_weaker_if (λ so_far. IsCommitting x mid.world) (λ so_far. P) mid one
    (λ h so_far w committing was from. amid_here works a x b all c.requires.named c.requires.order was old.world mid.world from (part (c.commit_one.ensures.silent.honest h) was from) w committing)
    c.commit_one.ensures.any_moment) in
    first

pub loop-index-preserved : goal.loop-index-preserved
loop-index-preserved g c =
    let inv = c.loop-index.invariant in
    let works = c.args.works.now in
    let i = c.loop-index.index in
    let x = c.index-works-index.result in
    let old = g.H.Host.state c.args.host.now in
    let mid = g.H.Host.state c.loop-index.host in
    let one = g.H.Host.state c.commit_one.new.host in
    let within : i < length works = omega (arith, c.loop-index-test.true) in
    let a = take i works in
    let b = drop (i + 1) works in
    let all = all_is works i x within c.index-works-index.is in
    let part : IsTrue mid.honest → (was : World) → IsPreparedFrom works was old.world → IsPartWay a (x ∷ b) was mid.world
    = λ h was from. subst (λ l. IsPartWay a l was mid.world) (rest_at works i x within c.index-works-index.is) (inv.part h was from) in
    let P = AreCommitting works old.world in
    let first = since_then (λ so_far. P) old mid one inv.any_moment
    (since_weaker_if (λ so_far. IsCommitting x mid.world) (λ so_far. P) mid one
    (λ h so_far w committing was from. amid_here works a x b all c.requires.named c.requires.order was old.world mid.world from (part (c.commit_one.ensures.silent.honest h) was from) w committing)
    c.commit_one.ensures.any_moment) in
    record {
      silent = search rules;
      counts = search rules;
      synced = c.in_ok-commit_one.ensures.synced c.if-not-branch.false;
      part = λ h was from. subst (λ l. IsPartWay l b was one.world) (sym (front_is works i x within c.index-works-index.is))
          (part_here works a x b all c.requires.named c.requires.order was old.world mid.world from (part (c.commit_one.ensures.silent.honest h) was from) one.world
          (c.in_ok-commit_one.ensures.taken h c.if-not-branch.false));
      any_moment = first;
    }

pub take_back-requires-clause-under_way : goal.take_back-requires-clause-under_way
take_back-requires-clause-under_way g c = λ h.
    let inv = c.loop-index.invariant in
    let works = c.args.works.now in
    let i = c.loop-index.index in
    let x = c.index-works-index.result in
    let old = g.H.Host.state c.args.host.now in
    let mid = g.H.Host.state c.loop-index.host in
    let one = g.H.Host.state c.commit_one.new.host in
    let within : i < length works = omega (arith, c.loop-index-test.true) in
    let a = take i works in
    let b = drop (i + 1) works in
    let all = all_is works i x within c.index-works-index.is in
    let part : IsTrue mid.honest → (was : World) → IsPreparedFrom works was old.world → IsPartWay a (x ∷ b) was mid.world
    = λ h was from. subst (λ l. IsPartWay a l was mid.world) (rest_at works i x within c.index-works-index.is) (inv.part h was from) in
    let h1 = c.commit_one.ensures.silent.honest h in
    let can = c.requires.prepared (inv.silent.honest h1) in
    can_undo_here works a x b all c.requires.named c.requires.order can.0 old.world mid.world can.1 (part h1 can.0 can.1) one.world (c.in_ok-commit_one.ensures.left h c.if-not-branch.true)

pub returns-in_err-take_back-clause-any_moment : goal.returns-in_err-take_back-clause-any_moment
returns-in_err-take_back-clause-any_moment g c =
    let inv = c.loop-index.invariant in
    let works = c.args.works.now in
    let i = c.loop-index.index in
    let x = c.index-works-index.result in
    let old = g.H.Host.state c.args.host.now in
    let mid = g.H.Host.state c.loop-index.host in
    let one = g.H.Host.state c.commit_one.new.host in
    let within : i < length works = omega (arith, c.loop-index-test.true) in
    let a = take i works in
    let b = drop (i + 1) works in
    let all = all_is works i x within c.index-works-index.is in
    let part : IsTrue mid.honest → (was : World) → IsPreparedFrom works was old.world → IsPartWay a (x ∷ b) was mid.world
    = λ h was from. subst (λ l. IsPartWay a l was mid.world) (rest_at works i x within c.index-works-index.is) (inv.part h was from) in
    let P = AreCommitting works old.world in
    let first = since_then (λ so_far. P) old mid one inv.any_moment
    (since_weaker_if (λ so_far. IsCommitting x mid.world) (λ so_far. P) mid one
    (λ h so_far w committing was from. amid_here works a x b all c.requires.named c.requires.order was old.world mid.world from (part (c.commit_one.ensures.silent.honest h) was from) w committing)
    c.commit_one.ensures.any_moment) in
    let new = g.H.Host.state c.take_back.new.host in
    since_then (λ so_far. P) old one new first
    (since_weaker_if (λ so_far. IsUndoing works one.world) (λ so_far. P) one new
    (λ h so_far w undoing was from.
    let h2 = c.take_back.ensures.silent.honest h in
    undoing_here works a x b all c.requires.named c.requires.order was old.world mid.world from (part (c.commit_one.ensures.silent.honest h2) was from) one.world
    (c.in_ok-commit_one.ensures.left h2 c.if-not-branch.true) w undoing)
    c.take_back.ensures.any_moment)

pub returns-then-not-branch-clause-any_moment : goal.returns-then-not-branch-clause-any_moment
returns-then-not-branch-clause-any_moment g c =
    let inv = c.loop-index.invariant in
    let works = c.args.works.now in
    let i = c.loop-index.index in
    let x = c.index-works-index.result in
    let old = g.H.Host.state c.args.host.now in
    let mid = g.H.Host.state c.loop-index.host in
    let one = g.H.Host.state c.commit_one.new.host in
    let within : i < length works = omega (arith, c.loop-index-test.true) in
    let a = take i works in
    let b = drop (i + 1) works in
    let all = all_is works i x within c.index-works-index.is in
    let part : IsTrue mid.honest → (was : World) → IsPreparedFrom works was old.world → IsPartWay a (x ∷ b) was mid.world
    = λ h was from. subst (λ l. IsPartWay a l was mid.world) (rest_at works i x within c.index-works-index.is) (inv.part h was from) in
    let P = AreCommitting works old.world in
    let first = since_then (λ so_far. P) old mid one inv.any_moment
    (since_weaker_if (λ so_far. IsCommitting x mid.world) (λ so_far. P) mid one
    (λ h so_far w committing was from. amid_here works a x b all c.requires.named c.requires.order was old.world mid.world from (part (c.commit_one.ensures.silent.honest h) was from) w committing)
    c.commit_one.ensures.any_moment) in
    let new = g.H.Host.state c.take_back.new.host in
    since_then (λ so_far. P) old one new first
    (since_weaker_if (λ so_far. IsUndoing works one.world) (λ so_far. P) one new
    (λ h so_far w undoing was from.
    let h2 = c.take_back.ensures.silent.honest h in
    undoing_here works a x b all c.requires.named c.requires.order was old.world mid.world from (part (c.commit_one.ensures.silent.honest h2) was from) one.world
    (c.in_ok-commit_one.ensures.left h2 c.if-not-branch.true) w undoing)
    c.take_back.ensures.any_moment)

pub returns-then-not-branch-clause-committed : goal.returns-then-not-branch-clause-committed
returns-then-not-branch-clause-committed g c = λ h was from.
    let inv = c.loop-index.invariant in
    let works = c.args.works.now in
    let i = c.loop-index.index in
    let x = c.index-works-index.result in
    let old = g.H.Host.state c.args.host.now in
    let mid = g.H.Host.state c.loop-index.host in
    let one = g.H.Host.state c.commit_one.new.host in
    let within : i < length works = omega (arith, c.loop-index-test.true) in
    let a = take i works in
    let b = drop (i + 1) works in
    let all = all_is works i x within c.index-works-index.is in
    let part : IsTrue mid.honest → (was : World) → IsPreparedFrom works was old.world → IsPartWay a (x ∷ b) was mid.world
    = λ h was from. subst (λ l. IsPartWay a l was mid.world) (rest_at works i x within c.index-works-index.is) (inv.part h was from) in
    let new = g.H.Host.state c.take_back.new.host in
    let h2 = c.take_back.ensures.silent.honest h in
    undone_here works a x b all c.requires.named c.requires.order was old.world mid.world from (part (c.commit_one.ensures.silent.honest h2) was from) one.world
    (c.in_ok-commit_one.ensures.left h2 c.if-not-branch.true) new.world (c.in_ok-take_back.ensures.back h)

pub returns-clause-committed : goal.returns-clause-committed
returns-clause-committed g c = λ h was from.
    let works = c.args.works.now in
    let i = c.loop-index.index in
    let now = (g.H.Host.state c.loop-index.host).world in
    part_all works was now
    (subst (λ l. IsPartWay l [] was now) (take_all i works (omega (arith, c.loop-index-test.false)))
    (subst (λ l. IsPartWay (take i works) l was now) (drop_all i works (omega (arith, c.loop-index-test.false))) (c.loop-index.invariant.part h was from)))
