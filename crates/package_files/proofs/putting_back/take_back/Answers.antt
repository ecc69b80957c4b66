use Rattle.std.proofs.Common.{◌≡◌, ◌+◌, ◌-◌, ◌<◌, [], ◌∷◌, length, take, drop, sym, subst, rules, arith}
use Rattle.host_core.proofs.Moments.{since_start, since_then, since_weaker_if}
use Rattle.package_files.specs.Files.{PutBack}
use Rattle.package_files.specs.Laid.{IsUndoing}
use Rattle.package_files.proofs.WriteLists.{all_is}
use Rattle.package_files.proofs.BackLists.{can_here, back_here, going_here, back_none, undoing_none, rest_at}
use Rattle.package_files.proofs.putting_back.take_back.Goals as goal

pub loop-count-init : goal.loop-count-init
loop-count-init g c = record {
  within = search rules;
  silent = search rules;
  counts = search rules;
  back = λ h was from. back_none c.args.works.now was _;
  any_moment = since_start _ _ (undoing_none c.args.works.now _);
}

pub take_back_one-requires-clause-under_way : goal.take_back_one-requires-clause-under_way
take_back_one-requires-clause-under_way g c = λ h.
    let inv = c.loop-count.invariant in
    let works = c.args.works.now in
    let i = c.loop-count.count - 1 in
    let more : i + 1 ≡ c.loop-count.count = omega (arith, c.loop-count-test.true) in
    let within : i < length works = omega (arith, c.loop-count-test.true, inv.within) in
    let x = c.index-works-count.result in
    let old = (g.H.Host.state c.args.host.now).world in
    let mid = (g.H.Host.state c.loop-count.host).world in
    can_here works (take i works) x (drop (i + 1) works) (all_is works i x within c.index-works-count.is) c.requires.named c.requires.order old mid
    (λ was from. subst (λ n. PutBack (drop n works) was old mid) (sym more) (inv.back h was from)) (c.requires.under_way (inv.silent.honest h))

pub loop-count-preserved : goal.loop-count-preserved
loop-count-preserved g c =
    let inv = c.loop-count.invariant in
    let works = c.args.works.now in
    let i = c.loop-count.count - 1 in
    let more : i + 1 ≡ c.loop-count.count = omega (arith, c.loop-count-test.true) in
    let within : i < length works = omega (arith, c.loop-count-test.true, inv.within) in
    let x = c.index-works-count.result in
    let old = g.H.Host.state c.args.host.now in
    let mid = g.H.Host.state c.loop-count.host in
    let new = g.H.Host.state c.take_back_one.new.host in
    let all = all_is works i x within c.index-works-count.is in
    record {
      within = omega (arith, inv.within);
      silent = search rules;
      counts = search rules;
      back = λ h was from.
          let h1 = c.take_back_one.ensures.silent.honest h in
          subst (λ l. PutBack l was old.world new.world) (sym (rest_at works i x within c.index-works-count.is))
          (back_here works (take i works) x (drop (i + 1) works) all c.requires.named c.requires.order old.world mid.world
          (λ was from. subst (λ n. PutBack (drop n works) was old.world mid.world) (sym more) (inv.back h1 was from)) new.world (c.in_ok-take_back_one.ensures.back h) was from);
      any_moment = since_then (λ so_far. IsUndoing works old.world) old mid new inv.any_moment
          (since_weaker_if (λ so_far. IsUndoing (x ∷ []) mid.world) (λ so_far. IsUndoing works old.world) mid new
          (λ h so_far w going. going_here works (take i works) x (drop (i + 1) works) all c.requires.named c.requires.order old.world mid.world
          (λ was from. subst (λ n. PutBack (drop n works) was old.world mid.world) (sym more) (inv.back (c.take_back_one.ensures.silent.honest h) was from)) w going)
          c.take_back_one.ensures.any_moment);
    }

pub returns-in_err-take_back_one-clause-any_moment : goal.returns-in_err-take_back_one-clause-any_moment
returns-in_err-take_back_one-clause-any_moment g c =
    let inv = c.loop-count.invariant in
    let works = c.args.works.now in
    let i = c.loop-count.count - 1 in
    let more : i + 1 ≡ c.loop-count.count = omega (arith, c.loop-count-test.true) in
    let within : i < length works = omega (arith, c.loop-count-test.true, inv.within) in
    let x = c.index-works-count.result in
    let old = g.H.Host.state c.args.host.now in
    let mid = g.H.Host.state c.loop-count.host in
    let new = g.H.Host.state c.take_back_one.new.host in
    since_then (λ so_far. IsUndoing works old.world) old mid new inv.any_moment
    (since_weaker_if (λ so_far. IsUndoing (x ∷ []) mid.world) (λ so_far. IsUndoing works old.world) mid new
    (λ h so_far w going. going_here works (take i works) x (drop (i + 1) works) (all_is works i x within c.index-works-count.is) c.requires.named c.requires.order old.world mid.world
    (λ was from. subst (λ n. PutBack (drop n works) was old.world mid.world) (sym more) (inv.back (c.take_back_one.ensures.silent.honest h) was from)) w going)
    c.take_back_one.ensures.any_moment)

pub returns-clause-back : goal.returns-clause-back
returns-clause-back g c = λ h was from.
    let works = c.args.works.now in
    let old = g.H.Host.state c.args.host.now in
    let now = g.H.Host.state c.loop-count.host in
    let zero : c.loop-count.count ≡ 0 = omega (arith, c.loop-count-test.false) in
    subst (λ n. PutBack (drop n works) was old.world now.world) zero (c.loop-count.invariant.back h was from)
