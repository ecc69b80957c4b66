use Rattle.std.proofs.Common.{◌+◌, ◌<◌, [], ◌∷◌, ◌++◌, take, drop, length, sym, ap, subst, ◌∙◌, rules, arith}
use Rattle.host_core.specs.World.{kind_of}
use Rattle.host_core.proofs.Moments.{since_start, since_then, since_weaker_if}
use Rattle.package_files.specs.Files.{Each, IsAmid}
use Rattle.package_files.specs.Free.{IsFreeIn, IsSeen}
use Rattle.package_files.specs.Names.{AllInOrder, IsHomed, IsNamed}
use Rattle.package_files.specs.Laid.{Prepared, IsUndoing}
use Rattle.package_files.proofs.WorkLists.{each_front}
use Rattle.package_files.proofs.WriteLists.{agree_at, free_at, home_at, prepared_more, amid_more, all_is, front_is, prepared_none, amid_none, each_here}
use Rattle.package_files.proofs.Undoing.{can_undo, undone_here, undoing_here, order_front}
use Rattle.package_files.proofs.preparing.prepare_all.Goals as goal

pub loop-index-init : goal.loop-index-init
loop-index-init g c = record {
  silent = search rules;
  counts = search rules;
  prepared = λ h. prepared_none _;
  any_moment = since_start _ _ (amid_none c.args.works.now _);
}

pub prepare_one-requires-clause-named : goal.prepare_one-requires-clause-named
prepare_one-requires-clause-named g c =
    let works = c.args.works.now in
    let i = c.loop-index.index in
    let x = c.index-works-index.result in
    let all = all_is works i x (omega (arith, c.loop-index-test.true)) c.index-works-index.is in
    each_here IsNamed (take i works) x (drop (i + 1) works) (subst (Each IsNamed) all c.requires.named)

pub prepare_one-requires-clause-free : goal.prepare_one-requires-clause-free
prepare_one-requires-clause-free g c = λ h.
    let inv = c.loop-index.invariant in
    let h0 = inv.silent.honest h in
    let works = c.args.works.now in
    let i = c.loop-index.index in
    let x = c.index-works-index.result in
    let old = (g.H.Host.state c.args.host.now).world in
    let mid = (g.H.Host.state c.loop-index.host).world in
    let a = take i works in
    let b = drop (i + 1) works in
    let all = all_is works i x (omega (arith, c.loop-index-test.true)) c.index-works-index.is in
    free_at a x b (subst (Each IsNamed) all c.requires.named) (subst AllInOrder all c.requires.order) old mid (inv.prepared h) (each_here (IsFreeIn old) a x b (subst (Each (IsFreeIn old)) all (c.requires.free h0)))

pub prepare_one-requires-clause-seen : goal.prepare_one-requires-clause-seen
prepare_one-requires-clause-seen g c = λ h.
    let inv = c.loop-index.invariant in
    let h0 = inv.silent.honest h in
    let works = c.args.works.now in
    let i = c.loop-index.index in
    let x = c.index-works-index.result in
    let old = (g.H.Host.state c.args.host.now).world in
    let mid = (g.H.Host.state c.loop-index.host).world in
    let a = take i works in
    let b = drop (i + 1) works in
    let all = all_is works i x (omega (arith, c.loop-index-test.true)) c.index-works-index.is in
    each_here (IsSeen old) a x b (subst (Each (IsSeen old)) all (c.requires.seen h0))
    ∙ ap kind_of (sym (agree_at a x b (subst (Each IsNamed) all c.requires.named) (subst AllInOrder all c.requires.order) old mid (inv.prepared h)).target)

pub prepare_one-requires-clause-parent : goal.prepare_one-requires-clause-parent
prepare_one-requires-clause-parent g c = λ h.
    let inv = c.loop-index.invariant in
    let h0 = inv.silent.honest h in
    let works = c.args.works.now in
    let i = c.loop-index.index in
    let x = c.index-works-index.result in
    let old = (g.H.Host.state c.args.host.now).world in
    let mid = (g.H.Host.state c.loop-index.host).world in
    let a = take i works in
    let b = drop (i + 1) works in
    let all = all_is works i x (omega (arith, c.loop-index-test.true)) c.index-works-index.is in
    home_at a x b (subst (Each IsNamed) all c.requires.named) (subst AllInOrder all c.requires.order) old mid (inv.prepared h)
    (each_front (IsFreeIn old) a (x ∷ b) (subst (Each (IsFreeIn old)) all (c.requires.free h0))) (each_front (IsSeen old) a (x ∷ b) (subst (Each (IsSeen old)) all (c.requires.seen h0)))
    (each_here (IsHomed (a ++ x ∷ b) old) a x b (subst (λ l. Each (IsHomed l old) l) all (c.requires.homed h0)))

pub returns-in_err-prepare_one-clause-any_moment : goal.returns-in_err-prepare_one-clause-any_moment
returns-in_err-prepare_one-clause-any_moment g c =
    let inv = c.loop-index.invariant in
    let works = c.args.works.now in
    let i = c.loop-index.index in
    let x = c.index-works-index.result in
    let old = g.H.Host.state c.args.host.now in
    let mid = g.H.Host.state c.loop-index.host in
    let new = g.H.Host.state c.prepare_one.new.host in
    let a = take i works in
    let b = drop (i + 1) works in
    let all = all_is works i x (omega (arith, c.loop-index-test.true)) c.index-works-index.is in
    since_then (λ so_far. IsAmid works old.world old.world) old mid new inv.any_moment
    (since_weaker_if (λ so_far. IsAmid (x ∷ []) mid.world mid.world) (λ so_far. IsAmid works old.world old.world) mid new
    (λ h so_far w amid. subst (λ l. IsAmid l old.world old.world w) (sym all)
    (amid_more a x b (subst (Each IsNamed) all c.requires.named) (subst AllInOrder all c.requires.order) old.world mid.world (inv.prepared (c.prepare_one.ensures.silent.honest h)) w amid))
    c.prepare_one.ensures.any_moment)

pub loop-index-preserved : goal.loop-index-preserved
loop-index-preserved g c =
    let inv = c.loop-index.invariant in
    let works = c.args.works.now in
    let i = c.loop-index.index in
    let x = c.index-works-index.result in
    let old = g.H.Host.state c.args.host.now in
    let mid = g.H.Host.state c.loop-index.host in
    let new = g.H.Host.state c.prepare_one.new.host in
    let a = take i works in
    let b = drop (i + 1) works in
    let within : i < length works = omega (arith, c.loop-index-test.true) in
    let all = all_is works i x within c.index-works-index.is in
    let named = subst (Each IsNamed) all c.requires.named in
    let order = subst AllInOrder all c.requires.order in
    record {
      silent = search rules;
      counts = search rules;
      prepared = λ h. subst (λ l. Prepared l old.world new.world) (sym (front_is works i x within c.index-works-index.is))
          (prepared_more a x b named order old.world mid.world (inv.prepared (c.prepare_one.ensures.silent.honest h)) new.world (c.in_ok-prepare_one.ensures.prepared h c.if-not-branch.false));
      any_moment = since_then (λ so_far. IsAmid works old.world old.world) old mid new inv.any_moment
          (since_weaker_if (λ so_far. IsAmid (x ∷ []) mid.world mid.world) (λ so_far. IsAmid works old.world old.world) mid new
          (λ h so_far w amid. subst (λ l. IsAmid l old.world old.world w) (sym all) (amid_more a x b named order old.world mid.world (inv.prepared (c.prepare_one.ensures.silent.honest h)) w amid))
          c.prepare_one.ensures.any_moment);
    }

pub take_back-requires-clause-order : goal.take_back-requires-clause-order
take_back-requires-clause-order g c =
    let works = c.args.works.now in
    let i = c.loop-index.index in
    let x = c.index-works-index.result in
    order_front (take i works) (x ∷ drop (i + 1) works) (subst AllInOrder (all_is works i x (omega (arith, c.loop-index-test.true)) c.index-works-index.is) c.requires.order)

pub take_back-requires-clause-under_way : goal.take_back-requires-clause-under_way
take_back-requires-clause-under_way g c = λ h.
    let inv = c.loop-index.invariant in
    let works = c.args.works.now in
    let i = c.loop-index.index in
    let x = c.index-works-index.result in
    let old = g.H.Host.state c.args.host.now in
    let mid = g.H.Host.state c.loop-index.host in
    let one = g.H.Host.state c.prepare_one.new.host in
    let a = take i works in
    let b = drop (i + 1) works in
    let all = all_is works i x (omega (arith, c.loop-index-test.true)) c.index-works-index.is in
    let h1 = c.prepare_one.ensures.silent.honest h in
    let h0 = inv.silent.honest h1 in
    can_undo works a x b all c.requires.named c.requires.order old.world mid.world one.world (inv.prepared h1) (c.in_ok-prepare_one.ensures.undone h c.if-not-branch.true) (c.requires.free h0) (c.requires.seen h0)

pub returns-in_err-take_back-clause-any_moment : goal.returns-in_err-take_back-clause-any_moment
returns-in_err-take_back-clause-any_moment g c =
    let inv = c.loop-index.invariant in
    let works = c.args.works.now in
    let i = c.loop-index.index in
    let x = c.index-works-index.result in
    let old = g.H.Host.state c.args.host.now in
    let mid = g.H.Host.state c.loop-index.host in
    let one = g.H.Host.state c.prepare_one.new.host in
    let a = take i works in
    let b = drop (i + 1) works in
    let all = all_is works i x (omega (arith, c.loop-index-test.true)) c.index-works-index.is in
    let new = g.H.Host.state c.take_back.new.host in
    let P = IsAmid works old.world old.world in
    let first = since_then (λ so_far. P) old mid one inv.any_moment
    (since_weaker_if (λ so_far. IsAmid (x ∷ []) mid.world mid.world) (λ so_far. P) mid one
    (λ h so_far w amid. subst (λ l. IsAmid l old.world old.world w) (sym all)
    (amid_more a x b (subst (Each IsNamed) all c.requires.named) (subst AllInOrder all c.requires.order) old.world mid.world (inv.prepared (c.prepare_one.ensures.silent.honest h)) w amid))
    c.prepare_one.ensures.any_moment) in
    since_then (λ so_far. P) old one new first
    (since_weaker_if (λ so_far. IsUndoing a one.world) (λ so_far. P) one new
    (λ h so_far w going.
    let h2 = c.take_back.ensures.silent.honest h in
    let h1 = c.prepare_one.ensures.silent.honest h2 in
    let h0 = inv.silent.honest h1 in
    undoing_here works a x b all c.requires.named c.requires.order old.world mid.world one.world (inv.prepared h1) (c.in_ok-prepare_one.ensures.undone h2 c.if-not-branch.true) (c.requires.free h0) (c.requires.seen h0) w going)
    c.take_back.ensures.any_moment)

pub returns-then-not-branch-clause-prepared : goal.returns-then-not-branch-clause-prepared
returns-then-not-branch-clause-prepared g c = λ h.
    let inv = c.loop-index.invariant in
    let works = c.args.works.now in
    let i = c.loop-index.index in
    let x = c.index-works-index.result in
    let old = g.H.Host.state c.args.host.now in
    let mid = g.H.Host.state c.loop-index.host in
    let one = g.H.Host.state c.prepare_one.new.host in
    let a = take i works in
    let b = drop (i + 1) works in
    let all = all_is works i x (omega (arith, c.loop-index-test.true)) c.index-works-index.is in
    let new = g.H.Host.state c.take_back.new.host in
    let h2 = c.take_back.ensures.silent.honest h in
    let h1 = c.prepare_one.ensures.silent.honest h2 in
    let h0 = inv.silent.honest h1 in
    undone_here works a x b all c.requires.named c.requires.order old.world mid.world one.world (inv.prepared h1) (c.in_ok-prepare_one.ensures.undone h2 c.if-not-branch.true) (c.requires.free h0) (c.requires.seen h0) new.world (c.in_ok-take_back.ensures.back h)

pub returns-then-not-branch-clause-any_moment : goal.returns-then-not-branch-clause-any_moment
returns-then-not-branch-clause-any_moment g c =
    let inv = c.loop-index.invariant in
    let works = c.args.works.now in
    let i = c.loop-index.index in
    let x = c.index-works-index.result in
    let old = g.H.Host.state c.args.host.now in
    let mid = g.H.Host.state c.loop-index.host in
    let one = g.H.Host.state c.prepare_one.new.host in
    let a = take i works in
    let b = drop (i + 1) works in
    let all = all_is works i x (omega (arith, c.loop-index-test.true)) c.index-works-index.is in
    let new = g.H.Host.state c.take_back.new.host in
    let P = IsAmid works old.world old.world in
    let first = since_then (λ so_far. P) old mid one inv.any_moment
    (since_weaker_if (λ so_far. IsAmid (x ∷ []) mid.world mid.world) (λ so_far. P) mid one
    (λ h so_far w amid. subst (λ l. IsAmid l old.world old.world w) (sym all)
    (amid_more a x b (subst (Each IsNamed) all c.requires.named) (subst AllInOrder all c.requires.order) old.world mid.world (inv.prepared (c.prepare_one.ensures.silent.honest h)) w amid))
    c.prepare_one.ensures.any_moment) in
    since_then (λ so_far. P) old one new first
    (since_weaker_if (λ so_far. IsUndoing a one.world) (λ so_far. P) one new
    (λ h so_far w going.
    let h2 = c.take_back.ensures.silent.honest h in
    let h1 = c.prepare_one.ensures.silent.honest h2 in
    let h0 = inv.silent.honest h1 in
    undoing_here works a x b all c.requires.named c.requires.order old.world mid.world one.world (inv.prepared h1) (c.in_ok-prepare_one.ensures.undone h2 c.if-not-branch.true) (c.requires.free h0) (c.requires.seen h0) w going)
    c.take_back.ensures.any_moment)
