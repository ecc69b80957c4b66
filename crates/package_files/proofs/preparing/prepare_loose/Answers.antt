use Rattle.std.proofs.Common.{◌≡◌, [], ◌∷◌, inl, sym, rules, ◌∙◌}
use Rattle.host_core.proofs.Moments.{since_start, since_then, since_weaker, since_weaker_if}
use Rattle.administration.specs.Files.{KeepsBeside, IsAside}
use Rattle.package_files.specs.Files.{IsAmid}
use Rattle.package_files.specs.Laid.{Prepared}
use Rattle.package_files.proofs.OnePath.{amid_same, amid_spares, amid_laying, saved_absent, saved_home, saved_begun, laid_here, left_prepared}
use Rattle.package_files.proofs.WriteMoments.{on_ok}
use Rattle.package_files.proofs.Tried.{on_declined}
use Rattle.package_files.specs.Steps.{HasBegun, HasTried, KeepsBesideSpares}
use Rattle.package_files.proofs.preparing.prepare_loose.Goals as goal

pub returns-then-not-is_exchanged-clause-prepared : goal.returns-then-not-is_exchanged-clause-prepared
returns-then-not-is_exchanged-clause-prepared g c = λ h.
    left_prepared c.args.work.now _ c.requires.loose (sym c.is_exchanged.ensures ∙ c.if-not-is_exchanged.true) (c.requires.seen h) (c.requires.ready h)

pub returns-then-not-is_exchanged-clause-any_moment : goal.returns-then-not-is_exchanged-clause-any_moment
returns-then-not-is_exchanged-clause-any_moment g c =
    let old = g.H.Host.state c.args.host.now in
    let x = c.args.work.now in
    since_start (λ so_far. IsAmid (x ∷ []) old.world old.world) old (amid_same x old.world)

pub save_old-requires-clause-exchanged : goal.save_old-requires-clause-exchanged
save_old-requires-clause-exchanged g c = sym c.is_exchanged.ensures ∙ c.if-not-is_exchanged.false

pub returns-in_err-save_old-clause-tried : goal.returns-in_err-save_old-clause-tried
returns-in_err-save_old-clause-tried g c = λ h.
    let old = (g.H.Host.state c.args.host.now).world in
    let new = (g.H.Host.state c.save_old.new.host).world in
    let x = c.args.work.now in
    on_declined c.from_residual.result (HasBegun x old new) (HasTried x old new) (λ begun. inl begun) (search rules)

pub returns-in_err-save_old-clause-any_moment : goal.returns-in_err-save_old-clause-any_moment
returns-in_err-save_old-clause-any_moment g c =
    let old = g.H.Host.state c.args.host.now in
    let x = c.args.work.now in
    since_weaker (λ so_far. KeepsBesideSpares x old.world) (λ so_far. IsAmid (x ∷ []) old.world old.world) old (g.H.Host.state c.save_old.new.host) (λ so_far w keeps. amid_spares x old.world w c.requires.named keeps) c.save_old.ensures.any_moment

pub lay-requires-clause-absent : goal.lay-requires-clause-absent
lay-requires-clause-absent g c = λ h.
    let h0 = c.save_old.ensures.silent.honest h in
    saved_absent c.args.work.now _ c.requires.named (sym c.is_exchanged.ensures ∙ c.if-not-is_exchanged.false) (c.requires.seen h0) (c.requires.ready h0) _ (c.in_ok-save_old.ensures.saved h)

pub lay-requires-clause-parent : goal.lay-requires-clause-parent
lay-requires-clause-parent g c = λ h.
    let h0 = c.save_old.ensures.silent.honest h in
    saved_home c.args.work.now _ c.requires.named (sym c.is_exchanged.ensures ∙ c.if-not-is_exchanged.false) (c.requires.seen h0) (c.requires.ready h0) _ (c.in_ok-save_old.ensures.saved h)

pub returns-clause-prepared : goal.returns-clause-prepared
returns-clause-prepared g c = λ h.
    let h1 = c.lay.ensures.silent.honest h in
    let h0 = c.save_old.ensures.silent.honest h1 in
    let old = (g.H.Host.state c.args.host.now).world in
    let mid = (g.H.Host.state c.save_old.new.host).world in
    let new = (g.H.Host.state c.lay.new.host).world in
    let x = c.args.work.now in
    on_ok c.lay.result (IsAside x.fresh x.node mid new) (Prepared (x ∷ []) old new)
    (laid_here x old c.requires.named (sym c.is_exchanged.ensures ∙ c.if-not-is_exchanged.false) (c.requires.seen h0) (c.requires.ready h0) mid (c.in_ok-save_old.ensures.saved h1) new) (c.lay.ensures.laid h)

pub returns-clause-tried : goal.returns-clause-tried
returns-clause-tried g c = λ h.
    let h1 = c.lay.ensures.silent.honest h in
    let h0 = c.save_old.ensures.silent.honest h1 in
    let old = (g.H.Host.state c.args.host.now).world in
    let mid = (g.H.Host.state c.save_old.new.host).world in
    let new = (g.H.Host.state c.lay.new.host).world in
    let x = c.args.work.now in
    on_declined c.lay.result (new ≡ mid) (HasTried x old new)
    (λ same. inl (saved_begun x old c.requires.named (sym c.is_exchanged.ensures ∙ c.if-not-is_exchanged.false) (c.requires.seen h0) (c.requires.ready h0) mid (c.in_ok-save_old.ensures.saved h1) new same)) (c.lay.ensures.tried h)

pub returns-clause-any_moment : goal.returns-clause-any_moment
returns-clause-any_moment g c =
    let old = g.H.Host.state c.args.host.now in
    let mid = g.H.Host.state c.save_old.new.host in
    let new = g.H.Host.state c.lay.new.host in
    let x = c.args.work.now in
    let P = IsAmid (x ∷ []) old.world old.world in
    since_then (λ so_far. P) old mid new
    (since_weaker (λ so_far. KeepsBesideSpares x old.world) (λ so_far. P) old mid (λ so_far w keeps. amid_spares x old.world w c.requires.named keeps) c.save_old.ensures.any_moment)
    (since_weaker_if (λ so_far. KeepsBeside x.fresh mid.world) (λ so_far. P) mid new
    (λ h so_far w keeps.
    let h1 = c.lay.ensures.silent.honest h in
    let h0 = c.save_old.ensures.silent.honest h1 in
    amid_laying x old.world c.requires.named (sym c.is_exchanged.ensures ∙ c.if-not-is_exchanged.false) (c.requires.seen h0) (c.requires.ready h0) mid.world (c.in_ok-save_old.ensures.saved h1) w keeps)
    c.lay.ensures.any_moment)
