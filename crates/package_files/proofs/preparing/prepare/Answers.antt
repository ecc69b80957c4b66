use Rattle.std.proofs.Common.{[], ◌∷◌, sym, ap, ◌∙◌}
use Rattle.host_core.specs.World.{kind_of}
use Rattle.host_core.proofs.Moments.{since_then, since_weaker, since_weaker_if}
use Rattle.package_files.specs.Files.{IsAmid}
use Rattle.package_files.specs.Laid.{Prepared}
use Rattle.package_files.specs.Steps.{KeepsBesideSpares, HasTried}
use Rattle.package_files.proofs.OnePath.{amid_spares, cleared_target, ready_then, prepared_then, amid_then}
use Rattle.package_files.proofs.WriteMoments.{on_ok}
use Rattle.package_files.proofs.Tried.{tried_then, on_declined}
use Rattle.package_files.proofs.preparing.prepare.Goals as goal

pub returns-in_err-clear_spares-clause-any_moment : goal.returns-in_err-clear_spares-clause-any_moment
returns-in_err-clear_spares-clause-any_moment g c =
    let old = g.H.Host.state c.args.host.now in
    let x = c.args.work.now in
    since_weaker (λ so_far. KeepsBesideSpares x old.world) (λ so_far. IsAmid (x ∷ []) old.world old.world) old (g.H.Host.state c.clear_spares.new.host) (λ so_far w keeps. amid_spares x old.world w c.requires.named keeps) c.clear_spares.ensures.any_moment

pub place-requires-clause-ready : goal.place-requires-clause-ready
place-requires-clause-ready g c = λ h.
    let h0 = c.clear_spares.ensures.silent.honest h in
    ready_then c.args.work.now _ _ c.requires.named (c.in_ok-clear_spares.ensures.cleared h) (c.requires.free h0) (c.requires.parent h0)

pub place-requires-clause-seen : goal.place-requires-clause-seen
place-requires-clause-seen g c = λ h.
    let h0 = c.clear_spares.ensures.silent.honest h in
    c.requires.seen h0 ∙ ap kind_of (sym (cleared_target c.args.work.now _ _ c.requires.named (c.in_ok-clear_spares.ensures.cleared h)))

pub returns-clause-prepared : goal.returns-clause-prepared
returns-clause-prepared g c = λ h.
    let old = (g.H.Host.state c.args.host.now).world in
    let mid = (g.H.Host.state c.clear_spares.new.host).world in
    let new = (g.H.Host.state c.place.new.host).world in
    let x = c.args.work.now in
    on_ok c.place.result (Prepared (x ∷ []) mid new) (Prepared (x ∷ []) old new) (prepared_then x old mid c.requires.named (c.in_ok-clear_spares.ensures.cleared (c.place.ensures.silent.honest h)) new) (c.place.ensures.prepared h)

pub returns-clause-tried : goal.returns-clause-tried
returns-clause-tried g c = λ h.
    let old = (g.H.Host.state c.args.host.now).world in
    let mid = (g.H.Host.state c.clear_spares.new.host).world in
    let new = (g.H.Host.state c.place.new.host).world in
    let x = c.args.work.now in
    on_declined c.place.result (HasTried x mid new) (HasTried x old new) (tried_then x old mid new c.requires.named (c.in_ok-clear_spares.ensures.cleared (c.place.ensures.silent.honest h))) (c.place.ensures.tried h)

pub returns-clause-any_moment : goal.returns-clause-any_moment
returns-clause-any_moment g c =
    let old = g.H.Host.state c.args.host.now in
    let mid = g.H.Host.state c.clear_spares.new.host in
    let new = g.H.Host.state c.place.new.host in
    let x = c.args.work.now in
    let P = IsAmid (x ∷ []) old.world old.world in
    since_then (λ so_far. P) old mid new
    (since_weaker (λ so_far. KeepsBesideSpares x old.world) (λ so_far. P) old mid (λ so_far w keeps. amid_spares x old.world w c.requires.named keeps) c.clear_spares.ensures.any_moment)
    (since_weaker_if (λ so_far. IsAmid (x ∷ []) mid.world mid.world) (λ so_far. P) mid new
    (λ h so_far w amid. amid_then x old.world mid.world c.requires.named (c.in_ok-clear_spares.ensures.cleared (c.place.ensures.silent.honest h)) w amid)
    c.place.ensures.any_moment)
