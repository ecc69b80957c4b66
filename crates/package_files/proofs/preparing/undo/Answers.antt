use Rattle.std.proofs.Common.{[], ◌∷◌}
use Rattle.host_core.specs.World.{World}
use Rattle.host_core.proofs.Moments.{since_then, since_weaker_if}
use Rattle.package_files.specs.Files.{IsAmid}
use Rattle.package_files.specs.Steps.{AreCleared, KeepsBesideSpares, WasTriedFrom}
use Rattle.package_files.proofs.WriteMoments.{on_ok}
use Rattle.package_files.proofs.Tried.{cleared_begun, amid_clearing}
use Rattle.package_files.proofs.preparing.undo.Goals as goal

pub returns-clause-cleared : goal.returns-clause-cleared
returns-clause-cleared g c = λ h.
    let old = (g.H.Host.state c.args.host.now).world in
    let mid = (g.H.Host.state c.bring_home.new.host).world in
    let new = (g.H.Host.state c.clear_spares.new.host).world in
    let x = c.args.work.now in
    on_ok c.clear_spares.result (AreCleared x mid new) ((was : World) → WasTriedFrom x was old → AreCleared x was new)
    (λ clear was from. cleared_begun x was mid new (c.in_ok-bring_home.ensures.begun (c.clear_spares.ensures.silent.honest h) was from) clear)
    (c.clear_spares.ensures.cleared h)

pub returns-clause-any_moment : goal.returns-clause-any_moment
returns-clause-any_moment g c =
    let old = g.H.Host.state c.args.host.now in
    let mid = g.H.Host.state c.bring_home.new.host in
    let new = g.H.Host.state c.clear_spares.new.host in
    let x = c.args.work.now in
    let P : World → Type 0 = λ now. (was : World) → WasTriedFrom x was old.world → IsAmid (x ∷ []) was was now in
    since_then (λ so_far. P) old mid new c.bring_home.ensures.any_moment
    (since_weaker_if (λ so_far. KeepsBesideSpares x mid.world) (λ so_far. P) mid new
    (λ h so_far w keeps was from. amid_clearing x was mid.world w c.requires.named (c.in_ok-bring_home.ensures.begun (c.clear_spares.ensures.silent.honest h) was from) keeps)
    c.clear_spares.ensures.any_moment)
