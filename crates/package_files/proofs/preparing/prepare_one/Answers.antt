use Rattle.std.proofs.Common.{[], ◌∷◌, IsTrue, rules}
use Rattle.host_core.specs.World.{World}
use Rattle.host_core.proofs.Moments.{since_then, since_weaker_if}
use Rattle.package_files.specs.Files.{IsAmid}
use Rattle.package_files.specs.Steps.{HasTried, WasTriedFrom}
use Rattle.package_files.proofs.preparing.prepare_one.Goals as goal

pub returns-in_err-undo-in-Err-Declined-clause-any_moment : goal.returns-in_err-undo-in-Err-Declined-clause-any_moment
returns-in_err-undo-in-Err-Declined-clause-any_moment g c =
    let old = g.H.Host.state c.args.host.now in
    let mid = g.H.Host.state c.prepare.new.host in
    let new = g.H.Host.state c.undo.new.host in
    let x = c.args.work.now in
    let P = IsAmid (x ∷ []) old.world old.world in
    let tried : IsTrue mid.honest → HasTried x old.world mid.world = search rules in
    let from : IsTrue mid.honest → WasTriedFrom x old.world mid.world = λ h. record { seen = c.requires.seen (c.prepare.ensures.silent.honest h); tried = tried h } in
    since_then (λ so_far. P) old mid new c.prepare.ensures.any_moment
    (since_weaker_if (λ so_far now. (was : World) → WasTriedFrom x was mid.world → IsAmid (x ∷ []) was was now) (λ so_far. P) mid new
    (λ h so_far w amid. amid old.world (from (c.undo.ensures.silent.honest h))) c.undo.ensures.any_moment)

pub returns-in_ok-undo-in-Err-Declined-clause-any_moment : goal.returns-in_ok-undo-in-Err-Declined-clause-any_moment
returns-in_ok-undo-in-Err-Declined-clause-any_moment g c =
    let old = g.H.Host.state c.args.host.now in
    let mid = g.H.Host.state c.prepare.new.host in
    let new = g.H.Host.state c.undo.new.host in
    let x = c.args.work.now in
    let P = IsAmid (x ∷ []) old.world old.world in
    let tried : IsTrue mid.honest → HasTried x old.world mid.world = search rules in
    let from : IsTrue mid.honest → WasTriedFrom x old.world mid.world = λ h. record { seen = c.requires.seen (c.prepare.ensures.silent.honest h); tried = tried h } in
    since_then (λ so_far. P) old mid new c.prepare.ensures.any_moment
    (since_weaker_if (λ so_far now. (was : World) → WasTriedFrom x was mid.world → IsAmid (x ∷ []) was was now) (λ so_far. P) mid new
    (λ h so_far w amid. amid old.world (from (c.undo.ensures.silent.honest h))) c.undo.ensures.any_moment)
