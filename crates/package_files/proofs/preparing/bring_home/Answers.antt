use Rattle.std.proofs.Common.{[], ◌∷◌, sym, subst, ◌∙◌}
use Rattle.host_core.specs.World.{World, HasParent, IsLoose, moved}
use Rattle.host_core.proofs.Losses.{proper_synced}
use Rattle.host_core.proofs.Moments.{since_start, since_reads, since_then}
use Rattle.package_files.specs.Files.{IsAmid}
use Rattle.package_files.specs.Steps.{HasBegun, WasTriedFrom}
use Rattle.package_files.proofs.WorkNames.{backup_proper}
use Rattle.package_files.proofs.OnePath.{amid_spares}
use Rattle.package_files.proofs.WriteMoments.{since_move, moved_by}
use Rattle.package_files.proofs.Tried.{room_at, room_loose, room_home, home_again, amid_tried}
use Rattle.package_files.proofs.preparing.bring_home.Goals as goal

pub returns-in_err-kind-in-Some-clause-any_moment : goal.returns-in_err-kind-in-Some-clause-any_moment
returns-in_err-kind-in-Some-clause-any_moment g c =
    let old = g.H.Host.state c.args.host.now in
    let x = c.args.work.now in
    since_reads (λ so_far now. (was : World) → WasTriedFrom x was old.world → IsAmid (x ∷ []) was was now) old _ c.kind.ensures.reads (λ fs all was from. amid_tried x was old.world c.requires.named from)

pub rename-requires-clause-synced : goal.rename-requires-clause-synced
rename-requires-clause-synced g c = λ h. proper_synced _ _ (g.H.Host.settled c.kind.new.self h) (backup_proper c.args.work.now c.requires.named)

pub rename-requires-clause-there : goal.rename-requires-clause-there
rename-requires-clause-there g c = λ h.
    let x = c.args.work.now in
    let old = (g.H.Host.state c.args.host.now).world in
    let tried = c.requires.tried (c.kind.ensures.silent.honest h) in
    subst (λ w. IsLoose (w x.backup)) (sym c.kind.ensures.reads.world)
    (room_loose x tried.0 old c.requires.named (room_at x tried.0 old c.requires.named tried.1 c.in-Some.field-0 c.in-Some.is (sym c.in-None-2.is ∙ c.in_ok-kind-in-Some.ensures.found h)))

pub rename-requires-clause-parent : goal.rename-requires-clause-parent
rename-requires-clause-parent g c = λ h.
    let x = c.args.work.now in
    let h0 = c.kind.ensures.silent.honest h in
    let old = (g.H.Host.state c.args.host.now).world in
    let tried = c.requires.tried h0 in
    subst (λ w. HasParent w x.target) (sym c.kind.ensures.reads.world)
    (room_home x tried.0 old c.requires.named (room_at x tried.0 old c.requires.named tried.1 c.in-Some.field-0 c.in-Some.is (sym c.in-None-2.is ∙ c.in_ok-kind-in-Some.ensures.found h)) (g.H.Host.tree c.args.host.now h0))

pub returns-in-None-clause-any_moment : goal.returns-in-None-clause-any_moment
returns-in-None-clause-any_moment g c =
    let old = g.H.Host.state c.args.host.now in
    let x = c.args.work.now in
    since_start (λ so_far now. (was : World) → WasTriedFrom x was old.world → IsAmid (x ∷ []) was was now) old (λ was from. amid_tried x was old.world c.requires.named from)

pub returns-in-None-2-clause-begun : goal.returns-in-None-2-clause-begun
returns-in-None-2-clause-begun g c = λ h.
    let h1 = c.rename.ensures.silent.honest h in
    let x = c.args.work.now in
    let old = (g.H.Host.state c.args.host.now).world in
    moved_by c.rename.result x.backup x.target _ _ (λ w. (was : World) → WasTriedFrom x was old → HasBegun x was w)
    (λ was from. subst (λ w. HasBegun x was (moved w x.backup x.target)) (sym c.kind.ensures.reads.world)
    (home_again x was old c.requires.named (room_at x was old c.requires.named from c.in-Some.field-0 c.in-Some.is (sym c.in-None-2.is ∙ c.in_ok-kind-in-Some.ensures.found h1))))
    c.rename.ensures.does

pub returns-in-None-2-clause-any_moment : goal.returns-in-None-2-clause-any_moment
returns-in-None-2-clause-any_moment g c =
    let old = g.H.Host.state c.args.host.now in
    let mid = g.H.Host.state c.kind.new.self in
    let new = g.H.Host.state c.rename.new.self in
    let x = c.args.work.now in
    let P : World → Type 0 = λ now. (was : World) → WasTriedFrom x was old.world → IsAmid (x ∷ []) was was now in
    since_then (λ so_far. P) old mid new (since_reads (λ so_far. P) old mid c.kind.ensures.reads (λ fs all was from. amid_tried x was old.world c.requires.named from))
    (since_move c.rename.result P mid new x.backup x.target
    (λ h was from. subst (IsAmid (x ∷ []) was was) (sym c.kind.ensures.reads.world) (amid_tried x was old.world c.requires.named from))
    (λ h was from. amid_spares x was (moved mid.world x.backup x.target) c.requires.named
    (subst (λ w. HasBegun x was (moved w x.backup x.target)) (sym c.kind.ensures.reads.world)
    (home_again x was old.world c.requires.named (room_at x was old.world c.requires.named from c.in-Some.field-0 c.in-Some.is (sym c.in-None-2.is ∙ c.in_ok-kind-in-Some.ensures.found (c.rename.ensures.silent.honest h))))).rest)
    c.rename.ensures.does)

pub returns-in-Some-2-clause-any_moment : goal.returns-in-Some-2-clause-any_moment
returns-in-Some-2-clause-any_moment g c =
    let old = g.H.Host.state c.args.host.now in
    let x = c.args.work.now in
    since_reads (λ so_far now. (was : World) → WasTriedFrom x was old.world → IsAmid (x ∷ []) was was now) old _ c.kind.ensures.reads (λ fs all was from. amid_tried x was old.world c.requires.named from)
