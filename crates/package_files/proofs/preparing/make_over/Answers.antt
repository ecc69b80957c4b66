use Rattle.std.proofs.Common.{◌≡◌, [], ◌∷◌, inr, sym, ap, subst, ◌∙◌}
use Rattle.host_core.proofs.Losses.{proper_synced}
use Rattle.host_core.proofs.Moments.{since_then}
use Rattle.package_files.specs.Files.{Written, IsAmid}
use Rattle.package_files.proofs.WorkNames.{target_proper, home_of, backup_name, target_name, home_stays}
use Rattle.package_files.proofs.OnePath.{IsVacant, amid_same, over_wrote, over_vacant, over_between, amid_made, made}
use Rattle.package_files.proofs.WriteMoments.{since_move, since_make_dir, made_by}
use Rattle.host_core.specs.World.{MakeDir}
use Rattle.package_files.specs.Steps.{HasTried}
use Rattle.package_files.proofs.Tried.{room_made, on_declined, declined_same}
use Rattle.package_files.proofs.preparing.make_over.Goals as goal

pub rename-requires-clause-synced : goal.rename-requires-clause-synced
rename-requires-clause-synced g c = λ h. proper_synced _ _ (g.H.Host.settled c.args.host.now h) (target_proper c.args.work.now c.requires.named)

pub rename-requires-clause-parent : goal.rename-requires-clause-parent
rename-requires-clause-parent g c = λ h. home_of _ c.args.work.now _ (backup_name c.args.work.now c.requires.named) (c.requires.ready h).parent

pub returns-in_err-rename-clause-any_moment : goal.returns-in_err-rename-clause-any_moment
returns-in_err-rename-clause-any_moment g c =
    let old = g.H.Host.state c.args.host.now in
    let x = c.args.work.now in
    since_move c.rename.result (IsAmid (x ∷ []) old.world old.world) old (g.H.Host.state c.rename.new.self) x.target x.backup (λ h. amid_same x old.world)
    (λ h. let h0 = c.rename.ensures.silent.honest h in over_between x old.world c.requires.named c.args.access c.requires.node (c.requires.ready h0) (sym (c.requires.over h0))) c.rename.ensures.does

pub make_dir-requires-clause-absent : goal.make_dir-requires-clause-absent
make_dir-requires-clause-absent g c = λ h.
    let h0 = c.rename.ensures.silent.honest h in
    let x = c.args.work.now in
    ap (λ w. w x.target) c.in_ok-rename.ensures.does.world ∙ (over_vacant x _ c.requires.named c.args.access c.requires.node (c.requires.ready h0) (sym (c.requires.over h0))).target

pub make_dir-requires-clause-parent : goal.make_dir-requires-clause-parent
make_dir-requires-clause-parent g c = λ h.
    let h0 = c.rename.ensures.silent.honest h in
    let x = c.args.work.now in
    home_of _ x _ (target_name x c.requires.named)
    (home_stays x _ _ c.requires.named (λ q misses. ap (λ w. w q) c.in_ok-rename.ensures.does.world ∙ (over_vacant x _ c.requires.named c.args.access c.requires.node (c.requires.ready h0) (sym (c.requires.over h0))).rest q misses) (c.requires.ready h0).parent)

pub returns-clause-written : goal.returns-clause-written
returns-clause-written g c = λ h.
    let h1 = c.make_dir.ensures.silent.honest h in
    let h0 = c.rename.ensures.silent.honest h1 in
    let old = (g.H.Host.state c.args.host.now).world in
    let x = c.args.work.now in
    let over = sym (c.requires.over h0) in
    let ready = c.requires.ready h0 in
    let vacant = subst (IsVacant x old) (sym c.in_ok-rename.ensures.does.world) (over_vacant x old c.requires.named c.args.access c.requires.node ready over) in
    made_by c.make_dir.result x.target c.args.access _ _ (Written (x ∷ []) old) (made x old c.requires.named c.args.access c.requires.node ready (over_wrote x old c.requires.named c.args.access c.requires.node ready over) _ vacant) c.make_dir.ensures.does

pub returns-clause-any_moment : goal.returns-clause-any_moment
returns-clause-any_moment g c =
    let old = g.H.Host.state c.args.host.now in
    let mid = g.H.Host.state c.rename.new.self in
    let new = g.H.Host.state c.make_dir.new.self in
    let x = c.args.work.now in
    let P = IsAmid (x ∷ []) old.world old.world in
    since_then (λ so_far. P) old mid new
    (since_move c.rename.result P old mid x.target x.backup (λ h. amid_same x old.world)
    (λ h. let h0 = c.rename.ensures.silent.honest h in over_between x old.world c.requires.named c.args.access c.requires.node (c.requires.ready h0) (sym (c.requires.over h0))) c.rename.ensures.does)
    (since_make_dir c.make_dir.result P mid new x.target c.args.access
    (λ h.
    let h0 = c.rename.ensures.silent.honest (c.make_dir.ensures.silent.honest h) in
    subst P (sym c.in_ok-rename.ensures.does.world) (over_between x old.world c.requires.named c.args.access c.requires.node (c.requires.ready h0) (sym (c.requires.over h0))))
    (λ h m.
    let h0 = c.rename.ensures.silent.honest (c.make_dir.ensures.silent.honest h) in
    let over = sym (c.requires.over h0) in
    let ready = c.requires.ready h0 in
    amid_made x old.world c.requires.named c.args.access c.requires.node ready (over_wrote x old.world c.requires.named c.args.access c.requires.node ready over) mid.world
    (subst (IsVacant x old.world) (sym c.in_ok-rename.ensures.does.world) (over_vacant x old.world c.requires.named c.args.access c.requires.node ready over)) m)
    c.make_dir.ensures.does)

pub returns-clause-tried : goal.returns-clause-tried
returns-clause-tried g c = λ h.
    let h0 = c.rename.ensures.silent.honest (c.make_dir.ensures.silent.honest h) in
    let old = g.H.Host.state c.args.host.now in
    let mid = g.H.Host.state c.rename.new.self in
    let new = g.H.Host.state c.make_dir.new.self in
    let x = c.args.work.now in
    on_declined c.make_dir.result (new.world ≡ mid.world) (HasTried x old.world new.world)
    (λ same. inr (room_made x old.world new.world c.requires.named c.args.access c.requires.node (c.requires.ready h0) (sym (c.requires.over h0)) (same ∙ c.in_ok-rename.ensures.does.world)))
    (declined_same c.make_dir.result (MakeDir x.target c.args.access) mid new h c.make_dir.ensures.does)
