use Rattle.std.proofs.Common.{[], ◌∷◌, sym, ◌∙◌}
use Rattle.package_files.specs.Files.{Written, IsAmid}
use Rattle.package_files.proofs.WorkNames.{home_of, target_name}
use Rattle.package_files.proofs.Written.{kind_none}
use Rattle.package_files.proofs.OnePath.{amid_same, none_wrote, none_vacant, amid_made, made}
use Rattle.package_files.proofs.WriteMoments.{since_make_dir, made_by}
use Rattle.package_files.proofs.preparing.place_directory.Goals as goal

pub make_dir-requires-clause-absent : goal.make_dir-requires-clause-absent
make_dir-requires-clause-absent g c = λ h. kind_none _ (sym c.in-None.is ∙ c.requires.seen h)

pub make_dir-requires-clause-parent : goal.make_dir-requires-clause-parent
make_dir-requires-clause-parent g c = λ h. home_of _ c.args.work.now _ (target_name c.args.work.now c.requires.named) (c.requires.ready h).parent

pub returns-in-None-clause-written : goal.returns-in-None-clause-written
returns-in-None-clause-written g c = λ h.
    let h0 = c.make_dir.ensures.silent.honest h in
    let old = (g.H.Host.state c.args.host.now).world in
    let x = c.args.work.now in
    let none = kind_none (old x.target) (sym c.in-None.is ∙ c.requires.seen h0) in
    let ready = c.requires.ready h0 in
    made_by c.make_dir.result x.target c.args.access _ _ (Written (x ∷ []) old)
    (made x old c.requires.named c.args.access c.requires.node ready (none_wrote x old c.requires.named c.args.access c.requires.node ready none) old (none_vacant x old c.requires.named c.args.access c.requires.node ready none)) c.make_dir.ensures.does

pub returns-in-None-clause-any_moment : goal.returns-in-None-clause-any_moment
returns-in-None-clause-any_moment g c =
    let old = g.H.Host.state c.args.host.now in
    let x = c.args.work.now in
    since_make_dir c.make_dir.result (IsAmid (x ∷ []) old.world old.world) old (g.H.Host.state c.make_dir.new.self) x.target c.args.access (λ h. amid_same x old.world)
    (λ h m.
    let h0 = c.make_dir.ensures.silent.honest h in
    let none = kind_none (old.world x.target) (sym c.in-None.is ∙ c.requires.seen h0) in
    let ready = c.requires.ready h0 in
    amid_made x old.world c.requires.named c.args.access c.requires.node ready (none_wrote x old.world c.requires.named c.args.access c.requires.node ready none) old.world (none_vacant x old.world c.requires.named c.args.access c.requires.node ready none) m)
    c.make_dir.ensures.does
