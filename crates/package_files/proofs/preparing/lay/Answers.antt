use Rattle.std.proofs.Common.{refl}
use Rattle.host_core.specs.World.{Write}
use Rattle.package_files.proofs.WorkNames.{fresh_temporary, home_of, fresh_name}
use Rattle.package_files.proofs.WriteMoments.{since_write, since_make_link, wrote_by, linked_by}
use Rattle.package_files.proofs.Tried.{declined_same}
use Rattle.package_files.proofs.preparing.lay.Goals as goal

pub write_new-requires-clause-temporary : goal.write_new-requires-clause-temporary
write_new-requires-clause-temporary g c = fresh_temporary c.args.work.now c.requires.named

pub write_new-requires-clause-parent : goal.write_new-requires-clause-parent
write_new-requires-clause-parent g c = λ h. home_of _ c.args.work.now _ (fresh_name c.args.work.now c.requires.named) (c.requires.parent h)

pub make_link-requires-clause-parent : goal.make_link-requires-clause-parent
make_link-requires-clause-parent g c = λ h. home_of _ c.args.work.now _ (fresh_name c.args.work.now c.requires.named) (c.requires.parent h)

pub returns-in-File-clause-laid : goal.returns-in-File-clause-laid
returns-in-File-clause-laid g c = λ h. wrote_by c.write_new.result c.args.work.now.fresh c.args.work.now.node _ _ c.write_new.ensures.does

pub returns-in-File-clause-any_moment : goal.returns-in-File-clause-any_moment
returns-in-File-clause-any_moment g c =
    let old = g.H.Host.state c.args.host.now in
    since_write c.write_new.result c.args.work.now.fresh old.world old (g.H.Host.state c.write_new.new.self) (λ h q ne. refl) c.args.work.now.node c.write_new.ensures.does

pub returns-in-File-clause-tried : goal.returns-in-File-clause-tried
returns-in-File-clause-tried g c = λ h. declined_same c.write_new.result (Write c.args.work.now.fresh c.args.work.now.node) _ _ h c.write_new.ensures.does

pub returns-in-Link-clause-laid : goal.returns-in-Link-clause-laid
returns-in-Link-clause-laid g c = λ h. linked_by c.make_link.result c.args.work.now.fresh _ c.args.work.now.node _ _ c.in-Link.is c.make_link.ensures.does

pub returns-in-Link-clause-any_moment : goal.returns-in-Link-clause-any_moment
returns-in-Link-clause-any_moment g c =
    let old = g.H.Host.state c.args.host.now in
    since_make_link c.make_link.result c.args.work.now.fresh old.world old (g.H.Host.state c.make_link.new.self) (λ h q ne. refl) _ c.make_link.ensures.does
