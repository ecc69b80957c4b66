use Rattle.std.proofs.Common.{◌≡◌, Some, Err, sym, ap, subst, ◌∙◌}
use Rattle.host_core.specs.World.{HasParent}
use Rattle.host_core.proofs.Losses.{proper_synced}
use Rattle.administration.specs.Files.{IsAside}
use Rattle.package_files.specs.Steps.{IsSaved}
use Rattle.package_files.proofs.WorkNames.{target_proper, home_of, backup_name}
use Rattle.package_files.proofs.WriteMoments.{on_ok, linked_by}
use Rattle.package_files.proofs.Copying.{linked_saved, aside_saved, look_same, since_look, since_behind, since_linked, since_link_made}
use Rattle.package_files.proofs.preparing.link_or_copy.Goals as goal

pub link-requires-clause-synced : goal.link-requires-clause-synced
link-requires-clause-synced g c = λ h. proper_synced _ _ (g.H.Host.settled c.args.host.now h) (target_proper c.args.work.now c.requires.named)

pub link-requires-clause-parent : goal.link-requires-clause-parent
link-requires-clause-parent g c = λ h. home_of _ c.args.work.now _ (backup_name c.args.work.now c.requires.named) (c.requires.parent h)

pub returns-in-Ok-clause-saved : goal.returns-in-Ok-clause-saved
returns-in-Ok-clause-saved g c = λ h. linked_saved c.args.work.now (g.H.Host.state c.args.host.now) (g.H.Host.state c.link.new.self) (c.requires.there (c.link.ensures.silent.honest h)).0 c.in-Ok.ensures.does

pub returns-in_err-node-in-Err-Declined-clause-any_moment : goal.returns-in_err-node-in-Err-Declined-clause-any_moment
returns-in_err-node-in-Err-Declined-clause-any_moment g c =
    let old = g.H.Host.state c.args.host.now in
    let mid = g.H.Host.state c.link.new.self in
    let x = c.args.work.now in
    since_look c.link.result x old mid (g.H.Host.state c.node.new.self) (c.in-Err-Declined.is ∙ ap Err c.in-Err-Declined.field-0-is) c.link.ensures.does c.node.ensures.reads

pub returns-in-None-clause-any_moment : goal.returns-in-None-clause-any_moment
returns-in-None-clause-any_moment g c =
    let old = g.H.Host.state c.args.host.now in
    let mid = g.H.Host.state c.link.new.self in
    let x = c.args.work.now in
    since_look c.link.result x old mid (g.H.Host.state c.node.new.self) (c.in-Err-Declined.is ∙ ap Err c.in-Err-Declined.field-0-is) c.link.ensures.does c.node.ensures.reads

pub returns-in-Dir-clause-any_moment : goal.returns-in-Dir-clause-any_moment
returns-in-Dir-clause-any_moment g c =
    let old = g.H.Host.state c.args.host.now in
    let mid = g.H.Host.state c.link.new.self in
    let x = c.args.work.now in
    since_look c.link.result x old mid (g.H.Host.state c.node.new.self) (c.in-Err-Declined.is ∙ ap Err c.in-Err-Declined.field-0-is) c.link.ensures.does c.node.ensures.reads

pub returns-in-Err-Device-clause-any_moment : goal.returns-in-Err-Device-clause-any_moment
returns-in-Err-Device-clause-any_moment g c = since_linked c.link.result c.args.work.now (g.H.Host.state c.args.host.now) (g.H.Host.state c.link.new.self) c.link.ensures.does

pub returns-in-File-clause-saved : goal.returns-in-File-clause-saved
returns-in-File-clause-saved g c = λ h.
    let h2 = c.copy_file.ensures.silent.honest h in
    let old = g.H.Host.state c.args.host.now in
    let two = g.H.Host.state c.node.new.self in
    let new = g.H.Host.state c.copy_file.new.host in
    let x = c.args.work.now in
    let n = c.in-Some.node in
    let same = look_same c.link.result x old (g.H.Host.state c.link.new.self) two (c.in-Err-Declined.is ∙ ap Err c.in-Err-Declined.field-0-is) c.link.ensures.does c.node.ensures.reads h2 in
    let found : Some n ≡ two.world x.target = sym c.in-Some.is ∙ c.in_ok-node-in-Err-Declined.ensures.found h2 ∙ ap (λ w. w x.target) (sym c.node.ensures.reads.world) in
    on_ok c.copy_file.result (IsAside x.backup n two.world new.world) (IsSaved x old.world new.world)
    (λ aside. subst (λ w. IsSaved x w new.world) same (aside_saved x n two.world new.world found aside)) (c.copy_file.ensures.copied h)

pub returns-in-File-clause-any_moment : goal.returns-in-File-clause-any_moment
returns-in-File-clause-any_moment g c =
    let old = g.H.Host.state c.args.host.now in
    let mid = g.H.Host.state c.link.new.self in
    let x = c.args.work.now in
    since_behind c.link.result x old mid (g.H.Host.state c.node.new.self) (c.in-Err-Declined.is ∙ ap Err c.in-Err-Declined.field-0-is) c.link.ensures.does c.node.ensures.reads
    (g.H.Host.state c.copy_file.new.host) c.copy_file.ensures.silent.honest c.copy_file.ensures.any_moment

pub make_link-requires-clause-parent : goal.make_link-requires-clause-parent
make_link-requires-clause-parent g c = λ h.
    let old = g.H.Host.state c.args.host.now in
    let two = g.H.Host.state c.node.new.self in
    let x = c.args.work.now in
    let same = look_same c.link.result x old (g.H.Host.state c.link.new.self) two (c.in-Err-Declined.is ∙ ap Err c.in-Err-Declined.field-0-is) c.link.ensures.does c.node.ensures.reads h in
    subst (λ w. HasParent w x.backup) (sym same) (home_of old.world x _ (backup_name x c.requires.named) (c.requires.parent (c.link.ensures.silent.honest (c.node.ensures.silent.honest h))))

pub returns-in-Err-Declined-clause-saved : goal.returns-in-Err-Declined-clause-saved
returns-in-Err-Declined-clause-saved g c = λ h.
    let h2 = c.make_link.ensures.silent.honest h in
    let old = g.H.Host.state c.args.host.now in
    let two = g.H.Host.state c.node.new.self in
    let new = g.H.Host.state c.make_link.new.self in
    let x = c.args.work.now in
    let n = c.in-Some.node in
    let same = look_same c.link.result x old (g.H.Host.state c.link.new.self) two (c.in-Err-Declined.is ∙ ap Err c.in-Err-Declined.field-0-is) c.link.ensures.does c.node.ensures.reads h2 in
    let found : Some n ≡ two.world x.target = sym c.in-Some.is ∙ c.in_ok-node-in-Err-Declined.ensures.found h2 ∙ ap (λ w. w x.target) (sym c.node.ensures.reads.world) in
    on_ok c.make_link.result (IsAside x.backup n two.world new.world) (IsSaved x old.world new.world)
    (λ aside. subst (λ w. IsSaved x w new.world) same (aside_saved x n two.world new.world found aside))
    (linked_by c.make_link.result x.backup _ n two new c.in-Link.is c.make_link.ensures.does)

pub returns-in-Err-Declined-clause-any_moment : goal.returns-in-Err-Declined-clause-any_moment
returns-in-Err-Declined-clause-any_moment g c =
    let old = g.H.Host.state c.args.host.now in
    let mid = g.H.Host.state c.link.new.self in
    let two = g.H.Host.state c.node.new.self in
    let new = g.H.Host.state c.make_link.new.self in
    let x = c.args.work.now in
    since_behind c.link.result x old mid two (c.in-Err-Declined.is ∙ ap Err c.in-Err-Declined.field-0-is) c.link.ensures.does c.node.ensures.reads
    new c.make_link.ensures.silent.honest (since_link_made c.make_link.result x _ two new c.make_link.ensures.does)
