use Rattle.std.proofs.Common.{◌≡◌, sym, subst, true}
use Rattle.host_core.specs.Paths.{is_path}
use Rattle.host_core.specs.World.{HasParent}
use Rattle.administration.specs.Files.{NoDirectory}
use Rattle.administration.specs.Places.{temporary}
use Rattle.administration.proofs.NamePaths.{list_is_path, list_spare_is_path}
use Rattle.file_lists.proofs.WrittenLists.{list_parent}
use Rattle.file_lists.proofs.writing.write_list.Goals as goal

pub list_path-requires : goal.list_path-requires
list_path-requires g c = list_is_path c.args.name.now c.requires.named

pub replace-requires-clause-room : goal.replace-requires-clause-room
replace-requires-clause-room g c = subst (λ q. is_path (temporary q) ≡ true) (sym c.in_ok-path.ensures) (list_spare_is_path c.args.name.now c.requires.named)

pub replace-requires-clause-parent : goal.replace-requires-clause-parent
replace-requires-clause-parent g c = λ h.
    let w = (g.H.Host.state c.args.host.now).world in subst (HasParent w) (sym c.in_ok-path.ensures) (list_parent w c.args.name.now c.requires.named (c.requires.ready h).info)

pub replace-requires-clause-target : goal.replace-requires-clause-target
replace-requires-clause-target g c = λ h.
    let w = (g.H.Host.state c.args.host.now).world in subst (λ q. NoDirectory (w q)) (sym c.in_ok-path.ensures) (c.requires.ready h).target

pub replace-requires-clause-spare : goal.replace-requires-clause-spare
replace-requires-clause-spare g c = λ h.
    let w = (g.H.Host.state c.args.host.now).world in subst (λ q. NoDirectory (w (temporary q))) (sym c.in_ok-path.ensures) (c.requires.ready h).spare
