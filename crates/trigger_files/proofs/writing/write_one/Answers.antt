use Rattle.std.proofs.Common.{◌≡◌, ◌∙◌, true, sym, subst}
use Rattle.host_core.specs.Paths.{Path, is_path}
use Rattle.host_core.specs.World.{HasParent}
use Rattle.administration.specs.Files.{NoDirectory}
use Rattle.administration.specs.Places.{temporary}
use Rattle.trigger_files.specs.Places.{place}
use Rattle.trigger_files.proofs.Apart.{place_parent, spare_is_path}
use Rattle.trigger_files.proofs.Written.{putting_at, spare_free, target_free}
use Rattle.trigger_files.proofs.writing.write_one.Goals as goal

pub put-requires-clause-room : goal.put-requires-clause-room
put-requires-clause-room g c = subst (λ (p : Path). is_path (temporary p) ≡ true) (sym c.in_ok-path.ensures) (spare_is_path c.args.name.now c.requires.register)

pub put-requires-clause-parent : goal.put-requires-clause-parent
put-requires-clause-parent g c = λ h.
    let w = (g.H.Host.state c.args.host.now).world in
    subst (HasParent w) (sym c.in_ok-path.ensures) (place_parent w c.args.name.now c.requires.register (c.requires.there h))

pub put-requires-clause-target : goal.put-requires-clause-target
put-requires-clause-target g c = λ h.
    let w = (g.H.Host.state c.args.host.now).world in
    subst (λ (p : Path). NoDirectory (w p)) (sym c.in_ok-path.ensures) (target_free w (place c.args.name.now) (c.requires.free h))

pub put-requires-clause-spare : goal.put-requires-clause-spare
put-requires-clause-spare g c = λ h.
    let w = (g.H.Host.state c.args.host.now).world in
    subst (λ (p : Path). NoDirectory (w (temporary p))) (sym c.in_ok-path.ensures) (spare_free w (place c.args.name.now) (c.requires.free h))

pub returns-clause-any_moment : goal.returns-clause-any_moment
returns-clause-any_moment g c = putting_at _ _ _ _ _ _ c.in_ok-path.ensures (c.as_slice.ensures.value ∙ c.in_ok-lines.ensures) c.put.ensures.any_moment
