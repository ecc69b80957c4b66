use Rattle.std.proofs.Common.{[], ◌∷◌, ap}
use Rattle.std.specs.Prelude.{Some}
use Rattle.host_core.specs.World.{is_directory}
use Rattle.host_core.proofs.Moments.{since_weaker}
use Rattle.package_files.specs.Back.{GoesBack, IsGoingBack}
use Rattle.package_files.specs.Laid.{Undoes, IsUndoing}
use Rattle.package_files.proofs.TakingBack.{directory_written, can_by, undoes_by, undoing_by}
use Rattle.package_files.proofs.WriteMoments.{on_ok}
use Rattle.package_files.proofs.putting_back.take_back_one.Goals as goal

pub put_back_directory-requires-clause-written : goal.put_back_directory-requires-clause-written
put_back_directory-requires-clause-written g c = λ h.
    let x = c.args.work.now in
    let old = (g.H.Host.state c.args.host.now).world in
    can_by x old (λ was from. directory_written x was old from (ap (λ n. is_directory (Some n)) c.in-Dir.is)) (c.requires.under_way h)

pub returns-in-Dir-clause-back : goal.returns-in-Dir-clause-back
returns-in-Dir-clause-back g c = λ h.
    let x = c.args.work.now in
    let old = (g.H.Host.state c.args.host.now).world in
    let new = (g.H.Host.state c.put_back_directory.new.host).world in
    on_ok c.put_back_directory.result (GoesBack (x ∷ []) old new) (Undoes (x ∷ []) old new)
    (undoes_by x old (λ was from. directory_written x was old from (ap (λ n. is_directory (Some n)) c.in-Dir.is)) new) (c.put_back_directory.ensures.back h)

pub returns-in-Dir-clause-any_moment : goal.returns-in-Dir-clause-any_moment
returns-in-Dir-clause-any_moment g c =
    let x = c.args.work.now in
    let old = g.H.Host.state c.args.host.now in
    since_weaker (λ so_far. IsGoingBack (x ∷ []) old.world) (λ so_far. IsUndoing (x ∷ []) old.world) old (g.H.Host.state c.put_back_directory.new.host)
    (λ so_far w going. undoing_by x old.world (λ was from. directory_written x was old.world from (ap (λ n. is_directory (Some n)) c.in-Dir.is)) w going) c.put_back_directory.ensures.any_moment
