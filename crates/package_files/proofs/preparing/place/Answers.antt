use Rattle.std.proofs.Common.{[], ◌∷◌, ap}
use Rattle.package_files.specs.Files.{Written}
use Rattle.package_files.specs.Laid.{is_exchanged, Prepared}
use Rattle.package_files.proofs.OnePath.{written_is_prepared}
use Rattle.package_files.proofs.WriteMoments.{on_ok}
use Rattle.package_files.proofs.preparing.place.Goals as goal

pub returns-in-Dir-clause-prepared : goal.returns-in-Dir-clause-prepared
returns-in-Dir-clause-prepared g c = λ h.
    let old = (g.H.Host.state c.args.host.now).world in
    let new = (g.H.Host.state c.place_directory.new.host).world in
    let x = c.args.work.now in
    on_ok c.place_directory.result (Written (x ∷ []) old new) (Prepared (x ∷ []) old new)
    (written_is_prepared x old new (ap (λ n. is_exchanged n x.had) c.in-Dir.is)) (c.place_directory.ensures.written h)
