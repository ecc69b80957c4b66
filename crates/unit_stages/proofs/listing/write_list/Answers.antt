use Rattle.std.proofs.Common.{inl, refl}
use Rattle.administration.specs.Files.{IsReplacing}
use Rattle.administration.specs.Places.{list_path}
use Rattle.file_lists.specs.Writing.{list_file}
use Rattle.file_lists.proofs.TakingAll.{since_start_if}
use Rattle.unit_stages.proofs.listing.write_list.Goals as goal

pub returns-in_err-copy-clause-any_moment : goal.returns-in_err-copy-clause-any_moment
returns-in_err-copy-clause-any_moment g c =
    let s = g.H.Host.state c.args.host.now in
    since_start_if (λ now. IsReplacing (list_path c.args.name.now) (list_file c.args.paths.now) s.world now) s (λ h. record { target = inl refl; spare = (c.requires.ready h).spare; rest = λ q ne spare. refl })
