use Rattle.std.proofs.Common.{sym, subst}
use Rattle.package_files.specs.Files.{Each}
use Rattle.file_check.specs.Ready.{IsFitting}
use Rattle.file_check.proofs.Shipping.{fits, if_so}
use Rattle.file_check.proofs.works.works_of.Goals as goal

pub returns-clause-fitting : goal.returns-clause-fitting
returns-clause-fitting c =
    let all = fits c.args.diversions.now.ways c.args.name.now c.args.conffiles.now c.args.files.items c.requires.conffiles in
    if_so _ _ (λ works is. subst (Each IsFitting) (sym is) all) c.shipped_works.result c.shipped_works.ensures.works
