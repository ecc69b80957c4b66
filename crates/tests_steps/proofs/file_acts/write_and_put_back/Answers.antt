use Rattle.std.proofs.Common.{sym, subst}
use Rattle.package_files.specs.Files.{Each}
use Rattle.package_files.specs.Names.{IsNamed}
use Rattle.tests_steps.proofs.Rearranged.{named_rearranged}
use Rattle.tests_steps.proofs.file_acts.write_and_put_back.Goals as goal

pub put_back_files-requires-clause-named : goal.put_back_files-requires-clause-named
put_back_files-requires-clause-named c = subst (Each IsNamed) (sym c.as_slice.ensures.value) (named_rearranged _ _ c.unpack.ensures.works c.in_ok-works.ensures.named)
