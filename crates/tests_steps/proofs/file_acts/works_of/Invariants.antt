use Rattle.file_check.specs.Ready.{IsFitting}
use Rattle.package_files.specs.Files.{Each}
use Rattle.package_files.specs.Names.{IsNamed}
use Rattle.tests_steps.proofs.file_acts.works_of.Given as goal

abbrev pub invariant-loop-path : goal.invariant-loop-path
invariant-loop-path l = record {
  named : Each IsNamed l.works.items;
  fitting : Each IsFitting l.works.items;
}
