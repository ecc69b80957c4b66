use Rattle.std.proofs.Common.{sym, subst}
use Rattle.file_check.proofs.WorkLists.{each_more}
use Rattle.file_check.specs.Ready.{IsFitting}
use Rattle.package_files.specs.Files.{Each}
use Rattle.package_files.specs.Names.{IsNamed}
use Rattle.tests_steps.proofs.file_acts.works_of.Goals as goal

pub loop-path-preserved : goal.loop-path-preserved
loop-path-preserved c =
    let before = c.loop-path.invariant in
    record {
      named = subst (Each IsNamed) (sym c.in_ok-push.ensures.items) (each_more IsNamed _ _ before.named c.in_ok-work_of.ensures.named);
      fitting = subst (Each IsFitting) (sym c.in_ok-push.ensures.items) (each_more IsFitting _ _ before.fitting c.in_ok-work_of.ensures.fitting);
    }
