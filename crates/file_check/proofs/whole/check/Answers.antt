use Rattle.std.proofs.Common.{rules}
use Rattle.host_core.proofs.Moments.{reads_then}
use Rattle.file_check.proofs.Readiness.{told_free, told_homed, told_in}
use Rattle.file_check.proofs.Unseen.{told_fault}
use Rattle.file_check.proofs.WorkLists.{named_still, fitting_still}
use Rattle.file_check.proofs.whole.check.Goals as goal

pub returns-clause-free : goal.returns-clause-free
returns-clause-free g c = λ h.
    told_free _ _ _ c.check_seen.result (fitting_still c.args.works.now _ c.look_at_targets.ensures.same c.requires.fitting)
    (told_in _ _ _ _ c.check_seen.result c.look_at_targets.ensures.reads.world (c.check_seen.ensures.looks.found h))

pub returns-clause-homed : goal.returns-clause-homed
returns-clause-homed g c = λ h.
    told_homed _ _ _ c.check_seen.result (named_still c.args.works.now _ c.look_at_targets.ensures.same c.requires.named)
    (told_in _ _ _ _ c.check_seen.result c.look_at_targets.ensures.reads.world (c.check_seen.ensures.looks.found h))

pub returns-clause-looks : goal.returns-clause-looks
returns-clause-looks g c = record {
  found = λ h.
      told_fault _ _ c.args.works.now _ c.check_seen.result c.look_at_targets.ensures.same
      (told_in _ _ _ _ c.check_seen.result c.look_at_targets.ensures.reads.world (c.check_seen.ensures.looks.found h));
  reads = reads_then _ _ _ c.look_at_targets.ensures.reads c.check_seen.ensures.looks.reads;
  silent = search rules;
  counts = search rules;
}
