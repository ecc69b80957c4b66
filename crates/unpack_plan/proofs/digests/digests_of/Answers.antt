use Rattle.std.proofs.Common.{◌∙◌, sym, map}
use Rattle.file_lists.proofs.Entries.{any_contains}
use Rattle.unpack_plan.specs.Digests.{told_digest}
use Rattle.unpack_plan.proofs.Digested.{pending_before, digests_more}
use Rattle.unpack_plan.proofs.digests.digests_of.Goals as goal

pub add_conffile-requires-clause-trimmed : goal.add_conffile-requires-clause-trimmed
add_conffile-requires-clause-trimmed c = λ has.
    c.requires.trimmed c.file-item.result.path (any_contains c.args.conffiles.now c.file-item.result.path (sym (c.in_ok-set.ensures c.file-item.result.path) ∙ has))

pub add_conffile-requires-clause-before : goal.add_conffile-requires-clause-before
add_conffile-requires-clause-before c =
    pending_before c.args.conffiles.now c.args.files.now c.loop-file.file-index c.file-item.result c.loop-file.pending c.requires.order c.loop-file-test.true c.file-item.is c.loop-file.invariant

pub loop-file-preserved : goal.loop-file-preserved
loop-file-preserved c =
    digests_more c.args.conffiles.now c.args.files.now c.loop-file.file-index c.file-item.result (map told_digest c.loop-file.pending) _ c.loop-file-test.true c.file-item.is c.loop-file.invariant (c.in_ok-add_conffile.ensures c.args.conffiles.now c.in_ok-set.ensures)
