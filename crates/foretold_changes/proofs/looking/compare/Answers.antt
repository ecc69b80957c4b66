use Rattle.host_core.proofs.Moments.{reads_then}
use Rattle.foretold_changes.proofs.Overlays.{found_behind, through_then}
use Rattle.foretold_changes.proofs.looking.compare.Goals as goal

pub returns-in_err-now-clause-reads : goal.returns-in_err-now-clause-reads
returns-in_err-now-clause-reads g c = reads_then _ _ _ c.node_below.ensures.looks.reads c.node.ensures.looks.reads

pub returns-in_err-now-clause-through : goal.returns-in_err-now-clause-through
returns-in_err-now-clause-through g c = through_then _ _ _ c.node_below.ensures.through c.node.ensures.through

pub returns-clause-reads : goal.returns-clause-reads
returns-clause-reads g c =
    reads_then _ _ _ (reads_then _ _ _ c.node_below.ensures.looks.reads c.node.ensures.looks.reads) c.change_of.ensures.looks.looks.reads

pub returns-clause-through : goal.returns-clause-through
returns-clause-through g c =
    through_then _ _ _ (through_then _ _ _ c.node_below.ensures.through c.node.ensures.through) c.change_of.ensures.looks.through

pub returns-clause-found : goal.returns-clause-found
returns-clause-found g c = found_behind c.args.path.now c.in_ok-before.before c.in_ok-now.now c.change_of.result _ _ _ _ c.in_ok-before.ensures c.in_ok-now.ensures c.change_of.ensures.looks
