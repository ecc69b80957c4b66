use Rattle.std.proofs.Common.{rules, ◌∙◌, ap, filter}
use Rattle.std.proofs.lemmas.List.{take_all}
use Rattle.host_core.specs.World.{World}
use Rattle.host_core.proofs.Counted.{no_fault_then}
use Rattle.host_core.proofs.Moments.{reads_then, silent_then}
use Rattle.trigger_files.specs.Registered.{is_unsettled}
use Rattle.trigger_files.proofs.Names.{among_at, one_more}
use Rattle.trigger_files.proofs.due.unsettled.Goals as goal

pub add_unsettled-requires-clause-register : goal.add_unsettled-requires-clause-register
add_unsettled-requires-clause-register g c = c.requires c.name-item.result (among_at c.args.names.now c.loop-name.name-index c.name-item.result c.loop-name-test.true c.name-item.is)

pub loop-name-preserved : goal.loop-name-preserved
loop-name-preserved g c =
    let inv = c.loop-name.invariant in
    record {
      so_far = λ honest. one_more (λ (v : World). is_unsettled c.args.entries.now v) (g.H.Host.state c.args.host.now).world _ c.args.names.now c.loop-name.name-index c.name-item.result c.loop-name.found.items c.add_unsettled.new.found.items
          inv.reads.world c.loop-name-test.true c.name-item.is (inv.so_far (c.add_unsettled.ensures.reads.honest honest)) (c.in_ok-add_unsettled.ensures.added honest);
      registers = c.in_ok-add_unsettled.ensures.registers;
      reads = reads_then _ _ _ inv.reads c.add_unsettled.ensures.reads;
      silent = silent_then _ _ _ inv.silent c.add_unsettled.ensures.silent;
      faults_same = no_fault_then _ _ _ inv.faults_same c.in_ok-add_unsettled.ensures.counts;
    }

pub returns-in_err-add_unsettled-clause-looks : goal.returns-in_err-add_unsettled-clause-looks
returns-in_err-add_unsettled-clause-looks g c = record {
  found = search rules;
  reads = reads_then _ _ _ c.loop-name.invariant.reads c.add_unsettled.ensures.reads;
  silent = silent_then _ _ _ c.loop-name.invariant.silent c.add_unsettled.ensures.silent;
  counts = search rules;
}

pub returns-clause-looks : goal.returns-clause-looks
returns-clause-looks g c = record {
  found = λ h. c.loop-name.invariant.so_far h ∙ ap (filter (is_unsettled c.args.entries.now (g.H.Host.state c.args.host.now).world)) (take_all c.loop-name.name-index c.args.names.now c.loop-name-test.false);
  reads = c.loop-name.invariant.reads;
  silent = c.loop-name.invariant.silent;
  counts = c.loop-name.invariant.faults_same;
}
