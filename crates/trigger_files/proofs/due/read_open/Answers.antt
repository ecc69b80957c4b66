use Rattle.std.proofs.Common.{rules, List, ℕ, ◌∙◌, ap, not}
use Rattle.std.proofs.lemmas.List.{take_all}
use Rattle.host_core.specs.World.{World}
use Rattle.host_core.proofs.Counted.{no_fault_then}
use Rattle.host_core.proofs.Moments.{reads_then, silent_then}
use Rattle.trigger_files.specs.Places.{place}
use Rattle.trigger_files.specs.Registered.{is_hindered}
use Rattle.trigger_files.specs.Steps.{open_of}
use Rattle.trigger_files.proofs.Names.{among_at, one_more}
use Rattle.trigger_files.proofs.due.read_open.Goals as goal

pub add_open-requires-clause-register : goal.add_open-requires-clause-register
add_open-requires-clause-register g c = c.requires c.name-item.result (among_at c.args.names.now c.loop-name.name-index c.name-item.result c.loop-name-test.true c.name-item.is)

pub loop-name-preserved : goal.loop-name-preserved
loop-name-preserved g c =
    let inv = c.loop-name.invariant in
    record {
      so_far = λ honest. one_more (λ (v : World) (n : List ℕ). not (is_hindered v (place n))) (g.H.Host.state c.args.host.now).world _ c.args.names.now c.loop-name.name-index c.name-item.result c.loop-name.found.items c.add_open.new.found.items
          inv.reads.world c.loop-name-test.true c.name-item.is (inv.so_far (c.add_open.ensures.reads.honest honest)) (c.in_ok-add_open.ensures.added honest);
      registers = c.in_ok-add_open.ensures.registers;
      reads = reads_then _ _ _ inv.reads c.add_open.ensures.reads;
      silent = silent_then _ _ _ inv.silent c.add_open.ensures.silent;
      faults_same = no_fault_then _ _ _ inv.faults_same c.in_ok-add_open.ensures.counts;
    }

pub returns-in_err-add_open-clause-looks : goal.returns-in_err-add_open-clause-looks
returns-in_err-add_open-clause-looks g c = record {
  found = search rules;
  reads = reads_then _ _ _ c.loop-name.invariant.reads c.add_open.ensures.reads;
  silent = silent_then _ _ _ c.loop-name.invariant.silent c.add_open.ensures.silent;
  counts = search rules;
}

pub returns-clause-looks : goal.returns-clause-looks
returns-clause-looks g c = record {
  found = λ h. c.loop-name.invariant.so_far h ∙ ap (open_of (g.H.Host.state c.args.host.now).world) (take_all c.loop-name.name-index c.args.names.now c.loop-name-test.false);
  reads = c.loop-name.invariant.reads;
  silent = c.loop-name.invariant.silent;
  counts = c.loop-name.invariant.faults_same;
}
