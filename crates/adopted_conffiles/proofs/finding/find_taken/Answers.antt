use Rattle.std.proofs.Common.{rules, subst, ◌≡◌, ◌++◌}
use Rattle.host_core.specs.World.{World}
use Rattle.host_core.proofs.Moments.{reads_then, silent_then}
use Rattle.adopted_conffiles.specs.Adopted.{taken}
use Rattle.adopted_conffiles.proofs.Taken.{taken_more}
use Rattle.adopted_conffiles.proofs.finding.find_taken.Goals as goal

pub returns-in_err-add_taken-clause-looks : goal.returns-in_err-add_taken-clause-looks
returns-in_err-add_taken-clause-looks g c = record {
  found = search rules;
  reads = reads_then _ _ _ c.loop-record.invariant.reads c.add_taken.ensures.looks.reads;
  silent = search rules;
  counts = search rules;
}

pub loop-record-preserved : goal.loop-record-preserved
loop-record-preserved g c =
    let inv = c.loop-record.invariant in
    let call = c.add_taken.ensures in
    let rs = c.args.records.now in
    let i = c.loop-record.record-index in
    let r = c.record-item.result in
    let ways = c.args.diversions.now.ways in
    let w = (g.H.Host.state c.args.host.now).world in
    record {
      stand = c.in_ok-add_taken.ensures.stand inv.stand;
      found = λ h. taken_more w ways rs i r c.loop-record.found.items c.add_taken.new.found.items c.loop-record-test.true c.record-item.is (inv.found (call.looks.silent.honest h))
          (subst (λ (v : World). c.add_taken.new.found.items ≡ c.loop-record.found.items ++ taken v ways r) inv.reads.world (c.in_ok-add_taken.ensures.looks.found h));
      reads = reads_then _ _ _ inv.reads call.looks.reads;
      silent = silent_then _ _ _ inv.silent call.looks.silent;
      counts = search rules;
    }
