use Rattle.std.proofs.Common.{rules, subst, List, ◌<◌, length, get_or}
use Rattle.host_core.specs.World.{World}
use Rattle.host_core.proofs.Moments.{reads_then, silent_then}
use Rattle.status_records.specs.declared.entries.ConffileEntry.{ConffileEntry}
use Rattle.std.proofs.Common.{◌≡◌, ◌++◌}
use Rattle.adopted_conffiles.specs.Adopted.{pending_of}
use Rattle.adopted_conffiles.proofs.Pending.{before_more, entries_before, pending_more}
use Rattle.adopted_conffiles.proofs.beside.add_pending.Goals as goal

pub add_beside-requires : goal.add_beside-requires
add_beside-requires g c =
    let i = c.loop-entry.entry-index in
    let e = c.entry-item.result in
    let lt = subst (λ (es : List ConffileEntry). i < length es) c.as_slice-entry-items.ensures c.loop-entry-test.true in
    let is = subst (λ (es : List ConffileEntry). e ≡ get_or es i e) c.as_slice-entry-items.ensures c.entry-item.is in
    record { before = c.loop-entry.invariant.before e.path (entries_before c.args.record.now.conffiles i e c.law.ensures lt is) }

pub returns-in_err-add_beside : goal.returns-in_err-add_beside
returns-in_err-add_beside g c = record {
  looks = record {
    found = search rules;
    reads = reads_then _ _ _ c.loop-entry.invariant.reads c.add_beside.ensures.looks.reads;
    silent = search rules;
    counts = search rules;
  };
}

pub loop-entry-preserved : goal.loop-entry-preserved
loop-entry-preserved g c =
    let inv = c.loop-entry.invariant in
    let call = c.add_beside.ensures in
    let es = c.args.record.now.conffiles in
    let i = c.loop-entry.entry-index in
    let e = c.entry-item.result in
    let ways = c.args.diversions.now.ways in
    let w = (g.H.Host.state c.args.host.now).world in
    let lt = subst (λ (all : List ConffileEntry). i < length all) c.as_slice-entry-items.ensures c.loop-entry-test.true in
    let is = subst (λ (all : List ConffileEntry). e ≡ get_or all i e) c.as_slice-entry-items.ensures c.entry-item.is in
    record {
      before = before_more es i e c.loop-entry.pending c.add_beside.new.pending lt is inv.before c.in_ok-add_beside.ensures.before;
      pending = λ h. pending_more w ways es i e c.loop-entry.pending c.add_beside.new.pending lt is (inv.pending (call.looks.silent.honest h))
          (subst (λ (v : World). c.add_beside.new.pending ≡ c.loop-entry.pending ++ pending_of v ways e) inv.reads.world (c.in_ok-add_beside.ensures.looks.found h));
      reads = reads_then _ _ _ inv.reads call.looks.reads;
      silent = silent_then _ _ _ inv.silent call.looks.silent;
      counts = search rules;
    }
