use Rattle.std.proofs.Common.{rules, ◌≡◌, ◌<◌, length, ap, subst, sym, ◌∙◌}
use Rattle.std.proofs.lemmas.List.{map-append}
use Rattle.host_core.specs.World.{World}
use Rattle.host_core.proofs.Moments.{reads_then, silent_then}
use Rattle.status_records.specs.declared.record.Record.{Record}
use Rattle.undo_rows.specs.declared.rows.Owner.TheVariants.{Package as OfPackage}
use Rattle.unpack_rows.specs.ForwardRows.{records_of}
use Rattle.in_favour_rows.specs.Rows.{other_package}
use Rattle.in_favour_rows.specs.declared.entries.Entry.{Entry}
use Rattle.in_favour_rows.proofs.Pushed.{mapped_more, own_more, shaped_more}
use Rattle.in_favour_rows.proofs.others.push_others.Goals as goal

pub returns-in_err-other_package-clause-looks : goal.returns-in_err-other_package-clause-looks
returns-in_err-other_package-clause-looks g c = record {
  found = search rules;
  reads = reads_then _ _ _ c.loop-entry.invariant.reads c.other_package.ensures.looks.reads;
  silent = search rules;
  counts = search rules;
}

pub returns-in_err-push-clause-looks : goal.returns-in_err-push-clause-looks
returns-in_err-push-clause-looks g c = record {
  found = search rules;
  reads = reads_then _ _ _ c.loop-entry.invariant.reads c.other_package.ensures.looks.reads;
  silent = search rules;
  counts = search rules;
}

pub loop-entry-preserved : goal.loop-entry-preserved
loop-entry-preserved g c =
    let before = c.loop-entry.invariant in
    let name = c.args.incoming.now.name in
    let version = c.args.incoming.now.version in
    let w = (g.H.Host.state c.args.host.now).world in
    let o = c.in_ok-other_package.field-0 in
    let made = c.loop-entry.others.items in
    let e = c.entry-item.result in
    let i = c.loop-entry.entry-index in
    let entries = c.args.entries.now in
    let lt : i < length entries = c.loop-entry-test.true in
    let pushed = c.in_ok-push.ensures.items in
    let same = c.in_ok-other_package.ensures.same in
    record {
      same = rw (pushed, map-append) (mapped_more (λ (x : Entry). x.«record») entries i e (records_of made) o.«record» lt c.entry-item.is same before.same);
      own = rw pushed (own_more made o before.own (c.in_ok-other_package.ensures.own ∙ ap (λ (r : Record). OfPackage r.name) (sym same)));
      shaped = rw pushed (shaped_more name version entries i e made o lt c.entry-item.is (c.in_ok-other_package.ensures.shaped) before.shaped);
      rows = λ h.
          rw pushed (mapped_more (other_package name version w) entries i e made o lt c.entry-item.is
          (subst (λ (v : World). o ≡ other_package name version v e) before.reads.world (c.in_ok-other_package.ensures.looks.found h))
          (before.rows (c.other_package.ensures.looks.silent.honest h)));
      reads = reads_then _ _ _ before.reads c.other_package.ensures.looks.reads;
      silent = silent_then _ _ _ before.silent c.other_package.ensures.looks.silent;
      counts = search rules;
    }
