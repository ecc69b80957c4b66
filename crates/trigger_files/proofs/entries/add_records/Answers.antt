use Rattle.std.proofs.Common.{◌≡◌, ◌+◌, ◌<◌, ◌++◌, ◌∙◌, ◌∷◌, [], ℕ, List, length, take, get_or, ap, sym}
use Rattle.std.specs.List.{flat_map}
use Rattle.std.proofs.lemmas.List.{flat_map_more, take_more}
use Rattle.host_core.specs.World.{World}
use Rattle.host_core.proofs.Counted.{no_fault_then}
use Rattle.host_core.proofs.Moments.{reads_then, silent_then}
use Rattle.status_records.specs.declared.record.Record.{Record}
use Rattle.trigger_interests.specs.declared.interests.Interest.{Interest}
use Rattle.trigger_files.specs.Entries.{entries_by, entries_of}
use Rattle.trigger_files.proofs.entries.add_records.Goals as goal

pub returns-in_err-add_record-clause-reads : goal.returns-in_err-add_record-clause-reads
returns-in_err-add_record-clause-reads g c = reads_then _ _ _ c.loop-entry.invariant.reads c.add_record.ensures.reads

-- those of one more
one_more : (w v : World) (records : List Record) (i : ℕ) (r : Record) (before found now : List Interest) → v ≡ w → i < length records → r ≡ get_or records i r
    → found ≡ before ++ entries_of w (take i records) → now ≡ found ++ entries_by v r → now ≡ before ++ entries_of w (take (i + 1) records)
one_more w v records i r before found now same lt is so_far added =
    added ∙ ap (λ (u : World). found ++ entries_by u r) same ∙ ap (λ (l : List Interest). l ++ entries_by w r) so_far ∙ flat_map_more (entries_by w) before (take i records) r
    ∙ ap (λ (l : List Record). before ++ flat_map (entries_by w) l) (ap (λ (x : Record). take i records ++ x ∷ []) is ∙ sym (take_more records i r lt))

pub loop-entry-preserved : goal.loop-entry-preserved
loop-entry-preserved g c =
    let inv = c.loop-entry.invariant in
    record {
      so_far = λ honest. one_more (g.H.Host.state c.args.host.now).world _ c.args.records.now c.loop-entry.entry-index c.entry-item.result c.args.found.now.items c.loop-entry.found.items c.add_record.new.found.items
          inv.reads.world c.loop-entry-test.true c.entry-item.is (inv.so_far (c.add_record.ensures.reads.honest honest)) (c.in_ok-add_record.ensures.added honest);
      reads = reads_then _ _ _ inv.reads c.add_record.ensures.reads;
      silent = silent_then _ _ _ inv.silent c.add_record.ensures.silent;
      faults_same = no_fault_then _ _ _ inv.faults_same c.in_ok-add_record.ensures.counts;
    }
