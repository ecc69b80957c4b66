use Rattle.std.proofs.Common.{inl, ◌+◌, ℕ, ◌∙◌, ap, sym, subst, append_assoc}
use Rattle.std.specs.Prelude.{count_by}
use Rattle.std.specs.List.{flat_map}
use Rattle.host_core.proofs.Moments.{reads_then}
use Rattle.host_overlay.specs.Seen.{seen}
use Rattle.inquiries.specs.Read.{HasFollowed, records_parts}
use Rattle.opening.proofs.Finding.{host_damage}
use Rattle.verification.specs.Looks.{Look}
use Rattle.verification.specs.Verified.{Listing, cut_lines, look_lines, unknown_lines, wanted}
use Rattle.verification.specs.contracts.verifying.Verified.{the_row}
use Rattle.verification.proofs.Counted.{verified_passed}
use Rattle.verification.proofs.verifying.verify.Goals as goal

pub returns-in-Ok-clause-told : goal.returns-in-Ok-clause-told
returns-in-Ok-clause-told g c =
    let all = c.in_ok-all.all.opened in
    let sight = seen c.in_ok-all.all.shown in
    let table = all.database.records in
    let names = c.args.names.now in
    let added = c.in-Ok.ensures.added in
    let now = (g.H.Host.state c.verify_read.new.host).world in
    record {
      table = table;
      lists = all.lists.lists;
      ways = all.diversions.ways;
      sight = sight;
      read = λ h. subst (HasFollowed table all.lists.lists all.diversions.ways sight) (sym c.verify_read.ensures.reads.world) (c.in_ok-all.ensures.held (c.verify_read.ensures.silent.honest h));
      order = c.law.ensures;
      looks = added.looks;
      each = added.each;
      failed = added.failed ∙ ap (λ (n : ℕ). n + count_by (λ (k : Look Listing). k.failed) added.looks) c.in_ok-all.ensures.counts.faults;
      told = λ h. added.told h ∙ append_assoc (flat_map (unknown_lines table) names) (flat_map cut_lines (wanted names table)) (flat_map (look_lines all.diversions.ways sight now) added.looks);
    }

pub returns-in-Ok-clause-finds : goal.returns-in-Ok-clause-finds
returns-in-Ok-clause-finds g c = λ h. c.in_ok-all.ensures.finds (c.verify_read.ensures.silent.honest h)

pub returns-in-Ok-clause-reads : goal.returns-in-Ok-clause-reads
returns-in-Ok-clause-reads g c = reads_then _ _ _ c.read_followed.ensures.reads c.verify_read.ensures.reads

pub returns-clause-reads : goal.returns-clause-reads
returns-clause-reads g c = reads_then _ _ _ c.read_followed.ensures.reads c.verify_read.ensures.reads

pub returns-clause-finds : goal.returns-clause-finds
returns-clause-finds g c = λ h. inl (host_damage records_parts (g.H.Host.state c.args.host.now).world c.in-Err.fault c.from.result c.from.ensures)

pub returns-clause-counts : goal.returns-clause-counts
returns-clause-counts g c = verified_passed the_row.Denot c.in-Err.fault c.from.result (g.H.Host.state c.args.host.now) (g.H.Host.state c.read_followed.new.host) (g.H.Host.state c.verify_read.new.host) c.in_ok-all.ensures.counts c.in-Err.ensures.counts c.from.ensures
