use Rattle.std.proofs.Common.{inl, ◌+◌, ℕ, ◌∙◌, ap}
use Rattle.std.specs.Prelude.{count_by}
use Rattle.host_core.proofs.Moments.{reads_then, silent_then}
use Rattle.inquiries.specs.Read.{records_parts}
use Rattle.opening.proofs.Finding.{host_damage}
use Rattle.package_tree.specs.declared.shipped.Shipped.{Shipped}
use Rattle.verification.specs.Looks.{Look}
use Rattle.verification.specs.contracts.verifying.Verified.{the_row}
use Rattle.verification.proofs.Counted.{verified_passed}
use Rattle.verification.proofs.comparing.verify_tree.Goals as goal

pub returns-in-Ok-clause-told : goal.returns-in-Ok-clause-told
returns-in-Ok-clause-told g c =
    let told = c.in-Ok.ensures.told in
    record {
      table = told.table;
      lists = told.lists;
      ways = told.ways;
      sight = told.sight;
      read = told.read;
      looks = told.looks;
      each = told.each;
      failed = told.failed ∙ ap (λ (n : ℕ). n + count_by (λ (k : Look Shipped). k.failed) told.looks) c.in_ok-all.ensures.counts.faults;
      told = told.told;
    }

pub returns-in-Ok-clause-finds : goal.returns-in-Ok-clause-finds
returns-in-Ok-clause-finds g c = λ h. c.in_ok-all.ensures.finds (c.compare_read.ensures.silent.honest h)

pub returns-in-Ok-clause-reads : goal.returns-in-Ok-clause-reads
returns-in-Ok-clause-reads g c = reads_then _ _ _ c.read_followed.ensures.reads c.compare_read.ensures.reads

pub returns-clause-reads : goal.returns-clause-reads
returns-clause-reads g c = reads_then _ _ _ c.read_followed.ensures.reads c.compare_read.ensures.reads

pub returns-clause-finds : goal.returns-clause-finds
returns-clause-finds g c = λ h. inl (host_damage records_parts (g.H.Host.state c.args.host.now).world c.in-Err.fault c.from.result c.from.ensures)

pub returns-clause-counts : goal.returns-clause-counts
returns-clause-counts g c = verified_passed the_row.Denot c.in-Err.fault c.from.result (g.H.Host.state c.args.host.now) (g.H.Host.state c.read_followed.new.host) (g.H.Host.state c.compare_read.new.host) c.in_ok-all.ensures.counts c.in-Err.ensures.counts c.from.ensures

pub returns-in-Ok-clause-silent : goal.returns-in-Ok-clause-silent
returns-in-Ok-clause-silent g c = silent_then _ _ _ c.read_followed.ensures.silent c.compare_read.ensures.silent
