use Rattle.std.proofs.Common.{List, subst}
use Rattle.host_core.specs.World.{World}
use Rattle.trigger_interests.specs.declared.interests.Interest.{Interest}
use Rattle.trigger_journal.proofs.Steps.{looks_then}
use Rattle.trigger_files.specs.Entries.{entries_of}
use Rattle.trigger_files.specs.Steps.{IsPlan}
use Rattle.trigger_files.proofs.registering.read_plan.Goals as goal

pub returns-clause-looks : goal.returns-clause-looks
returns-clause-looks g c =
    let first = c.read_entries.ensures.looks in
    let entries = c.in_ok-entries.entries.items in
    let old = g.H.Host.state c.args.host.now in
    looks_then c.read_names.result (λ plan w. IsPlan entries plan w) (λ plan w. IsPlan (entries_of w c.args.records.now) plan w)
    old (g.H.Host.state c.read_entries.new.host) (g.H.Host.state c.read_names.new.host) first.reads first.silent c.in_ok-entries.ensures.looks.counts c.read_names.ensures.looks
    (λ h plan is. subst (λ (es : List Interest). IsPlan es plan old.world) (c.in_ok-entries.ensures.looks.found h) (subst (λ (w : World). IsPlan entries plan w) first.reads.world is))
