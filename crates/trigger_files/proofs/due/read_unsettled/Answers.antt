use Rattle.std.proofs.Common.{◌≡◌, ◌∙◌, filter, subst, sym}
use Rattle.trigger_journal.proofs.Steps.{looks_then}
use Rattle.trigger_files.specs.Registered.{is_unsettled}
use Rattle.trigger_files.specs.Steps.{AreRegisters, AreUnsettled}
use Rattle.trigger_files.proofs.Planned.{found_unsettled, registers_once}
use Rattle.trigger_files.proofs.due.read_unsettled.Goals as goal

pub unsettled-requires : goal.unsettled-requires
unsettled-requires g c = subst AreRegisters (sym (c.as_slice-2.ensures.value ∙ c.in_ok-names.ensures)) (registers_once c.args.entries.now c.as_slice.result.now)

pub returns-clause-looks : goal.returns-clause-looks
returns-clause-looks g c =
    let entries = c.args.entries.now in
    let names = c.as_slice-2.result.now in
    let old = g.H.Host.state c.args.host.now in
    looks_then c.unsettled.result (λ found w. found.items ≡ filter (is_unsettled entries w) names) (λ found w. AreUnsettled entries w found.items)
    old (g.H.Host.state c.list.new.self) (g.H.Host.state c.unsettled.new.host) c.list.ensures.reads c.list.ensures.silent c.in_ok-listing.ensures.counts c.unsettled.ensures.looks
    (λ h found is. found_unsettled entries old.world _ _ _ c.as_slice.result.now _ names found.items c.list.ensures.reads.world c.in_ok-directory.ensures (c.in_ok-listing.ensures.listed h) c.as_slice.ensures
    (c.as_slice-2.ensures.value ∙ c.in_ok-names.ensures) is)
