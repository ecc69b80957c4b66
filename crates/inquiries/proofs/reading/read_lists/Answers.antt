use Rattle.std.proofs.Common.{◌≡◌, ℕ, List, Result, IfOk, inl, ap, subst, ◌∙◌}
use Rattle.host_core.specs.Host.{Needs}
use Rattle.host_overlay.specs.Seen.{seen}
use Rattle.opening.specs.Parts.{fault_in, names_of}
use Rattle.opening.proofs.Finding.{memory_damage}
use Rattle.inquiries.specs.Read.{FindsLists, HasSeenLists}
use Rattle.inquiries.proofs.PartByPart.{lists_memory}
use Rattle.inquiries.proofs.reading.read_lists.Goals as goal

pub returns-in_err-names-clause-finds : goal.returns-in_err-names-clause-finds
returns-in_err-names-clause-finds g c = λ h. lists_memory c.from_residual.result (names_of c.args.database.now.records) (g.H.Host.state c.args.host.now).world c.from_residual.ensures.1

pub returns-clause-finds : goal.returns-clause-finds
returns-clause-finds g c = λ h.
    let named = c.as_slice.ensures ∙ c.in_ok-names.ensures ∙ ap names_of c.records.ensures in
    subst (λ (names : List (List ℕ)). FindsLists names (g.H.Host.state c.args.host.now).world (fault_in c.read_seen.result)) named (c.read_seen.ensures.finds h)

pub returns-clause-lists : goal.returns-clause-lists
returns-clause-lists g c =
    let named = c.as_slice.ensures ∙ c.in_ok-names.ensures ∙ ap names_of c.records.ensures in
    subst (λ (names : List (List ℕ)). IfOk c.read_seen.result (λ read. Needs (g.H.Host.state c.read_seen.new.host) (HasSeenLists names read.0.lists (seen read.1)))) named c.read_seen.ensures.lists
