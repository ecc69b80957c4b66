use Rattle.std.proofs.Common.{◌∙◌, ◌↔◌, ap, subst, Contains}
use Rattle.host_overlay.specs.Seen.{seen}
use Rattle.file_lists.specs.Lists.{IsReadable, Lists}
use Rattle.file_lists.specs.Reading.{IsListFault}
use Rattle.file_lists.specs.declared.fault.EntryFault.TheVariants as kind
use Rattle.file_lists.proofs.info.read_at.Goals as goal

pub returns-in-Ok-clause-lists : goal.returns-in-Ok-clause-lists
returns-in-Ok-clause-lists g c = λ h q.
    let w = seen c.args.shown.now (g.H.Host.state c.args.host.now).world in
    subst (λ n. Contains c.in-Ok.paths q ↔ Lists n q) (c.in_ok-node.ensures.found h ∙ ap w c.requires) (c.in-Ok.ensures.lists q)

pub returns-in-Err-Line-clause-fault : goal.returns-in-Err-Line-clause-fault
returns-in-Err-Line-clause-fault g c = λ h.
    let w = seen c.args.shown.now (g.H.Host.state c.args.host.now).world in
    let fault = subst (IsListFault c.in_ok-node.node) c.in-Err-Line.field-0-is c.in-Err-Line.ensures.fault in
    (c.requires, subst (λ n. IsListFault n (kind.Line c.in-Err-Line.line)) (c.in_ok-node.ensures.found h ∙ ap w c.requires) fault)

pub returns-in-Ok-clause-readable : goal.returns-in-Ok-clause-readable
returns-in-Ok-clause-readable g c = λ h.
    let w = seen c.args.shown.now (g.H.Host.state c.args.host.now).world in
    subst IsReadable (c.in_ok-node.ensures.found h ∙ ap w c.requires) c.in-Ok.ensures.readable
