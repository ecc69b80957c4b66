use Rattle.std.proofs.Common.{subst}
use Rattle.host_core.specs.Paths.{Path}
use Rattle.host_overlay.specs.Seen.{seen}
use Rattle.file_lists.specs.Info.{entry_path}
use Rattle.file_lists.specs.Owners.{names_of}
use Rattle.file_lists.specs.Reading.{IsFaultAt, IsListAt}
use Rattle.file_lists.proofs.Entries.{list_at_is, list_fault_at, taken_list}
use Rattle.file_lists.proofs.Looked.{fault_told}
use Rattle.file_lists.proofs.info.look_at.Goals as goal

pub returns-in_err-paths-in-Some-list_at-clause-fault : goal.returns-in_err-paths-in-Some-list_at-clause-fault
returns-in_err-paths-in-Some-list_at-clause-fault g c = λ h.
    let w = seen c.args.shown.now (g.H.Host.state c.args.host.now).world in
    let names = names_of c.args.table.now in
    let at = subst (λ (e : Path). IsListAt c.args.table.now e c.in-Some-list_at.at) c.as_bytes.ensures.value c.in-Some-list_at.ensures.some in
    let fault = c.in_err-paths-in-Some-list_at.field-0.0 in
    fault_told (IsFaultAt w names c.args.entry.now) fault c.from_residual-in_err-paths-in-Some-list_at.result c.from_residual-in_err-paths-in-Some-list_at.ensures.1
    (list_fault_at w names c.args.entry.now fault (list_at_is c.args.table.now c.args.entry.now c.in-Some-list_at.at at) (c.in_err-paths-in-Some-list_at.ensures.fault h))

pub returns-in-Some-list_at-clause-taken : goal.returns-in-Some-list_at-clause-taken
returns-in-Some-list_at-clause-taken g c = λ h.
    let w = seen c.args.shown.now (g.H.Host.state c.args.host.now).world in
    let at = subst (λ (e : Path). IsListAt c.args.table.now e c.in-Some-list_at.at) c.as_bytes.ensures.value c.in-Some-list_at.ensures.some in
    taken_list c.args.entry.now (w (entry_path c.args.entry.now)) c.in-Some-list_at.at c.in_ok-paths-in-Some-list_at.paths c.args.table.now c.set.new.self at c.set.ensures.set (c.in_ok-paths-in-Some-list_at.ensures.lists h)
