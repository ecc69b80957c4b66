use Rattle.std.proofs.Common.{sym, subst}
use Rattle.opening.specs.Opened.{IsFound}
use Rattle.opening.proofs.Merging.{found_noted}
use Rattle.opening.proofs.open.settle_notes.Goals as goal

pub returns-in-Ok-clause-opened : goal.returns-in-Ok-clause-opened
returns-in-Ok-clause-opened g c = λ h.
    let opened = c.args.opened in
    let found = found_noted opened.database.records opened.database.notes opened.lists.lists opened.diversions.ways.entries _ _ (c.requires.found (c.merge_notes.ensures.silent.honest h)) (c.in-Ok.ensures.merged h) in
    subst (λ records. IsFound records 0 opened.lists.lists opened.diversions.ways.entries (g.H.Host.state c.merge_notes.new.host).world) (sym c.merge_notes.ensures.records) found
