use Rattle.std.proofs.Common.{◌<◌, length, subst, rules}
use Rattle.diversions.specs.Entries.{IsTable}
use Rattle.diversions.specs.Lines.{owner_line}
use Rattle.diversions.proofs.LinesOf.{none_at, first_faulty}
use Rattle.diversions.proofs.reading.read_text.Goals as goal

pub returns-in_default-clause-fault : goal.returns-in_default-clause-fault
returns-in_default-clause-fault c =
    let inv = c.loop-rest.invariant in
    let some : 0 < length c.loop-rest.rest.now = search rules in
    first_faulty c.args.text.now c.loop-rest.rest.now c.loop-rest.table c.loop-rest.number inv.read (subst IsTable c.table.view_is c.table.invariant.table) some
    (λ d more is table. none_at c.cut_entry.result _ c.in_default.is c.cut_entry.ensures.none d.path d.target (owner_line d.owner) more is) inv.count
