use Rattle.std.proofs.Common.{ℕ, List, subst}
use Rattle.std.specs.Option.{option_copied}
use Rattle.status_records.specs.declared.record.Record.{Record}
use Rattle.unpack_plan.specs.Records.{IsFresh}
use Rattle.unpack_plan.specs.Yielded.{yielding}
use Rattle.unpack_plan.proofs.calls.own_calls.Goals as goal

pub returns-clause-fresh : goal.returns-clause-fresh
returns-clause-fresh c =
    let tree = c.args.tree.now in
    let fresh = c.in_ok-records.records.fresh in
    subst (λ (names : List (List ℕ)). IsFresh (yielding c.args.diversions.now.ways tree.name names c.args.database.now.records) tree (option_copied c.args.found) fresh) c.as_slice-beside.ensures
    (subst (λ (records : List Record). IsFresh (yielding c.args.diversions.now.ways tree.name c.as_slice-beside.result.now records) tree (option_copied c.args.found) fresh) c.records.ensures c.in_ok-records.ensures.fresh)
