use Rattle.std.proofs.Common.{◌≡◌, ◌∙◌, ◌++◌, ◌∷◌, [], ap, ℕ, List}
use Rattle.status_records.specs.declared.record.Record.{Record}
use Rattle.unpack_commit.specs.Takeover.{losers, losing_records, taken_places}
use Rattle.unpack_engine.proofs.committed.committing_of.Goals as goal

pub returns-clause-records : goal.returns-clause-records
returns-clause-records c =
    let places = taken_places c.args.works.now in
    let ways = c.args.diversions.now.ways in
    let lost = ap (λ (names : List (List ℕ)). losing_records ways places (losers ways places c.args.lists.now.lists names) c.args.database.now.records) (c.as_slice.ensures ∙ c.in_ok-others.ensures) in
    c.in_ok-push.ensures.items ∙ ap (λ (records : List Record). records ++ c.args.commit.fresh ∷ []) (c.in_ok-takeover.ensures.records ∙ lost)
