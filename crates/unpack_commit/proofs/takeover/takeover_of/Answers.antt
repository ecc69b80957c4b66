use Rattle.std.proofs.Common.{◌∙◌}
use Rattle.unpack_commit.specs.Takeover.{losers, losing_records}
use Rattle.unpack_commit.proofs.takeover.takeover_of.Goals as goal

pub returns-clause-losers : goal.returns-clause-losers
returns-clause-losers c = c.in_ok-losers.ensures ∙ (λ i. losers c.args.diversions.now.ways (c.in_ok-taken.ensures i) c.args.lists.now.lists c.args.yields.now)

pub returns-clause-records : goal.returns-clause-records
returns-clause-records c =
    let entries = c.args.diversions.now.ways in
    let names = c.as_slice.ensures ∙ c.in_ok-losers.ensures ∙ (λ i. losers entries (c.in_ok-taken.ensures i) c.args.lists.now.lists c.args.yields.now) in
    c.in_ok-records.ensures ∙ (λ i. losing_records entries (c.in_ok-taken.ensures i) (names i) (c.records.ensures i))
