use Rattle.std.proofs.lemmas.Bool.{MatchBool-at_true, MatchBool-at_false}
use Rattle.name_tables.proofs.Placed.{stands_nowhere}
use Rattle.name_tables.proofs.places.find.Goals as goal

pub returns-then-stands_at-clause-some : goal.returns-then-stands_at-clause-some
returns-then-stands_at-clause-some g c = MatchBool-at_true _ _ c.if-stands_at.true c.stands_at.ensures

pub returns-clause-none : goal.returns-clause-none
returns-clause-none g c =
    stands_nowhere g.T.Named.called c.args.values.now c.args.name.now c.search-at.result c.requires c.search-at.ensures (MatchBool-at_false _ _ c.if-stands_at.false c.stands_at.ensures)
