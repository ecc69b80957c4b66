use Rattle.std.proofs.Common.{sym, subst, List, Contains, arith}
use Rattle.std.proofs.lemmas.List.{take_all}
use Rattle.host_core.specs.Paths.{Path}
use Rattle.file_lists.specs.declared.spot.Spot.{Spot}
use Rattle.file_lists.specs.Index.{row_of}
use Rattle.file_lists.proofs.Indexes.{each_more}
use Rattle.file_lists.proofs.owners.spots_in.Goals as goal

pub loop-key-preserved : goal.loop-key-preserved
loop-key-preserved c = λ key s has there.
    let rows = c.args.index.now.rows in
    each_more (λ (key : Path). (s : Spot) → Contains (row_of rows key) s → Contains c.take_spots.new.spots.keys s) c.args.keys.now c.loop-key.key-index c.key-item.result c.loop-key-test.true c.key-item.is
    (λ key has s there. c.in_ok-take_spots.ensures.kept s (c.loop-key.invariant key s has there)) (λ s there. c.in_ok-take_spots.ensures.there s (subst (λ (r : List Spot). Contains r s) (sym c.row.ensures) there)) key has s there

pub returns : goal.returns
returns c = λ key s has there. c.loop-key.invariant key s (subst (λ (l : List Path). Contains l key) (sym (take_all c.loop-key.key-index c.args.keys.now (omega (arith, c.loop-key-test.false)))) has) there
