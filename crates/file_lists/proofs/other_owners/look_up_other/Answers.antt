use Rattle.std.proofs.Common.{◌≡◌, ◌∙◌, false, List, sym, subst, arith, Contains}
use Rattle.std.proofs.lemmas.Bool.{MatchBool-at_false}
use Rattle.std.proofs.lemmas.List.{take_all}
use Rattle.host_core.specs.Paths.{Path}
use Rattle.file_lists.specs.declared.spot.Spot.{Spot}
use Rattle.file_lists.specs.Index.{row_of}
use Rattle.file_lists.specs.Others.{is_other_at}
use Rattle.file_lists.proofs.Indexes.{each_more}
use Rattle.file_lists.proofs.OtherOwners.{none_indexed}
use Rattle.file_lists.proofs.other_owners.look_up_other.Goals as goal

pub returns : goal.returns
returns c =
    let items = c.as_slice-key-items.result.now in
    let all = take_all c.loop-key.key-index items (omega (arith, c.loop-key-test.false)) in
    sym (none_indexed c.args.diversions.now.ways c.args.at.now c.args.name.now c.args.lists.now c.in_ok-keys.keys c.args.index.now c.in_ok-keys.ensures c.requires.aliases c.requires.complete
    (λ key has. c.loop-key.invariant key (subst (λ (l : List Path). Contains l key) (sym (all ∙ c.as_slice-key-items.ensures)) has)))

pub loop-key-preserved : goal.loop-key-preserved
loop-key-preserved c =
    let rows = c.args.index.now.rows in
    let none : (spot : Spot) → Contains c.row.result.now spot → is_other_at c.args.diversions.now.ways c.args.at.now c.args.name.now c.args.lists.now spot ≡ false = MatchBool-at_false _ _ c.if-branch.false c.in_ok-is_other_at_one.ensures in
    each_more (λ (key : Path). (spot : Spot) → Contains (row_of rows key) spot → is_other_at c.args.diversions.now.ways c.args.at.now c.args.name.now c.args.lists.now spot ≡ false) c.as_slice-key-items.result.now c.loop-key.key-index c.key-item.result c.loop-key-test.true c.key-item.is
    c.loop-key.invariant (λ spot has. none spot (subst (λ (r : List Spot). Contains r spot) (sym c.row.ensures) has))
