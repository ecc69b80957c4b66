use Rattle.std.proofs.Common.{◌≡◌, ◌<◌, ◌∙◌, sym, ap, arith, length, true, List, ℕ}
use Rattle.std.specs.Str.{bytes_eq}
use Rattle.file_lists.proofs.OtherOwners.{own_at}
use Rattle.file_lists.proofs.other_owners.is_other_at.Goals as goal

pub returns-then-eq : goal.returns-then-eq
returns-then-eq c =
    let list = c.index-lists-spot.result in
    let lt : c.args.spot.list < length c.args.lists.now = omega arith in
    let same : bytes_eq list.name c.args.name.now ≡ true =
    ap (λ (n : List ℕ). bytes_eq n c.args.name.now) (sym c.as_str.ensures) ∙ ap (bytes_eq c.as_str.result.now) (sym c.as_str-2.ensures) ∙ sym c.eq.ensures ∙ c.if-eq.true in
    sym (own_at c.args.diversions.now.ways c.args.at.now c.args.name.now c.args.lists.now c.args.spot list lt c.index-lists-spot.is same)
