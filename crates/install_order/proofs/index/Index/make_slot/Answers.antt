use Rattle.std.proofs.Common.{Some, ℕ, ap, ◌∙◌, ◌≡◌, length, rules}
use Rattle.std.specs.BTreeMap.{get_by_text}
use Rattle.std.specs.Map.{update}
use Rattle.std.specs.Str.{bytes_eq}
use Rattle.relation_index.proofs.BearingLaws.{inserted}
use Rattle.install_order.proofs.index.Index.make_slot.Goals as goal

pub returns-clause-slots : goal.returns-clause-slots
returns-clause-slots c =
    let e : c.len-slot.result ≡ length c.args.self.now.rows.items = search rules in
    inserted c.in_ok-key.key c.args.name.now c.args.self.now.slots c.insert.new.self (Some c.len-slot.result) c.in_ok-key.ensures.ok c.in_ok-insert.ensures.updates
    ∙ ap (λ (n : ℕ). update bytes_eq (get_by_text c.args.self.now.slots) c.args.name.now (Some n)) e
