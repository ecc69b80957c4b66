use Rattle.std.proofs.Common.{◌≡◌, true, List, map, sym, subst}
use Rattle.std.specs.List.{AllByRecursion}
use Rattle.status_records.specs.ConffilePaths.{is_before, AreInOrder}
use Rattle.status_records.specs.declared.entries.ConffileEntry.{ConffileEntry}
use Rattle.status_records.proofs.PathOrder.{order_last}
use Rattle.status_records.proofs.conffile_lists.ConffileEntries.push.Goals as goal

pub invariant_of-self-2 : goal.invariant_of-self-2
invariant_of-self-2 c =
    let before = subst (AllByRecursion (λ (x : ConffileEntry). is_before x.path c.args.entry.path ≡ true)) (sym c.self.view_is) c.requires in
    subst (λ (l : List ConffileEntry). AreInOrder (map (λ (x : ConffileEntry). x.path) l)) (sym c.in_ok-push.ensures.items)
    (order_last (λ (x : ConffileEntry). x.path) c.self.inside.items.items c.args.entry c.self.invariant before)
