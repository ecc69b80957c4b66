use Rattle.std.proofs.Common.{List, map, refl, sym, ap, subst, ◌∙◌}
use Rattle.std.specs.List.{insert}
use Rattle.status_records.specs.ConffilePaths.{AreInOrder, placed_by}
use Rattle.status_records.specs.declared.entries.ConffileEntry.{ConffileEntry}
use Rattle.status_records.proofs.PathOrder.{has_path, order_placed}
use Rattle.status_records.proofs.conffile_lists.ConffileEntries.put.Goals as goal

pub invariant_of-self-2 : goal.invariant_of-self-2
invariant_of-self-2 c =
    let e = c.args.entry in
    let value = c.as_slice.ensures.value in
    let placed = c.in_ok-insert.ensures.items ∙ ap (λ (l : List ConffileEntry). insert l c.place_of-place.result e) (sym value) ∙ sym (c.place_of-place.ensures.place e refl) ∙ ap (placed_by (λ (x : ConffileEntry). x.path) e) value in
    let new = ap (λ (l : List ConffileEntry). has_path (λ (x : ConffileEntry). x.path) l e.path) c.self.view_is ∙ c.requires in
    subst (λ (l : List ConffileEntry). AreInOrder (map (λ (x : ConffileEntry). x.path) l)) (sym placed) (order_placed (λ (x : ConffileEntry). x.path) e c.self.inside.items.items c.self.invariant new)
