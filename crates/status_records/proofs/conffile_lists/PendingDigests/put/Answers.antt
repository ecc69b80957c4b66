use Rattle.std.proofs.Common.{List, map, refl, sym, ap, subst, ◌∙◌}
use Rattle.std.specs.List.{insert}
use Rattle.status_records.specs.ConffilePaths.{AreInOrder, placed_by}
use Rattle.status_records.specs.declared.entries.PendingDigest.{PendingDigest}
use Rattle.status_records.proofs.PathOrder.{has_path, order_placed}
use Rattle.status_records.proofs.conffile_lists.PendingDigests.put.Goals as goal

pub invariant_of-self-2 : goal.invariant_of-self-2
invariant_of-self-2 c =
    let e = c.args.digest in
    let value = c.as_slice.ensures.value in
    let placed = c.in_ok-insert.ensures.items ∙ ap (λ (l : List PendingDigest). insert l c.place_of_pending-place.result e) (sym value) ∙ sym (c.place_of_pending-place.ensures.place e refl) ∙ ap (placed_by (λ (x : PendingDigest). x.path) e) value in
    let new = ap (λ (l : List PendingDigest). has_path (λ (x : PendingDigest). x.path) l e.path) c.self.view_is ∙ c.requires in
    subst (λ (l : List PendingDigest). AreInOrder (map (λ (x : PendingDigest). x.path) l)) (sym placed) (order_placed (λ (x : PendingDigest). x.path) e c.self.inside.items.items c.self.invariant new)
