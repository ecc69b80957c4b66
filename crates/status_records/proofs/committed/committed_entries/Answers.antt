use Rattle.std.proofs.Common.{◌≡◌, ◌<◌, ◌≤◌, List, length, get_or, map, ap, subst, ◌∙◌}
use Rattle.std.proofs.lemmas.List.{take_all}
use Rattle.status_records.specs.declared.entries.ConffileEntry.{ConffileEntry}
use Rattle.status_records.specs.declared.entries.PendingDigest.{PendingDigest}
use Rattle.status_records.specs.ConffilePaths.{all_placed_by}
use Rattle.status_records.specs.Conffiles.{shipped_entry, left_entries}
use Rattle.status_records.proofs.PathOrder.{order_apart}
use Rattle.status_records.proofs.Placing.{shipped_new, shipped_more}
use Rattle.status_records.proofs.committed.committed_entries.Goals as goal

pub loop-digest-init : goal.loop-digest-init
loop-digest-init g c = c.in_ok-committed.ensures

pub put-requires : goal.put-requires
put-requires g c =
    let ps = c.args.shipped.now in
    let i = c.loop-digest.digest-index in
    let p = c.digest-item.result in
    let value = c.as_slice-digest-items.ensures in
    let lt : i < length ps = subst (λ (l : List PendingDigest). i < length l) value c.loop-digest-test.true in
    let at : p ≡ get_or ps i p = c.digest-item.is ∙ ap (λ (l : List PendingDigest). get_or l i p) value in
    shipped_new c.args.entries.now ps c.args.flagged.now (g.S.Ships.shipped c.args.ships.now) i p c.in_ok-shipped_entry.field-0 c.loop-digest.committed lt at (order_apart (map (λ (x : PendingDigest). x.path) ps) c.law.ensures) c.in_ok-shipped_entry.ensures
    c.loop-digest.invariant

pub loop-digest-preserved : goal.loop-digest-preserved
loop-digest-preserved g c =
    let ps = c.args.shipped.now in
    let i = c.loop-digest.digest-index in
    let p = c.digest-item.result in
    let value = c.as_slice-digest-items.ensures in
    let lt : i < length ps = subst (λ (l : List PendingDigest). i < length l) value c.loop-digest-test.true in
    let at : p ≡ get_or ps i p = c.digest-item.is ∙ ap (λ (l : List PendingDigest). get_or l i p) value in
    shipped_more c.args.entries.now ps (left_entries c.args.entries.now ps c.args.flagged.now (g.S.Ships.shipped c.args.ships.now)) i p c.in_ok-shipped_entry.field-0 c.loop-digest.committed c.put.new.self lt at c.in_ok-shipped_entry.ensures
    c.loop-digest.invariant c.in_ok-put.ensures.ok

pub returns : goal.returns
returns g c =
    c.loop-digest.invariant
    ∙ ap (λ (l : List PendingDigest). all_placed_by (λ (e : ConffileEntry). e.path) (left_entries c.args.entries.now c.args.shipped.now c.args.flagged.now (g.S.Ships.shipped c.args.ships.now)) (map (shipped_entry c.args.entries.now) l))
    (take_all c.loop-digest.digest-index c.args.shipped.now (subst (λ (l : List PendingDigest). length l ≤ c.loop-digest.digest-index) c.as_slice-digest-items.ensures c.loop-digest-test.false))
