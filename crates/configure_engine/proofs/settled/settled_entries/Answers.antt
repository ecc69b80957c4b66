use Rattle.std.proofs.Common.{◌≡◌, ◌<◌, List, length, get_or, ap, subst, ◌∙◌}
use Rattle.status_records.specs.declared.entries.PendingDigest.{PendingDigest}
use Rattle.configure_engine.proofs.Staying.{settled_more, settled_new}
use Rattle.configure_engine.proofs.settled.settled_entries.Goals as goal

pub put-requires : goal.put-requires
put-requires c =
    let ps = c.args.entry.now.pending in
    let i = c.loop-digest.digest-index in
    let p = c.digest-item.result in
    let value = c.as_slice-digest-items.ensures in
    let lt : i < length ps = subst (λ (l : List PendingDigest). i < length l) value c.loop-digest-test.true in
    let at : p ≡ get_or ps i p = c.digest-item.is ∙ ap (λ (l : List PendingDigest). get_or l i p) value in
    settled_new c.args.entry.now.conffiles ps i p c.in_ok-settled_entry.field-0 c.loop-digest.entries lt at c.in_ok-settled_entry.ensures c.loop-digest.invariant c.law.ensures

pub loop-digest-preserved : goal.loop-digest-preserved
loop-digest-preserved c =
    let ps = c.args.entry.now.pending in
    let i = c.loop-digest.digest-index in
    let p = c.digest-item.result in
    let value = c.as_slice-digest-items.ensures in
    let lt : i < length ps = subst (λ (l : List PendingDigest). i < length l) value c.loop-digest-test.true in
    let at : p ≡ get_or ps i p = c.digest-item.is ∙ ap (λ (l : List PendingDigest). get_or l i p) value in
    settled_more c.args.entry.now.conffiles ps i p c.in_ok-settled_entry.field-0 c.loop-digest.entries lt at c.in_ok-settled_entry.ensures c.loop-digest.invariant c.put.new.self c.in_ok-put.ensures.ok
