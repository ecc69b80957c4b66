use Rattle.std.proofs.Common.{◌≡◌, ◌<◌, ◌≤◌, Bool, List, filter, length, get_or, ap, not, subst, sym, ◌∙◌}
use Rattle.std.proofs.lemmas.List.{take_all}
use Rattle.status_records.specs.declared.entries.PendingDigest.{PendingDigest}
use Rattle.unpack_commit.specs.Takeover.{is_at}
use Rattle.unpack_commit.proofs.Filtering.{kept_more, left_last, left_new, left_out}
use Rattle.unpack_commit.proofs.losing.left_pending.Goals as goal
use Rattle.unpack_commit.proofs.losing.left_pending.Goals.{then-not-goes+in_ok-copy+in_ok-put, else-not-goes}

pub put-requires : goal.put-requires
put-requires c =
    let es = c.args.pending.now in
    let i = c.loop-digest.digest-index in
    let e = c.digest-item.result in
    let value = c.as_slice-digest-items.ensures in
    let lt : i < length es = subst (λ (l : List PendingDigest). i < length l) value c.loop-digest-test.true in
    let at : e ≡ get_or es i e = c.digest-item.is ∙ ap (λ (l : List PendingDigest). get_or l i e) value in
    left_new (λ (x : PendingDigest). x.path) (λ (x : PendingDigest). not (is_at c.args.diversions.now.ways c.args.taken.now c.args.name.now x.path)) es i e c.in_ok-copy.field-0 c.loop-digest.left
    c.law.ensures lt at c.in_ok-copy.ensures c.loop-digest.invariant

pub loop-digest-preserved : goal.loop-digest-preserved
loop-digest-preserved c =
    let es = c.args.pending.now in
    let i = c.loop-digest.digest-index in
    let e = c.digest-item.result in
    let keep : PendingDigest → Bool = λ (x : PendingDigest). not (is_at c.args.diversions.now.ways c.args.taken.now c.args.name.now x.path) in
    let value = c.as_slice-digest-items.ensures in
    let lt : i < length es = subst (λ (l : List PendingDigest). i < length l) value c.loop-digest-test.true in
    let at : e ≡ get_or es i e = c.digest-item.is ∙ ap (λ (l : List PendingDigest). get_or l i e) value in
    elim c.if-not-goes.branch [
      | then-not-goes+in_ok-copy+in_ok-put w ↦
          kept_more keep es i e lt at (ap not (sym c.in_ok-goes.ensures ∙ w.if-not-goes.true)) c.loop-digest.left c.if-not-goes.left w.in_ok-copy.field-0 c.loop-digest.invariant w.in_ok-copy.ensures (w.left-is ∙ w.in_ok-put.ensures.ok
          ∙ left_last (λ (x : PendingDigest). x.path) keep es i e w.in_ok-copy.field-0 c.loop-digest.left c.law.ensures lt at w.in_ok-copy.ensures c.loop-digest.invariant)
      | else-not-goes w ↦
          left_out keep es i e lt at (ap not (sym c.in_ok-goes.ensures ∙ w.if-not-goes.false)) c.loop-digest.left c.if-not-goes.left c.loop-digest.invariant w.left-is
    ]

pub returns : goal.returns
returns c =
    c.loop-digest.invariant
    ∙ ap (λ (l : List PendingDigest). filter (λ (x : PendingDigest). not (is_at c.args.diversions.now.ways c.args.taken.now c.args.name.now x.path)) l)
    (take_all c.loop-digest.digest-index c.args.pending.now (subst (λ (l : List PendingDigest). length l ≤ c.loop-digest.digest-index) c.as_slice-digest-items.ensures c.loop-digest-test.false))
