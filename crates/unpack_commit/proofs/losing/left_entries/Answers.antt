use Rattle.std.proofs.Common.{◌≡◌, ◌<◌, ◌≤◌, Bool, List, filter, length, get_or, ap, not, subst, sym, ◌∙◌}
use Rattle.std.proofs.lemmas.List.{take_all}
use Rattle.status_records.specs.declared.entries.ConffileEntry.{ConffileEntry}
use Rattle.unpack_commit.specs.Takeover.{is_at}
use Rattle.unpack_commit.proofs.Filtering.{kept_more, left_before, left_out}
use Rattle.unpack_commit.proofs.losing.left_entries.Goals as goal
use Rattle.unpack_commit.proofs.losing.left_entries.Goals.{then-not-goes+in_ok-copy+in_ok-push, else-not-goes}

pub push-requires : goal.push-requires
push-requires c =
    let es = c.args.entries.now in
    let i = c.loop-entry.entry-index in
    let e = c.entry-item.result in
    let value = c.as_slice-entry-items.ensures in
    let lt : i < length es = subst (λ (l : List ConffileEntry). i < length l) value c.loop-entry-test.true in
    let at : e ≡ get_or es i e = c.entry-item.is ∙ ap (λ (l : List ConffileEntry). get_or l i e) value in
    left_before (λ (x : ConffileEntry). x.path) (λ (x : ConffileEntry). not (is_at c.args.diversions.now.ways c.args.taken.now c.args.name.now x.path)) es i e c.in_ok-copy.field-0 c.loop-entry.left
    c.law.ensures lt at c.in_ok-copy.ensures c.loop-entry.invariant

pub loop-entry-preserved : goal.loop-entry-preserved
loop-entry-preserved c =
    let es = c.args.entries.now in
    let i = c.loop-entry.entry-index in
    let e = c.entry-item.result in
    let keep : ConffileEntry → Bool = λ (x : ConffileEntry). not (is_at c.args.diversions.now.ways c.args.taken.now c.args.name.now x.path) in
    let value = c.as_slice-entry-items.ensures in
    let lt : i < length es = subst (λ (l : List ConffileEntry). i < length l) value c.loop-entry-test.true in
    let at : e ≡ get_or es i e = c.entry-item.is ∙ ap (λ (l : List ConffileEntry). get_or l i e) value in
    elim c.if-not-goes.branch [
      | then-not-goes+in_ok-copy+in_ok-push w ↦
          kept_more keep es i e lt at (ap not (sym c.in_ok-goes.ensures ∙ w.if-not-goes.true)) c.loop-entry.left c.if-not-goes.left w.in_ok-copy.field-0 c.loop-entry.invariant w.in_ok-copy.ensures (w.left-is ∙ w.in_ok-push.ensures.ok)
      | else-not-goes w ↦
          left_out keep es i e lt at (ap not (sym c.in_ok-goes.ensures ∙ w.if-not-goes.false)) c.loop-entry.left c.if-not-goes.left c.loop-entry.invariant w.left-is
    ]

pub returns : goal.returns
returns c =
    c.loop-entry.invariant
    ∙ ap (λ (l : List ConffileEntry). filter (λ (x : ConffileEntry). not (is_at c.args.diversions.now.ways c.args.taken.now c.args.name.now x.path)) l)
    (take_all c.loop-entry.entry-index c.args.entries.now (subst (λ (l : List ConffileEntry). length l ≤ c.loop-entry.entry-index) c.as_slice-entry-items.ensures c.loop-entry-test.false))
