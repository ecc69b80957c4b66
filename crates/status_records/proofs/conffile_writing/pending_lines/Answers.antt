use Rattle.std.proofs.Common.{◌≡◌, ℕ, ◌<◌, ◌≤◌, List, [], ◌∷◌, ◌++◌, length, map, take, get_or, ap, sym, subst, ◌∙◌}
use Rattle.std.proofs.lemmas.List.{take_all}
use Rattle.status_records.specs.declared.entries.PendingDigest.{PendingDigest}
use Rattle.status_records.specs.ConffileFields.{pending_line}
use Rattle.status_records.proofs.Apart.{mapped_more}
use Rattle.status_records.proofs.conffile_writing.pending_lines.Goals as goal

pub loop-digest-preserved : goal.loop-digest-preserved
loop-digest-preserved c =
    let xs = c.args.pending.now in
    let i = c.loop-digest.digest-index in
    let x = c.digest-item.result in
    let value = c.as_slice-digest-items.ensures in
    let lt : i < length xs = subst (λ (l : List PendingDigest). i < length l) value c.loop-digest-test.true in
    let at : x ≡ get_or xs i x = c.digest-item.is ∙ ap (λ (l : List PendingDigest). get_or l i x) value in
    c.in_ok-push.ensures.ok ∙ ap (λ (l : List (List ℕ)). l ++ c.in_ok-pending_line.field-0 ∷ []) c.loop-digest.invariant
    ∙ ap (λ (l : List ℕ). map pending_line (take i xs) ++ l ∷ []) c.in_ok-pending_line.ensures ∙ sym (mapped_more pending_line xs i x lt at)

pub returns : goal.returns
returns c =
    c.loop-digest.invariant
    ∙ ap (map pending_line) (take_all c.loop-digest.digest-index c.args.pending.now (subst (λ (l : List PendingDigest). length l ≤ c.loop-digest.digest-index) c.as_slice-digest-items.ensures c.loop-digest-test.false))
