use Rattle.std.proofs.Common.{◌≡◌, ap, sym, ◌∙◌}
use Rattle.status_records.specs.declared.entries.PendingDigest.{PendingDigest}
use Rattle.status_records.specs.ConffileFields.{PendingWords, pending_words, words_of_pending, is_pending_line}
use Rattle.status_records.proofs.Apart.{some_read}
use Rattle.status_records.proofs.Placing.{put_new, put_more, not_unread}
use Rattle.status_records.proofs.conffile_reading.pending_digests_of.Goals as goal
use Rattle.status_records.proofs.conffile_reading.pending_digests_of.Goals.{in-Some+in_ok-put, in_default}

pub put-requires : goal.put-requires
put-requires c =
    let e = c.in-Some.digest in
    let read = some_read c.in_ok-digest.field-0 e (is_pending_line c.as_slice.result.now) (λ (x : PendingDigest). words_of_pending x ≡ pending_words c.as_slice.result.now) c.in-Some.is c.in_ok-digest.ensures in
    put_new words_of_pending (λ (x : PendingWords). x.path) pending_words c.args.lines.now c.loop-line.line-index c.line-item.result c.loop-line.pending e c.loop-line-test.true c.line-item.is (read.1 ∙ ap pending_words c.as_slice.ensures) c.loop-line.invariant c.requires.apart

pub loop-line-preserved : goal.loop-line-preserved
loop-line-preserved c = elim c.match-branch-2.branch [
  | in-Some+in_ok-put w ↦
      let e = w.in-Some.digest in
      let read = some_read c.in_ok-digest.field-0 e (is_pending_line c.as_slice.result.now) (λ (x : PendingDigest). words_of_pending x ≡ pending_words c.as_slice.result.now) w.in-Some.is c.in_ok-digest.ensures in
      put_more words_of_pending (λ (x : PendingWords). x.path) pending_words c.args.lines.now c.loop-line.line-index c.line-item.result c.loop-line.pending e c.loop-line-test.true c.line-item.is (read.1 ∙ ap pending_words c.as_slice.ensures) c.loop-line.invariant
      c.match-branch-2.pending (w.pending-is ∙ w.in_ok-put.ensures.ok)
  | in_default w ↦ absurd (not_unread is_pending_line c.args.lines.now c.loop-line.line-index c.line-item.result c.loop-line-test.true c.line-item.is c.requires.lines (ap is_pending_line (sym c.as_slice.ensures) ∙ (rw w.in_default.is at c.in_ok-digest.ensures)))
]
