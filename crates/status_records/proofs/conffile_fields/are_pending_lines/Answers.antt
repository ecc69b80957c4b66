use Rattle.std.proofs.Common.{◌≡◌, ℕ, List, sym, ap, ◌∙◌}
use Rattle.std.specs.List.{list_any}
use Rattle.std.specs.Str.{bytes_eq}
use Rattle.status_records.specs.declared.entries.PendingDigest.{PendingDigest}
use Rattle.status_records.specs.ConffileFields.{PendingWords, pending_words, is_pending_line, words_of_pending}
use Rattle.status_records.proofs.Apart.{known, unknown, some_read, read_more, stood}
use Rattle.status_records.proofs.conffile_fields.are_pending_lines.Goals as goal

pub returns-then-not-branch : goal.returns-then-not-branch
returns-then-not-branch c =
    let line = c.as_slice.result.now in
    let path = c.in-Some.pending.path in
    let read = some_read c.in_ok-pending.field-0 c.in-Some.pending (is_pending_line line) (λ (e : PendingDigest). words_of_pending e ≡ pending_words line) c.in-Some.is c.in_ok-pending.ensures in
    stood is_pending_line (λ (l : List ℕ). (pending_words l).path) c.args.lines.now c.loop-line.line-index c.line-item.result path c.loop-line.seen c.loop-line-test.true c.line-item.is
    (ap (λ (w : PendingWords). w.path) read.1 ∙ ap (λ (l : List ℕ). (pending_words l).path) c.as_slice.ensures)
    (known (list_any (bytes_eq path) c.loop-line.seen) c.in_ok-is_new.field-0 c.in_ok-is_new.ensures.new c.if-not-branch.true) c.loop-line.invariant.1

pub loop-line-preserved : goal.loop-line-preserved
loop-line-preserved c =
    let line = c.as_slice.result.now in
    let path = c.in-Some.pending.path in
    let read = some_read c.in_ok-pending.field-0 c.in-Some.pending (is_pending_line line) (λ (e : PendingDigest). words_of_pending e ≡ pending_words line) c.in-Some.is c.in_ok-pending.ensures in
    read_more is_pending_line (λ (l : List ℕ). (pending_words l).path) c.args.lines.now c.loop-line.line-index c.line-item.result path c.loop-line.seen c.is_new.new.seen c.loop-line-test.true c.line-item.is
    (ap is_pending_line (sym c.as_slice.ensures) ∙ read.0) (ap (λ (w : PendingWords). w.path) read.1 ∙ ap (λ (l : List ℕ). (pending_words l).path) c.as_slice.ensures)
    (unknown (list_any (bytes_eq path) c.loop-line.seen) c.in_ok-is_new.field-0 c.in_ok-is_new.ensures.new c.if-not-branch.false) c.in_ok-is_new.ensures.seen c.loop-line.invariant
