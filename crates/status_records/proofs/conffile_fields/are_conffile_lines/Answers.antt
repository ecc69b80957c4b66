use Rattle.std.proofs.Common.{◌≡◌, ℕ, List, sym, ap, ◌∙◌}
use Rattle.std.specs.List.{list_any}
use Rattle.std.specs.Str.{bytes_eq}
use Rattle.status_records.specs.declared.entries.ConffileEntry.{ConffileEntry}
use Rattle.status_records.specs.ConffileFields.{ConffileWords, conffile_words, is_conffile_line, words_of_conffile}
use Rattle.status_records.proofs.Apart.{known, unknown, some_read, read_more, stood}
use Rattle.status_records.proofs.conffile_fields.are_conffile_lines.Goals as goal

pub returns-then-not-branch : goal.returns-then-not-branch
returns-then-not-branch c =
    let line = c.as_slice.result.now in
    let path = c.in-Some.entry.path in
    let read = some_read c.in_ok-entry.field-0 c.in-Some.entry (is_conffile_line line) (λ (e : ConffileEntry). words_of_conffile e ≡ conffile_words line) c.in-Some.is c.in_ok-entry.ensures in
    stood is_conffile_line (λ (l : List ℕ). (conffile_words l).path) c.args.lines.now c.loop-line.line-index c.line-item.result path c.loop-line.seen c.loop-line-test.true c.line-item.is
    (ap (λ (w : ConffileWords). w.path) read.1 ∙ ap (λ (l : List ℕ). (conffile_words l).path) c.as_slice.ensures)
    (known (list_any (bytes_eq path) c.loop-line.seen) c.in_ok-is_new.field-0 c.in_ok-is_new.ensures.new c.if-not-branch.true) c.loop-line.invariant.1

pub loop-line-preserved : goal.loop-line-preserved
loop-line-preserved c =
    let line = c.as_slice.result.now in
    let path = c.in-Some.entry.path in
    let read = some_read c.in_ok-entry.field-0 c.in-Some.entry (is_conffile_line line) (λ (e : ConffileEntry). words_of_conffile e ≡ conffile_words line) c.in-Some.is c.in_ok-entry.ensures in
    read_more is_conffile_line (λ (l : List ℕ). (conffile_words l).path) c.args.lines.now c.loop-line.line-index c.line-item.result path c.loop-line.seen c.is_new.new.seen c.loop-line-test.true c.line-item.is
    (ap is_conffile_line (sym c.as_slice.ensures) ∙ read.0) (ap (λ (w : ConffileWords). w.path) read.1 ∙ ap (λ (l : List ℕ). (conffile_words l).path) c.as_slice.ensures)
    (unknown (list_any (bytes_eq path) c.loop-line.seen) c.in_ok-is_new.field-0 c.in_ok-is_new.ensures.new c.if-not-branch.false) c.in_ok-is_new.ensures.seen c.loop-line.invariant
