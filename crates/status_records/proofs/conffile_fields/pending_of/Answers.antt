use Rattle.std.proofs.Common.{ap, sym, ◌∙◌}
use Rattle.std.proofs.lemmas.Bool.{and_from}
use Rattle.hex.specs.Hex.{encode_lower}
use Rattle.conffiles.specs.Digests.{is_digest_text}
use Rattle.status_records.specs.ConffilePaths.{is_ship_path, is_trimmed}
use Rattle.status_records.specs.ConffileFields.{last_word, line_text, pending_words, words_of_pending}
use Rattle.status_records.proofs.EntryLines.{same_pending}
use Rattle.status_records.proofs.TrimmedPaths.{words_trimmed}
use Rattle.status_records.proofs.conffile_fields.pending_of.Goals as goal

pub new-requires : goal.new-requires
new-requires c =
    let read = rw c.in-Some-2.is at c.in_ok-path.ensures in
    ap is_trimmed (read.1 ∙ c.pending_path.ensures) ∙ words_trimmed (line_text c.args.line.now)

pub returns-in-Some-2 : goal.returns-in-Some-2
returns-in-Some-2 c =
    let words = pending_words c.args.line.now in
    let read = rw c.in-Some-2.is at c.in_ok-path.ensures in
    let digest = c.last_word.ensures ∙ ap last_word c.line_text.ensures in (
      and_from (is_digest_text words.digest) (is_ship_path words.path) (ap is_digest_text (sym digest) ∙ sym c.in-Some.ensures.exact) (ap is_ship_path (sym c.pending_path.ensures) ∙ read.0),
      same_pending (words_of_pending c.new.result) words (c.new.ensures.path ∙ read.1 ∙ c.pending_path.ensures) (ap encode_lower c.new.ensures.digest ∙ c.in-Some.ensures.value ∙ digest),
    )
