use Rattle.std.proofs.Common.{ap, sym, ◌∙◌}
use Rattle.std.proofs.lemmas.Bool.{and_from}
use Rattle.status_records.specs.ConffilePaths.{is_ship_path, is_trimmed}
use Rattle.status_records.specs.Digests.{is_recorded_text, digest_word}
use Rattle.status_records.specs.ConffileFields.{last_word, text_before_flags, conffile_words, words_of_conffile}
use Rattle.status_records.proofs.EntryLines.{same_words}
use Rattle.status_records.proofs.TrimmedPaths.{words_trimmed}
use Rattle.status_records.proofs.conffile_fields.conffile_of.Goals as goal

pub new-requires : goal.new-requires
new-requires c =
    let read = rw c.in-Some-2.is at c.in_ok-path.ensures in
    ap is_trimmed (read.1 ∙ c.conffile_path.ensures) ∙ words_trimmed (text_before_flags c.args.line.now)

pub returns-in-Some-2 : goal.returns-in-Some-2
returns-in-Some-2 c =
    let line = c.args.line.now in
    let words = conffile_words line in
    let read = rw c.in-Some-2.is at c.in_ok-path.ensures in
    let digest = c.last_word.ensures ∙ ap last_word c.text_before_flags.ensures in (
      and_from (is_recorded_text words.digest) (is_ship_path words.path) (ap is_recorded_text (sym digest) ∙ sym c.in-Some.ensures.exact) (ap is_ship_path (sym c.conffile_path.ensures) ∙ read.0),
      same_words (words_of_conffile c.new.result) words (c.new.ensures.path ∙ read.1 ∙ c.conffile_path.ensures) (ap digest_word c.new.ensures.digest ∙ c.in-Some.ensures.value ∙ digest)
          (c.new.ensures.obsolete ∙ c.is_obsolete-obsolete.ensures) (c.new.ensures.remove_on_upgrade ∙ c.is_removed_on_upgrade-remove_on_upgrade.ensures),
    )
