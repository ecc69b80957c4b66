-- The path of a line ends in no blank.
use Rattle.std.proofs.Common.{◌≡◌, ℕ, true, List, take}
use Rattle.std.proofs.lemmas.Slice.Eq.{bytes_eq-Decides}
use Rattle.control_fields.specs.Names.{trim_end}
use Rattle.control_fields.proofs.Trims.{trim_end_again}
use Rattle.status_records.specs.ConffilePaths.{is_trimmed}
use Rattle.status_records.specs.ConffileFields.{word_start, words_before}

pub words_trimmed : (text : List ℕ) → is_trimmed (words_before text) ≡ true
words_trimmed text = (bytes_eq-Decides (trim_end (words_before text)) (words_before text)).1 (trim_end_again (take (word_start text) text))
