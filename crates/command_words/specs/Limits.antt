-- How many units words let fail before no further one is begun.
use Rattle.std.specs.Prelude.{ℕ, List, Option, Some, None, codes, max, option_map}
use Rattle.clap.specs.Words.{Row, Text, first_of}
use Rattle.command_words.specs.Waits.{number_in}

-- As many as is given, and any number where nothing is. As dpkg has it the first failure is counted before the number is looked at, so
-- that 0 is 1.
abbrev pub limit_from : Option Text → Option (Option ℕ)
limit_from None = Some None
limit_from (Some text) = option_map (λ n. Some (max n 1)) (number_in text)

abbrev pub limit_of : List Row → Option (Option ℕ)
limit_of rows = limit_from (first_of (codes "abort-after") rows)
