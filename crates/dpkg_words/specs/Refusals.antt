-- Why dpkg's words aren't carried out, in a line.
use Rattle.std.specs.Prelude.{ℕ, ◌++◌, codes}
use Rattle.std.specs.Fmt.{decimal}
use Rattle.shown_lines.specs.Lines.{shown}
use Rattle.dpkg_words.specs.Options.{Text}
use Rattle.dpkg_words.specs.declared.refusals.Why.{Why}
use Rattle.dpkg_words.specs.declared.refusals.Why.TheVariants as why

abbrev pub why_text : Why → Text
why_text why.Unknown = codes "unknown option "
why_text why.NoValue = codes "the last option takes a value"
why_text why.ValueTaken = codes "no value is taken by "
why_text why.Conflict = codes "conflicting actions, the second one is "
why_text why.NoAction = codes "need an action option"
why_text why.Thing = codes "unknown thing to force or refuse in "
why_text why.Administration = codes "the administration is var/lib/dpkg of the root, and not "
why_text why.RelativeRoot = codes "the root is no absolute directory: "
why_text why.NoWords = codes "a word is wanted behind "
why_text why.OneWord = codes "one word is taken behind "
why_text why.ThreeWords = codes "VERSION OPERATOR VERSION are wanted behind "
why_text why.Words = codes "no word is taken behind "
why_text why.Pattern = codes "only a path or a pattern of * and ? can be searched for, and not "
why_text why.Filter = codes "only a pattern of * and ? without quotes is taken for paths, and not "
why_text why.Number = codes "invalid integer for --status-fd: "
why_text why.Limit = codes "invalid integer for --abort-after: "

abbrev pub fault_line : Why → Text → Text
fault_line why word = codes "error: " ++ (why_text why ++ (shown word ++ codes "\n"))

-- which line of standard input can't be read
abbrev pub line_fault : ℕ → Text
line_fault number = codes "error: PKG WANT is wanted in line " ++ (decimal number ++ codes "\n")
