-- What words ask of an administration without a change to it.
use Rattle.std.specs.Prelude.{◌||◌, Bool, true, false, List, Option, Some, None, option_map, codes, if◌then◌else◌}
use Rattle.std.specs.List.{list_all}
use Rattle.std.specs.Str.{bytes_eq}
use Rattle.clap.specs.Words.{Row, Text, all_of, first_of}
use Rattle.name_patterns.specs.Patterns.{is_readable, is_wild}
use Rattle.record_formats.specs.Formats.{pieces_of}
use Rattle.record_formats.specs.declared.layouts.Layout.{Layout}
use Rattle.record_formats.specs.declared.layouts.Layout.TheVariants.{Lines, Table, Format}
use Rattle.command_words.specs.Given.{all_given, is_absolute, is_package, is_set}
use Rattle.command_words.specs.declared.query.Query.{Query}
use Rattle.command_words.specs.declared.query.Question.{Question}
use Rattle.command_words.specs.declared.query.Question.TheVariants as question

-- the place of a path, for a package or for all
abbrev pub truename_from : Option Text → Option Text → Option Question
truename_from «package» None = None
truename_from «package» (Some path) = if is_package «package» then Some (question.Truename «package» path) else None

-- patterns for the names of packages, of which none stands for all; each can be read
abbrev pub patterns_from : List Text → Option (List Text)
patterns_from patterns = if list_all is_readable patterns then Some patterns else None

abbrev pub patterns_of : List Row → Option (List Text)
patterns_of rows = patterns_from (all_given (all_of (codes "PATTERN") rows))

-- how packages are told: by a format that can be read, by dpkg's table, or by a line each; no two of these, and only lines as objects
abbrev pub layout_from : Option Text → Bool → Bool → Option Layout
layout_from (Some format) table json = if table || json then None else option_map Format (pieces_of format)
layout_from None true json = if json then None else Some Table
layout_from None false json = Some Lines

abbrev pub layout_of : List Row → Option Layout
layout_of rows = layout_from (first_of (codes "format") rows) (is_set (first_of (codes "table") rows)) (is_set (first_of (codes "json") rows))

abbrev pub list_from : Option Layout → Option (List Text) → Option Question
list_from (Some layout) (Some patterns) = Some (question.List layout patterns)
list_from _ _ = None

-- a path, by its place, or a pattern for listed paths
abbrev pub search_from : Option Text → Option Question
search_from None = None
search_from (Some path) =
    if is_wild path then (if is_readable path then Some (question.SearchMatching path) else None)
    else Some (question.Search path)

-- what a subcommand asks with these texts
abbrev pub question_of : Text → List Row → Option Question
question_of name rows =
    if bytes_eq name (codes "audit") then Some question.Audit
    else if bytes_eq name (codes "diversions") then Some question.Diversions
    else if bytes_eq name (codes "list") then list_from (layout_of rows) (patterns_of rows)
    else if bytes_eq name (codes "listfiles") then option_map question.ListFiles (first_of (codes "PKG") rows)
    else if bytes_eq name (codes "search") then search_from (first_of (codes "PATH") rows)
    else if bytes_eq name (codes "selections") then option_map question.Selections (patterns_of rows)
    else if bytes_eq name (codes "status") then option_map question.Status (first_of (codes "PKG") rows)
    else if bytes_eq name (codes "truename") then truename_from (first_of (codes "package") rows) (first_of (codes "PATH") rows)
    else None

-- a question about the administration under an absolute root
abbrev pub query_from : Option Text → Option Question → Option Query
query_from (Some root) (Some question) = if is_absolute root then Some (record { root = root; question = question }) else None
query_from _ _ = None

abbrev pub query_of : Text → List Row → Option Query
query_of name rows = query_from (first_of (codes "root") rows) (question_of name rows)
