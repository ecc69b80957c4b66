-- With `--json`: what the lines are of that answer what is asked.
use Rattle.std.specs.Prelude.{Option, Some, None}
use Rattle.command_words.specs.declared.query.Question.{Question}
use Rattle.command_words.specs.declared.query.Question.TheVariants as question
use Rattle.command_words.specs.declared.words.Asked.{Asked}
use Rattle.command_words.specs.declared.words.Asked.TheVariants as asked
use Rattle.record_formats.specs.declared.layouts.Layout.{Layout}
use Rattle.record_formats.specs.declared.layouts.Layout.TheVariants.{Lines, Table, Format}
use Rattle.json_lines.specs.declared.forms.Kind.{Kind}
use Rattle.json_lines.specs.declared.forms.Kind.TheVariants.{Units, Diverting, Listing, Selections, Audit, Verification, Paths, Search, Diversions, Paragraph}

-- a table, and what a format makes, are texts of no such lines
abbrev pub layout_kind : Layout → Option Kind
layout_kind Lines = Some Listing
layout_kind Table = None
layout_kind (Format pieces) = None

abbrev pub question_kind : Question → Option Kind
question_kind question.Audit = Some Audit
question_kind question.Diversions = Some Diversions
question_kind (question.List layout patterns) = layout_kind layout
question_kind (question.ListFiles name) = Some Paths
question_kind (question.Search path) = Some Search
question_kind (question.SearchMatching pattern) = Some Search
question_kind (question.Selections patterns) = Some Selections
question_kind (question.Status name) = Some Paragraph
question_kind (question.Truename name path) = Some Paths

-- a screen and the version are texts of no such lines
abbrev pub kind_of : Asked → Option Kind
kind_of asked.Names = None
kind_of asked.Version = None
kind_of (asked.Help topic) = None
kind_of (asked.CompareVersions c) = None
kind_of (asked.Divert d) = Some Diverting
kind_of (asked.Undivert u) = Some Diverting
kind_of (asked.Unpack u) = Some Units
kind_of (asked.Install u) = Some Units
kind_of (asked.Configure c) = Some Units
kind_of (asked.ProcessTriggers p) = Some Units
kind_of (asked.Remove r) = Some Units
kind_of (asked.Purge r) = Some Units
kind_of (asked.Select s) = Some Units
kind_of (asked.RemoveSelected s) = Some Units
kind_of (asked.Query q) = question_kind q.question
kind_of (asked.Verify v) = Some Verification
