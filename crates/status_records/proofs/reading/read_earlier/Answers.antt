use Rattle.std.proofs.Common.{ap, ◌∙◌}
use Rattle.std.specs.List.{list_all}
use Rattle.status_records.specs.ConffileFields.{is_conffile_line, is_pending_line, are_apart, conffile_paths, pending_paths}
use Rattle.status_records.proofs.ConffileReading.{conffiles_read, pending_read}
use Rattle.status_records.proofs.reading.read_earlier.Goals as goal

pub conffiles_of-requires-clause-lines : goal.conffiles_of-requires-clause-lines
conffiles_of-requires-clause-lines c = ap (list_all is_conffile_line) c.lines_in.ensures ∙ (conffiles_read c.args.fields.now c.requires).0

pub conffiles_of-requires-clause-apart : goal.conffiles_of-requires-clause-apart
conffiles_of-requires-clause-apart c = ap (λ l. are_apart (conffile_paths l)) c.lines_in.ensures ∙ (conffiles_read c.args.fields.now c.requires).1

pub pending_digests_of-requires-clause-lines : goal.pending_digests_of-requires-clause-lines
pending_digests_of-requires-clause-lines c = ap (list_all is_pending_line) c.lines_in-2.ensures ∙ (pending_read c.args.fields.now c.requires).0

pub pending_digests_of-requires-clause-apart : goal.pending_digests_of-requires-clause-apart
pending_digests_of-requires-clause-apart c = ap (λ l. are_apart (pending_paths l)) c.lines_in-2.ensures ∙ (pending_read c.args.fields.now c.requires).1
