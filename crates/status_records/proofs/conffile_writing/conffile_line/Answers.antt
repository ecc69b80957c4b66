use Rattle.std.proofs.Common.{◌++◌, ℕ, List, ap, ◌∙◌, codes}
use Rattle.status_records.specs.Digests.{digest_word}
use Rattle.status_records.specs.ConffileFields.{flag_text}
use Rattle.status_records.proofs.Answered.{line_parts}
use Rattle.status_records.proofs.conffile_writing.conffile_line.Goals as goal

pub returns : goal.returns
returns c =
    let e = c.args.entry.now in
    let path = c.in_ok-extend_from_slice.ensures.items ∙ ap (λ (l : List ℕ). c.push.new.self.items ++ l) (c.as_bytes.ensures.value ∙ c.as_str.ensures) in
    c.new.ensures
    ∙ line_parts c.new-line.result.items c.push.new.self.items c.extend_from_slice.new.self.items c.push-2.new.self.items c.add_recorded.new.line.items c.add_flag.new.line.items c.add_flag-2.new.line.items e.path (digest_word e.digest)
    (flag_text e.obsolete (codes "obsolete")) (flag_text e.remove_on_upgrade (codes "remove-on-upgrade")) c.new-line.ensures.items c.in_ok-push.ensures.items path c.in_ok-push-2.ensures.items c.in_ok-add_recorded.ensures c.in_ok-add_flag.ensures c.in_ok-add_flag-2.ensures
