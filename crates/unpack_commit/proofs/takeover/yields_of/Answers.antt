use Rattle.std.proofs.Common.{sym, ◌∙◌}
use Rattle.status_records.specs.declared.record.Record.{Record}
use Rattle.unpack_commit.specs.Takeover.{is_config_files}
use Rattle.unpack_commit.proofs.Filtering.{told_more, untold}
use Rattle.unpack_commit.proofs.takeover.yields_of.Goals as goal
use Rattle.unpack_commit.proofs.takeover.yields_of.Goals.{then-is_config_files+in_ok-copy+in_ok-push, else-is_config_files}

pub loop-entry-preserved : goal.loop-entry-preserved
loop-entry-preserved c =
    let i = c.loop-entry.entry-index in
    let e = c.entry-item.result in
    elim c.if-is_config_files.branch [
      | then-is_config_files+in_ok-copy+in_ok-push w ↦
          told_more (λ (r : Record). is_config_files r.state) c.args.records.now i e c.loop-entry-test.true c.entry-item.is (λ (r : Record). r.name) (sym c.is_config_files.ensures ∙ w.if-is_config_files.true)
          c.loop-entry.names c.if-is_config_files.names w.in_ok-copy.field-0 c.loop-entry.invariant w.in_ok-copy.ensures (w.names-is ∙ w.in_ok-push.ensures.ok)
      | else-is_config_files w ↦
          untold (λ (r : Record). is_config_files r.state) c.args.records.now i e c.loop-entry-test.true c.entry-item.is (λ (r : Record). r.name) (sym c.is_config_files.ensures ∙ w.if-is_config_files.false)
          c.loop-entry.names c.if-is_config_files.names c.loop-entry.invariant w.names-is
    ]
