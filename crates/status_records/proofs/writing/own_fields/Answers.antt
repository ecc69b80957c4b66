use Rattle.status_records.proofs.OwnFields.{own_laid}
use Rattle.status_records.proofs.writing.own_fields.Goals as goal

pub returns-clause-fields : goal.returns-clause-fields
returns-clause-fields c =
    own_laid c.args.entry.now _ _ _ _ _ _ c.in_ok-add_first_fields.ensures.fields c.in_ok-add_config.ensures.field c.in_ok-add_conffiles.ensures c.in_ok-add_triggers.ensures.fields c.in_ok-add_removed.ensures c.in_ok-add_pending.ensures

pub returns-clause-parts : goal.returns-clause-parts
returns-clause-parts c = record {
  version = c.in_ok-add_first_fields.ensures.version;
  config_version = c.in_ok-add_config.ensures.version;
  conffiles = c.law.ensures;
  pending = c.law-2.ensures;
  triggers_pending = c.in_ok-add_triggers.ensures.pending;
  triggers_awaited = c.in_ok-add_triggers.ensures.awaited;
}
