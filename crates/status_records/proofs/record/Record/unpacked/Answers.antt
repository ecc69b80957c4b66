use Rattle.std.proofs.Common.{refl, ◌∙◌}
use Rattle.status_records.proofs.RecordedFields.{writable_of}
use Rattle.status_records.proofs.record.Record.unpacked.Goals as goal

pub invariant_of-result-3-clause-writable : goal.invariant_of-result-3-clause-writable
invariant_of-result-3-clause-writable c = writable_of c.in_ok-copy.field-0 c.args.name.now c.in_ok-fields_of.field-0 c.args.control.now c.in_ok-copy.ensures c.requires.named c.in_ok-fields_of.ensures c.requires.written c.requires.readable

pub returns : goal.returns
returns c = record {
  name_is = c.in_ok-copy.ensures;
  want_is = refl;
  flag_is = refl;
  state_is = refl;
  version_is = c.in_ok-copy-2.ensures;
  config_is = c.in_ok-version_beside.ensures ∙ c.last_of.ensures;
  removed_is = c.removed_of.ensures;
  conffiles_are = c.conffiles.view_is;
  pending_are = c.pending.view_is;
  triggers_are = c.none.ensures;
  fields_are = c.in_ok-fields_of.ensures;
}
