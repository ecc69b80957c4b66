use Rattle.unpack_plan.proofs.Recordable.{recordable}
use Rattle.unpack_plan.proofs.records.incoming_record.Goals as goal

pub of_package-requires-clause-readable : goal.of_package-requires-clause-readable
of_package-requires-clause-readable c =
    let tree = c.args.tree.now in
    recordable tree.control tree.written tree.readable

pub returns : goal.returns
returns c =
    let e = c.in_ok-record.ensures in
    record { name_is = e.name; want_is = e.want; flag_is = e.flag; state_is = e.state; version_is = e.version; config_is = e.config; removed_is = e.removed; conffiles_are = e.conffiles; pending_are = e.pending; triggers_are = e.triggers; fields_are = e.fields }
