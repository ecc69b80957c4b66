use Rattle.std.proofs.Common.{ap, ◌∙◌}
use Rattle.host_core.specs.declared.call.Script.TheVariants as script
use Rattle.undo_rows.specs.declared.rows.Owner.TheVariants.{Package as OfPackage}
use Rattle.unpack_rows.specs.ForwardRows.{new_call, old_call}
use Rattle.unpack_rows.proofs.RowParts.{row_is}
use Rattle.unpack_rows.proofs.rows.prerm_row.Goals as goal

pub returns : goal.returns
returns c =
    let v = c.args.versions.now in
    row_is _ _ _ _ _ _ _ _ (ap OfPackage c.in_ok-copy.ensures)
    (c.in_ok-old_call.ensures ∙ ap (old_call v.name.now v.stored script.Prerm) c.in_ok-upgrade.ensures)
    (c.in_ok-new_call.ensures ∙ ap (new_call v.name.now v.tree script.Prerm) c.in_ok-failed.ensures)
    (c.in_ok-old_call-2.ensures ∙ ap (old_call v.name.now v.stored script.Postinst) c.in_ok-abort.ensures)
