use Rattle.std.proofs.Common.{refl, ap, ◌∙◌}
use Rattle.host_core.specs.declared.call.Script.TheVariants as script
use Rattle.undo_rows.specs.declared.rows.Owner.TheVariants.{Package as OfPackage}
use Rattle.unpack_rows.specs.ForwardRows.{new_call}
use Rattle.unpack_rows.proofs.RowParts.{row_is}
use Rattle.unpack_rows.proofs.rows.upgrade_row.Goals as goal

pub returns : goal.returns
returns c =
    let v = c.args.versions.now in
    row_is _ _ _ _ _ _ _ _ (ap OfPackage c.in_ok-copy.ensures)
    (c.in_ok-new_call.ensures ∙ ap (new_call v.name.now v.tree script.Preinst) c.in_ok-upgrade.ensures)
    refl
    (c.in_ok-new_call-2.ensures ∙ ap (new_call v.name.now v.tree script.Postrm) c.in_ok-abort.ensures)
