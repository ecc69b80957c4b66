use Rattle.std.proofs.Common.{◌≡◌, subst}
use Rattle.std.specs.Option.{option_copied}
use Rattle.std.specs.Prelude.{IfOk}
use Rattle.unpack_rows.specs.ForwardRows.{others_rows, rows_from}
use Rattle.unpack_rows.specs.Kinds.{own_of}
use Rattle.unpack_rows.proofs.rows.rows_of.Goals as goal

pub returns : goal.returns
returns c =
    let new = c.args.incoming.now.version in
    let others = others_rows c.args.others.items in
    subst (λ s. IfOk c.rows_from.result (λ rows. rows.items ≡ rows_from (own_of (option_copied c.args.start) c.args.incoming.now).name (own_of (option_copied c.args.start) c.args.incoming.now).version new c.args.stored c.args.tree s others)) c.state_of.ensures
    (subst (λ own. IfOk c.rows_from.result (λ rows. rows.items ≡ rows_from own.name own.version new c.args.stored c.args.tree c.state_of.result others)) c.own_of-own.ensures c.rows_from.ensures)
