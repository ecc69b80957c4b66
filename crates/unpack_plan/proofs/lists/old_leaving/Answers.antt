use Rattle.std.proofs.Common.{sym, subst}
use Rattle.listed_files.specs.Closing.{SparesAdministration}
use Rattle.unpack_plan.proofs.Sparing.{leaving_spares}
use Rattle.unpack_plan.proofs.lists.old_leaving.Goals as goal

pub returns-clause-spares : goal.returns-clause-spares
returns-clause-spares c =
    subst SparesAdministration (sym c.in_ok-leaving.ensures) (leaving_spares c.args.diversions.now.ways c.args.lists.now.lists c.args.name.now c.args.new_list.now c.as_slice.result.now c.args.listed.now)
