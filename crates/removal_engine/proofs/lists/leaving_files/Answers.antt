use Rattle.std.proofs.Common.{sym, subst}
use Rattle.listed_files.specs.Closing.{SparesAdministration}
use Rattle.removal_engine.proofs.Sparing.{leaving_spares}
use Rattle.removal_engine.proofs.lists.leaving_files.Goals as goal

pub returns-clause-spares : goal.returns-clause-spares
returns-clause-spares c =
    subst SparesAdministration (sym c.in_ok-leaving.ensures) (leaving_spares c.args.diversions.now.ways c.args.lists.now.lists c.args.entry.now.name _ c.as_slice-2.result.now _)
