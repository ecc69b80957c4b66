use Rattle.std.proofs.Common.{sym, subst}
use Rattle.listed_files.specs.Concluding.{AreElsewhere}
use Rattle.removal_engine.proofs.Elsewhere.{append_elsewhere, nothing_elsewhere, stopped_elsewhere}
use Rattle.removal_engine.proofs.names.cleared_names.Goals as goal

pub returns-clause-elsewhere : goal.returns-clause-elsewhere
returns-clause-elsewhere c =
    let ways = c.args.diversions.now.ways in
    let name = c.args.entry.now.name in
    subst AreElsewhere (sym c.in_ok-push_all_stopped.ensures) (append_elsewhere _ _ (subst AreElsewhere (sym c.new-names.ensures.items) nothing_elsewhere) (stopped_elsewhere ways name c.as_slice-2.result.now c.list_of-listed.result.now))
