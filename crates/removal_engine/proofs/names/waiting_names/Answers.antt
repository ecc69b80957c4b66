use Rattle.std.proofs.Common.{sym, subst}
use Rattle.listed_files.specs.Concluding.{AreElsewhere}
use Rattle.removal_engine.proofs.Elsewhere.{append_elsewhere, nothing_elsewhere, waiting_elsewhere}
use Rattle.removal_engine.proofs.names.waiting_names.Goals as goal

pub returns-clause-elsewhere : goal.returns-clause-elsewhere
returns-clause-elsewhere c =
    subst AreElsewhere (sym c.in_ok-push_waiting.ensures) (append_elsewhere _ _ (subst AreElsewhere (sym c.new-names.ensures.items) nothing_elsewhere) (waiting_elsewhere c.args.diversions.now.ways c.args.entry.now.name c.as_slice-pending.result.now))
