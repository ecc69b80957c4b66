use Rattle.std.proofs.Common.{sym, subst}
use Rattle.listed_files.specs.Concluding.{AreElsewhere}
use Rattle.unpack_plan.proofs.Elsewhere.{append_elsewhere, backups_elsewhere, cut_elsewhere}
use Rattle.unpack_plan.proofs.names.cleared_names.Goals as goal

pub add_left-requires : goal.add_left-requires
add_left-requires c = subst AreElsewhere (sym c.in_ok-names.ensures) (backups_elsewhere c.args.works.now c.requires)

pub returns-clause-elsewhere : goal.returns-clause-elsewhere
returns-clause-elsewhere c = subst AreElsewhere (sym c.in_ok-add_cut.ensures) (append_elsewhere _ _ c.in_ok-add_left.ensures.elsewhere (cut_elsewhere _ c.args.leaving.now))
