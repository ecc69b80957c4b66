use Rattle.in_favour_rows.proofs.Named.{record_named}
use Rattle.in_favour_rows.proofs.others.other_package.Goals as goal

pub look_for_scripts-requires : goal.look_for_scripts-requires
look_for_scripts-requires g c = record { named = record_named c.args.entry.now.«record» }

pub row_of-requires : goal.row_of-requires
row_of-requires g c = record { named = record_named c.args.entry.now.«record» }
