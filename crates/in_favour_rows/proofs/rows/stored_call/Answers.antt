use Rattle.administration.proofs.NamePaths.{script_is_path}
use Rattle.in_favour_rows.proofs.rows.stored_call.Goals as goal

pub script_path-requires : goal.script_path-requires
script_path-requires c = script_is_path c.args.name.now c.args.script c.requires.named
