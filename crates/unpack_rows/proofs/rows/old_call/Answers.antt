use Rattle.administration.proofs.NamePaths.{script_is_path}
use Rattle.unpack_rows.proofs.rows.old_call.Goals as goal

pub script_path-requires : goal.script_path-requires
script_path-requires c = script_is_path c.args.versions.now.name.now c.args.script c.requires.named
