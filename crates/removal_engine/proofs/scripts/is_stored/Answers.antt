use Rattle.administration.proofs.NamePaths.{script_is_path}
use Rattle.removal_engine.proofs.scripts.is_stored.Goals as goal

pub script_path-requires : goal.script_path-requires
script_path-requires g c = script_is_path c.args.name.now c.args.script c.requires.named
