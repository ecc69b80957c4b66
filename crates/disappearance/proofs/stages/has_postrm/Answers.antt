use Rattle.host_core.specs.declared.call.Script.TheVariants.{Postrm}
use Rattle.administration.proofs.NamePaths.{script_is_path}
use Rattle.disappearance.proofs.stages.has_postrm.Goals as goal

pub script_path-requires : goal.script_path-requires
script_path-requires g c = script_is_path c.args.name.now Postrm c.requires.named
