use Rattle.host_core.specs.declared.call.Script.TheVariants.{Postinst}
use Rattle.administration.proofs.NamePaths.{script_is_path}
use Rattle.trigger_engine.proofs.unit.has_postinst.Goals as goal

pub script_path-requires : goal.script_path-requires
script_path-requires g c = script_is_path c.args.name.now Postinst c.requires.named
