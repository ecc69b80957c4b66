use Rattle.host_core.specs.declared.call.Script.TheVariants.{Postinst}
use Rattle.administration.proofs.NamePaths.{script_is_path}
use Rattle.trigger_engine.proofs.stages.triggered_call.Goals as goal

pub script_path-requires : goal.script_path-requires
script_path-requires c = script_is_path c.args.entry.now.name Postinst c.requires
