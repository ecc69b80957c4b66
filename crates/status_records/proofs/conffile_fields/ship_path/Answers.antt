use Rattle.status_records.proofs.ConffileReading.{ship_read, no_ship}
use Rattle.status_records.proofs.conffile_fields.ship_path.Goals as goal

pub returns-in-Ok : goal.returns-in-Ok
returns-in-Ok c = ship_read c.parse.result c.in-Ok.text.now c.args.text.now c.in-Ok.ensures.cases c.parse.ensures

pub returns-in-Err : goal.returns-in-Err
returns-in-Err c = no_ship c.args.text.now c.in-Err.ensures.cases.0
