use Rattle.control_fields.specs.Grammar.{lines_of}
use Rattle.control_fields.proofs.Stops.{stops_somewhere}
use Rattle.control_fields.proofs.reading.read_all.Goals as goal

pub returns-clause-fault : goal.returns-clause-fault
returns-clause-fault c =
    stops_somewhere c.args.single (lines_of c.args.bytes.now) (record { done = c.read_text.new.done.items; begun = c.read_text.new.begun }) c.read_text.result c.read_text.ensures.fault
