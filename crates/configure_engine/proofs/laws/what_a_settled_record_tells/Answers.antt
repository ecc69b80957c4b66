use Rattle.configure_engine.proofs.SettledLaws.{gone, nothing_left, others, shipped}
use Rattle.configure_engine.proofs.laws.what_a_settled_record_tells.Goals as goal

pub returns : goal.returns
returns c = record { shipped = shipped; gone = gone; others = others; nothing_left = nothing_left }
