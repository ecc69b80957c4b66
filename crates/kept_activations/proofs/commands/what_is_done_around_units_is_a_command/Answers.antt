use Rattle.std.proofs.Common.{refl}
use Rattle.kept_activations.proofs.commands.what_is_done_around_units_is_a_command.Goals as goal

pub returns : goal.returns
returns c = λ t us came before after s end around noted processed honest. record {
  t = t;
  known = around.known;
  us = us;
  came = came;
  before = before;
  mid = around.mid;
  after = after;
  begun = around.begun;
  done = around.done;
  end = end;
  first = record { s = s; world = refl; records = refl; begins = around.first };
  units = around.run;
  out = record { triggered = around.triggered; noted = noted; processed = processed; honest = honest };
  world = refl;
  records = refl;
}
