use Rattle.diversions.proofs.Passing.{looked_around}
use Rattle.diversions.proofs.sight.look_around.Goals as goal

pub returns : goal.returns
returns g c = record {
  looks = looked_around c.args.rename c.args.from.now c.args.to.now c.in_ok-there.there c.in_ok-taken.taken c.in_ok-above.above c.look_at_both.result _ _ _ _ _ c.in_ok-there.ensures.looks c.in_ok-taken.ensures.looks
      c.in_ok-above.ensures.looks c.look_at_both.ensures.looks;
}
