use Rattle.kept_activations.proofs.Chained.{all_carried, all_ended, command_causes}
use Rattle.kept_activations.proofs.commands.no_activation_is_lost.Goals as goal

pub returns-clause-caused : goal.returns-clause-caused
returns-clause-caused c = λ old new command owner trigger caused.
    command_causes old new owner trigger c.what_is_written_ahead_is_asked_for.ensures.adds c.what_is_written_ahead_is_asked_for.ensures.found command caused

pub returns-clause-carried : goal.returns-clause-carried
returns-clause-carried c = λ first last commands owner trigger carried.
    all_carried c.what_is_written_ahead_is_asked_for.ensures.adds c.what_is_written_ahead_is_asked_for.ensures.found owner trigger first last commands carried

pub returns-clause-ended : goal.returns-clause-ended
returns-clause-ended c = λ first mid last commands command owner trigger carried.
    all_ended c.what_is_written_ahead_is_asked_for.ensures.adds c.what_is_written_ahead_is_asked_for.ensures.found owner trigger first mid last commands command carried
