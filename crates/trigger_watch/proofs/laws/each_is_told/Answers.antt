use Rattle.trigger_interests.specs.Interests.{interests_of}
use Rattle.trigger_watch.specs.Activations.{is_activated}
use Rattle.trigger_watch.specs.Touches.{touching_hits}
use Rattle.trigger_watch.specs.Watch.{installed}
use Rattle.trigger_watch.proofs.All.{all_filter}
use Rattle.trigger_watch.proofs.Declared.{IsSoundInterest, sound_interests}
use Rattle.trigger_watch.proofs.Told.{each_is_told}
use Rattle.trigger_watch.proofs.laws.each_is_told.Goals as goal

pub returns : goal.returns
returns c = λ w records lists by_files watch touches.
    let interests = interests_of w (installed records) in
    each_is_told _ (all_filter IsSoundInterest (is_activated (touching_hits w lists by_files watch.before.items interests touches)) interests (sound_interests w (installed records)))
