use Rattle.kept_activations.proofs.Ours.{begun_found, begun_keeps, found_still, known_found}
use Rattle.kept_activations.proofs.stops.what_a_stopped_command_leaves_is_asked_for.Goals as goal

pub returns-clause-found : goal.returns-clause-found
returns-clause-found c = λ by_files known old before begun later trigger first honest written some stands.
    found_still begun.world later stands trigger
    (begun_found c.what_is_written_ahead_is_asked_for.ensures.adds c.what_is_written_ahead_is_asked_for.ensures.found by_files known old before begun first honest written some trigger)

pub returns-clause-keeps : goal.returns-clause-keeps
returns-clause-keeps c = λ by_files known old before begun later trigger first honest found stands.
    found_still begun.world later stands trigger
    (begun_keeps c.what_is_written_ahead_is_asked_for.ensures.adds c.what_is_written_ahead_is_asked_for.ensures.found by_files known old before begun first honest trigger found)

pub returns-clause-known : goal.returns-clause-known
returns-clause-known c = known_found
