-- What is foretold holds of what goes on behind it.
use Rattle.std.proofs.Common.{◌≡◌, ◌∙◌, List, [], ◌∷◌, ◌++◌, map, refl, sym, ap}
use Rattle.host_core.specs.Events.{Event, Ran, calls_of}
use Rattle.host_overlay.specs.Failing.{left_by, runs_of, foretold, assumed_in, made_in, GoAsForetold}
use Rattle.host_overlay.specs.declared.failing.AssumedFailure.{AssumedFailure}

module _ (added : List Event) where
  assumed_behind : (failing : List AssumedFailure) → assumed_in (foretold failing ++ added) ≡ failing
  assumed_behind [] = refl
  assumed_behind (f ∷ fs) = ap (λ (l : List AssumedFailure). f ∷ l) (assumed_behind fs)

  calls_behind : (failing : List AssumedFailure) → calls_of (foretold failing ++ added) ≡ calls_of added
  calls_behind [] = refl
  calls_behind (f ∷ fs) = calls_behind fs

  -- behind these assumptions each call ends as it is assumed to, whatever else is done
  pub calls_as_assumed : (failing : List AssumedFailure) → GoAsForetold (foretold failing ++ added) → calls_of added ≡ runs_of failing (made_in added)
  calls_as_assumed failing goes =
      sym (calls_behind failing) ∙ goes ∙ ap (λ (fs : List AssumedFailure). runs_of fs (made_in (foretold failing ++ added))) (assumed_behind failing)
      ∙ ap (λ (rs : List Ran). runs_of failing (map (λ (ran : Ran). ran.call) rs)) (calls_behind failing)
