use Rattle.std.proofs.Common.{◌∷◌, [], refl}
use Rattle.administration.specs.Places.{diversions_path, temporary}
use Rattle.opening.specs.Parts.{Leftovers, Spare}
use Rattle.opening.proofs.Openings.{moments_read, moments_then, opens_then, stopped_before}
use Rattle.opening.proofs.open.settle_rest.Goals as goal

pub returns-in_err-check_spare-clause-opens : goal.returns-in_err-check_spare-clause-opens
returns-in_err-check_spare-clause-opens g c = λ h.
    stopped_before (Spare (temporary diversions_path) ∷ []) (Leftovers ∷ []) _ c.from_residual.result _ _ c.from_residual.ensures.1 (c.in_err-check_spare.ensures.opens h)

pub returns-in_err-check_spare-clause-any_moment : goal.returns-in_err-check_spare-clause-any_moment
returns-in_err-check_spare-clause-any_moment g c = moments_read _ _ c.check_spare.ensures.reads

pub returns-clause-opens : goal.returns-clause-opens
returns-clause-opens g c = λ h.
    opens_then (Spare (temporary diversions_path) ∷ []) (Leftovers ∷ []) _ _ _ _ ((refl, refl), tt) (c.in_ok-check_spare.ensures.opens (c.clear_leftovers.ensures.silent.honest h)) (c.clear_leftovers.ensures.opens h)

pub returns-clause-any_moment : goal.returns-clause-any_moment
returns-clause-any_moment g c = moments_then _ _ _ (moments_read _ _ c.check_spare.ensures.reads) c.clear_leftovers.ensures.any_moment
