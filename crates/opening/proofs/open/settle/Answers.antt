use Rattle.std.proofs.Common.{◌∷◌, []}
use Rattle.administration.specs.Places.{diversions_path, temporary}
use Rattle.opening.specs.Parts.{Diversions, Leftovers, Spare}
use Rattle.opening.proofs.Openings.{diversions_damaged, diversions_read, diverted_here, diverted_through, moments_read, moments_then, opens_then, stopped_before}
use Rattle.opening.proofs.open.settle.Goals as goal

pub returns-in_err-diversions-clause-opens : goal.returns-in_err-diversions-clause-opens
returns-in_err-diversions-clause-opens g c = λ h.
    stopped_before (Diversions ∷ []) (Spare (temporary diversions_path) ∷ Leftovers ∷ []) _ c.from_residual.result _ _ c.from_residual.ensures.1 (diversions_damaged _ _ _ c.open.ensures.reads.world (c.in_err-diversions.ensures.damage h))

pub returns-in_err-diversions-clause-any_moment : goal.returns-in_err-diversions-clause-any_moment
returns-in_err-diversions-clause-any_moment g c = moments_read _ _ c.open.ensures.reads

pub returns-clause-opens : goal.returns-clause-opens
returns-clause-opens g c = λ h.
    opens_then (Diversions ∷ []) (Spare (temporary diversions_path) ∷ Leftovers ∷ []) _ _ _ _ (tt, tt)
    (diversions_read _ _ _ c.open.ensures.reads.world (c.in_ok-diversions.ensures.entries (c.settle_with.ensures.silent.honest h))) (c.settle_with.ensures.opens h)

pub returns-clause-diverted : goal.returns-clause-diverted
returns-clause-diverted g c = λ h.
    let has = diverted_here c.in_ok-diversions.diversions _ _ c.open.ensures.reads.world (c.in_ok-diversions.ensures.entries (c.settle_with.ensures.silent.honest h)) in
    diverted_through c.settle_with.result c.in_ok-diversions.diversions _ _ (c.settle_with.ensures.opens h) c.settle_with.ensures.diversions has

pub returns-clause-any_moment : goal.returns-clause-any_moment
returns-clause-any_moment g c = moments_then _ _ _ (moments_read _ _ c.open.ensures.reads) c.settle_with.ensures.any_moment
