use Rattle.std.proofs.Common.{◌∷◌, [], subst}
use Rattle.host_core.proofs.Moments.{since_now}
use Rattle.administration.specs.Directories.{HasFlatness}
use Rattle.opening.specs.Parts.{Leftovers}
use Rattle.opening.proofs.Openings.{leftovers_bad, leftovers_held, leftovers_removed, leftovers_stopped, moments_clearing, moments_read, stopped_read}
use Rattle.opening.proofs.open.clear_directory.Goals as goal

pub returns-in_err-names-clause-opens : goal.returns-in_err-names-clause-opens
returns-in_err-names-clause-opens g c = λ h.
    stopped_read (Leftovers ∷ []) _ c.from_residual.result _ _ c.from_residual.ensures.1 c.inspect_flat.ensures.looks.reads.world

pub returns-in_err-names-clause-any_moment : goal.returns-in_err-names-clause-any_moment
returns-in_err-names-clause-any_moment g c = moments_read _ _ c.inspect_flat.ensures.looks.reads

pub returns-in_err-remove_flat-in-Flat-clause-opens : goal.returns-in_err-remove_flat-in-Flat-clause-opens
returns-in_err-remove_flat-in-Flat-clause-opens g c = λ h.
    leftovers_stopped _ _ c.from_residual-in_err-remove_flat-in-Flat.result _ _ _ c.requires.place c.from_residual-in_err-remove_flat-in-Flat.ensures.1
    c.inspect_flat.ensures.looks.reads.world (since_now _ _ _ c.remove_flat.ensures.any_moment h)

pub returns-in_err-remove_flat-in-Flat-clause-any_moment : goal.returns-in_err-remove_flat-in-Flat-clause-any_moment
returns-in_err-remove_flat-in-Flat-clause-any_moment g c = moments_clearing _ _ _ _ c.requires.place c.inspect_flat.ensures.looks.reads c.remove_flat.ensures.any_moment

pub returns-in-Flat-clause-opens : goal.returns-in-Flat-clause-opens
returns-in-Flat-clause-opens g c = λ h.
    leftovers_removed _ _ _ _ c.requires.place c.inspect_flat.ensures.looks.reads.world (since_now _ _ _ c.remove_flat.ensures.any_moment h) (c.in_ok-remove_flat-in-Flat.ensures.removed h)

pub returns-in-Flat-clause-any_moment : goal.returns-in-Flat-clause-any_moment
returns-in-Flat-clause-any_moment g c = moments_clearing _ _ _ _ c.requires.place c.inspect_flat.ensures.looks.reads c.remove_flat.ensures.any_moment

pub returns-in-BadName-clause-opens : goal.returns-in-BadName-clause-opens
returns-in-BadName-clause-opens g c = λ h.
    leftovers_bad _ _ _ _ c.requires.place c.damaged.ensures c.inspect_flat.ensures.looks.reads.world (subst (HasFlatness _ _) c.in-BadName.is (c.in_ok-names.ensures.looks.found h))

pub returns-in-BadName-clause-any_moment : goal.returns-in-BadName-clause-any_moment
returns-in-BadName-clause-any_moment g c = moments_read _ _ c.inspect_flat.ensures.looks.reads

pub returns-in-Holds-clause-opens : goal.returns-in-Holds-clause-opens
returns-in-Holds-clause-opens g c = λ h.
    let held = subst (HasFlatness _ _) c.in-Holds.is (c.in_ok-names.ensures.looks.found h) in
    leftovers_held _ _ held.1.0 _ _ _ c.requires.place c.damaged-in-Holds.ensures c.inspect_flat.ensures.looks.reads.world held.0 held.1.1 held.1.2

pub returns-in-Holds-clause-any_moment : goal.returns-in-Holds-clause-any_moment
returns-in-Holds-clause-any_moment g c = moments_read _ _ c.inspect_flat.ensures.looks.reads
