use Rattle.std.proofs.Common.{◌∷◌, [], refl}
use Rattle.opening.specs.Leaving.{var_path, lib_path}
use Rattle.opening.specs.Parts.{Root, Way}
use Rattle.administration.specs.Places.{home_path}
use Rattle.opening.proofs.Openings.{moments_read, moments_then, opens_then, stopped_before}
use Rattle.opening.proofs.open.open_ways.Goals as goal

pub returns-in_err-check_root-clause-opens : goal.returns-in_err-check_root-clause-opens
returns-in_err-check_root-clause-opens g c = λ h.
    stopped_before (Root ∷ []) (Way var_path ∷ Way lib_path ∷ Way home_path ∷ []) _ c.from_residual.result _ _ c.from_residual.ensures.1 (c.in_err-check_root.ensures.opens h)

pub returns-in_err-check_root-clause-any_moment : goal.returns-in_err-check_root-clause-any_moment
returns-in_err-check_root-clause-any_moment g c = moments_read _ _ c.check_root.ensures.reads

pub returns-in_err-make_way-clause-opens : goal.returns-in_err-make_way-clause-opens
returns-in_err-make_way-clause-opens g c = λ h.
    let h1 = c.make_way.ensures.silent.honest h in
    stopped_before (Root ∷ Way var_path ∷ []) (Way lib_path ∷ Way home_path ∷ []) _ c.from_residual-in_err-make_way.result _ _ c.from_residual-in_err-make_way.ensures.1
    (opens_then (Root ∷ []) (Way var_path ∷ []) _ _ _ _ (tt, tt) (c.in_ok-check_root.ensures.opens h1) (c.in_err-make_way.ensures.opens h))

pub returns-in_err-make_way-clause-any_moment : goal.returns-in_err-make_way-clause-any_moment
returns-in_err-make_way-clause-any_moment g c = moments_then _ _ _ (moments_read _ _ c.check_root.ensures.reads) c.make_way.ensures.any_moment

pub returns-in_err-make_way-2-clause-opens : goal.returns-in_err-make_way-2-clause-opens
returns-in_err-make_way-2-clause-opens g c = λ h.
    let h2 = c.make_way-2.ensures.silent.honest h in
    let h1 = c.make_way.ensures.silent.honest h2 in
    stopped_before (Root ∷ Way var_path ∷ Way lib_path ∷ []) (Way home_path ∷ []) _ c.from_residual-in_err-make_way-2.result _ _ c.from_residual-in_err-make_way-2.ensures.1
    (opens_then (Root ∷ []) (Way var_path ∷ Way lib_path ∷ []) _ _ _ _ (tt, tt) (c.in_ok-check_root.ensures.opens h1)
    (opens_then (Way var_path ∷ []) (Way lib_path ∷ []) _ _ _ _ (refl, tt) (c.in_ok-make_way.ensures.opens h2) (c.in_err-make_way-2.ensures.opens h)))

pub returns-in_err-make_way-2-clause-any_moment : goal.returns-in_err-make_way-2-clause-any_moment
returns-in_err-make_way-2-clause-any_moment g c =
    moments_then _ _ _ (moments_then _ _ _ (moments_read _ _ c.check_root.ensures.reads) c.make_way.ensures.any_moment) c.make_way-2.ensures.any_moment

pub returns-clause-opens : goal.returns-clause-opens
returns-clause-opens g c = λ h.
    let h3 = c.make_way-3.ensures.silent.honest h in
    let h2 = c.make_way-2.ensures.silent.honest h3 in
    let h1 = c.make_way.ensures.silent.honest h2 in
    opens_then (Root ∷ []) (Way var_path ∷ Way lib_path ∷ Way home_path ∷ []) _ _ _ _ (tt, tt) (c.in_ok-check_root.ensures.opens h1)
    (opens_then (Way var_path ∷ []) (Way lib_path ∷ Way home_path ∷ []) _ _ _ _ (refl, tt) (c.in_ok-make_way.ensures.opens h2)
    (opens_then (Way lib_path ∷ []) (Way home_path ∷ []) _ _ _ _ (refl, tt) (c.in_ok-make_way-2.ensures.opens h3) (c.make_way-3.ensures.opens h)))

pub returns-clause-any_moment : goal.returns-clause-any_moment
returns-clause-any_moment g c =
    moments_then _ _ _ (moments_then _ _ _ (moments_then _ _ _ (moments_read _ _ c.check_root.ensures.reads) c.make_way.ensures.any_moment) c.make_way-2.ensures.any_moment) c.make_way-3.ensures.any_moment
