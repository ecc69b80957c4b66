use Rattle.std.proofs.Common.{◌≡◌, true, sym, subst, ◌∷◌, []}
use Rattle.std.proofs.lemmas.Bool.{MatchBool-at_true, MatchBool-at_false}
use Rattle.host_core.proofs.Moments.{since_now}
use Rattle.opening.specs.Leaving.{is_way}
use Rattle.opening.specs.Parts.{Way}
use Rattle.opening.proofs.Openings.{moments_making, stopped_memory, way_is_path, way_loose, way_made, way_stopped}
use Rattle.opening.proofs.open.make_way.Goals as goal

pub from_str-requires : goal.from_str-requires
from_str-requires g c = way_is_path c.args.place.now c.requires.way

pub returns-in_err-path-clause-opens : goal.returns-in_err-path-clause-opens
returns-in_err-path-clause-opens g c = λ h. stopped_memory (Way c.args.place.now ∷ []) c.from_residual.result _ c.from_residual.ensures.1

pub returns-in_err-make_directory-clause-opens : goal.returns-in_err-make_directory-clause-opens
returns-in_err-make_directory-clause-opens g c = λ h.
    way_stopped _ c.args.place.now _ c.from_residual-in_err-make_directory.result _ _ c.in_ok-path.ensures c.requires.way c.from_residual-in_err-make_directory.ensures.1
    (since_now _ _ _ c.make_directory.ensures.any_moment h) (c.in_err-make_directory.ensures.unmade h)

pub returns-in_err-make_directory-clause-any_moment : goal.returns-in_err-make_directory-clause-any_moment
returns-in_err-make_directory-clause-any_moment g c =
    moments_making _ _ _ (subst (λ q. is_way q ≡ true) (sym c.in_ok-path.ensures) c.requires.way) c.make_directory.ensures.any_moment

pub returns-then-branch-clause-opens : goal.returns-then-branch-clause-opens
returns-then-branch-clause-opens g c = λ h.
    way_made _ _ _ _ c.in_ok-path.ensures c.requires.way (since_now _ _ _ c.make_directory.ensures.any_moment h) (MatchBool-at_true _ _ c.if-branch.true (c.in_ok-make_directory.ensures.made h))

pub returns-then-branch-clause-any_moment : goal.returns-then-branch-clause-any_moment
returns-then-branch-clause-any_moment g c =
    moments_making _ _ _ (subst (λ q. is_way q ≡ true) (sym c.in_ok-path.ensures) c.requires.way) c.make_directory.ensures.any_moment

pub returns-clause-opens : goal.returns-clause-opens
returns-clause-opens g c = λ h.
    way_loose _ _ _ _ _ c.in_ok-path.ensures c.requires.way c.damaged.ensures (since_now _ _ _ c.make_directory.ensures.any_moment h) (MatchBool-at_false _ _ c.if-branch.false (c.in_ok-make_directory.ensures.made h))

pub returns-clause-any_moment : goal.returns-clause-any_moment
returns-clause-any_moment g c =
    moments_making _ _ _ (subst (λ q. is_way q ≡ true) (sym c.in_ok-path.ensures) c.requires.way) c.make_directory.ensures.any_moment
