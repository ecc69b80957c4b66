use Rattle.std.proofs.Common.{◌∷◌, [], rules}
use Rattle.std.proofs.lemmas.Bool.{MatchBool-at_true, MatchBool-at_false}
use Rattle.opening.specs.Parts.{Spare}
use Rattle.opening.proofs.Openings.{spare_fine, spare_taken, stopped_memory, stopped_read}
use Rattle.opening.proofs.open.check_spare.Goals as goal

pub returns-in_err-spare-clause-opens : goal.returns-in_err-spare-clause-opens
returns-in_err-spare-clause-opens g c = λ h. stopped_memory (Spare c.args.place.now ∷ []) c.from_residual.result _ c.from_residual.ensures.1

pub returns-in_err-is_directory-clause-opens : goal.returns-in_err-is_directory-clause-opens
returns-in_err-is_directory-clause-opens g c = λ h.
    stopped_read (Spare c.args.place.now ∷ []) _ c.from_residual-in_err-is_directory.result _ _ c.from_residual-in_err-is_directory.ensures.1 c.is_directory.ensures.looks.reads.world

pub returns-then-branch-clause-opens : goal.returns-then-branch-clause-opens
returns-then-branch-clause-opens g c = λ h.
    spare_taken _ c.args.place.now _ _ _ c.in_ok-spare.ensures (search rules) c.is_directory.ensures.looks.reads.world (MatchBool-at_true _ _ c.if-branch.true (c.in_ok-is_directory.ensures.looks.found h))

pub returns-clause-opens : goal.returns-clause-opens
returns-clause-opens g c = λ h.
    spare_fine _ c.args.place.now _ _ c.in_ok-spare.ensures c.is_directory.ensures.looks.reads.world (MatchBool-at_false _ _ c.if-branch.false (c.in_ok-is_directory.ensures.looks.found h))
