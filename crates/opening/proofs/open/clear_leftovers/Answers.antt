use Rattle.std.proofs.Common.{◌∷◌, [], subst}
use Rattle.administration.specs.Directories.{IsStanding}
use Rattle.opening.specs.Parts.{Leftovers}
use Rattle.opening.proofs.Openings.{leftovers_loose, leftovers_none, moments_read, moments_then, opens_after, stopped_memory, stopped_read}
use Rattle.opening.proofs.open.clear_leftovers.Goals as goal

pub returns-in_err-path-clause-opens : goal.returns-in_err-path-clause-opens
returns-in_err-path-clause-opens g c = λ h. stopped_memory (Leftovers ∷ []) c.from_residual.result _ c.from_residual.ensures.1

pub returns-in_err-look-clause-opens : goal.returns-in_err-look-clause-opens
returns-in_err-look-clause-opens g c = λ h.
    stopped_read (Leftovers ∷ []) _ c.from_residual-in_err-look.result _ _ c.from_residual-in_err-look.ensures.1 c.look.ensures.looks.reads.world

pub returns-in_err-look-clause-any_moment : goal.returns-in_err-look-clause-any_moment
returns-in_err-look-clause-any_moment g c = moments_read _ _ c.look.ensures.looks.reads

pub returns-in-Directory-clause-opens : goal.returns-in-Directory-clause-opens
returns-in-Directory-clause-opens g c = λ h. opens_after (Leftovers ∷ []) _ _ _ _ c.look.ensures.looks.reads.world (c.clear_directory.ensures.opens h)

pub returns-in-Directory-clause-any_moment : goal.returns-in-Directory-clause-any_moment
returns-in-Directory-clause-any_moment g c = moments_then _ _ _ (moments_read _ _ c.look.ensures.looks.reads) c.clear_directory.ensures.any_moment

pub returns-in-Nothing-clause-opens : goal.returns-in-Nothing-clause-opens
returns-in-Nothing-clause-opens g c = λ h.
    leftovers_none _ _ _ c.in_ok-path.ensures c.look.ensures.looks.reads.world (subst (λ b. IsStanding b ((g.H.Host.state c.args.host.now).world c.in_ok-path.path)) c.in-Nothing.is (c.in_ok-look.ensures.looks.found h))

pub returns-in-Nothing-clause-any_moment : goal.returns-in-Nothing-clause-any_moment
returns-in-Nothing-clause-any_moment g c = moments_read _ _ c.look.ensures.looks.reads

pub returns-in-Loose-clause-opens : goal.returns-in-Loose-clause-opens
returns-in-Loose-clause-opens g c = λ h.
    leftovers_loose _ _ _ _ c.in_ok-path.ensures c.damaged.ensures c.look.ensures.looks.reads.world (subst (λ b. IsStanding b ((g.H.Host.state c.args.host.now).world c.in_ok-path.path)) c.in-Loose.is (c.in_ok-look.ensures.looks.found h))

pub returns-in-Loose-clause-any_moment : goal.returns-in-Loose-clause-any_moment
returns-in-Loose-clause-any_moment g c = moments_read _ _ c.look.ensures.looks.reads
