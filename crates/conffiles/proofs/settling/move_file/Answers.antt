use Rattle.std.proofs.Common.{inl, inr, sym, subst, ap, refl, ◌∙◌}
use Rattle.std.specs.Prelude.{IsSome}
use Rattle.host_core.specs.World.{moved}
use Rattle.host_core.proofs.Losses.{proper_synced}
use Rattle.host_core.proofs.Moments.{since_reads, since_then}
use Rattle.conffiles.proofs.Settlings.{since_move, kind_some}
use Rattle.conffiles.proofs.settling.move_file.Goals as goal

pub rename-requires-clause-synced : goal.rename-requires-clause-synced
rename-requires-clause-synced g c = λ h. proper_synced _ _ (g.H.Host.settled c.kind.new.self h) c.requires.proper

pub returns-in_err-kind-clause-any_moment : goal.returns-in_err-kind-clause-any_moment
returns-in_err-kind-clause-any_moment g c = since_reads _ _ _ c.kind.ensures.reads (λ fs all. inl refl)

pub returns-clause-any_moment : goal.returns-clause-any_moment
returns-clause-any_moment g c = since_reads _ _ _ c.kind.ensures.reads (λ fs all. inl refl)

pub returns-then-is_some-clause-any_moment : goal.returns-then-is_some-clause-any_moment
returns-then-is_some-clause-any_moment g c =
    since_then _ _ _ _ (since_reads _ _ _ c.kind.ensures.reads (λ fs all. inl refl))
    (since_move _ _ _ _ _ _ c.rename.ensures.does (λ h. inl c.kind.ensures.reads.world) (λ h. inr (inr (kind_some _ (subst IsSome (c.in_ok-kind.ensures.found (c.rename.ensures.silent.honest h)) (sym c.is_some.ensures ∙ c.if-is_some.true)), ap (λ w. moved w c.args.from.now c.args.to.now) c.kind.ensures.reads.world))))
