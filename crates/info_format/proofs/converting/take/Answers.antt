use Rattle.std.proofs.Common.{inl, refl}
use Rattle.host_core.proofs.Moments.{since_reads, since_then}
use Rattle.info_format.specs.Steps.{IsTaken}
use Rattle.info_format.proofs.Steps.{beside, not_beside, removed, since_taken}
use Rattle.info_format.proofs.converting.take.Goals as goal

pub remove-requires : goal.remove-requires
remove-requires g c = record { there = λ h. (beside c.in_ok-is_beside.field-0 _ _ c.args.pair.now.long c.args.pair.now.short c.if-branch.true (c.in_ok-is_beside.ensures.looks.found h) c.is_beside.ensures.looks.reads.world).0 }

pub returns-in_err-is_beside-clause-any_moment : goal.returns-in_err-is_beside-clause-any_moment
returns-in_err-is_beside-clause-any_moment g c = since_reads _ _ _ c.is_beside.ensures.looks.reads (λ fs all. inl refl)

pub returns-then-branch-clause-taken : goal.returns-then-branch-clause-taken
returns-then-branch-clause-taken g c = λ h. removed c.remove.result c.args.pair.now.long c.args.pair.now.short (g.H.Host.state c.args.host.now).world _ _ c.remove.ensures.does

pub returns-then-branch-clause-any_moment : goal.returns-then-branch-clause-any_moment
returns-then-branch-clause-any_moment g c =
    let long = c.args.pair.now.long in
    let short = c.args.pair.now.short in
    let old = (g.H.Host.state c.args.host.now).world in
    since_then (λ so_far. IsTaken long short old) _ _ _ (since_reads _ _ _ c.is_beside.ensures.looks.reads (λ fs all. inl refl))
    (since_taken c.remove.result long short old _ _ c.is_beside.ensures.looks.reads.world
    (λ h. (beside c.in_ok-is_beside.field-0 old old long short c.if-branch.true (c.in_ok-is_beside.ensures.looks.found (c.remove.ensures.silent.honest h)) refl).1)
    (λ h. (beside c.in_ok-is_beside.field-0 old old long short c.if-branch.true (c.in_ok-is_beside.ensures.looks.found (c.remove.ensures.silent.honest h)) refl).0)
    c.remove.ensures.does)

pub returns-clause-taken : goal.returns-clause-taken
returns-clause-taken g c = λ h. not_beside c.in_ok-is_beside.field-0 _ _ c.args.pair.now.long c.args.pair.now.short c.if-branch.false (c.in_ok-is_beside.ensures.looks.found h) c.is_beside.ensures.looks.reads.world

pub returns-clause-any_moment : goal.returns-clause-any_moment
returns-clause-any_moment g c = since_reads _ _ _ c.is_beside.ensures.looks.reads (λ fs all. inl refl)
