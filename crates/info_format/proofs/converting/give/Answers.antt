use Rattle.std.proofs.Common.{inl, ap, sym, subst}
use Rattle.host_core.specs.World.{World, HasParent}
use Rattle.info_format.specs.Steps.{HasOther, IsAtBoth}
use Rattle.info_format.proofs.Conversion.{on_ok_by}
use Rattle.info_format.proofs.Copies.{other_of, since_looked, since_only_looked}
use Rattle.info_format.proofs.Steps.{lacking, not_lacking}
use Rattle.info_format.proofs.converting.give.Goals as goal

pub link_or_copy-requires-clause-proper : goal.link_or_copy-requires-clause-proper
link_or_copy-requires-clause-proper g c = c.requires.proper.0

pub link_or_copy-requires-clause-there : goal.link_or_copy-requires-clause-there
link_or_copy-requires-clause-there g c = λ h. (lacking c.in_ok-lacks.field-0 _ _ c.args.pair.now.long c.args.pair.now.short c.if-branch.true (c.in_ok-lacks.ensures.looks.found h) c.lacks.ensures.looks.reads.world).0

pub link_or_copy-requires-clause-absent : goal.link_or_copy-requires-clause-absent
link_or_copy-requires-clause-absent g c = λ h. (lacking c.in_ok-lacks.field-0 _ _ c.args.pair.now.long c.args.pair.now.short c.if-branch.true (c.in_ok-lacks.ensures.looks.found h) c.lacks.ensures.looks.reads.world).1

pub link_or_copy-requires-clause-parent : goal.link_or_copy-requires-clause-parent
link_or_copy-requires-clause-parent g c = λ h. subst (λ (w : World). HasParent w c.args.pair.now.short) (sym c.lacks.ensures.looks.reads.world) (c.requires.parent (c.lacks.ensures.looks.silent.honest h))

pub returns-in_err-lacks-clause-any_moment : goal.returns-in_err-lacks-clause-any_moment
returns-in_err-lacks-clause-any_moment g c = since_only_looked _ _ _ _ c.lacks.ensures.looks.reads

pub returns-then-branch-clause-given : goal.returns-then-branch-clause-given
returns-then-branch-clause-given g c = λ h.
    let long = c.args.pair.now.long in
    let short = c.args.pair.now.short in
    let old = (g.H.Host.state c.args.host.now).world in
    let mid = (g.H.Host.state c.lacks.new.host).world in
    let new = (g.H.Host.state c.link_or_copy.new.host).world in
    on_ok_by c.link_or_copy.result (IsAtBoth long short mid new) (HasOther long short old new)
    (λ both. other_of long short old new c.requires.proper.1 (subst (λ (w : World). IsAtBoth long short w new) c.lacks.ensures.looks.reads.world both)) (c.link_or_copy.ensures.both h)

pub returns-then-branch-clause-any_moment : goal.returns-then-branch-clause-any_moment
returns-then-branch-clause-any_moment g c = since_looked c.args.pair.now.long c.args.pair.now.short _ _ _ c.lacks.ensures.looks.reads c.link_or_copy.ensures.any_moment

pub returns-clause-given : goal.returns-clause-given
returns-clause-given g c = λ h. record {
  all = not_lacking c.in_ok-lacks.field-0 _ _ c.args.pair.now.long c.args.pair.now.short c.if-branch.false (c.in_ok-lacks.ensures.looks.found h) c.lacks.ensures.looks.reads.world;
  aside = λ q t. inl (ap (λ (w : World). w q) c.lacks.ensures.looks.reads.world);
}

pub returns-clause-any_moment : goal.returns-clause-any_moment
returns-clause-any_moment g c = since_only_looked _ _ _ _ c.lacks.ensures.looks.reads
