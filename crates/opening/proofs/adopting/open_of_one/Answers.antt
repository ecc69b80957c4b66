use Rattle.std.proofs.Common.{None, inl, sym, subst}
use Rattle.opening.specs.Architectures.{AreOfOne}
use Rattle.opening.specs.Followed.{IsFollowed}
use Rattle.opening.specs.Leaving.{IsOpeningOrMerging}
use Rattle.opening.specs.Opened.{IsOpened}
use Rattle.opening.specs.Parts.{OpensAndMerges}
use Rattle.opening.specs.declared.open.Opened.{Opened as AnOpened}
use Rattle.host_core.specs.Host.{Needs}
use Rattle.opening.proofs.Followed.{brought_looked, moments_looked}
use Rattle.opening.proofs.OfOne.{always, kept_and, kept_so, shut_by_two}
use Rattle.opening.proofs.adopting.open_of_one.Goals as goal

pub returns-in-Ok-clause-opens : goal.returns-in-Ok-clause-opens
returns-in-Ok-clause-opens g c = λ h.
    let before = (g.H.Host.state c.args.host.now).world in
    always c.keep_of_one.result (subst (OpensAndMerges None before) (sym c.keep_of_one.ensures.reads.world) (c.in-Ok.ensures.opens (c.keep_of_one.ensures.silent.honest h)))

pub returns-in-Ok-clause-shut : goal.returns-in-Ok-clause-shut
returns-in-Ok-clause-shut g c = λ h.
    let honest = c.keep_of_one.ensures.silent.honest h in
    shut_by_two c.keep_of_one.result c.in-Ok.opened.database.records _ _ _ (c.in-Ok.ensures.opens honest) (c.in-Ok.ensures.opened honest).records.holds c.keep_of_one.ensures.reads.world (c.keep_of_one.ensures.told h)

pub returns-in-Ok-clause-opened : goal.returns-in-Ok-clause-opened
returns-in-Ok-clause-opened g c = λ h.
    let opened = c.in-Ok.opened in
    let after = (g.H.Host.state c.keep_of_one.new.host).world in
    kept_so c.keep_of_one.result opened (λ (kept : AnOpened). IsOpened kept.database.records kept.lists.lists kept.diversions.ways.entries after) c.keep_of_one.ensures.same
    (subst (IsOpened opened.database.records opened.lists.lists opened.diversions.ways.entries) (sym c.keep_of_one.ensures.reads.world) (c.in-Ok.ensures.opened (c.keep_of_one.ensures.silent.honest h)))

pub returns-in-Ok-clause-followed : goal.returns-in-Ok-clause-followed
returns-in-Ok-clause-followed g c =
    let opened = c.in-Ok.opened in
    let after = g.H.Host.state c.keep_of_one.new.host in
    kept_so c.keep_of_one.result opened (λ (kept : AnOpened). Needs after (IsFollowed kept.lists.lists kept.diversions.ways)) c.keep_of_one.ensures.same
    (λ h. subst (IsFollowed opened.lists.lists opened.diversions.ways) (sym c.keep_of_one.ensures.reads.world) (c.in-Ok.ensures.followed (c.keep_of_one.ensures.silent.honest h)))

pub returns-in-Ok-clause-one : goal.returns-in-Ok-clause-one
returns-in-Ok-clause-one g c = kept_and c.keep_of_one.result c.in-Ok.opened (λ (kept : AnOpened). AreOfOne kept.database.records) c.keep_of_one.ensures.same c.keep_of_one.ensures.one

pub returns-in-Ok-clause-any_moment : goal.returns-in-Ok-clause-any_moment
returns-in-Ok-clause-any_moment g c = moments_looked (IsOpeningOrMerging (g.H.Host.state c.args.host.now).world) _ _ _ c.open_followed.ensures.any_moment c.keep_of_one.ensures.reads

pub returns-in-Ok-clause-brought : goal.returns-in-Ok-clause-brought
returns-in-Ok-clause-brought g c = λ h stopped. brought_looked c.keep_of_one.result _ _ _ (c.in-Ok.ensures.brought (c.keep_of_one.ensures.silent.honest h) stopped) c.keep_of_one.ensures.reads

pub returns-in-Err-clause-shut : goal.returns-in-Err-clause-shut
returns-in-Err-clause-shut g c = λ h. inl (c.in-Err.ensures.opens h)
