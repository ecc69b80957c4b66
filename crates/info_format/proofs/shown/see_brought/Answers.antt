use Rattle.std.proofs.Common.{sym, subst}
use Rattle.host_core.specs.World.{World}
use Rattle.host_core.proofs.Moments.{reads_then}
use Rattle.host_overlay.specs.Seen.{AreSources, seen}
use Rattle.host_overlay.proofs.SeenThrough.{seen_none}
use Rattle.info_format.specs.Steps.{AreTaken, HaveParents}
use Rattle.info_format.proofs.Showings.{brought_shows}
use Rattle.info_format.proofs.shown.see_brought.Goals as goal

pub see_seconds-requires-clause-parents : goal.see_seconds-requires-clause-parents
see_seconds-requires-clause-parents g c = λ h. subst (HaveParents c.args.pairs.now) (sym (seen_none c.none-names.result (g.H.Host.state c.args.host.now).world c.none-names.ensures)) (c.requires.parents h)

pub returns-in_err-lose_firsts-clause-reads : goal.returns-in_err-lose_firsts-clause-reads
returns-in_err-lose_firsts-clause-reads g c = reads_then _ _ _ c.see_seconds.ensures.reads c.lose_firsts.ensures.reads

pub returns-clause-shows : goal.returns-clause-shows
returns-clause-shows g c = λ h.
    let w = (g.H.Host.state c.args.host.now).world in
    let same = c.see_seconds.ensures.reads.world in
    let h1 = c.lose_firsts.ensures.silent.honest h in
    let h0 = c.see_seconds.ensures.silent.honest h1 in
    brought_shows c.args.pairs.now c.requires.apart c.none-names.result c.see_seconds.new.names c.take.new.self c.lose_firsts.new.names w c.args.format.now c.requires.place c.none-names.ensures (g.H.Host.tree c.args.host.now h0) (c.requires.one h0)
    (c.in_ok-see_seconds.ensures.given h1) c.in_ok-take.ensures
    (subst (λ (v : World). AreTaken c.args.pairs.now (seen c.take.new.self v) (seen c.lose_firsts.new.names v)) same (c.in_ok-lose_firsts.ensures.taken h))
    (c.in_ok-see_seconds.ensures.there h1)
    (subst (λ (v : World). AreSources c.take.new.self v → AreSources c.lose_firsts.new.names v) same (c.in_ok-lose_firsts.ensures.there h))

pub returns-clause-reads : goal.returns-clause-reads
returns-clause-reads g c = reads_then _ _ _ c.see_seconds.ensures.reads c.lose_firsts.ensures.reads
