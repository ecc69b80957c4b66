use Rattle.std.proofs.Common.{◌≡◌, ◌∙◌, ap, sym, subst, true, IfErr, IfOk, None}
use Rattle.host_core.specs.Paths.{Path}
use Rattle.host_core.specs.World.{World}
use Rattle.host_core.proofs.Moments.{reads_then}
use Rattle.host_overlay.specs.declared.seen_names.SeenNames.{SeenNames}
use Rattle.info_format.specs.Converting.{IsConverted, IsNamesDamage}
use Rattle.info_format.specs.Format.{IsSaid, format_path, is_one, says_one}
use Rattle.info_format.specs.Seeing.{Shows}
use Rattle.info_format.specs.Steps.{AreAllPairs, HaveParents}
use Rattle.info_format.proofs.Conversion.{odd_at}
use Rattle.info_format.proofs.shown.see_pairs.Goals as goal

pub see_short-requires-clause-plain : goal.see_short-requires-clause-plain
see_short-requires-clause-plain g c = λ h.
    let w = (g.H.Host.state c.args.host.now).world in
    let none : w c.args.format.now ≡ None = subst (IsSaid (w c.args.format.now)) c.in-Short.is (c.in_ok-read_format.ensures.looks.found h) in
    ap (λ (u : World). u format_path) c.read_format.ensures.looks.reads.world ∙ ap w (sym c.requires.place) ∙ none

pub see_long-requires-clause-parents : goal.see_long-requires-clause-parents
see_long-requires-clause-parents g c = λ h. subst (HaveParents c.args.pairs.now) (sym c.read_format.ensures.looks.reads.world) (c.requires.parents (c.read_format.ensures.looks.silent.honest h))

pub see_long-requires-clause-one : goal.see_long-requires-clause-one
see_long-requires-clause-one g c = λ h.
    let w = (g.H.Host.state c.args.host.now).world in
    let one : says_one (w c.args.format.now) ≡ true = subst (IsSaid (w c.args.format.now)) c.in-Long.is (c.in_ok-read_format.ensures.looks.found h) in
    ap is_one c.read_format.ensures.looks.reads.world ∙ ap (λ (p : Path). says_one (w p)) (sym c.requires.place) ∙ one

pub see_unknown-requires-clause-unknown : goal.see_unknown-requires-clause-unknown
see_unknown-requires-clause-unknown g c = λ h.
    let w = (g.H.Host.state c.args.host.now).world in
    let said = subst (IsSaid (w c.args.format.now)) c.in-Unknown.is (c.in_ok-read_format.ensures.looks.found h) in
    odd_at w _ c.args.format.now c.requires.place c.read_format.ensures.looks.reads.world said.0 said.1

pub returns-in-Short-clause-shows : goal.returns-in-Short-clause-shows
returns-in-Short-clause-shows g c = λ arches all h.
    subst (λ (u : World). IfOk c.see_short.result (λ (names : SeenNames). Shows (IsConverted arches) u names)) c.read_format.ensures.looks.reads.world
    (c.see_short.ensures.shows arches (λ k. subst (AreAllPairs arches c.args.pairs.now) (sym c.read_format.ensures.looks.reads.world) (all (c.read_format.ensures.looks.silent.honest k))) h)

pub returns-in-Short-clause-fault : goal.returns-in-Short-clause-fault
returns-in-Short-clause-fault g c = λ arches all h.
    subst (λ (u : World). IfErr c.see_short.result (IsNamesDamage arches u)) c.read_format.ensures.looks.reads.world
    (c.see_short.ensures.fault arches (λ k. subst (AreAllPairs arches c.args.pairs.now) (sym c.read_format.ensures.looks.reads.world) (all (c.read_format.ensures.looks.silent.honest k))) h)

pub returns-in-Short-clause-reads : goal.returns-in-Short-clause-reads
returns-in-Short-clause-reads g c = reads_then _ _ _ c.read_format.ensures.looks.reads c.see_short.ensures.reads

pub returns-in-Long-clause-shows : goal.returns-in-Long-clause-shows
returns-in-Long-clause-shows g c = λ arches all h.
    subst (λ (u : World). IfOk c.see_long.result (λ (names : SeenNames). Shows (IsConverted arches) u names)) c.read_format.ensures.looks.reads.world
    (c.see_long.ensures.shows arches (λ k. subst (AreAllPairs arches c.args.pairs.now) (sym c.read_format.ensures.looks.reads.world) (all (c.read_format.ensures.looks.silent.honest k))) h)

pub returns-in-Long-clause-fault : goal.returns-in-Long-clause-fault
returns-in-Long-clause-fault g c = λ arches all h.
    subst (λ (u : World). IfErr c.see_long.result (IsNamesDamage arches u)) c.read_format.ensures.looks.reads.world
    (c.see_long.ensures.fault arches (λ k. subst (AreAllPairs arches c.args.pairs.now) (sym c.read_format.ensures.looks.reads.world) (all (c.read_format.ensures.looks.silent.honest k))) h)

pub returns-in-Long-clause-reads : goal.returns-in-Long-clause-reads
returns-in-Long-clause-reads g c = reads_then _ _ _ c.read_format.ensures.looks.reads c.see_long.ensures.reads

pub returns-in-Unknown-clause-shows : goal.returns-in-Unknown-clause-shows
returns-in-Unknown-clause-shows g c = λ arches all h.
    subst (λ (u : World). IfOk c.see_unknown.result (λ (names : SeenNames). Shows (IsConverted arches) u names)) c.read_format.ensures.looks.reads.world
    (c.see_unknown.ensures.shows arches (λ k. subst (AreAllPairs arches c.args.pairs.now) (sym c.read_format.ensures.looks.reads.world) (all (c.read_format.ensures.looks.silent.honest k))) h)

pub returns-in-Unknown-clause-fault : goal.returns-in-Unknown-clause-fault
returns-in-Unknown-clause-fault g c = λ arches all h.
    subst (λ (u : World). IfErr c.see_unknown.result (IsNamesDamage arches u)) c.read_format.ensures.looks.reads.world
    (c.see_unknown.ensures.fault arches (λ k. subst (AreAllPairs arches c.args.pairs.now) (sym c.read_format.ensures.looks.reads.world) (all (c.read_format.ensures.looks.silent.honest k))) h)

pub returns-in-Unknown-clause-reads : goal.returns-in-Unknown-clause-reads
returns-in-Unknown-clause-reads g c = reads_then _ _ _ c.read_format.ensures.looks.reads c.see_unknown.ensures.reads
