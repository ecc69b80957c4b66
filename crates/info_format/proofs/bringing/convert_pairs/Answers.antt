use Rattle.std.proofs.Common.{◌≡◌, ◌∙◌, ap, sym, subst, true, IfErr, None}
use Rattle.host_core.specs.Paths.{Path}
use Rattle.host_core.specs.World.{World}
use Rattle.host_core.specs.Host.{Since}
use Rattle.host_core.proofs.Moments.{reads_then, since_reads, since_then}
use Rattle.info_format.specs.Converting.{IsConverted, IsConverting, IsNamesDamage}
use Rattle.info_format.specs.Format.{IsSaid, format_path, is_one, says_one}
use Rattle.info_format.specs.Steps.{AreAllPairs, HaveParents}
use Rattle.info_format.proofs.Conversion.{converting_start, odd_at, on_ok_by}
use Rattle.info_format.proofs.bringing.convert_pairs.Goals as goal

pub returns-in_err-read_format-clause-any_moment : goal.returns-in_err-read_format-clause-any_moment
returns-in_err-read_format-clause-any_moment g c = λ arches all. since_reads _ _ _ c.read_format.ensures.looks.reads (λ fs ok. converting_start arches (g.H.Host.state c.args.host.now).world)

pub convert_short-requires-clause-plain : goal.convert_short-requires-clause-plain
convert_short-requires-clause-plain g c = λ h.
    let w = (g.H.Host.state c.args.host.now).world in
    let none : w c.args.format.now ≡ None = subst (IsSaid (w c.args.format.now)) c.in-Short.is (c.in_ok-read_format.ensures.looks.found h) in
    ap (λ (u : World). u format_path) c.read_format.ensures.looks.reads.world ∙ ap w (sym c.requires.place) ∙ none

pub convert_long-requires-clause-parents : goal.convert_long-requires-clause-parents
convert_long-requires-clause-parents g c = λ h. subst (HaveParents c.args.pairs.now) (sym c.read_format.ensures.looks.reads.world) (c.requires.parents (c.read_format.ensures.looks.silent.honest h))

pub convert_long-requires-clause-one : goal.convert_long-requires-clause-one
convert_long-requires-clause-one g c = λ h.
    let w = (g.H.Host.state c.args.host.now).world in
    let one : says_one (w c.args.format.now) ≡ true = subst (IsSaid (w c.args.format.now)) c.in-Long.is (c.in_ok-read_format.ensures.looks.found h) in
    ap is_one c.read_format.ensures.looks.reads.world ∙ ap (λ (p : Path). says_one (w p)) (sym c.requires.place) ∙ one

pub returns-in-Short-clause-converted : goal.returns-in-Short-clause-converted
returns-in-Short-clause-converted g c = λ arches all h.
    let new = (g.H.Host.state c.convert_short.new.host).world in
    on_ok_by c.convert_short.result (IsConverted arches (g.H.Host.state c.read_format.new.host).world new) (IsConverted arches (g.H.Host.state c.args.host.now).world new) (λ is. subst (λ (u : World). IsConverted arches u new) c.read_format.ensures.looks.reads.world is)
    (c.convert_short.ensures.converted arches (λ k. subst (AreAllPairs arches c.args.pairs.now) (sym c.read_format.ensures.looks.reads.world) (all (c.read_format.ensures.looks.silent.honest k))) h)

pub returns-in-Short-clause-fault : goal.returns-in-Short-clause-fault
returns-in-Short-clause-fault g c = λ arches all h.
    subst (λ (u : World). IfErr c.convert_short.result (IsNamesDamage arches u)) c.read_format.ensures.looks.reads.world
    (c.convert_short.ensures.fault arches (λ k. subst (AreAllPairs arches c.args.pairs.now) (sym c.read_format.ensures.looks.reads.world) (all (c.read_format.ensures.looks.silent.honest k))) h)

pub returns-in-Short-clause-any_moment : goal.returns-in-Short-clause-any_moment
returns-in-Short-clause-any_moment g c = λ arches all.
    let w = (g.H.Host.state c.args.host.now).world in
    since_then (λ so_far. IsConverting arches w) _ _ _ (since_reads _ _ _ c.read_format.ensures.looks.reads (λ fs ok. converting_start arches w))
    (subst (λ (u : World). Since (λ so_far. IsConverting arches u) (g.H.Host.state c.read_format.new.host) (g.H.Host.state c.convert_short.new.host)) c.read_format.ensures.looks.reads.world
    (c.convert_short.ensures.any_moment arches (λ h. subst (AreAllPairs arches c.args.pairs.now) (sym c.read_format.ensures.looks.reads.world) (all (c.read_format.ensures.looks.silent.honest h)))))

pub returns-in-Long-clause-converted : goal.returns-in-Long-clause-converted
returns-in-Long-clause-converted g c = λ arches all h.
    let new = (g.H.Host.state c.convert_long.new.host).world in
    on_ok_by c.convert_long.result (IsConverted arches (g.H.Host.state c.read_format.new.host).world new) (IsConverted arches (g.H.Host.state c.args.host.now).world new) (λ is. subst (λ (u : World). IsConverted arches u new) c.read_format.ensures.looks.reads.world is)
    (c.convert_long.ensures.converted arches (λ k. subst (AreAllPairs arches c.args.pairs.now) (sym c.read_format.ensures.looks.reads.world) (all (c.read_format.ensures.looks.silent.honest k))) h)

pub returns-in-Long-clause-fault : goal.returns-in-Long-clause-fault
returns-in-Long-clause-fault g c = λ arches all h.
    subst (λ (u : World). IfErr c.convert_long.result (IsNamesDamage arches u)) c.read_format.ensures.looks.reads.world
    (c.convert_long.ensures.fault arches (λ k. subst (AreAllPairs arches c.args.pairs.now) (sym c.read_format.ensures.looks.reads.world) (all (c.read_format.ensures.looks.silent.honest k))) h)

pub returns-in-Long-clause-any_moment : goal.returns-in-Long-clause-any_moment
returns-in-Long-clause-any_moment g c = λ arches all.
    let w = (g.H.Host.state c.args.host.now).world in
    since_then (λ so_far. IsConverting arches w) _ _ _ (since_reads _ _ _ c.read_format.ensures.looks.reads (λ fs ok. converting_start arches w))
    (subst (λ (u : World). Since (λ so_far. IsConverting arches u) (g.H.Host.state c.read_format.new.host) (g.H.Host.state c.convert_long.new.host)) c.read_format.ensures.looks.reads.world
    (c.convert_long.ensures.any_moment arches (λ h. subst (AreAllPairs arches c.args.pairs.now) (sym c.read_format.ensures.looks.reads.world) (all (c.read_format.ensures.looks.silent.honest h)))))

pub pass_unknown-requires-clause-unknown : goal.pass_unknown-requires-clause-unknown
pass_unknown-requires-clause-unknown g c = λ h.
    let w = (g.H.Host.state c.args.host.now).world in
    let said = subst (IsSaid (w c.args.format.now)) c.in-Unknown.is (c.in_ok-read_format.ensures.looks.found h) in
    odd_at w _ c.args.format.now c.requires.place c.read_format.ensures.looks.reads.world said.0 said.1

pub returns-in-Unknown-clause-converted : goal.returns-in-Unknown-clause-converted
returns-in-Unknown-clause-converted g c = λ arches all h.
    let new = (g.H.Host.state c.pass_unknown.new.host).world in
    on_ok_by c.pass_unknown.result (IsConverted arches (g.H.Host.state c.read_format.new.host).world new) (IsConverted arches (g.H.Host.state c.args.host.now).world new) (λ is. subst (λ (u : World). IsConverted arches u new) c.read_format.ensures.looks.reads.world is)
    (c.pass_unknown.ensures.converted arches (λ k. subst (AreAllPairs arches c.args.pairs.now) (sym c.read_format.ensures.looks.reads.world) (all (c.read_format.ensures.looks.silent.honest k))) h)

pub returns-in-Unknown-clause-fault : goal.returns-in-Unknown-clause-fault
returns-in-Unknown-clause-fault g c = λ arches all h.
    subst (λ (u : World). IfErr c.pass_unknown.result (IsNamesDamage arches u)) c.read_format.ensures.looks.reads.world
    (c.pass_unknown.ensures.fault arches (λ k. subst (AreAllPairs arches c.args.pairs.now) (sym c.read_format.ensures.looks.reads.world) (all (c.read_format.ensures.looks.silent.honest k))) h)

pub returns-in-Unknown-clause-any_moment : goal.returns-in-Unknown-clause-any_moment
returns-in-Unknown-clause-any_moment g c = λ arches all. since_reads _ _ _ (reads_then _ _ _ c.read_format.ensures.looks.reads c.pass_unknown.ensures.reads) (λ fs ok. converting_start arches (g.H.Host.state c.args.host.now).world)
