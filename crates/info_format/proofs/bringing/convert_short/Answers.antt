use Rattle.std.proofs.Common.{◌≡◌, ◌∙◌, ap, sym, subst, IfErr}
use Rattle.host_core.specs.World.{World}
use Rattle.host_core.specs.Host.{Since}
use Rattle.host_core.proofs.Moments.{since_reads, since_then}
use Rattle.info_format.specs.Converting.{IsConverted, IsConverting, IsNamesDamage}
use Rattle.info_format.specs.Format.{format_path, says_one}
use Rattle.info_format.specs.Steps.{AreAllPairs}
use Rattle.info_format.proofs.Conversion.{converting_start, none_to_clear, on_ok_by}
use Rattle.info_format.proofs.bringing.convert_short.Goals as goal

pub returns-in_err-has_long-clause-any_moment : goal.returns-in_err-has_long-clause-any_moment
returns-in_err-has_long-clause-any_moment g c = λ arches all. since_reads _ _ _ c.has_long.ensures.looks.reads (λ fs ok. converting_start arches (g.H.Host.state c.args.host.now).world)

pub clear_doubles-requires-clause-plain : goal.clear_doubles-requires-clause-plain
clear_doubles-requires-clause-plain g c = λ h. ap (λ (u : World). u format_path) c.has_long.ensures.looks.reads.world ∙ c.requires.plain (c.has_long.ensures.looks.silent.honest h)

pub returns-then-branch-clause-converted : goal.returns-then-branch-clause-converted
returns-then-branch-clause-converted g c = λ arches all h.
    let new = (g.H.Host.state c.clear_doubles.new.host).world in
    on_ok_by c.clear_doubles.result (IsConverted arches (g.H.Host.state c.has_long.new.host).world new) (IsConverted arches (g.H.Host.state c.args.host.now).world new) (λ is. subst (λ (u : World). IsConverted arches u new) c.has_long.ensures.looks.reads.world is)
    (c.clear_doubles.ensures.converted arches (λ k. subst (AreAllPairs arches c.args.pairs.now) (sym c.has_long.ensures.looks.reads.world) (all (c.has_long.ensures.looks.silent.honest k))) h)

pub returns-then-branch-clause-fault : goal.returns-then-branch-clause-fault
returns-then-branch-clause-fault g c = λ arches all h.
    subst (λ (u : World). IfErr c.clear_doubles.result (IsNamesDamage arches u)) c.has_long.ensures.looks.reads.world
    (c.clear_doubles.ensures.fault arches (λ k. subst (AreAllPairs arches c.args.pairs.now) (sym c.has_long.ensures.looks.reads.world) (all (c.has_long.ensures.looks.silent.honest k))) h)

pub returns-then-branch-clause-any_moment : goal.returns-then-branch-clause-any_moment
returns-then-branch-clause-any_moment g c = λ arches all.
    let w = (g.H.Host.state c.args.host.now).world in
    since_then (λ so_far. IsConverting arches w) _ _ _ (since_reads _ _ _ c.has_long.ensures.looks.reads (λ fs ok. converting_start arches w))
    (subst (λ (u : World). Since (λ so_far. IsConverting arches u) (g.H.Host.state c.has_long.new.host) (g.H.Host.state c.clear_doubles.new.host)) c.has_long.ensures.looks.reads.world
    (c.clear_doubles.ensures.any_moment arches (λ h. subst (AreAllPairs arches c.args.pairs.now) (sym c.has_long.ensures.looks.reads.world) (all (c.has_long.ensures.looks.silent.honest h)))))

pub returns-clause-converted : goal.returns-clause-converted
returns-clause-converted g c = λ arches all h.
    let old = (g.H.Host.state c.args.host.now).world in
    let h0 = c.has_long.ensures.looks.silent.honest h in
    subst (λ (v : World). IsConverted arches old v) (sym c.has_long.ensures.looks.reads.world)
    (none_to_clear arches c.args.pairs.now c.in_ok-has_long.field-0 old c.if-branch.false (c.in_ok-has_long.ensures.looks.found h) (all h0) (ap says_one (c.requires.plain h0)))

pub returns-clause-any_moment : goal.returns-clause-any_moment
returns-clause-any_moment g c = λ arches all. since_reads _ _ _ c.has_long.ensures.looks.reads (λ fs ok. converting_start arches (g.H.Host.state c.args.host.now).world)
