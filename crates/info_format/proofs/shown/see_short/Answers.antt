use Rattle.std.proofs.Common.{◌∙◌, ap, sym, subst, IfErr, IfOk}
use Rattle.host_core.specs.World.{World}
use Rattle.host_core.proofs.Moments.{reads_then}
use Rattle.host_overlay.specs.declared.seen_names.SeenNames.{SeenNames}
use Rattle.info_format.specs.Converting.{IsConverted, IsNamesDamage}
use Rattle.info_format.specs.Format.{format_path, says_one}
use Rattle.info_format.specs.Seeing.{Shows}
use Rattle.info_format.specs.Steps.{AreAllPairs}
use Rattle.info_format.proofs.Conversion.{none_to_clear}
use Rattle.info_format.proofs.Showings.{none_shows}
use Rattle.info_format.proofs.shown.see_short.Goals as goal

pub see_doubles-requires-clause-plain : goal.see_doubles-requires-clause-plain
see_doubles-requires-clause-plain g c = λ h. ap (λ (u : World). u format_path) c.has_long.ensures.looks.reads.world ∙ c.requires.plain (c.has_long.ensures.looks.silent.honest h)

pub returns-then-branch-clause-shows : goal.returns-then-branch-clause-shows
returns-then-branch-clause-shows g c = λ arches all h.
    subst (λ (u : World). IfOk c.see_doubles.result (λ (names : SeenNames). Shows (IsConverted arches) u names)) c.has_long.ensures.looks.reads.world
    (c.see_doubles.ensures.shows arches (λ k. subst (AreAllPairs arches c.args.pairs.now) (sym c.has_long.ensures.looks.reads.world) (all (c.has_long.ensures.looks.silent.honest k))) h)

pub returns-then-branch-clause-fault : goal.returns-then-branch-clause-fault
returns-then-branch-clause-fault g c = λ arches all h.
    subst (λ (u : World). IfErr c.see_doubles.result (IsNamesDamage arches u)) c.has_long.ensures.looks.reads.world
    (c.see_doubles.ensures.fault arches (λ k. subst (AreAllPairs arches c.args.pairs.now) (sym c.has_long.ensures.looks.reads.world) (all (c.has_long.ensures.looks.silent.honest k))) h)

pub returns-then-branch-clause-reads : goal.returns-then-branch-clause-reads
returns-then-branch-clause-reads g c = reads_then _ _ _ c.has_long.ensures.looks.reads c.see_doubles.ensures.reads

pub returns-clause-shows : goal.returns-clause-shows
returns-clause-shows g c = λ arches all h.
    let old = (g.H.Host.state c.args.host.now).world in
    let h0 = c.has_long.ensures.looks.silent.honest h in
    none_shows (IsConverted arches) c.none.result old c.none.ensures (g.H.Host.tree c.args.host.now h0)
    (none_to_clear arches c.args.pairs.now c.in_ok-has_long.field-0 old c.if-branch.false (c.in_ok-has_long.ensures.looks.found h) (all h0) (ap says_one (c.requires.plain h0)))
