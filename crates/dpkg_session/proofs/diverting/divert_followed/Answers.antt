use Rattle.std.proofs.Common.{◌≡◌, ◌++◌, ◌∷◌, [], inl, inr, ℕ, List, ap, refl, subst, sym, ◌∙◌}
use Rattle.host_core.proofs.Moments.{since_start}
use Rattle.host_core.specs.Host.{AtEachMoment}
use Rattle.host_core.specs.World.{World}
use Rattle.diversions.proofs.Turning.{goes_here, later_by, looks_then_turn, looks_turn}
use Rattle.diversions.specs.Changes.{IsAdding, IsRemoving, IsTableReady}
use Rattle.diversions.specs.Diverted.{Diverted}
use Rattle.diversions.specs.Ways.{Ways}
use Rattle.dpkg_session.specs.Diversions.{HasDiverted, HasUndiverted, IsDiverted, IsDiverting, IsUndiverted, IsUndiverting, asked_entry, seen_of}
use Rattle.dpkg_session.specs.Growth.{AreAdded, with_more}
use Rattle.dpkg_session.proofs.Growth.{diverted_from, diverting_looked, diverting_moments}
use Rattle.dpkg_session.proofs.diverting.divert_followed.Goals as goal

pub returns-in-Ok-follow_paths-clause-whole : goal.returns-in-Ok-follow_paths-clause-whole
returns-in-Ok-follow_paths-clause-whole g c = λ none.
    let asked = c.args.asked.now in
    let records = c.args.database.now.records in
    let lists = c.args.lists.now.lists in
    let before = c.args.diversions.now.ways in
    let (added, ways, read) = c.in-Ok-follow_paths.ensures.added in
    let s = g.H.Host.state c.args.host.now in
    let m = g.H.Host.state c.follow_paths.new.host in
    let t = g.H.Host.state c.divert_on.new.host in
    let one = c.divert_on.ensures.whole none in (
      one.0,
      one.1,
      record {
        added = added;
        read = λ h. subst (λ (ps : List (List ℕ)). AreAdded s.world ps before.aliases added) (c.as_slice.ensures.value ∙ c.in-Ok.ensures) (read (c.divert_on.ensures.any_moment.honest h));
        is = diverted_from asked (seen_of (before.aliases ++ added) records lists asked.owner asked.path) (with_more before added) c.divert_on.new.diversions.ways one.0 s m t c.follow_paths.ensures.reads
            (subst (λ (w : Ways). IsDiverted asked (seen_of w.aliases records lists asked.owner asked.path) w c.divert_on.new.diversions.ways one.0 m t) ways one.2);
      },
    )

pub returns-in-Ok-follow_paths-clause-any_moment : goal.returns-in-Ok-follow_paths-clause-any_moment
returns-in-Ok-follow_paths-clause-any_moment g c =
    let asked = c.args.asked.now in
    let records = c.args.database.now.records in
    let lists = c.args.lists.now.lists in
    let before = c.args.diversions.now.ways in
    let (added, ways, read) = c.in-Ok-follow_paths.ensures.added in
    let s = g.H.Host.state c.args.host.now in
    let m = g.H.Host.state c.follow_paths.new.host in
    let t = g.H.Host.state c.divert_on.new.host in
    let P : Ways → World → World → Type 0 = λ w old now. IsAdding w (asked_entry asked) asked.rename (seen_of w.aliases records lists asked.owner asked.path) old now in
    diverting_moments (P (with_more before added)) (IsDiverting asked records lists before) s m t c.follow_paths.ensures.reads c.in-Ok-follow_paths.ensures.counts
    (λ h now amid. inr (added, subst (λ (ps : List (List ℕ)). AreAdded s.world ps before.aliases added) (c.as_slice.ensures.value ∙ c.in-Ok.ensures) (read (c.divert_on.ensures.any_moment.honest h)), amid))
    (subst (λ (w : Ways). AtEachMoment (P w) m t) ways c.divert_on.ensures.any_moment)

pub divert_on-requires-clause-ready : goal.divert_on-requires-clause-ready
divert_on-requires-clause-ready g c = λ h. subst IsTableReady (sym c.follow_paths.ensures.reads.world) (c.requires.ready (c.follow_paths.ensures.reads.honest h))

pub divert_on-requires-clause-writable : goal.divert_on-requires-clause-writable
divert_on-requires-clause-writable g c = ap (λ (d : Diverted). d.closed) c.follow_paths.ensures.kept ∙ c.requires.writable

pub divert_on-requires-clause-kept : goal.divert_on-requires-clause-kept
divert_on-requires-clause-kept g c = c.in-Ok-follow_paths.ensures.places

pub returns-in-Ok-follow_paths-clause-turns : goal.returns-in-Ok-follow_paths-clause-turns
returns-in-Ok-follow_paths-clause-turns g c = looks_then_turn _ _ _ c.follow_paths.ensures.reads (later_by _ _ _ c.divert_on.ensures.any_moment) c.divert_on.ensures.turns

pub returns-clause-any_moment : goal.returns-clause-any_moment
returns-clause-any_moment g c = diverting_looked (IsDiverting c.args.asked.now c.args.database.now.records c.args.lists.now.lists c.args.diversions.now.ways) (g.H.Host.state c.args.host.now) (g.H.Host.state c.follow_paths.new.host) c.follow_paths.ensures.reads (inl refl)

pub returns-clause-turns : goal.returns-clause-turns
returns-clause-turns g c = looks_turn _ _ c.follow_paths.ensures.reads

pub returns-in_default-clause-turns : goal.returns-in_default-clause-turns
returns-in_default-clause-turns g c = goes_here _

pub returns-in_default-clause-any_moment : goal.returns-in_default-clause-any_moment
returns-in_default-clause-any_moment g c = since_start _ (g.H.Host.state c.args.host.now) (inl refl)
