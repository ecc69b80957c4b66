use Rattle.std.proofs.Common.{◌≡◌, ◌⊎◌, ℕ, List, true, OnOk, Contains, subst}
use Rattle.std.specs.Prelude.{OnErr}
use Rattle.host_core.specs.Host.{AtEachMoment}
use Rattle.host_core.specs.Paths.{Path}
use Rattle.file_lists.specs.Filed.{Filed}
use Rattle.file_lists.specs.Taking.{without_all}
use Rattle.listed_files.specs.Closing.{HasReleased, MayRelease}
use Rattle.unpack_commit.proofs.moving.release_places.Goals as goal

pub release-requires-clause-named : goal.release-requires-clause-named
release-requires-clause-named g c = λ name has. c.requires.named name (subst (λ l. Contains l name) c.as_slice-losers.ensures has)

pub release-requires-clause-ready : goal.release-requires-clause-ready
release-requires-clause-ready g c = λ h name has. c.requires.ready h name (subst (λ l. Contains l name) c.as_slice-losers.ensures has)

pub returns-clause-lists : goal.returns-clause-lists
returns-clause-lists g c =
    let old : Filed = c.args.lists.now in
    subst (λ (x : List Path × List (List ℕ)). OnOk c.release.result (c.release.new.lists ≡ record old { lists = without_all c.args.diversions.now.ways x.0 x.1 old.lists }))
    (λ i. (c.as_slice-places.ensures.value i, c.as_slice-losers.ensures i)) c.release.ensures.lists

pub returns-clause-err : goal.returns-clause-err
returns-clause-err g c =
    let old : Filed = c.args.lists.now in
    subst (λ (x : List Path × List (List ℕ)). OnErr c.release.result ((c.release.new.lists.closed ≡ true) ⊎ (c.release.new.lists ≡ record old { lists = without_all c.args.diversions.now.ways x.0 x.1 old.lists })))
    (λ i. (c.as_slice-places.ensures.value i, c.as_slice-losers.ensures i)) c.release.ensures.err

pub returns-clause-released : goal.returns-clause-released
returns-clause-released g c = λ h.
    subst (λ (x : List Path × List (List ℕ) × List Path). OnOk c.release.result (HasReleased c.args.diversions.now.ways x.0 x.1 c.args.lists.now.lists x.2 (g.H.Host.state c.args.host.now).world (g.H.Host.state c.release.new.host).world))
    (λ i. (c.as_slice-places.ensures.value i, c.as_slice-losers.ensures i, c.as_slice-names.ensures.value i)) (c.release.ensures.released h)

pub returns-clause-any_moment : goal.returns-clause-any_moment
returns-clause-any_moment g c =
    subst (λ (x : List Path × List (List ℕ) × List Path). AtEachMoment (MayRelease c.args.diversions.now.ways x.0 x.1 c.args.lists.now.lists x.2) (g.H.Host.state c.args.host.now) (g.H.Host.state c.release.new.host))
    (λ i. (c.as_slice-places.ensures.value i, c.as_slice-losers.ensures i, c.as_slice-names.ensures.value i)) c.release.ensures.any_moment
