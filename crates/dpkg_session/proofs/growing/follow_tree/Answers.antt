use Rattle.std.proofs.Common.{◌≡◌, List, ap, subst, ◌∙◌}
use Rattle.host_core.specs.Paths.{Path}
use Rattle.opening.proofs.Followed.{on_ok}
use Rattle.package_tree.specs.ShipMap.{paths_of}
use Rattle.dpkg_session.specs.Growth.{AreAdded}
use Rattle.dpkg_session.proofs.growing.follow_tree.Goals as goal

pub returns-clause-added : goal.returns-clause-added
returns-clause-added g c =
    let same : c.as_slice-2.result.now ≡ paths_of c.args.incoming.now.files = c.as_slice-2.ensures.value ∙ c.in_ok-paths.ensures ∙ ap paths_of c.as_slice.ensures in
    on_ok c.follow_paths.result (λ (added, ways, read). (
      added,
      ways,
      λ h. subst (λ (ps : List Path). AreAdded (g.H.Host.state c.args.host.now).world ps c.args.diversions.now.ways.aliases added) same (read h),
    )) c.follow_paths.ensures.added

pub returns-clause-open : goal.returns-clause-open
returns-clause-open g c = on_ok c.follow_paths.result (λ places. record { noting = c.requires.open.noting; listing = c.requires.open.listing; kept = places }) c.follow_paths.ensures.places

pub follow_paths-requires : goal.follow_paths-requires
follow_paths-requires g c = record { kept = c.requires.open.kept }
