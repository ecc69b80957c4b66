use Rattle.std.proofs.Common.{inl, inr}
use Rattle.file_lists.specs.Taking.{IsTaking}
use Rattle.file_removal.specs.Clearing.{IsRetiring}
use Rattle.package_files.proofs.WriteMoments.{on_ok}
use Rattle.listed_files.specs.Closing.{MayRelease}
use Rattle.listed_files.proofs.Moments.{at_each, then_at_each}
use Rattle.listed_files.proofs.Closings.{spares_loose}
use Rattle.listed_files.proofs.closing.release.Goals as goal

pub returns-in_err-take_places-clause-any_moment : goal.returns-in_err-take_places-clause-any_moment
returns-in_err-take_places-clause-any_moment g c =
    let entries = c.args.diversions.now.ways in
    let places = c.args.places.now in
    let from = c.args.from.now in
    let had = c.args.lists.now.lists in
    at_each (IsTaking entries places from had) (MayRelease entries places from had c.args.names.now) _ _ (λ now is. inl is) c.take_places.ensures.any_moment

pub returns-clause-released : goal.returns-clause-released
returns-clause-released g c = λ h.
    let h0 = c.retire_names.ensures.silent.honest h in
    on_ok c.retire_names.result _ _
    (λ is. record {
      mid = _;
      taken = c.in_ok-take_places.ensures.taken h0;
      spares = spares_loose c.args.diversions.now.ways c.args.places.now c.args.from.now c.args.lists.now.lists _ _ c.take_places.ensures.any_moment h0;
      cleared = is;
    }) (c.retire_names.ensures.cleared h)

pub returns-clause-any_moment : goal.returns-clause-any_moment
returns-clause-any_moment g c =
    let entries = c.args.diversions.now.ways in
    let places = c.args.places.now in
    let from = c.args.from.now in
    let had = c.args.lists.now.lists in
    let names = c.args.names.now in
    then_at_each (IsTaking entries places from had) (IsRetiring names) (MayRelease entries places from had names) _ _ _ (λ now is. inl is)
    (λ h now is. (let h0 = c.retire_names.ensures.silent.honest h in
    inr (_, c.in_ok-take_places.ensures.taken h0, spares_loose entries places from had _ _ c.take_places.ensures.any_moment h0, is))) c.take_places.ensures.any_moment c.retire_names.ensures.any_moment

pub returns-clause-retired : goal.returns-clause-retired
returns-clause-retired g c = λ h.
    on_ok c.retire_names.result _ _ (λ is. (g.H.Host.state c.take_places.new.host, c.in_ok-take_places.ensures.taken (c.retire_names.ensures.silent.honest h), c.retire_names.ensures.lowered)) (c.retire_names.ensures.cleared h)
