use Rattle.std.proofs.Common.{◌≡◌, inl, inr, IfErr, IfOk, sym, subst, List}
use Rattle.host_core.specs.Paths.{Path}
use Rattle.host_core.specs.Tree.{IsListing}
use Rattle.host_core.specs.World.{World, IsDirectory}
use Rattle.host_core.specs.Host.{Needs}
use Rattle.host_core.proofs.Moments.{reads_then}
use Rattle.host_overlay.specs.declared.seen_names.SeenNames.{SeenNames}
use Rattle.administration.specs.Places.{info_path}
use Rattle.info_format.specs.Converting.{IsConverted, IsNamesDamage}
use Rattle.info_format.specs.Names.{architectures}
use Rattle.info_format.specs.Naming.{ArePairs, AreQualified}
use Rattle.info_format.specs.Seeing.{IsSeenThrough, Shows}
use Rattle.info_format.specs.Steps.{AreAllPairs}
use Rattle.info_format.proofs.Conversion.{all_apart, bad_at, pairs_all, pairs_parents}
use Rattle.info_format.proofs.Showings.{none_idle, ok_shows, seen_through}
use Rattle.info_format.proofs.Stages.{damaged_by}
use Rattle.info_format.proofs.shown.see_recorded.Goals as goal

pub returns-then-listing-clause-through : goal.returns-then-listing-clause-through
returns-then-listing-clause-through g c = λ h.
    let w = (g.H.Host.state c.args.host.now).world in
    let listing = c.in_ok-listing.listing in
    none_idle c.none.result w c.none.ensures (g.H.Host.tree c.args.host.now (c.list.ensures.silent.honest h))
    (inr (inr (inl (bad_at w listing.names listing.bad c.if-listing.true (subst (λ (p : Path). IsListing w p listing.names listing.bad) c.requires.place (c.in_ok-listing.ensures.listed h))))))

pub see_pairs-requires-clause-apart : goal.see_pairs-requires-clause-apart
see_pairs-requires-clause-apart g c =
    let arches = architectures c.args.database.now.records in
    let are : ArePairs arches c.as_slice-2.result.now c.in_ok-pairs.pairs.items = c.in_ok-pairs.ensures arches (subst (AreQualified arches) (sym c.as_slice.ensures.value) c.in_ok-packages.ensures) in
    let named : ArePairs arches c.in_ok-listing.listing.names c.as_slice-3.result.now =
    subst (λ (es : List Path). ArePairs arches es c.as_slice-3.result.now) c.as_slice-2.ensures (subst (ArePairs arches c.as_slice-2.result.now) (sym c.as_slice-3.ensures.value) are) in
    all_apart arches c.as_slice-3.result.now named.sound

pub see_pairs-requires-clause-parents : goal.see_pairs-requires-clause-parents
see_pairs-requires-clause-parents g c = λ h.
    let arches = architectures c.args.database.now.records in
    let are : ArePairs arches c.as_slice-2.result.now c.in_ok-pairs.pairs.items = c.in_ok-pairs.ensures arches (subst (AreQualified arches) (sym c.as_slice.ensures.value) c.in_ok-packages.ensures) in
    let named : ArePairs arches c.in_ok-listing.listing.names c.as_slice-3.result.now =
    subst (λ (es : List Path). ArePairs arches es c.as_slice-3.result.now) c.as_slice-2.ensures (subst (ArePairs arches c.as_slice-2.result.now) (sym c.as_slice-3.ensures.value) are) in
    pairs_parents arches (g.H.Host.state c.list.new.self).world c.as_slice-3.result.now named.sound (subst (λ (u : World). IsDirectory (u info_path)) (sym c.list.ensures.reads.world) (c.requires.there (c.list.ensures.silent.honest h)))

pub returns-clause-through : goal.returns-clause-through
returns-clause-through g c = λ h.
    let arches = architectures c.args.database.now.records in
    let are : ArePairs arches c.as_slice-2.result.now c.in_ok-pairs.pairs.items = c.in_ok-pairs.ensures arches (subst (AreQualified arches) (sym c.as_slice.ensures.value) c.in_ok-packages.ensures) in
    let named : ArePairs arches c.in_ok-listing.listing.names c.as_slice-3.result.now =
    subst (λ (es : List Path). ArePairs arches es c.as_slice-3.result.now) c.as_slice-2.ensures (subst (ArePairs arches c.as_slice-2.result.now) (sym c.as_slice-3.ensures.value) are) in
    let w = (g.H.Host.state c.args.host.now).world in
    let v = (g.H.Host.state c.list.new.self).world in
    let names = c.in_ok-listing.listing.names in
    let bad = c.in_ok-listing.listing.bad in
    let all : Needs (g.H.Host.state c.list.new.self) (AreAllPairs arches c.as_slice-3.result.now) = (λ h. pairs_all arches v names bad c.as_slice-3.result.now c.if-listing.false
    (subst (λ (u : World). IsListing u info_path names bad) (sym c.list.ensures.reads.world) (subst (λ (p : Path). IsListing w p names bad) c.requires.place (c.in_ok-listing.ensures.listed h))) named) in
    let has = c.requires.records (c.list.ensures.silent.honest (c.see_pairs.ensures.silent.honest h)) in
    ok_shows c.see_pairs.result (λ (k : SeenNames). Shows (IsConverted arches) v k) (IsSeenThrough w) (λ k is. seen_through c.args.database.now.records w k has (subst (λ (u : World). Shows (IsConverted arches) u k) c.list.ensures.reads.world is)) (c.see_pairs.ensures.shows arches all h)

pub returns-clause-fault : goal.returns-clause-fault
returns-clause-fault g c = λ h.
    let arches = architectures c.args.database.now.records in
    let are : ArePairs arches c.as_slice-2.result.now c.in_ok-pairs.pairs.items = c.in_ok-pairs.ensures arches (subst (AreQualified arches) (sym c.as_slice.ensures.value) c.in_ok-packages.ensures) in
    let named : ArePairs arches c.in_ok-listing.listing.names c.as_slice-3.result.now =
    subst (λ (es : List Path). ArePairs arches es c.as_slice-3.result.now) c.as_slice-2.ensures (subst (ArePairs arches c.as_slice-2.result.now) (sym c.as_slice-3.ensures.value) are) in
    let w = (g.H.Host.state c.args.host.now).world in
    let v = (g.H.Host.state c.list.new.self).world in
    let names = c.in_ok-listing.listing.names in
    let bad = c.in_ok-listing.listing.bad in
    let all : Needs (g.H.Host.state c.list.new.self) (AreAllPairs arches c.as_slice-3.result.now) = (λ h. pairs_all arches v names bad c.as_slice-3.result.now c.if-listing.false
    (subst (λ (u : World). IsListing u info_path names bad) (sym c.list.ensures.reads.world) (subst (λ (p : Path). IsListing w p names bad) c.requires.place (c.in_ok-listing.ensures.listed h))) named) in
    damaged_by c.see_pairs.result c.args.database.now.records w v c.list.ensures.reads.world (c.requires.records (c.list.ensures.silent.honest (c.see_pairs.ensures.silent.honest h))) (c.see_pairs.ensures.fault arches all h)

pub returns-clause-reads : goal.returns-clause-reads
returns-clause-reads g c = reads_then _ _ _ c.list.ensures.reads c.see_pairs.ensures.reads
