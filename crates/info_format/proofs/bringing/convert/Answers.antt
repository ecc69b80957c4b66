use Rattle.std.proofs.Common.{◌≡◌, ◌∙◌, ◌⊎◌, inl, inr, IfErr, sym, subst, List}
use Rattle.host_core.specs.Paths.{Path}
use Rattle.host_core.specs.Tree.{IsListing}
use Rattle.host_core.specs.World.{World, IsDirectory}
use Rattle.host_core.specs.Host.{Needs, Since}
use Rattle.host_core.proofs.Moments.{since_reads, since_then}
use Rattle.administration.specs.Directories.{HasBadName}
use Rattle.administration.specs.Places.{info_path}
use Rattle.info_format.specs.Converting.{IsConverted, IsConverting, IsNamesDamage}
use Rattle.info_format.specs.Names.{architectures}
use Rattle.info_format.specs.Naming.{ArePairs, AreQualified}
use Rattle.info_format.specs.Steps.{AreAllPairs}
use Rattle.info_format.proofs.Conversion.{all_apart, bad_at, converting_start, on_ok_by, pairs_all, pairs_parents}
use Rattle.info_format.proofs.bringing.convert.Goals as goal

pub returns-in_err-listing-clause-any_moment : goal.returns-in_err-listing-clause-any_moment
returns-in_err-listing-clause-any_moment g c = since_reads _ _ _ c.list.ensures.reads (λ fs all. converting_start _ _)

pub returns-then-listing-clause-converted : goal.returns-then-listing-clause-converted
returns-then-listing-clause-converted g c = λ h.
    let w = (g.H.Host.state c.args.host.now).world in
    let listing = c.in_ok-listing.listing in
    inl (c.list.ensures.reads.world, bad_at w listing.names listing.bad c.if-listing.true (subst (λ (p : Path). IsListing w p listing.names listing.bad) c.in_ok-info.ensures (c.in_ok-listing.ensures.listed h)))

pub returns-then-listing-clause-any_moment : goal.returns-then-listing-clause-any_moment
returns-then-listing-clause-any_moment g c = since_reads _ _ _ c.list.ensures.reads (λ fs all. converting_start _ _)

pub returns-in_err-packages-clause-any_moment : goal.returns-in_err-packages-clause-any_moment
returns-in_err-packages-clause-any_moment g c = since_reads _ _ _ c.list.ensures.reads (λ fs all. converting_start _ _)

pub returns-in_err-pairs-clause-any_moment : goal.returns-in_err-pairs-clause-any_moment
returns-in_err-pairs-clause-any_moment g c = since_reads _ _ _ c.list.ensures.reads (λ fs all. converting_start _ _)

pub returns-in_err-format-clause-any_moment : goal.returns-in_err-format-clause-any_moment
returns-in_err-format-clause-any_moment g c = since_reads _ _ _ c.list.ensures.reads (λ fs all. converting_start _ _)

pub convert_pairs-requires-clause-apart : goal.convert_pairs-requires-clause-apart
convert_pairs-requires-clause-apart g c =
    let arches = architectures c.args.database.now.records in
    let are : ArePairs arches c.as_slice-2.result.now c.in_ok-pairs.pairs.items = c.in_ok-pairs.ensures arches (subst (AreQualified arches) (sym c.as_slice.ensures.value) c.in_ok-packages.ensures) in
    let named : ArePairs arches c.in_ok-listing.listing.names c.as_slice-3.result.now =
    subst (λ (es : List Path). ArePairs arches es c.as_slice-3.result.now) c.as_slice-2.ensures (subst (ArePairs arches c.as_slice-2.result.now) (sym c.as_slice-3.ensures.value) are) in
    all_apart arches c.as_slice-3.result.now named.sound

pub convert_pairs-requires-clause-parents : goal.convert_pairs-requires-clause-parents
convert_pairs-requires-clause-parents g c = λ h.
    let arches = architectures c.args.database.now.records in
    let are : ArePairs arches c.as_slice-2.result.now c.in_ok-pairs.pairs.items = c.in_ok-pairs.ensures arches (subst (AreQualified arches) (sym c.as_slice.ensures.value) c.in_ok-packages.ensures) in
    let named : ArePairs arches c.in_ok-listing.listing.names c.as_slice-3.result.now =
    subst (λ (es : List Path). ArePairs arches es c.as_slice-3.result.now) c.as_slice-2.ensures (subst (ArePairs arches c.as_slice-2.result.now) (sym c.as_slice-3.ensures.value) are) in
    pairs_parents arches (g.H.Host.state c.list.new.self).world c.as_slice-3.result.now named.sound (subst (λ (u : World). IsDirectory (u info_path)) (sym c.list.ensures.reads.world) (c.requires.info (c.list.ensures.silent.honest h)))

pub returns-clause-converted : goal.returns-clause-converted
returns-clause-converted g c = λ h.
    let arches = architectures c.args.database.now.records in
    let are : ArePairs arches c.as_slice-2.result.now c.in_ok-pairs.pairs.items = c.in_ok-pairs.ensures arches (subst (AreQualified arches) (sym c.as_slice.ensures.value) c.in_ok-packages.ensures) in
    let named : ArePairs arches c.in_ok-listing.listing.names c.as_slice-3.result.now =
    subst (λ (es : List Path). ArePairs arches es c.as_slice-3.result.now) c.as_slice-2.ensures (subst (ArePairs arches c.as_slice-2.result.now) (sym c.as_slice-3.ensures.value) are) in
    let w = (g.H.Host.state c.args.host.now).world in
    let v = (g.H.Host.state c.list.new.self).world in
    let names = c.in_ok-listing.listing.names in
    let bad = c.in_ok-listing.listing.bad in
    let all : Needs (g.H.Host.state c.list.new.self) (AreAllPairs arches c.as_slice-3.result.now) = (λ h. pairs_all arches v names bad c.as_slice-3.result.now c.if-listing.false
    (subst (λ (u : World). IsListing u info_path names bad) (sym c.list.ensures.reads.world) (subst (λ (p : Path). IsListing w p names bad) c.in_ok-info.ensures (c.in_ok-listing.ensures.listed h))) named) in
    let new = (g.H.Host.state c.convert_pairs.new.host).world in
    on_ok_by c.convert_pairs.result (IsConverted arches v new) (((new ≡ w) × HasBadName w info_path) ⊎ IsConverted arches w new) (λ is. inr (subst (λ (u : World). IsConverted arches u new) c.list.ensures.reads.world is)) (c.convert_pairs.ensures.converted arches all h)

pub returns-clause-fault : goal.returns-clause-fault
returns-clause-fault g c = λ h.
    let arches = architectures c.args.database.now.records in
    let are : ArePairs arches c.as_slice-2.result.now c.in_ok-pairs.pairs.items = c.in_ok-pairs.ensures arches (subst (AreQualified arches) (sym c.as_slice.ensures.value) c.in_ok-packages.ensures) in
    let named : ArePairs arches c.in_ok-listing.listing.names c.as_slice-3.result.now =
    subst (λ (es : List Path). ArePairs arches es c.as_slice-3.result.now) c.as_slice-2.ensures (subst (ArePairs arches c.as_slice-2.result.now) (sym c.as_slice-3.ensures.value) are) in
    let w = (g.H.Host.state c.args.host.now).world in
    let v = (g.H.Host.state c.list.new.self).world in
    let names = c.in_ok-listing.listing.names in
    let bad = c.in_ok-listing.listing.bad in
    let all : Needs (g.H.Host.state c.list.new.self) (AreAllPairs arches c.as_slice-3.result.now) = (λ h. pairs_all arches v names bad c.as_slice-3.result.now c.if-listing.false
    (subst (λ (u : World). IsListing u info_path names bad) (sym c.list.ensures.reads.world) (subst (λ (p : Path). IsListing w p names bad) c.in_ok-info.ensures (c.in_ok-listing.ensures.listed h))) named) in
    subst (λ (u : World). IfErr c.convert_pairs.result (IsNamesDamage arches u)) c.list.ensures.reads.world (c.convert_pairs.ensures.fault arches all h)

pub returns-clause-any_moment : goal.returns-clause-any_moment
returns-clause-any_moment g c =
    let arches = architectures c.args.database.now.records in
    let are : ArePairs arches c.as_slice-2.result.now c.in_ok-pairs.pairs.items = c.in_ok-pairs.ensures arches (subst (AreQualified arches) (sym c.as_slice.ensures.value) c.in_ok-packages.ensures) in
    let named : ArePairs arches c.in_ok-listing.listing.names c.as_slice-3.result.now =
    subst (λ (es : List Path). ArePairs arches es c.as_slice-3.result.now) c.as_slice-2.ensures (subst (ArePairs arches c.as_slice-2.result.now) (sym c.as_slice-3.ensures.value) are) in
    let w = (g.H.Host.state c.args.host.now).world in
    let v = (g.H.Host.state c.list.new.self).world in
    let names = c.in_ok-listing.listing.names in
    let bad = c.in_ok-listing.listing.bad in
    let all : Needs (g.H.Host.state c.list.new.self) (AreAllPairs arches c.as_slice-3.result.now) = (λ h. pairs_all arches v names bad c.as_slice-3.result.now c.if-listing.false
    (subst (λ (u : World). IsListing u info_path names bad) (sym c.list.ensures.reads.world) (subst (λ (p : Path). IsListing w p names bad) c.in_ok-info.ensures (c.in_ok-listing.ensures.listed h))) named) in
    since_then (λ so_far. IsConverting arches w) _ _ _ (since_reads _ _ _ c.list.ensures.reads (λ fs ok. converting_start arches w))
    (subst (λ (u : World). Since (λ so_far. IsConverting arches u) (g.H.Host.state c.list.new.self) (g.H.Host.state c.convert_pairs.new.host)) c.list.ensures.reads.world (c.convert_pairs.ensures.any_moment arches all))
