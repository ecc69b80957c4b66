use Rattle.std.proofs.Common.{inl, refl, sym, subst, ap, ◌∙◌}
use Rattle.host_core.proofs.Counted.{fault_behind}
use Rattle.unit_reports.specs.Held.{held_by}
use Rattle.unpack_engine.specs.Units.{IsTouched}
use Rattle.unpack_engine.specs.declared.finishing.Unpacked.{Unpacked}
use Rattle.dpkg_session.proofs.Amid.{since_under_way}
use Rattle.dpkg_session.proofs.Outlasting.{answered_disk}
use Rattle.dpkg_session.proofs.Touching.{touched_beside}
use Rattle.dpkg_session.proofs.Yielding.{displaced_yield, none_among}
use Rattle.dpkg_session.specs.Units.{yielding}
use Rattle.dpkg_session.specs.declared.displacing.UnpackEnd.{UnpackEnd}
use Rattle.displaced_packages.specs.declared.displacing.Displaced.{Displaced}
use Rattle.dpkg_session.proofs.Whole.{called_whole, displaced_whole, since_whole, unwound_end}
use Rattle.dpkg_session.proofs.displacing.unpack_whole.Goals as goal
use Rattle.std.specs.Prelude.{IfSome}
use Rattle.dpkg_session.proofs.Denied.{none_denied}
use Rattle.unit_reports.specs.Units.{CountsCause}

pub unpack_refreshed-requires-clause-named : goal.unpack_refreshed-requires-clause-named
unpack_refreshed-requires-clause-named g c = c.requires.behind.name

pub displace-requires-clause-order : goal.displace-requires-clause-order
displace-requires-clause-order g c = c.in-Ok.ensures.order

-- the rows were unwound

pub returns-then-is_some-clause-unit : goal.returns-then-is_some-clause-unit
returns-then-is_some-clause-unit g c =
    unwound_end c.args.incoming c.args.beside.now (held_by c.args.administration.now c.args.diversions.now) c.unpack_refreshed.new.diversions.ways c.args.administration.now.places c.unpack_refreshed.new.administration.database c.unpack_refreshed.new.administration.lists.lists c.requires.open.kept
    c.in-Ok.unpacked.unwinding c.undisplaced.result.unpacked.unwinding c.undisplaced.result.displaced.names c.undisplaced.result.displaced.failed
    (g.H.Host.state c.args.host.now) (g.H.Host.state c.unpack_refreshed.new.host) c.args.told.now.items c.unpack_refreshed.new.told.items c.in-Ok.ensures.unit c.in-Ok.ensures.order (sym c.is_some.ensures ∙ c.if-is_some.true)
    (ap (λ (u : Unpacked). u.unwinding) c.undisplaced.ensures.unpacked) c.undisplaced.ensures.none c.undisplaced.ensures.no_failure

pub returns-then-is_some-clause-touched : goal.returns-then-is_some-clause-touched
returns-then-is_some-clause-touched g c = λ names unchanged both known.
    let before = c.args.administration.now.database.records in
    let after = c.unpack_refreshed.new.administration.database.records in
    let e = c.undisplaced.result in
    touched_beside c.args.incoming.name (yielding c.args.beside.now) e.displaced.names e.unpacked.touched names unchanged before after after
    (subst (λ (u : Unpacked). IsTouched c.args.incoming.name before after u.touched) (sym c.undisplaced.ensures.unpacked) c.in-Ok.ensures.touched) both known (λ q away. refl) (λ q has. absurd (none_among e.displaced.names q c.undisplaced.ensures.none has))

pub returns-then-is_some-clause-denied : goal.returns-then-is_some-clause-denied
returns-then-is_some-clause-denied g c =
    subst (λ (u : Unpacked). IfSome u.unwinding (λ one. CountsCause (g.H.Host.state c.args.host.now) (g.H.Host.state c.unpack_refreshed.new.host) one.failure)) (sym c.undisplaced.ensures.unpacked) c.in-Ok.ensures.denied

pub returns-then-is_some-clause-told : goal.returns-then-is_some-clause-told
returns-then-is_some-clause-told g c = inl c.unpack_refreshed.ensures.told

pub returns-then-is_some-clause-any_moment : goal.returns-then-is_some-clause-any_moment
returns-then-is_some-clause-any_moment g c =
    since_under_way c.args.incoming c.args.beside.now (held_by c.args.administration.now c.args.diversions.now) c.args.administration.now.places (g.H.Host.state c.args.host.now) (g.H.Host.state c.unpack_refreshed.new.host) c.requires.open.kept c.unpack_refreshed.ensures.any_moment

-- packages were displaced

pub returns-in-Ok-displace-clause-unit : goal.returns-in-Ok-displace-clause-unit
returns-in-Ok-displace-clause-unit g c =
    displaced_whole c.args.incoming c.args.beside.now (held_by c.args.administration.now c.args.diversions.now) c.unpack_refreshed.new.diversions.ways c.args.administration.now.places c.unpack_refreshed.new.administration.database c.unpack_refreshed.new.administration.lists.lists c.requires.open.kept
    c.args.behind.now c.requires.behind c.as_slice.result.now c.as_slice-in-Ok.result.now c.as_slice.ensures.value c.as_slice-in-Ok.ensures c.in-Ok.unpacked.unwinding (sym c.is_some.ensures ∙ c.if-is_some.false) (g.H.Host.state c.args.host.now) (g.H.Host.state c.unpack_refreshed.new.host) (g.H.Host.state c.displace.new.host)
    c.args.told.now.items c.unpack_refreshed.new.told.items c.in-Ok.ensures.unit
    c.in-Ok-displace.displaced.names c.in-Ok-displace.displaced.failed c.displace.new.administration.database c.displace.new.administration.lists.lists c.displace.new.told.items c.in-Ok.ensures.order c.in-Ok-displace.ensures.displaced

pub returns-in-Ok-displace-clause-denied : goal.returns-in-Ok-displace-clause-denied
returns-in-Ok-displace-clause-denied g c = none_denied c.in-Ok.unpacked.unwinding (g.H.Host.state c.args.host.now) (g.H.Host.state c.displace.new.host) (sym c.is_some.ensures ∙ c.if-is_some.false)

pub returns-in-Ok-displace-clause-touched : goal.returns-in-Ok-displace-clause-touched
returns-in-Ok-displace-clause-touched g c = λ names unchanged both known.
    touched_beside c.args.incoming.name (yielding c.args.beside.now) c.in-Ok-displace.displaced.names c.in-Ok.unpacked.touched names unchanged c.args.administration.now.database.records c.unpack_refreshed.new.administration.database.records c.displace.new.administration.database.records
    c.in-Ok.ensures.touched both known c.in-Ok-displace.ensures.others
    (displaced_yield _ _ _ c.args.administration.now.lists.lists c.args.beside.now _ _ _ _ _ _ _ _ _ _ (c.as_slice.ensures.value ∙ c.requires.behind.losing) c.as_slice-in-Ok.ensures c.in-Ok-displace.ensures.displaced)

pub returns-in-Ok-displace-clause-order : goal.returns-in-Ok-displace-clause-order
returns-in-Ok-displace-clause-order g c = c.in-Ok-displace.ensures.order

pub returns-in-Ok-displace-clause-on_disk : goal.returns-in-Ok-displace-clause-on_disk
returns-in-Ok-displace-clause-on_disk g c = answered_disk (g.H.Host.state c.unpack_refreshed.new.host) (g.H.Host.state c.displace.new.host) c.in-Ok-displace.ensures.answered c.in-Ok.ensures.on_disk

pub returns-in-Ok-displace-clause-told : goal.returns-in-Ok-displace-clause-told
returns-in-Ok-displace-clause-told g c =
    called_whole c.args.incoming c.args.beside.now (held_by c.args.administration.now c.args.diversions.now) c.unpack_refreshed.new.diversions.ways c.args.administration.now.places c.unpack_refreshed.new.administration.database c.unpack_refreshed.new.administration.lists.lists c.requires.open.kept
    c.args.behind.now c.requires.behind c.as_slice.result.now c.as_slice-in-Ok.result.now c.as_slice.ensures.value c.as_slice-in-Ok.ensures c.in-Ok.unpacked.unwinding (sym c.is_some.ensures ∙ c.if-is_some.false) (g.H.Host.state c.args.host.now) (g.H.Host.state c.unpack_refreshed.new.host) (g.H.Host.state c.displace.new.host)
    c.args.told.now.items c.unpack_refreshed.new.told.items c.in-Ok.ensures.unit c.displace.new.told.items c.displace.ensures.told

pub returns-in-Err-displace-clause-told : goal.returns-in-Err-displace-clause-told
returns-in-Err-displace-clause-told g c =
    called_whole c.args.incoming c.args.beside.now (held_by c.args.administration.now c.args.diversions.now) c.unpack_refreshed.new.diversions.ways c.args.administration.now.places c.unpack_refreshed.new.administration.database c.unpack_refreshed.new.administration.lists.lists c.requires.open.kept
    c.args.behind.now c.requires.behind c.as_slice.result.now c.as_slice-in-Ok.result.now c.as_slice.ensures.value c.as_slice-in-Ok.ensures c.in-Ok.unpacked.unwinding (sym c.is_some.ensures ∙ c.if-is_some.false) (g.H.Host.state c.args.host.now) (g.H.Host.state c.unpack_refreshed.new.host) (g.H.Host.state c.displace.new.host)
    c.args.told.now.items c.unpack_refreshed.new.told.items c.in-Ok.ensures.unit c.displace.new.told.items c.displace.ensures.told

pub returns-in-Ok-displace-clause-any_moment : goal.returns-in-Ok-displace-clause-any_moment
returns-in-Ok-displace-clause-any_moment g c =
    since_whole c.args.incoming c.args.beside.now (held_by c.args.administration.now c.args.diversions.now) c.unpack_refreshed.new.diversions.ways c.args.administration.now.places c.unpack_refreshed.new.administration.database c.unpack_refreshed.new.administration.lists.lists c.requires.open.kept
    c.args.behind.now c.requires.behind c.as_slice.result.now c.as_slice-in-Ok.result.now c.as_slice.ensures.value c.as_slice-in-Ok.ensures c.in-Ok.unpacked.unwinding (sym c.is_some.ensures ∙ c.if-is_some.false) (g.H.Host.state c.args.host.now) (g.H.Host.state c.unpack_refreshed.new.host) (g.H.Host.state c.displace.new.host)
    c.args.told.now.items c.unpack_refreshed.new.told.items c.in-Ok.ensures.unit c.requires.untold c.unpack_refreshed.ensures.any_moment c.displace.ensures.any_moment

pub returns-in-Err-displace-clause-any_moment : goal.returns-in-Err-displace-clause-any_moment
returns-in-Err-displace-clause-any_moment g c =
    since_whole c.args.incoming c.args.beside.now (held_by c.args.administration.now c.args.diversions.now) c.unpack_refreshed.new.diversions.ways c.args.administration.now.places c.unpack_refreshed.new.administration.database c.unpack_refreshed.new.administration.lists.lists c.requires.open.kept
    c.args.behind.now c.requires.behind c.as_slice.result.now c.as_slice-in-Ok.result.now c.as_slice.ensures.value c.as_slice-in-Ok.ensures c.in-Ok.unpacked.unwinding (sym c.is_some.ensures ∙ c.if-is_some.false) (g.H.Host.state c.args.host.now) (g.H.Host.state c.unpack_refreshed.new.host) (g.H.Host.state c.displace.new.host)
    c.args.told.now.items c.unpack_refreshed.new.told.items c.in-Ok.ensures.unit c.requires.untold c.unpack_refreshed.ensures.any_moment c.displace.ensures.any_moment

-- the unpack itself was broken off

pub returns-in-Err-clause-told : goal.returns-in-Err-clause-told
returns-in-Err-clause-told g c = inl c.unpack_refreshed.ensures.told

pub returns-in-Err-clause-any_moment : goal.returns-in-Err-clause-any_moment
returns-in-Err-clause-any_moment g c =
    since_under_way c.args.incoming c.args.beside.now (held_by c.args.administration.now c.args.diversions.now) c.args.administration.now.places (g.H.Host.state c.args.host.now) (g.H.Host.state c.unpack_refreshed.new.host) c.requires.open.kept c.unpack_refreshed.ensures.any_moment

pub returns-in-Err-displace-clause-counts : goal.returns-in-Err-displace-clause-counts
returns-in-Err-displace-clause-counts g c =
    fault_behind Displaced UnpackEnd (g.H.Host.state c.args.host.now) (g.H.Host.state c.unpack_refreshed.new.host) (g.H.Host.state c.displace.new.host) c.in-Err-displace.fault c.in-Ok.ensures.counts c.in-Err-displace.ensures.counts
