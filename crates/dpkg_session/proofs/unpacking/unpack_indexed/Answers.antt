use Rattle.undo_rows.specs.Ended.{ended_as}
use Rattle.unpack_engine.specs.Units.{GoesByTable, HasFailedFor, HasUnpacked}
use Rattle.unit_reports.specs.Held.{held_by}
use Rattle.dpkg_session.specs.Units.{HasUnpackedBeside, given_by}
use Rattle.dpkg_session.proofs.Looking.{called_beside, if_ok_all, looking, nothing_called, under_way, unpacked_beside}
use Rattle.dpkg_session.proofs.unpacking.unpack_indexed.Goals as goal
use Rattle.dpkg_session.proofs.Denied.{denied_from}
use Rattle.unpack_engine.specs.declared.finishing.Unpacked.{Unpacked}

pub unpack_to_disk-requires-clause-others : goal.unpack_to_disk-requires-clause-others
unpack_to_disk-requires-clause-others g c = c.in-Ok.ensures.rows.apart

pub returns-in-Ok-clause-unit : goal.returns-in-Ok-clause-unit
returns-in-Ok-clause-unit g c =
    let h = held_by c.args.administration.now c.args.diversions.now in
    let others = c.in-Ok.others in
    let late = c.unpack_to_disk.new.diversions.ways in
    let given = given_by c.args.incoming h late others.packages.items others.yields in
    let after = c.unpack_to_disk.new.administration.database in
    let lists = c.unpack_to_disk.new.administration.lists.lists in
    let places = c.args.administration.now.places in
    let s = g.H.Host.state c.args.host.now in
    let m = g.H.Host.state c.others_beside.new.host in
    let t = g.H.Host.state c.unpack_to_disk.new.host in
    let told = c.args.told.now.items in
    let now = c.unpack_to_disk.new.told.items in
    if_ok_all c.unpack_to_disk.result (λ u. HasUnpacked given places (ended_as u.unwinding) after lists m t told now) (λ u. HasFailedFor given m t u.unwinding) (λ u. GoesByTable given u.unwinding m t)
    (λ u. HasUnpackedBeside c.args.incoming c.args.beside.now h late places u.unwinding after lists s t told now)
    (λ u is failed goes. unpacked_beside c.args.incoming c.args.beside.now (held_by c.args.administration.now c.args.diversions.now) c.args.administration.now.places (g.H.Host.state c.args.host.now) (g.H.Host.state c.others_beside.new.host) c.others_beside.ensures.reads c.others_beside.ensures.silent
    c.in-Ok.others.packages.items c.in-Ok.others.yields c.in-Ok.ensures.yields c.in-Ok.ensures.rows (g.H.Host.state c.unpack_to_disk.new.host) c.unpack_to_disk.ensures.any_moment.honest told now late c.unpack_to_disk.ensures.any_moment u.unwinding after lists is failed goes)
    c.unpack_to_disk.ensures.unit c.unpack_to_disk.ensures.cause c.unpack_to_disk.ensures.table

pub returns-in-Ok-clause-told : goal.returns-in-Ok-clause-told
returns-in-Ok-clause-told g c =
    called_beside c.args.incoming c.args.beside.now (held_by c.args.administration.now c.args.diversions.now) c.args.administration.now.places (g.H.Host.state c.args.host.now) (g.H.Host.state c.others_beside.new.host) c.others_beside.ensures.reads c.others_beside.ensures.silent
    c.in-Ok.others.packages.items c.in-Ok.others.yields c.in-Ok.ensures.yields c.in-Ok.ensures.rows (g.H.Host.state c.unpack_to_disk.new.host) c.unpack_to_disk.ensures.any_moment.honest c.args.told.now.items c.unpack_to_disk.new.told.items c.unpack_to_disk.ensures.told

pub returns-in-Ok-clause-any_moment : goal.returns-in-Ok-clause-any_moment
returns-in-Ok-clause-any_moment g c =
    under_way c.args.incoming c.args.beside.now (held_by c.args.administration.now c.args.diversions.now) c.args.administration.now.places (g.H.Host.state c.args.host.now) (g.H.Host.state c.others_beside.new.host) c.others_beside.ensures.reads c.others_beside.ensures.silent
    c.in-Ok.others.packages.items c.in-Ok.others.yields c.in-Ok.ensures.yields c.in-Ok.ensures.rows (g.H.Host.state c.unpack_to_disk.new.host) c.unpack_to_disk.ensures.any_moment.honest c.unpack_to_disk.new.diversions.ways c.unpack_to_disk.ensures.any_moment

pub returns-in-Err-clause-told : goal.returns-in-Err-clause-told
returns-in-Err-clause-told g c = nothing_called c.args.incoming c.args.beside.now (held_by c.args.administration.now c.args.diversions.now) c.args.administration.now.places (g.H.Host.state c.args.host.now) (g.H.Host.state c.others_beside.new.host) c.others_beside.ensures.reads c.others_beside.ensures.silent c.args.told.now.items

pub returns-in-Err-clause-any_moment : goal.returns-in-Err-clause-any_moment
returns-in-Err-clause-any_moment g c = looking c.args.incoming c.args.beside.now (held_by c.args.administration.now c.args.diversions.now) c.args.administration.now.places (g.H.Host.state c.args.host.now) (g.H.Host.state c.others_beside.new.host) c.others_beside.ensures.reads c.others_beside.ensures.silent

pub returns-in-Ok-clause-denied : goal.returns-in-Ok-clause-denied
returns-in-Ok-clause-denied g c =
    denied_from (λ (u : Unpacked). u.unwinding) c.unpack_to_disk.result (g.H.Host.state c.args.host.now) (g.H.Host.state c.others_beside.new.host) (g.H.Host.state c.unpack_to_disk.new.host) c.in-Ok.ensures.counts c.unpack_to_disk.ensures.denied
