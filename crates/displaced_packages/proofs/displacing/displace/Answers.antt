use Rattle.unit_stages.specs.Holding.{holding_of}
use Rattle.displaced_packages.proofs.Barriers.{displaced_answered, order_behind}
use Rattle.displaced_packages.proofs.Going.{called_to_disk, silent_here, since_displaced, since_displacing}
use Rattle.displaced_packages.proofs.displacing.displace.Goals as goal

pub returns-in-Ok-bring_to_disk-clause-displaced : goal.returns-in-Ok-bring_to_disk-clause-displaced
returns-in-Ok-bring_to_disk-clause-displaced g c = record { end = g.H.Host.state c.displace_all.new.host; gone = c.in-Ok.ensures.gone; disk = c.in-Ok-bring_to_disk.ensures.disk }

pub returns-in-Ok-bring_to_disk-clause-order : goal.returns-in-Ok-bring_to_disk-clause-order
returns-in-Ok-bring_to_disk-clause-order g c =
    order_behind c.displace_all.new.administration.database c.displace_all.new.administration.lists.lists c.args.losing.now c.args.conflicting.now (g.H.Host.state c.displace_all.new.host) (g.H.Host.state c.bring_to_disk.new.host) c.in-Ok-bring_to_disk.ensures.disk c.in-Ok.ensures.order

pub returns-in-Ok-bring_to_disk-clause-answered : goal.returns-in-Ok-bring_to_disk-clause-answered
returns-in-Ok-bring_to_disk-clause-answered g c =
    displaced_answered c.args.incoming.now c.args.version.now c.args.diversions.now.ways c.args.losing.now c.args.conflicting.now c.in-Ok.displaced.names c.in-Ok.displaced.failed (holding_of c.args.administration.now)
    (holding_of c.displace_all.new.administration) (g.H.Host.state c.args.host.now) (g.H.Host.state c.bring_to_disk.new.host) c.args.told.now.items c.displace_all.new.told.items
    (record { end = g.H.Host.state c.displace_all.new.host; gone = c.in-Ok.ensures.gone; disk = c.in-Ok-bring_to_disk.ensures.disk })

pub returns-in-Ok-bring_to_disk-clause-told : goal.returns-in-Ok-bring_to_disk-clause-told
returns-in-Ok-bring_to_disk-clause-told g c =
    called_to_disk c.args.incoming.now c.args.version.now c.args.diversions.now.ways c.args.losing.now c.args.conflicting.now (holding_of c.args.administration.now) (g.H.Host.state c.args.host.now) (g.H.Host.state c.displace_all.new.host) (g.H.Host.state c.bring_to_disk.new.host)
    c.args.told.now.items c.displace_all.new.told.items c.displace_all.ensures.told c.bring_to_disk.ensures.silent

pub returns-in-Err-bring_to_disk-clause-told : goal.returns-in-Err-bring_to_disk-clause-told
returns-in-Err-bring_to_disk-clause-told g c =
    called_to_disk c.args.incoming.now c.args.version.now c.args.diversions.now.ways c.args.losing.now c.args.conflicting.now (holding_of c.args.administration.now) (g.H.Host.state c.args.host.now) (g.H.Host.state c.displace_all.new.host) (g.H.Host.state c.bring_to_disk.new.host)
    c.args.told.now.items c.displace_all.new.told.items c.displace_all.ensures.told c.bring_to_disk.ensures.silent

pub returns-in-Err-clause-told : goal.returns-in-Err-clause-told
returns-in-Err-clause-told g c =
    called_to_disk c.args.incoming.now c.args.version.now c.args.diversions.now.ways c.args.losing.now c.args.conflicting.now (holding_of c.args.administration.now) (g.H.Host.state c.args.host.now) (g.H.Host.state c.displace_all.new.host) (g.H.Host.state c.displace_all.new.host)
    c.args.told.now.items c.displace_all.new.told.items c.displace_all.ensures.told (silent_here (g.H.Host.state c.displace_all.new.host))

pub returns-in-Ok-bring_to_disk-clause-any_moment : goal.returns-in-Ok-bring_to_disk-clause-any_moment
returns-in-Ok-bring_to_disk-clause-any_moment g c =
    since_displaced c.args.incoming.now c.args.version.now c.args.diversions.now.ways c.args.losing.now c.args.conflicting.now (holding_of c.args.administration.now) c.bring_to_disk.result (g.H.Host.state c.args.host.now) (g.H.Host.state c.displace_all.new.host) (g.H.Host.state c.bring_to_disk.new.host)
    c.displace_all.ensures.any_moment c.bring_to_disk.ensures.does

pub returns-in-Err-bring_to_disk-clause-any_moment : goal.returns-in-Err-bring_to_disk-clause-any_moment
returns-in-Err-bring_to_disk-clause-any_moment g c =
    since_displaced c.args.incoming.now c.args.version.now c.args.diversions.now.ways c.args.losing.now c.args.conflicting.now (holding_of c.args.administration.now) c.bring_to_disk.result (g.H.Host.state c.args.host.now) (g.H.Host.state c.displace_all.new.host) (g.H.Host.state c.bring_to_disk.new.host)
    c.displace_all.ensures.any_moment c.bring_to_disk.ensures.does

pub returns-in-Err-clause-any_moment : goal.returns-in-Err-clause-any_moment
returns-in-Err-clause-any_moment g c =
    since_displacing c.args.incoming.now c.args.version.now c.args.diversions.now.ways c.args.losing.now c.args.conflicting.now (holding_of c.args.administration.now) (g.H.Host.state c.args.host.now) (g.H.Host.state c.displace_all.new.host)
    c.displace_all.ensures.any_moment
