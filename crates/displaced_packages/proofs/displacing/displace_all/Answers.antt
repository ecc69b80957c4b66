use Rattle.std.specs.Prelude.{ℕ, List, Contains}
use Rattle.std.proofs.Common.{◌≡◌}
use Rattle.status_records.specs.Records.{record_in}
use Rattle.unit_stages.proofs.RunLaws.{if_ok_one}
use Rattle.unit_stages.specs.Holding.{holding_of}
use Rattle.displaced_packages.specs.Displacing.{HaveBeenRemovedBehind, HaveGone}
use Rattle.displaced_packages.proofs.Going.{called_behind, called_first, gone_behind, if_ok_with, others_kept, since_disappearing, since_removing}
use Rattle.displaced_packages.proofs.displacing.displace_all.Goals as goal

pub returns-in-Ok-clause-gone : goal.returns-in-Ok-clause-gone
returns-in-Ok-clause-gone g c =
    let d = c.in-Ok.disappeared in
    let before = holding_of c.args.administration.now in
    let mid = holding_of c.disappear_packages.new.administration in
    let after = holding_of c.remove_behind.new.administration in
    let s = g.H.Host.state c.args.host.now in
    let m = g.H.Host.state c.disappear_packages.new.host in
    let t = g.H.Host.state c.remove_behind.new.host in
    let told = c.args.told.now.items in
    let between = c.disappear_packages.new.told.items in
    let now = c.remove_behind.new.told.items in
    if_ok_one c.remove_behind.result (λ e. HaveBeenRemovedBehind c.args.diversions.now.ways c.args.conflicting.now d.names d.failed e.names e.failed mid after m t between now)
    (λ e. HaveGone c.args.incoming.now c.args.version.now c.args.diversions.now.ways c.args.losing.now c.args.conflicting.now e.names e.failed before after s t told now)
    (λ e removed. gone_behind c.args.incoming.now c.args.version.now c.args.diversions.now.ways c.args.losing.now c.args.conflicting.now before d.names d.failed mid s m t told between c.in-Ok.ensures.disappeared
    e.names e.failed after now removed) c.remove_behind.ensures.removed

pub returns-in-Ok-clause-others : goal.returns-in-Ok-clause-others
returns-in-Ok-clause-others g c =
    let d = c.in-Ok.disappeared in
    let old = c.args.administration.now.database.records in
    let mid = c.disappear_packages.new.administration.database.records in
    let new = c.remove_behind.new.administration.database.records in
    let removed = holding_of c.disappear_packages.new.administration in
    let after = holding_of c.remove_behind.new.administration in
    if_ok_with c.remove_behind.result (λ e. HaveBeenRemovedBehind c.args.diversions.now.ways c.args.conflicting.now d.names d.failed e.names e.failed removed after (g.H.Host.state c.disappear_packages.new.host) (g.H.Host.state c.remove_behind.new.host)
    c.disappear_packages.new.told.items c.remove_behind.new.told.items)
    (λ e. (q : List ℕ) → (Contains e.names q → ⊥) → record_in new q ≡ record_in old q)
    (λ e is kept. others_kept old mid new d.names c.args.conflicting.now e.names is.names_are c.in-Ok.ensures.left.others kept) c.remove_behind.ensures.removed c.remove_behind.ensures.others

pub returns-in-Ok-clause-told : goal.returns-in-Ok-clause-told
returns-in-Ok-clause-told g c =
    called_behind c.args.incoming.now c.args.version.now c.args.diversions.now.ways c.args.losing.now c.args.conflicting.now (holding_of c.args.administration.now) c.in-Ok.disappeared.names c.in-Ok.disappeared.failed
    (holding_of c.disappear_packages.new.administration) (g.H.Host.state c.args.host.now) (g.H.Host.state c.disappear_packages.new.host) (g.H.Host.state c.remove_behind.new.host) c.args.told.now.items c.disappear_packages.new.told.items
    c.in-Ok.ensures.disappeared c.remove_behind.new.told.items c.remove_behind.ensures.told

pub returns-in-Err-clause-told : goal.returns-in-Err-clause-told
returns-in-Err-clause-told g c =
    called_first c.args.incoming.now c.args.version.now c.args.diversions.now.ways c.args.losing.now c.args.conflicting.now (holding_of c.args.administration.now) (g.H.Host.state c.args.host.now) (g.H.Host.state c.disappear_packages.new.host) c.args.told.now.items c.disappear_packages.new.told.items
    c.disappear_packages.ensures.told

pub returns-in-Ok-clause-any_moment : goal.returns-in-Ok-clause-any_moment
returns-in-Ok-clause-any_moment g c =
    since_removing c.args.incoming.now c.args.version.now c.args.diversions.now.ways c.args.losing.now c.args.conflicting.now (holding_of c.args.administration.now) c.in-Ok.disappeared.names c.in-Ok.disappeared.failed
    (holding_of c.disappear_packages.new.administration) (g.H.Host.state c.args.host.now) (g.H.Host.state c.disappear_packages.new.host) (g.H.Host.state c.remove_behind.new.host) c.args.told.now.items c.disappear_packages.new.told.items
    c.in-Ok.ensures.disappeared c.disappear_packages.ensures.any_moment c.remove_behind.ensures.any_moment

pub returns-in-Err-clause-any_moment : goal.returns-in-Err-clause-any_moment
returns-in-Err-clause-any_moment g c =
    since_disappearing c.args.incoming.now c.args.version.now c.args.diversions.now.ways c.args.losing.now c.args.conflicting.now (holding_of c.args.administration.now) (g.H.Host.state c.args.host.now) (g.H.Host.state c.disappear_packages.new.host)
    c.disappear_packages.ensures.any_moment
