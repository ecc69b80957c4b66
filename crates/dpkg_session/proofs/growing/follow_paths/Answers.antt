use Rattle.std.proofs.Common.{ap, length, sym, ◌∙◌}
use Rattle.diversions.specs.Diverted.{Diverted}
use Rattle.file_lists.specs.Owners.{places_in}
use Rattle.dpkg_session.proofs.Growth.{added_along, more_keeps, none_came}
use Rattle.dpkg_session.proofs.growing.follow_paths.Goals as goal

pub returns-clause-places : goal.returns-clause-places
returns-clause-places g c =
    c.in_ok-refresh_if_more.ensures (λ same. c.requires.kept ∙ ap (λ (d : Diverted). places_in d.ways c.args.lists.now.lists)
    (sym (none_came _ _ c.args.diversions.now c.read_above_each.new.diversions c.read_above_each.ensures.grows (same ∙ c.len-count.ensures ∙ ap length c.aliases.ensures))))

pub returns-clause-added : goal.returns-clause-added
returns-clause-added g c =
    let s = g.H.Host.state c.args.host.now in
    let t = g.H.Host.state c.read_above_each.new.host in
    let call = c.in_ok-read_above_each.ensures in
    added_along t.honest s.world c.args.paths.now c.args.diversions.now c.read_above_each.new.diversions c.read_above_each.ensures.grows call.along call.whole

pub returns-clause-kept : goal.returns-clause-kept
returns-clause-kept g c = more_keeps _ _ c.args.diversions.now c.read_above_each.new.diversions c.read_above_each.ensures.grows
