use Rattle.info_format.proofs.Showings.{taken_shows}
use Rattle.info_format.proofs.shown.see_cleared.Goals as goal

pub returns-clause-shows : goal.returns-clause-shows
returns-clause-shows g c = λ h.
    let h0 = c.lose_firsts.ensures.silent.honest h in
    taken_shows c.args.pairs.now c.none-names.result c.lose_firsts.new.names (g.H.Host.state c.args.host.now).world c.none-names.ensures (g.H.Host.tree c.args.host.now h0) (c.in_ok-lose_firsts.ensures.taken h) (c.in_ok-lose_firsts.ensures.there h)
