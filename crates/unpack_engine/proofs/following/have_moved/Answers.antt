use Rattle.std.proofs.Common.{List, subst, sym, ◌∙◌}
use Rattle.aliases.specs.Aliases.{Alias}
use Rattle.aliases.specs.Reading.{AreAliasesIn}
use Rattle.unpack_engine.proofs.Linked.{same_places}
use Rattle.unpack_engine.proofs.following.have_moved.Goals as goal

pub returns-in-Ok-clause-linked : goal.returns-in-Ok-clause-linked
returns-in-Ok-clause-linked g c = λ none h.
    let bare = subst (λ (l : List Alias). AreAliasesIn (g.H.Host.state c.args.host.now).world l) (sym c.none-found.ensures) tt in
    record {
      found = c.read_links.new.found;
      sound = c.read_links.ensures.sound h bare;
      whole = c.in-Ok.ensures.whole h bare;
      same = same_places c.args.diversions.now.ways.aliases c.read_links.new.found c.args.paths.now (sym c.in_ok-lie_elsewhere-in-Ok.ensures ∙ none);
    }
