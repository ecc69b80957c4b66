use Rattle.std.proofs.Common.{sym, subst}
use Rattle.command_line.specs.Changes.{HasChanged}
use Rattle.command_line.specs.declared.changing.Change.{Change}
use Rattle.command_line.proofs.changing.carry_out.Goals as goal

pub returns-in-Divert : goal.returns-in-Divert
returns-in-Divert g c =
    let session = c.args.session.now in
    let done = c.divert.ensures in
    subst (λ (asked : Change). HasChanged asked c.divert.result session.administration.database.records session.administration.lists.lists session.diversions.ways (g.H.Host.state session.host) (g.H.Host.state c.divert.new.self.host)) (sym c.in-Divert.is) record {
      whole = λ none. (c.divert.new.self.diversions.ways, done.whole c.requires none);
      broken = done.broken;
      counts = done.counts c.requires;
      told = done.told;
      silent = done.silent;
      any_moment = done.any_moment c.requires;
    }

pub returns-in-Undivert : goal.returns-in-Undivert
returns-in-Undivert g c =
    let session = c.args.session.now in
    let done = c.undivert.ensures in
    subst (λ (asked : Change). HasChanged asked c.undivert.result session.administration.database.records session.administration.lists.lists session.diversions.ways (g.H.Host.state session.host) (g.H.Host.state c.undivert.new.self.host)) (sym c.in-Undivert.is) record {
      whole = λ none. (c.undivert.new.self.diversions.ways, done.whole c.requires none);
      broken = done.broken;
      counts = done.counts c.requires;
      told = done.told;
      silent = done.silent;
      any_moment = done.any_moment c.requires;
    }
