use Rattle.std.proofs.Common.{◌≡◌, List, subst, Contains}
use Rattle.aliases.specs.Aliases.{Alias, resolved}
use Rattle.file_lists.proofs.Gathering.{key_more, keys_all}
use Rattle.file_lists.proofs.owners.keys_of.Goals as goal

pub loop-entry-preserved : goal.loop-entry-preserved
loop-entry-preserved c =
    let ways = c.args.diversions.now.ways in
    let entry = c.in-Some.entry.now in
    let keys = c.take_key.new.keys in
    record {
      first = c.in_ok-take_key.ensures.kept c.args.at.now c.loop-entry.invariant.first;
      taken = key_more ways.aliases ways.entries c.loop-entry.entries c.next.new.self entry c.args.at.now c.loop-entry.keys keys c.in-Some.ensures.steps c.loop-entry.invariant.taken c.in_ok-take_key.ensures.kept
          (subst (λ (l : List Alias). resolved l entry.target ≡ c.args.at.now → Contains keys (resolved l entry.path)) c.aliases.ensures c.in_ok-take_key.ensures.there);
    }

pub returns : goal.returns
returns c = keys_all c.args.diversions.now.ways c.loop-entry.entries c.args.at.now c.loop-entry.keys c.in_default.ensures.steps.0 c.loop-entry.invariant.first c.loop-entry.invariant.taken
