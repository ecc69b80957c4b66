use Rattle.std.proofs.Common.{rules, ◌≡◌, ◌++◌, ◌∷◌, [], subst}
use Rattle.command_line.specs.Order.{HasLooked}
use Rattle.command_line.specs.Roots.{Around, around}
use Rattle.command_line.proofs.Rounds.{looks_more}
use Rattle.command_line.proofs.Trees.{within_first, within_rest}
use Rattle.command_line.proofs.ordering.+look_at_all.Goals as goal

pub returns-clause-looked : goal.returns-clause-looked
returns-clause-looked g t c =
    let found = c.in-Ok.found in
    let old = c.args.hosts.now in
    let mid = c.look_at.new.hosts in
    let new = c.look_at_all.new.hosts in
    let first : Around = around g.S.Hosts old mid in
    let pushed : c.push.new.self.items ≡ c.args.looked.now.items ++ found ∷ [] = search rules in
    looks_more c.look_at_all.result (around g.S.Hosts old new) first (around g.S.Hosts mid new) (within_first g.S.Hosts old mid new c.look_at_all.ensures.on) (within_rest g.S.Hosts old mid new c.look_at.ensures.on)
    c.args.looked.now.items c.push.new.self.items c.look_at_all.new.looked.items c.in-Some.word.now c.in-Some.words.now c.args.words.now found c.in-Some.ensures.cases.0 pushed
    (subst (λ word. HasLooked first word found) c.as_str.ensures c.in-Ok.ensures.read) c.look_at_all.ensures.looked
