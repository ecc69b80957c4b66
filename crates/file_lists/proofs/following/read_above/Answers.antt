use Rattle.std.proofs.Common.{◌∙◌, true, sym, ap, subst}
use Rattle.std.specs.HashSet.{contains_text}
use Rattle.std.specs.String.{string_bytes}
use Rattle.std.proofs.lemmas.Map.Text.{hash_set_updates_text}
use Rattle.host_core.specs.World.{World}
use Rattle.file_lists.specs.Followed.{ArePassed}
use Rattle.file_lists.proofs.Growing.{more_start, more_one, passed_more}
use Rattle.file_lists.proofs.following.read_above.Goals as goal

pub returns-then-contains-clause-grows : goal.returns-then-contains-clause-grows
returns-then-contains-clause-grows g c = let s = g.H.Host.state c.args.host.now in more_start s.honest s.world c.args.diversions.now

pub returns-then-contains-clause-whole : goal.returns-then-contains-clause-whole
returns-then-contains-clause-whole g c = λ h each.
    c.requires.passed h each c.args.path.now (ap (contains_text c.args.passed.now.directories) (sym c.requires.directory) ∙ sym c.contains.ensures ∙ c.if-contains.true)

pub returns-in_err-text-clause-grows : goal.returns-in_err-text-clause-grows
returns-in_err-text-clause-grows g c = let s = g.H.Host.state c.args.host.now in more_start s.honest s.world c.args.diversions.now

pub returns-clause-passed : goal.returns-clause-passed
returns-clause-passed g c = λ h.
    let w = (g.H.Host.state c.args.host.now).world in
    let honest = (g.H.Host.state c.read_above_once.new.host).honest in
    let old = c.args.diversions.now in
    let new = c.read_above_once.new.self in
    let call = c.read_above_once.ensures in
    let key = string_bytes c.in_ok-text.text in
    subst (λ (v : World). ArePassed new.ways.aliases (contains_text c.insert.new.self) v) (sym call.reads.world)
    (passed_more honest w old new c.args.path.now key (contains_text c.args.passed.now.directories) (contains_text c.insert.new.self) (more_one honest w old new c.args.path.now call.grows call.kept) h (c.in_ok-text.ensures.ok ∙ c.requires.directory)
    (hash_set_updates_text key c.args.passed.now.directories c.insert.new.self true c.in_ok-insert.ensures.updates) (c.in_ok-read_above_once.ensures.whole h) (c.requires.passed (call.silent.honest h)))
