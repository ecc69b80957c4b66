use Rattle.std.proofs.Common.{◌∙◌, rules}
use Rattle.host_overlay.proofs.Maps.{inserted, paths_inserted}
use Rattle.host_overlay.proofs.changes.Changes.set.Goals as goal

pub invariant_of-self : goal.invariant_of-self
invariant_of-self c = record {
  paths = paths_inserted c.insert.result c.in_ok-key.key c.args.path.now c.args.self.now.map c.insert.new.self c.args.standing (c.in_ok-key.ensures.ok ∙ c.as_str.ensures) (search rules) c.insert.ensures.err c.args.self.now.paths c.law.ensures;
}

pub returns-clause-ok : goal.returns-clause-ok
returns-clause-ok c = inserted c.in_ok-key.key c.args.path.now c.args.self.now.map c.insert.new.self c.args.standing (c.in_ok-key.ensures.ok ∙ c.as_str.ensures) (search rules)
