use Rattle.std.proofs.Common.{refl}
use Rattle.control_fields.proofs.Keyed.{pushed}
use Rattle.control_fields.proofs.paragraph.add.Goals as goal

pub returns-clause-keyed : goal.returns-clause-keyed
returns-clause-keyed c = (pushed _ (λ k. k.items) c.args.fields.now.entries c.insert.new.self.entries c.args.key c.args.field (λ a b. refl) c.requires.keyed c.requires.key c.requires.new c.in_ok-insert.ensures.entries).0

pub returns-clause-ok : goal.returns-clause-ok
returns-clause-ok c = (pushed _ (λ k. k.items) c.args.fields.now.entries c.insert.new.self.entries c.args.key c.args.field (λ a b. refl) c.requires.keyed c.requires.key c.requires.new c.in_ok-insert.ensures.entries).1
