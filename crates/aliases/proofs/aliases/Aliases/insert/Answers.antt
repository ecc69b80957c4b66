use Rattle.std.proofs.Common.{refl}
use Rattle.std.specs.String.{string_bytes, string_eq}
use Rattle.aliases.proofs.Kept.{pushed_at}
use Rattle.aliases.proofs.aliases.Aliases.insert.Goals as goal

pub invariant_of-self-2 : goal.invariant_of-self-2
invariant_of-self-2 c = (pushed_at string_bytes string_eq c.self.inside.targets.entries c.insert.new.self.entries c.args.place c.args.target (string_bytes c.args.place) c.args.self.now (λ a b. refl) c.self.view_is c.self.invariant
    refl c.requires.place c.requires.target c.requires.new c.in_ok-insert.ensures.entries).0

pub returns-clause-ok : goal.returns-clause-ok
returns-clause-ok c = (pushed_at string_bytes string_eq c.self.inside.targets.entries c.insert.new.self.entries c.args.place c.args.target (string_bytes c.args.place) c.args.self.now (λ a b. refl) c.self.view_is c.self.invariant
    refl c.requires.place c.requires.target c.requires.new c.in_ok-insert.ensures.entries).1
