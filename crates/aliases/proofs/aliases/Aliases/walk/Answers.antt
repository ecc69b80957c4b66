use Rattle.std.proofs.Common.{sym, ap, ◌∙◌, rules}
use Rattle.std.specs.String.{string_bytes}
use Rattle.host_core.specs.Paths.{Path}
use Rattle.aliases.specs.Links.{names_of}
use Rattle.aliases.specs.Shipped.{walked}
use Rattle.aliases.proofs.Walking.{walked_on}
use Rattle.aliases.proofs.aliases.Aliases.walk.Goals as goal

pub loop-rest-init : goal.loop-rest-init
loop-rest-init c = record {
  text = search rules;
  walked = ap (λ (p : Path). walked c.args.self.now p (names_of c.args.names.now)) c.in_ok-at.ensures.ok;
}

pub loop-rest-preserved : goal.loop-rest-preserved
loop-rest-preserved c = record {
  text = search rules;
  walked = walked_on c.args.self.now (string_bytes c.loop-rest.at) (string_bytes c.in_ok-at-2.at) c.loop-rest.rest.now c.first_name.result.0.now c.first_name.result.1.now c.first_name.ensures.cut c.in_ok-at-2.ensures
      ∙ c.loop-rest.invariant.walked;
}
