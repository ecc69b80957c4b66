use Rattle.std.proofs.Common.{◌++◌, ◌∷◌, [], sym, ap, ◌∙◌, rules}
use Rattle.std.specs.String.{string_bytes}
use Rattle.host_core.specs.Paths.{Path}
use Rattle.aliases.specs.Aliases.{led, way_from}
use Rattle.aliases.proofs.Following.{way_name, way_plain}
use Rattle.aliases.proofs.aliases.Aliases.way_to.Goals as goal

pub loop-name-preserved : goal.loop-name-preserved
loop-name-preserved c =
    let aliases = c.args.self.now in
    let way = string_bytes c.loop-name.way in
    let here = c.in_ok-push_str.ensures.bytes in
    record {
      text = search rules;
      gone = ap (λ (p : Path). way_from aliases p c.in-Some.behind.now) (c.in_ok-way.ensures ∙ ap (λ (p : Path). led aliases p ++ 47 ∷ []) here)
          ∙ sym (way_name aliases way c.in-Some.name.now c.in-Some.behind.now c.in-Some.ensures.1) ∙ ap (way_from aliases way) (sym c.in-Some.ensures.0) ∙ c.loop-name.invariant.gone;
    }

pub returns : goal.returns
returns c = c.in_ok-push_str-2.ensures.bytes ∙ sym (way_plain c.args.self.now (string_bytes c.loop-name.way) c.loop-name.rest.now c.in_default.ensures) ∙ c.loop-name.invariant.gone
