use Rattle.std.proofs.Common.{◌∙◌, ap, sym, List, Option}
use Rattle.std.proofs.lemmas.Result.{IfOk-weaker}
use Rattle.std.specs.String.{string_bytes}
use Rattle.host_core.specs.Paths.{Path}
use Rattle.aliases.specs.Aliases.{Alias, led}
use Rattle.aliases.specs.Reading.{or_itself}
use Rattle.aliases.proofs.Kept.{led_under}
use Rattle.aliases.proofs.aliases.Aliases.led_on.Goals as goal

pub returns-in-Some : goal.returns-in-Some
returns-in-Some c =
    let way = c.as_str.result.now in
    let target = ap (λ (o : Option Path). or_itself o way) c.in-Some.ensures.value ∙ sym (led_under string_bytes c.self.inside.targets.entries way)
    ∙ ap (λ (l : List Alias). led l way) c.self.view_is ∙ ap (led c.args.self.now) c.as_str.ensures.value in
    IfOk-weaker c.from_str.result _ _ (λ s is. is ∙ c.as_str-in-Some.ensures ∙ target) c.from_str.ensures.ok

pub returns-in-None : goal.returns-in-None
returns-in-None c =
    let way = c.as_str.result.now in
    let itself = ap (λ (o : Option Path). or_itself o way) c.in-None.ensures.value ∙ sym (led_under string_bytes c.self.inside.targets.entries way)
    ∙ ap (λ (l : List Alias). led l way) c.self.view_is in
    sym c.as_str.ensures.value ∙ itself ∙ ap (led c.args.self.now) c.as_str.ensures.value
