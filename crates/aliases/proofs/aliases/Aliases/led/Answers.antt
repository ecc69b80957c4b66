use Rattle.std.proofs.Common.{◌∙◌, ap, sym, List, Option}
use Rattle.std.specs.String.{string_bytes}
use Rattle.host_core.specs.Paths.{Path}
use Rattle.aliases.specs.Aliases.{Alias, led}
use Rattle.aliases.specs.Reading.{or_itself}
use Rattle.aliases.proofs.Kept.{led_under}
use Rattle.aliases.proofs.aliases.Aliases.led.Goals as goal

pub returns-in-Some : goal.returns-in-Some
returns-in-Some c =
    c.as_str.ensures ∙ ap (λ (o : Option Path). or_itself o c.args.path.now) c.in-Some.ensures.value ∙ sym (led_under string_bytes c.self.inside.targets.entries c.args.path.now)
    ∙ ap (λ (l : List Alias). led l c.args.path.now) c.self.view_is

pub returns-in-None : goal.returns-in-None
returns-in-None c =
    ap (λ (o : Option Path). or_itself o c.args.path.now) c.in-None.ensures.value ∙ sym (led_under string_bytes c.self.inside.targets.entries c.args.path.now)
    ∙ ap (λ (l : List Alias). led l c.args.path.now) c.self.view_is
