use Rattle.std.proofs.Common.{◌∙◌, ◌++◌, ◌∷◌, [], ap, List}
use Rattle.std.specs.String.{string_bytes}
use Rattle.host_core.specs.Paths.{Path}
use Rattle.aliases.specs.Entries.{texts_of}
use Rattle.aliases.proofs.Remembered.{looked_again, remembered}
use Rattle.aliases.proofs.aliases.Aliases.read_once.Goals as goal

pub returns-then-has-clause-looked : goal.returns-then-has-clause-looked
returns-then-has-clause-looked g c = looked_again _ _ c.args.way.now c.args.self.now c.args.looked.now c.has.result c.has.ensures c.if-has.true c.requires.settled

pub returns-clause-settled : goal.returns-clause-settled
returns-clause-settled g c =
    remembered (g.H.Host.state c.args.host.now).honest (g.H.Host.state c.read_at.new.host).honest (g.H.Host.state c.args.host.now).world (g.H.Host.state c.read_at.new.host).world c.args.way.now c.args.self.now c.read_at.new.self c.args.looked.now _
    c.read_at.ensures.silent.honest c.read_at.ensures.reads.world c.requires.settled c.in_ok-read_at.ensures.looked
    (c.enter.ensures ∙ ap (λ ks. texts_of string_bytes ks ++ string_bytes c.in_ok-text.text ∷ []) c.reserve.ensures.keys
    ∙ ap (λ (l : List Path). l ++ string_bytes c.in_ok-text.text ∷ []) c.looked.view_is ∙ ap (λ (p : Path). c.args.looked.now ++ p ∷ []) c.in_ok-text.ensures.ok)
