use Rattle.std.proofs.Common.{◌∙◌, ap, List}
use Rattle.std.specs.String.{string_bytes}
use Rattle.diversions.specs.declared.entry.Diversion.{Diversion}
use Rattle.diversions.specs.Entries.{entry_of}
use Rattle.diversions.proofs.Indexed.{look_up}
use Rattle.diversions.proofs.table.Table.get.Goals as goal

pub returns : goal.returns
returns c =
    c.get.ensures.value ∙ look_up string_bytes c.self.inside.entries.entries c.args.path.now c.self.invariant.keyed
    ∙ ap (λ (l : List Diversion). entry_of l c.args.path.now) c.self.view_is
