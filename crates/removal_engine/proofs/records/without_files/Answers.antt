use Rattle.std.proofs.Common.{◌∙◌, ap}
use Rattle.status_records.specs.Standings.{standing_as, wanting, removed, with_conffiles}
use Rattle.status_records.specs.declared.words.Want.TheVariants as want
use Rattle.status_records.specs.declared.words.Flag.TheVariants as flag
use Rattle.status_records.specs.declared.words.State.TheVariants as state
use Rattle.removal_engine.proofs.records.without_files.Goals as goal

pub returns : goal.returns
returns c =
    let settled = c.in_ok-settled.ensures ∙ (λ i. with_conffiles (c.in_ok-kept.ensures i) (c.new.ensures i) c.args.entry.now) in
    c.in_ok-unwanted.ensures ∙ ap (wanting want.Deinstall) (c.in_ok-removed.ensures ∙ ap removed (c.in_ok-standing.ensures ∙ ap (standing_as flag.Ok state.HalfInstalled) settled))
