use Rattle.std.proofs.Common.{is_some, sym, ap, ◌∙◌}
use Rattle.std.specs.Option.{option_copied}
use Rattle.std.proofs.lemmas.Bool.{true≢false}
use Rattle.unit_stages.specs.Holding.{holding_of}
use Rattle.disappearance.specs.Verdicts.{IsThere, Stays, are_directories}
use Rattle.disappearance.proofs.Looking.{verdict_of}
use Rattle.disappearance.proofs.Numbers.{numbered}
use Rattle.disappearance.proofs.looks.look.Goals as goal

pub returns-in_default-clause-verdict : goal.returns-in_default-clause-verdict
returns-in_default-clause-verdict g c = Stays.unrecorded (sym c.get.ensures ∙ ap option_copied c.in_default.is)

pub returns-then-not-is_there-clause-verdict : goal.returns-then-not-is_there-clause-verdict
returns-then-not-is_there-clause-verdict g c = Stays.absent c.in-Some.entry.now (sym c.get.ensures ∙ ap option_copied c.in-Some.is) (sym c.is_there.ensures ∙ c.if-not-is_there.true)

pub returns-then-not-has_lost-clause-verdict : goal.returns-then-not-has_lost-clause-verdict
returns-then-not-has_lost-clause-verdict g c =
    let there : IsThere c.args.administration.now.database.records c.args.losing.now.name = record { entry = c.in-Some.entry.now; found = sym c.get.ensures ∙ ap option_copied c.in-Some.is; there = sym c.is_there.ensures ∙ c.if-not-is_there.false } in
    Stays.whole there (λ lost. true≢false (sym (c.has_lost.ensures.1 lost) ∙ c.if-not-has_lost.true))

pub is_needed-requires : goal.is_needed-requires
is_needed-requires g c = record {
  known = numbered c.args.administration.now.database.records c.args.packages.now c.args.losing.now.name c.requires.indexed (ap is_some (sym c.get.ensures ∙ ap option_copied c.in-Some.is));
}

pub returns-then-not-empty-clause-verdict : goal.returns-then-not-empty-clause-verdict
returns-then-not-empty-clause-verdict g c =
    let there : IsThere c.args.administration.now.database.records c.args.losing.now.name = record { entry = c.in-Some.entry.now; found = sym c.get.ensures ∙ ap option_copied c.in-Some.is; there = sym c.is_there.ensures ∙ c.if-not-is_there.false } in
    Stays.blocked there (c.has_lost.ensures.0 c.if-not-has_lost.false)
    (λ h. ap (are_directories c.args.diversions.now.ways c.args.losing.now.name (g.H.Host.state c.args.host.now).world) (sym c.list_of-listed.ensures) ∙ sym (c.in_ok-empty.ensures.looks.found h) ∙ c.if-not-empty.true)

pub returns-clause-verdict : goal.returns-clause-verdict
returns-clause-verdict g c =
    let there : IsThere c.args.administration.now.database.records c.args.losing.now.name = record { entry = c.in-Some.entry.now; found = sym c.get.ensures ∙ ap option_copied c.in-Some.is; there = sym c.is_there.ensures ∙ c.if-not-is_there.false } in
    verdict_of c.args.incoming.now c.args.diversions.now.ways c.args.losing.now (holding_of c.args.administration.now) _ _ c.in_ok-needed.needed there (c.has_lost.ensures.0 c.if-not-has_lost.false)
    (λ h. ap (are_directories c.args.diversions.now.ways c.args.losing.now.name (g.H.Host.state c.args.host.now).world) (sym c.list_of-listed.ensures) ∙ sym (c.in_ok-empty.ensures.looks.found h) ∙ c.if-not-empty.false)
    (c.in_ok-needed.ensures c.args.administration.now.database.records c.requires.indexed)
