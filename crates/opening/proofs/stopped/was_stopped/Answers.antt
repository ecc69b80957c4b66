use Rattle.std.proofs.Common.{rules, ◌∙◌, sym, subst, ap}
use Rattle.std.specs.Prelude.{◌↔◌, IsTrue}
use Rattle.std.proofs.lemmas.Result.{IfOk-from_err}
use Rattle.host_core.specs.World.{IsBare, World}
use Rattle.host_core.proofs.Moments.{reads_then}
use Rattle.administration.specs.Directories.{IsStanding}
use Rattle.administration.specs.declared.directories.Standing.TheVariants as standing
use Rattle.opening.proofs.Brought.{nothing_stands, stopped_by_notes}
use Rattle.opening.proofs.stopped.was_stopped.Goals as goal

pub returns-in_err-is_bare-in-Nothing : goal.returns-in_err-is_bare-in-Nothing
returns-in_err-is_bare-in-Nothing g c = record {
  looks = record {
    found = λ h. IfOk-from_err c.from_residual-in_err-is_bare-in-Nothing.result _ c.from_residual-in_err-is_bare-in-Nothing.ensures.0;
    reads = search (rules, reads_then);
    silent = search rules;
    counts = search rules;
  };
}

pub returns-in_ok-is_bare-in-Nothing : goal.returns-in_ok-is_bare-in-Nothing
returns-in_ok-is_bare-in-Nothing g c = record {
  looks = record {
    found = λ h.
        let w = (g.H.Host.state c.args.host.now).world in
        let h1 = c.is_bare.ensures.looks.silent.honest h in
        let stands : IsStanding standing.Nothing (w c.args.incoming.now) = subst (λ s. IsStanding s (w c.args.incoming.now)) c.in-Nothing.is (c.in_ok-look.ensures.looks.found h1) in
        let bare : IsTrue c.in_ok-is_bare-in-Nothing.field-0 ↔ IsBare w c.args.updates.now = subst (λ (v : World). IsTrue c.in_ok-is_bare-in-Nothing.field-0 ↔ IsBare v c.args.updates.now) c.look.ensures.looks.reads.world (c.in_ok-is_bare-in-Nothing.ensures.looks.found h) in
        stopped_by_notes w c.in_ok-is_bare-in-Nothing.field-0 (nothing_stands w c.args.incoming.now stands c.requires.incoming) (subst (λ p. IsTrue c.in_ok-is_bare-in-Nothing.field-0 ↔ IsBare w p) c.requires.updates bare);
    reads = search (rules, reads_then);
    silent = search rules;
    counts = search rules;
  };
}
