use Rattle.std.proofs.Common.{sym, ap, ◌∙◌, rules}
use Rattle.host_core.specs.Paths.{Path}
use Rattle.host_core.proofs.Moments.{reads_then, silent_then}
use Rattle.aliases.specs.Links.{Leads, way_on, go, names_of}
use Rattle.aliases.specs.declared.links.Turn.TheVariants as turn
use Rattle.aliases.proofs.Going.{went}
use Rattle.aliases.proofs.links.go_on.Goals as goal

pub loop-rest-init : goal.loop-rest-init
loop-rest-init g c = record {
  text = search rules;
  going = λ h. ap (λ (p : Path). go (g.H.Host.state c.args.host.now).world p (names_of c.args.names.now)) c.in_ok-at.ensures;
  reads = search rules;
  silent = search rules;
  counts = search rules;
}

pub returns-in_err-next : goal.returns-in_err-next
returns-in_err-next g c = record {
  looks = record {
    found = search rules;
    reads = reads_then _ _ _ c.loop-rest.invariant.reads c.turn_at_name.ensures.looks.reads;
    silent = search rules;
    counts = search rules;
  };
}

pub returns-in_err-meet-in-Link : goal.returns-in_err-meet-in-Link
returns-in_err-meet-in-Link g c = record {
  looks = record {
    found = search rules;
    reads = reads_then _ _ _ c.loop-rest.invariant.reads c.turn_at_name.ensures.looks.reads;
    silent = search rules;
    counts = search rules;
  };
}

pub returns-in-Link : goal.returns-in-Link
returns-in-Link g c = record {
  looks = record {
    found = λ h.
        let inv = c.loop-rest.invariant in
        let v = (g.H.Host.state c.loop-rest.host).world in
        let w = (g.H.Host.state c.args.host.now).world in
        let names = names_of c.first_name.result.1.now in
        c.in_ok-meet-in-Link.ensures ∙ ap (λ (t : Path). way_on (turn.Link t) Leads c.loop-rest.at names) c.as_str.ensures
        ∙ sym (went w v (go w c.args.from.now (names_of c.args.names.now)) c.loop-rest.at c.loop-rest.rest.now c.first_name.result.0.now c.first_name.result.1.now (turn.Link c.in-Link.text) inv.reads.world (sym (inv.going (c.turn_at_name.ensures.looks.silent.honest h)))
        c.first_name.ensures.cut (sym c.in-Link.is ∙ c.in_ok-next.ensures.looks.found h));
    reads = reads_then _ _ _ c.loop-rest.invariant.reads c.turn_at_name.ensures.looks.reads;
    silent = search rules;
    counts = search rules;
  };
}

pub returns-in-Nowhere : goal.returns-in-Nowhere
returns-in-Nowhere g c = record {
  looks = record {
    found = λ h.
        let inv = c.loop-rest.invariant in
        let v = (g.H.Host.state c.loop-rest.host).world in
        let w = (g.H.Host.state c.args.host.now).world in
        sym (went w v (go w c.args.from.now (names_of c.args.names.now)) c.loop-rest.at c.loop-rest.rest.now c.first_name.result.0.now c.first_name.result.1.now turn.Nowhere inv.reads.world (sym (inv.going (c.turn_at_name.ensures.looks.silent.honest h)))
        c.first_name.ensures.cut (sym c.in-Nowhere.is ∙ c.in_ok-next.ensures.looks.found h));
    reads = reads_then _ _ _ c.loop-rest.invariant.reads c.turn_at_name.ensures.looks.reads;
    silent = search rules;
    counts = search rules;
  };
}

pub loop-rest-preserved : goal.loop-rest-preserved
loop-rest-preserved g c =
    let inv = c.loop-rest.invariant in
    let v = (g.H.Host.state c.loop-rest.host).world in
    let w = (g.H.Host.state c.args.host.now).world in
    record {
      text = search rules;
      going = λ h. sym (went w v (go w c.args.from.now (names_of c.args.names.now)) c.loop-rest.at c.loop-rest.rest.now c.first_name.result.0.now c.first_name.result.1.now (turn.Into c.in-Into.next) inv.reads.world (sym (inv.going (c.turn_at_name.ensures.looks.silent.honest h)))
          c.first_name.ensures.cut (sym c.in-Into.is ∙ c.in_ok-next.ensures.looks.found h));
      reads = reads_then _ _ _ inv.reads c.turn_at_name.ensures.looks.reads;
      silent = silent_then _ _ _ inv.silent c.turn_at_name.ensures.looks.silent;
      counts = search rules;
    }
