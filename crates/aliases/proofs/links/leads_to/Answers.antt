use Rattle.std.proofs.Common.{◌≡◌, [], sym, ap, ◌∙◌, rules, arith}
use Rattle.host_core.specs.Paths.{Path}
use Rattle.host_core.specs.World.{World}
use Rattle.host_core.proofs.Moments.{reads_then, silent_then}
use Rattle.aliases.specs.Links.{go, names_of, end_of, leads_to}
use Rattle.aliases.specs.declared.links.Stop.TheVariants as stop
use Rattle.aliases.proofs.Going.{stopped, no_links, one_link}
use Rattle.aliases.proofs.links.leads_to.Goals as goal

begun : (w : World) (at names text path : Path) → at ≡ [] → names ≡ text → text ≡ path → end_of w (go w at (names_of names)) 8 ≡ leads_to w path
unfolding leads_to
begun w at names text path root spelled told = ap (λ (p : Path). end_of w (go w p (names_of names)) 8) root ∙ ap (λ (n : Path). end_of w (go w [] (names_of n)) 8) (spelled ∙ told)

pub loop-names-init : goal.loop-names-init
loop-names-init g c = record {
  going = λ h. begun (g.H.Host.state c.args.host.now).world c.in_ok-at.at c.in_ok-names.names c.as_str.result.now c.args.path.now c.in_ok-at.ensures c.in_ok-names.ensures c.as_str.ensures;
  reads = search rules;
  silent = search rules;
  counts = search rules;
}

pub returns-in_err-target : goal.returns-in_err-target
returns-in_err-target g c = record {
  looks = record {
    found = search rules;
    reads = reads_then _ _ _ c.loop-names.invariant.reads c.go_on.ensures.looks.reads;
    silent = search rules;
    counts = search rules;
  };
}

pub returns-in-Leads : goal.returns-in-Leads
returns-in-Leads g c = record {
  looks = record {
    found = λ h.
        let inv = c.loop-names.invariant in
        stopped (g.H.Host.state c.args.host.now).world (g.H.Host.state c.loop-names.host).world c.loop-names.at c.loop-names.names c.as_str-in-loop-names.result.now c.in_ok-target.field-0 (stop.Leads c.in-Leads.target) c.loop-names.links _
        inv.reads.world c.as_str-in-loop-names.ensures (c.in_ok-target.ensures.looks.found h) c.in-Leads.is (inv.going (c.go_on.ensures.looks.silent.honest h));
    reads = reads_then _ _ _ c.loop-names.invariant.reads c.go_on.ensures.looks.reads;
    silent = search rules;
    counts = search rules;
  };
}

pub returns-in-Ends : goal.returns-in-Ends
returns-in-Ends g c = record {
  looks = record {
    found = λ h.
        let inv = c.loop-names.invariant in
        stopped (g.H.Host.state c.args.host.now).world (g.H.Host.state c.loop-names.host).world c.loop-names.at c.loop-names.names c.as_str-in-loop-names.result.now c.in_ok-target.field-0 stop.Ends c.loop-names.links _
        inv.reads.world c.as_str-in-loop-names.ensures (c.in_ok-target.ensures.looks.found h) c.in-Ends.is (inv.going (c.go_on.ensures.looks.silent.honest h));
    reads = reads_then _ _ _ c.loop-names.invariant.reads c.go_on.ensures.looks.reads;
    silent = search rules;
    counts = search rules;
  };
}

pub returns-then-links-eq0 : goal.returns-then-links-eq0
returns-then-links-eq0 g c = record {
  looks = record {
    found = λ h.
        let inv = c.loop-names.invariant in
        let w = (g.H.Host.state c.args.host.now).world in
        sym (no_links w c.in-Meets.start (names_of c.in-Meets.onward) c.loop-names.links c.if-links-eq0.true)
        ∙ stopped w (g.H.Host.state c.loop-names.host).world c.loop-names.at c.loop-names.names c.as_str-in-loop-names.result.now c.in_ok-target.field-0 (stop.Meets c.in-Meets.start c.in-Meets.onward) c.loop-names.links _
        inv.reads.world c.as_str-in-loop-names.ensures (c.in_ok-target.ensures.looks.found h) c.in-Meets.is (inv.going (c.go_on.ensures.looks.silent.honest h));
    reads = reads_then _ _ _ c.loop-names.invariant.reads c.go_on.ensures.looks.reads;
    silent = search rules;
    counts = search rules;
  };
}

pub loop-names-preserved : goal.loop-names-preserved
loop-names-preserved g c =
    let inv = c.loop-names.invariant in
    let w = (g.H.Host.state c.args.host.now).world in
    record {
      going = λ h.
          sym (one_link w c.in-Meets.start (names_of c.in-Meets.onward) c.loop-names.links (λ e. absurd (omega arith)))
          ∙ stopped w (g.H.Host.state c.loop-names.host).world c.loop-names.at c.loop-names.names c.as_str-in-loop-names.result.now c.in_ok-target.field-0 (stop.Meets c.in-Meets.start c.in-Meets.onward) c.loop-names.links _
          inv.reads.world c.as_str-in-loop-names.ensures (c.in_ok-target.ensures.looks.found h) c.in-Meets.is (inv.going (c.go_on.ensures.looks.silent.honest h));
      reads = reads_then _ _ _ inv.reads c.go_on.ensures.looks.reads;
      silent = silent_then _ _ _ inv.silent c.go_on.ensures.looks.silent;
      counts = search rules;
    }
