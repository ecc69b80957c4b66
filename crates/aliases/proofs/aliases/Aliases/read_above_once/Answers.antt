use Rattle.std.proofs.Common.{List, sym, subst, refl, ◌∙◌, rules}
use Rattle.std.specs.String.{string_bytes}
use Rattle.host_core.specs.Paths.{Path}
use Rattle.host_core.proofs.Moments.{reads_then, silent_then}
use Rattle.aliases.specs.Aliases.{Alias}
use Rattle.aliases.specs.Reading.{Grows}
use Rattle.aliases.proofs.Progressing.{SoFar, so_far_start, so_far_grows, so_far_later, so_far_next, progress_whole}
use Rattle.aliases.proofs.aliases.Aliases.read_above_once.Goals as goal

pub loop-name-init : goal.loop-name-init
loop-name-init g c =
    let old = g.H.Host.state c.args.host.now in
    record {
      text = search rules;
      so_far = subst (λ (p : Path). SoFar old.honest old.world c.args.path.now c.args.self.now c.args.self.now (string_bytes c.new-way.result) p) (sym c.as_str-rest.ensures)
          (subst (λ (p : Path). SoFar old.honest old.world c.args.path.now c.args.self.now c.args.self.now p c.args.path.now) (sym c.new-way.ensures.bytes) (so_far_start old.honest old.world c.args.path.now c.args.self.now));
      settled = search rules;
      reads = search rules;
      silent = search rules;
      counts = search rules;
    }

pub returns-in_err-push_str-clause-grows : goal.returns-in_err-push_str-clause-grows
returns-in_err-push_str-clause-grows g c = so_far_grows _ _ _ _ _ _ _ c.loop-name.invariant.so_far

pub returns-in_err-read_once-clause-grows : goal.returns-in_err-read_once-clause-grows
returns-in_err-read_once-clause-grows g c =
    let old = g.H.Host.state c.args.host.now in
    let after = g.H.Host.state c.read_once.new.host in
    let later = so_far_later (g.H.Host.state c.loop-name.host).honest after.honest old.world c.args.path.now c.args.self.now c.loop-name.self (string_bytes c.loop-name.way) c.loop-name.rest.now c.read_once.ensures.silent.honest c.loop-name.invariant.so_far in
    subst (λ (l : List Alias). Grows after.honest old.world c.args.path.now c.args.self.now l) (sym c.in_err-read_once.ensures.err) (so_far_grows _ _ _ _ _ _ _ later)

pub returns-in_err-read_once-clause-reads : goal.returns-in_err-read_once-clause-reads
returns-in_err-read_once-clause-reads g c = reads_then _ _ _ c.loop-name.invariant.reads c.read_once.ensures.reads

pub returns-in_err-way-clause-grows : goal.returns-in_err-way-clause-grows
returns-in_err-way-clause-grows g c = so_far_grows _ _ _ _ _ _ _ (so_far_next (g.H.Host.state c.loop-name.host).honest (g.H.Host.state c.read_once.new.host).honest (g.H.Host.state c.args.host.now).world (g.H.Host.state c.loop-name.host).world c.args.path.now c.args.self.now c.loop-name.self c.read_once.new.self
    (string_bytes c.loop-name.way) c.loop-name.rest.now c.in-Some.name.now c.in-Some.behind.now c.as_str.result.now _ c.read_once.ensures.silent.honest c.loop-name.invariant.reads.world c.loop-name.invariant.so_far
    c.in-Some.ensures.0 c.in-Some.ensures.1 (c.as_str.ensures.value ∙ c.in_ok-push_str.ensures.bytes) c.in_ok-read_once.ensures.looked refl)

pub returns-in_err-way-clause-reads : goal.returns-in_err-way-clause-reads
returns-in_err-way-clause-reads g c = reads_then _ _ _ c.loop-name.invariant.reads c.read_once.ensures.reads

pub loop-name-preserved : goal.loop-name-preserved
loop-name-preserved g c = record {
  text = search rules;
  so_far = so_far_next (g.H.Host.state c.loop-name.host).honest (g.H.Host.state c.read_once.new.host).honest (g.H.Host.state c.args.host.now).world (g.H.Host.state c.loop-name.host).world c.args.path.now c.args.self.now c.loop-name.self c.read_once.new.self
      (string_bytes c.loop-name.way) c.loop-name.rest.now c.in-Some.name.now c.in-Some.behind.now c.as_str.result.now (string_bytes c.in_ok-way.way) c.read_once.ensures.silent.honest c.loop-name.invariant.reads.world c.loop-name.invariant.so_far
      c.in-Some.ensures.0 c.in-Some.ensures.1 (c.as_str.ensures.value ∙ c.in_ok-push_str.ensures.bytes) c.in_ok-read_once.ensures.looked (search rules);
  settled = c.read_once.ensures.settled;
  reads = reads_then _ _ _ c.loop-name.invariant.reads c.read_once.ensures.reads;
  silent = silent_then _ _ _ c.loop-name.invariant.silent c.read_once.ensures.silent;
  counts = search rules;
}

pub returns-clause-grows : goal.returns-clause-grows
returns-clause-grows g c = so_far_grows _ _ _ _ _ _ _ c.loop-name.invariant.so_far

pub returns-clause-whole : goal.returns-clause-whole
returns-clause-whole g c = λ h.
    let so = c.loop-name.invariant.so_far in
    progress_whole (g.H.Host.state c.args.host.now).world c.args.path.now c.args.self.now c.loop-name.self so.added (string_bytes c.loop-name.way) c.loop-name.rest.now so.kept (so.progress h) c.in_default.ensures
