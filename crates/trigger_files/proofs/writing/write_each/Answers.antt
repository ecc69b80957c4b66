use Rattle.std.proofs.Common.{◌≡◌, sym, subst, rules, List, ℕ, take}
use Rattle.std.proofs.lemmas.List.{take_all}
use Rattle.host_core.proofs.Moments.{since_then}
use Rattle.administration.proofs.Within.{taken_more}
use Rattle.trigger_files.specs.Steps.{AreWritten}
use Rattle.trigger_files.proofs.Moments.{since_put}
use Rattle.trigger_files.proofs.Names.{among_at}
use Rattle.trigger_files.proofs.Written.{open_more, still_there, taken_among, written_more, written_start}
use Rattle.trigger_files.proofs.writing.write_each.Goals as goal

pub write_one-requires-clause-register : goal.write_one-requires-clause-register
write_one-requires-clause-register g c = c.requires.registers c.name-item.result (among_at c.args.names.now c.loop-name.name-index c.name-item.result c.loop-name-test.true c.name-item.is)

pub write_one-requires-clause-there : goal.write_one-requires-clause-there
write_one-requires-clause-there g c = λ h. still_there _ _ _ _ (c.loop-name.invariant.written h) (c.requires.there (c.loop-name.invariant.silent.honest h))

pub write_one-requires-clause-free : goal.write_one-requires-clause-free
write_one-requires-clause-free g c = λ h. c.loop-name.invariant.free h c.name-item.result (among_at c.args.names.now c.loop-name.name-index c.name-item.result c.loop-name-test.true c.name-item.is)

pub returns-in_err-write_one-clause-any_moment : goal.returns-in_err-write_one-clause-any_moment
returns-in_err-write_one-clause-any_moment g c =
    let before = c.loop-name.invariant in
    let names = c.args.names.now in
    let i = c.loop-name.name-index in
    let x = c.name-item.result in
    let among = among_at names i x c.loop-name-test.true c.name-item.is in
    since_then _ _ _ _ before.any_moment
    (since_put c.args.entries.now names (take i names) x (g.H.Host.state c.args.host.now) (g.H.Host.state c.loop-name.host) (g.H.Host.state c.write_one.new.host) (c.requires.registers x among) among (taken_among names i) before.written c.write_one.ensures.silent.honest c.write_one.ensures.any_moment)

pub loop-name-init : goal.loop-name-init
loop-name-init g c = record {
  silent = search rules;
  counts = search rules;
  written = λ h. written_start c.args.entries.now _;
  free = λ h. c.requires.free h;
  any_moment = search rules;
}

pub loop-name-preserved : goal.loop-name-preserved
loop-name-preserved g c =
    let before = c.loop-name.invariant in
    let names = c.args.names.now in
    let i = c.loop-name.name-index in
    let x = c.name-item.result in
    let among = among_at names i x c.loop-name-test.true c.name-item.is in
    let register = c.requires.registers x among in
    let old = (g.H.Host.state c.args.host.now).world in
    let new = (g.H.Host.state c.write_one.new.host).world in
    record {
      silent = search rules;
      counts = search rules;
      written = λ h. subst (λ (l : List (List ℕ)). AreWritten c.args.entries.now l old new) (sym (taken_more names i x c.loop-name-test.true c.name-item.is))
          (written_more c.args.entries.now old (take i names) x _ _ register (before.written (c.write_one.ensures.silent.honest h)) (c.in_ok-write_one.ensures.put h));
      free = λ h. open_more c.args.entries.now old names x _ _ c.requires.registers register (before.free (c.write_one.ensures.silent.honest h)) (c.in_ok-write_one.ensures.put h);
      any_moment = since_then _ _ _ _ before.any_moment
          (since_put c.args.entries.now names (take i names) x (g.H.Host.state c.args.host.now) (g.H.Host.state c.loop-name.host) (g.H.Host.state c.write_one.new.host) register among (taken_among names i) before.written c.write_one.ensures.silent.honest c.write_one.ensures.any_moment);
    }

pub returns-clause-written : goal.returns-clause-written
returns-clause-written g c = λ h.
    subst (λ (l : List (List ℕ)). AreWritten c.args.entries.now l (g.H.Host.state c.args.host.now).world (g.H.Host.state c.loop-name.host).world)
    (take_all c.loop-name.name-index c.args.names.now c.loop-name-test.false) (c.loop-name.invariant.written h)
