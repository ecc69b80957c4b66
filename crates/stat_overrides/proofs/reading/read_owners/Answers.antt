use Rattle.std.proofs.Common.{rules, ◌≡◌, ◌∙◌, ℕ, List, subst}
use Rattle.host_core.specs.World.{World}
use Rattle.host_core.proofs.Counted.{no_fault_then}
use Rattle.host_core.proofs.Moments.{reads_then, silent_then}
use Rattle.stat_overrides.specs.Overrides.{groups_path, text_if}
use Rattle.stat_overrides.proofs.reading.read_owners.Goals as goal

pub returns-in-Ok : goal.returns-in-Ok
returns-in-Ok g c =
    let s = g.H.Host.state c.args.host.now in
    let m = g.H.Host.state c.read_text.new.host in
    let t = g.H.Host.state c.read_text-2.new.host in
    let one = c.in_ok-users.ensures.looks in
    let two = c.in-Ok.ensures.looks in
    record {
      looks = record {
        found = λ h. (one.found (two.silent.honest h), subst (λ (w : World). c.in-Ok.groups ≡ text_if c.args.groups (w groups_path)) one.reads.world (two.found h));
        reads = reads_then s m t one.reads two.reads;
        silent = silent_then s m t one.silent two.silent;
        counts = no_fault_then s m t one.counts two.counts;
      };
    }
