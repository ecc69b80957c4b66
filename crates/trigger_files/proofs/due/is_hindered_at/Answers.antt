use Rattle.std.proofs.Common.{rules}
use Rattle.host_core.proofs.Moments.{reads_then, silent_then}
use Rattle.trigger_files.proofs.Written.{hindered_by}
use Rattle.trigger_files.proofs.due.is_hindered_at.Goals as goal

pub returns : goal.returns
returns g c =
    let then = c.is_directory.ensures.looks in
    record {
      looks = record {
        found = λ h. hindered_by c.is_directory.result (g.H.Host.state c.args.host.now).world _ c.args.path.now c.args.spare.now _ _
            c.kind.ensures.reads.world c.requires c.if-is_in_way.false c.is_in_way.ensures (c.in_ok-kind.ensures.found (then.reads.honest h)) (then.found h);
        reads = reads_then _ _ _ c.kind.ensures.reads then.reads;
        silent = silent_then _ _ _ c.kind.ensures.silent then.silent;
        counts = search rules;
      };
    }
