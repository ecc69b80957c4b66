use Rattle.std.proofs.Common.{rules}
use Rattle.host_core.proofs.Moments.{reads_then}
use Rattle.conffiles.proofs.obstacles.look_beside.Goals as goal

pub returns : goal.returns
returns g c = record {
  looks = record {
    found = search rules;
    reads = search (rules, reads_then);
    silent = search rules;
    counts = search rules;
  };
}
