use Rattle.std.proofs.Common.{rules}
use Rattle.host_core.proofs.Moments.{reads_then}
use Rattle.file_check.proofs.sight.look_around.Goals as goal

pub returns-in_err-fresh : goal.returns-in_err-fresh
returns-in_err-fresh g c = record {
  looks = record {
    found = search rules;
    reads = search (rules, reads_then);
    silent = search rules;
    counts = search rules;
  };
}

pub returns : goal.returns
returns g c = record {
  looks = record {
    found = search rules;
    reads = search (rules, reads_then);
    silent = search rules;
    counts = search rules;
  };
}
