use Rattle.std.proofs.Common.{◌≡◌, ap, subst, sym, rules, Bool}
use Rattle.std.specs.Prelude.{MatchBool, IfOk}
use Rattle.host_core.specs.World.{World, IsDirectory}
use Rattle.administration.specs.Files.{NoDirectory}
use Rattle.host_core.proofs.Moments.{reads_then, silent_then}
use Rattle.host_core.proofs.Counted.{no_fault_then}
use Rattle.trigger_journal.proofs.Steps.{either}
use Rattle.trigger_journal.proofs.writing.is_taken.Goals as goal

pub returns : goal.returns
returns g c =
    let first = c.is_directory.ensures.looks in
    let then = c.is_directory-2.ensures.looks in
    let old = (g.H.Host.state c.args.host.now).world in
    let path = c.args.path.now in
    let spare = c.args.spare.now in
    record {
      looks = record {
        found = λ h. either _ _ _ _ c.is_directory-2.result
            (subst (λ (is : Bool). MatchBool is (IsDirectory (old path)) (NoDirectory (old path))) c.if-branch.false (c.in_ok-is_directory.ensures.looks.found (then.reads.honest h)))
            (subst (λ (w : World). IfOk c.is_directory-2.result (λ is. MatchBool is (IsDirectory (w spare)) (NoDirectory (w spare)))) first.reads.world (then.found h));
        reads = reads_then _ _ _ first.reads then.reads;
        silent = silent_then _ _ _ first.silent then.silent;
        counts = search rules;
      };
    }
