use Rattle.std.proofs.Common.{◌≡◌, ◌∙◌, sym, ap, List, ℕ, Option, Some, option_map}
use Rattle.hex.specs.Hex.{encode_lower}
use Rattle.host_core.specs.World.{World}
use Rattle.verification.specs.Differences.{difference_at}
use Rattle.verification.specs.declared.difference.Difference.{Difference}
use Rattle.verification.proofs.LooksBehind.{look_then}
use Rattle.verification.proofs.looking.look.Goals as goal

pub returns-in-Some-File-Some : goal.returns-in-Some-File-Some
returns-in-Some-File-Some g c =
    let at = c.args.place.now in
    let known : Some (encode_lower c.in-Some-File-Some.digest) ≡ option_map encode_lower c.args.known = sym (ap (option_map encode_lower) c.in-Some-File-Some.is-1) in
    record {
      looks = look_then c.compare.result (λ d w. d ≡ difference_at (w at) (Some (encode_lower c.in-Some-File-Some.digest))) (λ d w. d ≡ difference_at (w at) (option_map encode_lower c.args.known))
          (g.H.Host.state c.args.host.now) _ (g.H.Host.state c.compare.new.host) c.kind.ensures.reads c.kind.ensures.silent c.in_ok-kind.ensures.counts
          (λ d w is. is ∙ ap (difference_at (w at)) known) c.compare.ensures.looks;
    }
