use Rattle.std.proofs.Common.{◌≡◌, true, subst, sym}
use Rattle.host_core.specs.Looks.{Looks}
use Rattle.host_core.specs.Paths.{Path, is_path}
use Rattle.administration.specs.Places.{temporary}
use Rattle.trigger_files.specs.Registered.{is_hindered}
use Rattle.trigger_files.proofs.Apart.{spare_is_path}
use Rattle.trigger_files.proofs.due.is_hindered.Goals as goal

pub with_suffix-requires : goal.with_suffix-requires
with_suffix-requires g c = subst (λ (p : Path). is_path (temporary p) ≡ true) (sym c.in_ok-path.ensures) (spare_is_path c.args.name.now c.requires)

pub returns : goal.returns
returns g c = record {
  looks = subst (λ (p : Path). Looks c.is_hindered_at.result (λ is w. is ≡ is_hindered w p) (g.H.Host.state c.args.host.now) (g.H.Host.state c.is_hindered_at.new.host)) c.in_ok-path.ensures c.is_hindered_at.ensures.looks;
}
