use Rattle.std.proofs.Common.{rules, ◌≡◌, is_some, ◌∙◌, ap}
use Rattle.host_core.proofs.Moments.{reads_then}
use Rattle.host_core.specs.World.{World}
use Rattle.host_core.specs.declared.call.Script.{Script as AScript}
use Rattle.host_core.specs.declared.call.Script.TheVariants.{Preinst, Postinst, Prerm, Postrm}
use Rattle.administration.specs.Places.{script_path}
use Rattle.host_core.specs.Paths.{Path}
use Rattle.unpack_rows.specs.ForwardRows.{is_present}
use Rattle.unpack_rows.specs.declared.rows.Present.{Present}
use Rattle.unpack_engine.proofs.looks.look_for_scripts.Goals as goal

all_four : (name : Path) (w v : World) (stored : Present) → v ≡ w → stored.preinst ≡ is_some (w (script_path name Preinst)) → stored.postinst ≡ is_some (w (script_path name Postinst))
    → stored.prerm ≡ is_some (v (script_path name Prerm)) → stored.postrm ≡ is_some (v (script_path name Postrm)) → (script : AScript) → is_present stored script ≡ is_some (w (script_path name script))
all_four name w v stored same a b c d Preinst = a
all_four name w v stored same a b c d Postinst = b
all_four name w v stored same a b c d Prerm = c ∙ ap (λ (x : World). is_some (x (script_path name Prerm))) same
all_four name w v stored same a b c d Postrm = d ∙ ap (λ (x : World). is_some (x (script_path name Postrm))) same

pub returns : goal.returns
returns g c = record {
  looks = record {
    found = λ h script.
        let first = c.in_ok-preinst.ensures.looks.found (c.look_for_two-2.ensures.looks.reads.honest h) in
        let second = c.in_ok-prerm.ensures.looks.found h in
        all_four c.args.name.now (g.H.Host.state c.args.host.now).world (g.H.Host.state c.look_for_two.new.host).world _ c.look_for_two.ensures.looks.reads.world first.0 first.1 second.0 second.1 script;
    reads = search (rules, reads_then);
    silent = search rules;
    counts = search rules;
  };
}
