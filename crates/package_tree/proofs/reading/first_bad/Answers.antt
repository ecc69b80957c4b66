use Rattle.package_tree.proofs.Firsts.{bad_told}
use Rattle.package_tree.proofs.reading.first_bad.Goals as goal

pub returns-in-Ok-clause-found : goal.returns-in-Ok-clause-found
returns-in-Ok-clause-found g c = λ h.
    let w = (g.H.Host.state c.args.host.now).world in
    bad_told w c.walk.new.found.items c.in-Ok.wrong c.in_ok-bad.bad c.lesser.result (c.in-Ok.ensures w (c.requires.contents (c.walk.ensures.silent.honest h))) (c.in_ok-bad.ensures.found h) c.lesser.ensures
