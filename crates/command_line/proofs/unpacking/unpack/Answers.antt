use Rattle.std.proofs.Common.{arith, subst}
use Rattle.command_line.specs.Roots.{Around, around}
use Rattle.command_line.proofs.Trees.{unpacked_within}
use Rattle.command_line.proofs.unpacking.unpack.Goals as goal

pub returns-in-Ok-unpack_on-clause-done : goal.returns-in-Ok-unpack_on-clause-done
returns-in-Ok-unpack_on-clause-done g c =
    let begun = g.S.Opened.Host.state c.in-Ok.host in
    let behind = subst (λ word. g.S.Hosts.root c.args.hosts.now word begun) c.as_str.ensures c.in-Ok.ensures.opened in
    let old = c.args.hosts.now in
    let mid = c.open_root.new.self in
    let new = c.unpack_on.new.hosts in
    let outer : Around = around g.S.Hosts old new in
    let inner : Around = around g.S.Hosts mid new in (
      begun,
      behind,
      unpacked_within outer inner (record { tree = c.open_root.ensures.trees; seen = λ s h. h; full = λ word path h. h; failed = λ h. omega arith }) (λ s h. h) begun c.args.options c.args.unpacking.now c.in-Ok-unpack_on.ended c.in-Ok-unpack_on.ensures.done,
    )
