use Rattle.std.proofs.Common.{Ok, Err, arith, subst, sym}
use Rattle.command_line.specs.Reading.{IsReadFor}
use Rattle.command_line.specs.Roots.{Around, around}
use Rattle.command_line.proofs.Compared.{compared_on, refused_with}
use Rattle.command_line.proofs.verifying.compare_on.Goals as goal

pub returns-in-Ok-clause-answer : goal.returns-in-Ok-clause-answer
returns-in-Ok-clause-answer g c =
    let inner : Around = around g.S.Hosts c.args.hosts.now c.read_package.new.hosts in
    let outer : Around = around g.S.Hosts c.args.hosts.now c.verify_on.new.hosts in
    let word = c.args.word.now in
    let read = subst (λ w. IsReadFor inner c.args.owners w c.read_package.result) c.as_str.ensures c.read_package.ensures.read in
    compared_on outer inner (record { tree = λ word s h. h; seen = c.verify_on.ensures.seen; full = c.verify_on.ensures.full; failed = λ h. omega arith }) (g.S.Opened.Host.state c.args.host) word c.args.owners (Ok c.in-Ok.package) c.verify_on.result
    (subst (IsReadFor inner c.args.owners word) c.in-Ok.is read) c.verify_on.ensures.answer

pub returns-in-Err-clause-answer : goal.returns-in-Err-clause-answer
returns-in-Err-clause-answer g c =
    let inner : Around = around g.S.Hosts c.args.hosts.now c.read_package.new.hosts in
    let outer : Around = around g.S.Hosts c.args.hosts.now c.refuse_on.new.hosts in
    let begun = g.S.Opened.Host.state c.args.host in
    let word = c.args.word.now in
    let read = subst (λ w. IsReadFor inner c.args.owners w c.read_package.result) c.as_str.ensures c.read_package.ensures.read in
    compared_on outer inner (record { tree = λ word s h. h; seen = c.refuse_on.ensures.seen; full = c.refuse_on.ensures.full; failed = λ h. omega arith }) begun word c.args.owners (Err c.in-Err.fault) c.refuse_on.result
    (subst (IsReadFor inner c.args.owners word) c.in-Err.is read) (refused_with (g.S.Hosts.left c.refuse_on.new.hosts) begun word c.in-Err.fault c.refuse_on.result c.refuse_on.ensures.given c.refuse_on.ensures.answer)
