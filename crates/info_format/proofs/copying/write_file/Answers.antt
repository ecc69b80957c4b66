use Rattle.info_format.proofs.Copies.{no_room_by, room_by, since_only_reads, since_written}
use Rattle.info_format.proofs.copying.write_file.Goals as goal

pub returns-in_err-is_directory-clause-any_moment : goal.returns-in_err-is_directory-clause-any_moment
returns-in_err-is_directory-clause-any_moment g c = since_only_reads _ _ _ _ c.is_directory.ensures.looks.reads

pub returns-then-branch-clause-written : goal.returns-then-branch-clause-written
returns-then-branch-clause-written g c = λ h.
    (c.is_directory.ensures.looks.reads.world, no_room_by _ c.args.short.now (g.H.Host.state c.args.host.now).world _ _ c.in-Some.is c.in_ok-spare.ensures c.if-branch.true (c.in_ok-is_directory.ensures.looks.found h))

pub returns-then-branch-clause-any_moment : goal.returns-then-branch-clause-any_moment
returns-then-branch-clause-any_moment g c = since_only_reads _ _ _ _ c.is_directory.ensures.looks.reads

pub returns-in_err-replace-clause-any_moment : goal.returns-in_err-replace-clause-any_moment
returns-in_err-replace-clause-any_moment g c = since_written c.args.short.now c.args.node.now _ _ _ c.is_directory.ensures.looks.reads
    (λ h. room_by _ c.args.short.now (g.H.Host.state c.args.host.now).world _ _ c.in-Some.is c.in_ok-spare.ensures c.if-branch.false (c.in_ok-is_directory.ensures.looks.found (c.replace.ensures.silent.honest h))) c.replace.ensures.any_moment

pub returns-clause-any_moment : goal.returns-clause-any_moment
returns-clause-any_moment g c = since_written c.args.short.now c.args.node.now _ _ _ c.is_directory.ensures.looks.reads
    (λ h. room_by _ c.args.short.now (g.H.Host.state c.args.host.now).world _ _ c.in-Some.is c.in_ok-spare.ensures c.if-branch.false (c.in_ok-is_directory.ensures.looks.found (c.replace.ensures.silent.honest h))) c.replace.ensures.any_moment
