use Rattle.std.proofs.Common.{sym, ◌∙◌}
use Rattle.info_format.proofs.Copies.{file_copied, made_both, since_file, since_link, since_only_looked}
use Rattle.info_format.proofs.copying.copy.Goals as goal

pub returns-in_err-node-clause-any_moment : goal.returns-in_err-node-clause-any_moment
returns-in_err-node-clause-any_moment g c = since_only_looked _ _ _ _ c.node.ensures.reads

pub returns-in_default-clause-any_moment : goal.returns-in_default-clause-any_moment
returns-in_default-clause-any_moment g c = since_only_looked _ _ _ _ c.node.ensures.reads

pub returns-in-File-clause-copied : goal.returns-in-File-clause-copied
returns-in-File-clause-copied g c = λ h. file_copied c.write_file.result c.args.pair.now.long c.args.pair.now.short c.in-Some.node (g.H.Host.state c.args.host.now).world _ _ c.node.ensures.reads.world
    (sym c.in-Some.is ∙ c.in_ok-node.ensures.found (c.write_file.ensures.silent.honest h)) (c.write_file.ensures.written h)

pub returns-in-File-clause-any_moment : goal.returns-in-File-clause-any_moment
returns-in-File-clause-any_moment g c = since_file c.args.pair.now.long c.args.pair.now.short c.in-Some.node _ _ _ c.node.ensures.reads c.write_file.ensures.silent.honest (c.in-File.bytes, c.in-File.access, c.in-File.is)
    (λ h. sym c.in-Some.is ∙ c.in_ok-node.ensures.found h) (λ h. c.requires.absent (c.node.ensures.silent.honest h)) c.write_file.ensures.any_moment

pub returns-in-Dir-clause-any_moment : goal.returns-in-Dir-clause-any_moment
returns-in-Dir-clause-any_moment g c = since_only_looked _ _ _ _ c.node.ensures.reads

pub returns-in_err-make_link-in-Link-clause-any_moment : goal.returns-in_err-make_link-in-Link-clause-any_moment
returns-in_err-make_link-in-Link-clause-any_moment g c = since_link c.make_link.result c.args.pair.now.long c.args.pair.now.short _ c.in-Some.node _ _ _ c.node.ensures.reads c.make_link.ensures.silent.honest c.in-Link.is
    (λ h. sym c.in-Some.is ∙ c.in_ok-node.ensures.found h) (λ h. c.requires.there (c.node.ensures.silent.honest h)) (λ h. c.requires.absent (c.node.ensures.silent.honest h)) c.make_link.ensures.does

pub returns-clause-copied : goal.returns-clause-copied
returns-clause-copied g c = λ h. made_both c.args.pair.now.long c.args.pair.now.short _ c.in-Some.node (g.H.Host.state c.args.host.now).world _ _ c.node.ensures.reads.world c.in-Link.is
    (sym c.in-Some.is ∙ c.in_ok-node.ensures.found (c.make_link.ensures.silent.honest h)) c.in_ok-make_link-in-Link.ensures.does.world

pub returns-clause-any_moment : goal.returns-clause-any_moment
returns-clause-any_moment g c = since_link c.make_link.result c.args.pair.now.long c.args.pair.now.short _ c.in-Some.node _ _ _ c.node.ensures.reads c.make_link.ensures.silent.honest c.in-Link.is
    (λ h. sym c.in-Some.is ∙ c.in_ok-node.ensures.found h) (λ h. c.requires.there (c.node.ensures.silent.honest h)) (λ h. c.requires.absent (c.node.ensures.silent.honest h)) c.make_link.ensures.does
