use Rattle.std.proofs.Common.{◌≡◌, true, false, ap, sym, subst, ◌∙◌}
use Rattle.host_core.specs.Paths.{Path}
use Rattle.status_records.specs.Conffiles.{has_pending}
use Rattle.status_records.specs.ConffilePaths.{is_before, is_trimmed}
use Rattle.adopted_conffiles.specs.Adopted.{AreBefore}
use Rattle.adopted_conffiles.proofs.Pending.{before_last, digest_not_put, digest_put, none_pending, put_last, trimmed}
use Rattle.adopted_conffiles.proofs.beside.add_digest.Goals as goal

pub new-requires : goal.new-requires
new-requires c = subst (λ (p : Path). is_trimmed p ≡ true) (sym c.in_ok-copy-in-Some.ensures) (trimmed c.args.entry.now.path c.args.entry.now.conffile)

pub put-requires : goal.put-requires
put-requires c = ap (has_pending c.args.pending.now) (c.new.ensures.path ∙ c.in_ok-copy-in-Some.ensures) ∙ none_pending c.args.entry.now.path c.args.pending.now c.requires.before

pub returns-in_ok-put-in-Some-clause-added : goal.returns-in_ok-put-in-Some-clause-added
returns-in_ok-put-in-Some-clause-added c =
    let at = c.new.ensures.path ∙ c.in_ok-copy-in-Some.ensures in
    let put = put_last c.new.result c.args.entry.now.path c.args.pending.now c.put.new.self c.requires.before at c.in_ok-put-in-Some.ensures.ok in
    λ node is. digest_put c.args.entry.now c.in-Some.digest c.new.result node c.args.pending.now c.put.new.self (sym c.in-Some.is ∙ is) at c.new.ensures.digest put

pub returns-in_ok-put-in-Some-clause-before : goal.returns-in_ok-put-in-Some-clause-before
returns-in_ok-put-in-Some-clause-before c =
    let at = c.new.ensures.path ∙ c.in_ok-copy-in-Some.ensures in
    let put = put_last c.new.result c.args.entry.now.path c.args.pending.now c.put.new.self c.requires.before at c.in_ok-put-in-Some.ensures.ok in
    λ q before all. subst (AreBefore q) (sym put) (before_last q c.args.pending.now c.new.result all (subst (λ (p : Path). is_before p q ≡ true) (sym at) before))

pub returns-in-None-clause-added : goal.returns-in-None-clause-added
returns-in-None-clause-added c = λ node is. digest_not_put c.args.entry.now node c.args.pending.now (sym c.in-None.is ∙ is)
