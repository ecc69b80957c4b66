use Rattle.std.proofs.Common.{◌++◌, ◌∷◌, [], map, ap, ◌∙◌, sym}
use Rattle.host_core.specs.Paths.{Path}
use Rattle.status_records.specs.Conffiles.{has_pending}
use Rattle.unpack_plan.specs.Digests.{digest_at, told_digest}
use Rattle.unpack_plan.proofs.Digested.{digest_put, none_pending}
use Rattle.unpack_plan.proofs.digests.add_digest.Goals as goal

pub put-requires : goal.put-requires
put-requires c =
    let at = c.new.ensures.path ∙ c.in_ok-copy-in-File.ensures in
    ap (has_pending c.args.pending.now) at ∙ none_pending c.args.path.now c.args.pending.now c.requires.before

pub returns-in_ok-put-in-File : goal.returns-in_ok-put-in-File
returns-in_ok-put-in-File c =
    let at = c.new.ensures.path ∙ c.in_ok-copy-in-File.ensures in
    let digest = c.new.ensures.digest ∙ c.of_content-digest.ensures in
    digest_put c.args.path.now c.in-File.bytes c.new.result c.args.pending.now _ c.requires.before at c.in_ok-put-in-File.ensures.ok
    ∙ ap (λ (d : Path). map told_digest c.args.pending.now ++ (c.args.path.now, d) ∷ []) digest ∙ ap (λ n. map told_digest c.args.pending.now ++ digest_at c.args.path.now n) (sym c.in-File.is)
