use Rattle.std.proofs.Common.{◌∙◌, [], ap, get_or, map, string_bytes, subst}
use Rattle.std.proofs.lemmas.Result.{on_ok_weaker}
use Rattle.host_files.specs.Walked.{HasListed}
use Rattle.host_files.proofs.walking.walk_at.Goals as goal

pub returns-clause-listed : goal.returns-clause-listed
returns-clause-listed c =
    let path = c.as_str.ensures.value ∙ c.in_ok-directory.ensures ∙ ap (λ l. get_or (map string_bytes l) c.args.at []) c.as_slice.ensures.value in
    on_ok_weaker c.walk_through.result
    (λ listed. subst (HasListed (string_bytes c.args.root.now.front) c.walk_through.new.system.trace.calls (map string_bytes c.walk_through.new.walked.items)) path listed)
    c.walk_through.ensures.listed
