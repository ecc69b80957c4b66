use Rattle.std.proofs.Common.{◌++◌, sym, ap, ◌∙◌, List, ℕ}
use Rattle.std.proofs.lemmas.Bool.{false≢true}
use Rattle.host_files.proofs.DirectoryLaws.{lacks_prefix}
use Rattle.host_files.proofs.remembered.is_below.Goals as goal

pub returns-in_default-strip_prefix : goal.returns-in_default-strip_prefix
unfolding lib.Utf8.encode
returns-in_default-strip_prefix c =
    let k = c.in-Some.ensures.cases in (
      λ h. absurd (false≢true h),
      λ b. absurd (lacks_prefix c.args.top.now c.args.path.now c.in-Some.rest.now b.0
          (k.1.1 ∙ ap (λ (l : List ℕ). c.args.top.now ++ l) (sym k.2)) c.in_default-strip_prefix.ensures.cases b.1),
    )
