use Rattle.std.proofs.Common.{◌≡◌, ◌++◌, ◌∙◌, [], List, Option, ap, length, rules}
use Rattle.package_tree.specs.declared.control_file.ControlFile.{ControlFile}
use Rattle.command_line.proofs.Rounds.{looks_length}
use Rattle.command_line.proofs.ordering.rounds_for.Goals as goal

pub ordered-requires-clause-long : goal.ordered-requires-clause-long
ordered-requires-clause-long g c =
    let looks = c.in-Ok.ensures.looked in
    let empty : c.new-looked.result.items ≡ [] = search rules in
    let slice : c.as_slice.result.now ≡ c.look_at_all.new.looked.items = search rules in
    ap (λ (l : List (Option ControlFile)). length l) (slice ∙ looks.1) ∙ ap (λ (l : List (Option ControlFile)). length (l ++ looks.0)) empty ∙ looks_length _ _ looks.0 looks.2
