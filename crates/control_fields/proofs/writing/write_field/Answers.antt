use Rattle.std.proofs.Common.{◌≡◌, ◌∙◌, ◌<◌, ◌≤◌, ◌++◌, ◌∷◌, [], ℕ, List, length, get_or, ap, rules}
use Rattle.control_fields.specs.Spelling.{first_line}
use Rattle.control_fields.proofs.Spelled.{spelled_more, spelled_field}
use Rattle.control_fields.proofs.writing.write_field.Goals as goal

pub loop-line-preserved : goal.loop-line-preserved
loop-line-preserved c =
    let before : List ℕ = c.args.out.now.items ++ (first_line c.args.field.now ++ 10 ∷ []) in
    let line : List ℕ = c.line-item.result in
    let lt : c.loop-line.line-index < length c.args.field.now.more = search rules in
    let is : line ≡ get_or c.args.field.now.more c.loop-line.line-index line = search rules in
    let grown : c.extend_from_slice.new.self.items ≡ c.loop-line.out.items ++ line = search rules in
    c.in_ok-push.ensures.items ∙ ap (λ (t : List ℕ). t ++ 10 ∷ []) grown ∙ spelled_more c.args.field.now.more c.loop-line.line-index line before c.loop-line.out.items lt is c.loop-line.invariant

pub returns : goal.returns
returns c =
    let all : length c.args.field.now.more ≤ c.loop-line.line-index = search rules in
    c.loop-line.invariant ∙ spelled_field c.args.field.now c.loop-line.line-index c.args.out.now.items all
