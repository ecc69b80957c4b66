use Rattle.std.proofs.Common.{◌≡◌, ℕ, ◌<◌, ◌≤◌, List, [], ◌∷◌, ◌++◌, length, map, take, get_or, ap, sym, subst, ◌∙◌}
use Rattle.std.proofs.lemmas.List.{take_all}
use Rattle.status_records.specs.declared.entries.ConffileEntry.{ConffileEntry}
use Rattle.status_records.specs.ConffileFields.{conffile_line}
use Rattle.status_records.proofs.Apart.{mapped_more}
use Rattle.status_records.proofs.conffile_writing.conffile_lines.Goals as goal

pub loop-entry-preserved : goal.loop-entry-preserved
loop-entry-preserved c =
    let xs = c.args.entries.now in
    let i = c.loop-entry.entry-index in
    let x = c.entry-item.result in
    let value = c.as_slice-entry-items.ensures in
    let lt : i < length xs = subst (λ (l : List ConffileEntry). i < length l) value c.loop-entry-test.true in
    let at : x ≡ get_or xs i x = c.entry-item.is ∙ ap (λ (l : List ConffileEntry). get_or l i x) value in
    c.in_ok-push.ensures.ok ∙ ap (λ (l : List (List ℕ)). l ++ c.in_ok-conffile_line.field-0 ∷ []) c.loop-entry.invariant
    ∙ ap (λ (l : List ℕ). map conffile_line (take i xs) ++ l ∷ []) c.in_ok-conffile_line.ensures ∙ sym (mapped_more conffile_line xs i x lt at)

pub returns : goal.returns
returns c =
    c.loop-entry.invariant
    ∙ ap (map conffile_line) (take_all c.loop-entry.entry-index c.args.entries.now (subst (λ (l : List ConffileEntry). length l ≤ c.loop-entry.entry-index) c.as_slice-entry-items.ensures c.loop-entry-test.false))
