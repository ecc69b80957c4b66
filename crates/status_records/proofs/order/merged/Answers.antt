use Rattle.std.proofs.Common.{◌≡◌, ◌++◌, ◌∷◌, List, [], take, drop, ap, sym, ◌∙◌}
use Rattle.std.specs.Prelude.{nat_lt}
use Rattle.std.specs.List.{prefix_len}
use Rattle.std.proofs.lemmas.List.{append-nil}
use Rattle.control_fields.specs.declared.field.Field.{Field}
use Rattle.status_records.specs.Order.{rank, merged}
use Rattle.status_records.proofs.Merging.{front_written, next_new, merged_ahead, merged_behind, merged_none}
use Rattle.status_records.proofs.order.merged.Goals as goal

pub add_all-requires : goal.add_all-requires
add_all-requires c =
    let left = c.loop-field.left.now in
    let all = merged c.args.own.now c.args.others.now in
    let counted : c.count_before.result ≡ prefix_len (λ f. nat_lt (rank f) c.rank.result) left = c.count_before.ensures.value in
    let count = counted ∙ ap (λ n. prefix_len (λ f. nat_lt (rank f) n) left) c.rank.ensures in
    front_written c.loop-field.paragraph c.split_at.result.0.now (c.in-Some.field.now ∷ merged c.split_at.result.1.now c.next.new.self) all c.requires
    (merged_ahead c.loop-field.paragraph left c.split_at.result.0.now c.split_at.result.1.now c.loop-field.field-iterator c.next.new.self all c.in-Some.field.now c.loop-field.invariant c.in-Some.ensures.steps
    (c.split_at.ensures.front ∙ ap (λ n. take n left) count) (c.split_at.ensures.back ∙ ap (λ n. drop n left) count))

pub push-requires : goal.push-requires
push-requires c =
    let left = c.loop-field.left.now in
    let all = merged c.args.own.now c.args.others.now in
    let counted : c.count_before.result ≡ prefix_len (λ f. nat_lt (rank f) c.rank.result) left = c.count_before.ensures.value in
    let count = counted ∙ ap (λ n. prefix_len (λ f. nat_lt (rank f) n) left) c.rank.ensures in
    next_new c.add_all.new.paragraph c.in-Some.field.now c.in_ok-copy.field-0 (merged c.split_at.result.1.now c.next.new.self) all c.requires
    (ap (λ (l : List Field). l ++ c.in-Some.field.now ∷ merged c.split_at.result.1.now c.next.new.self) c.in_ok-add_all.ensures
    ∙ merged_ahead c.loop-field.paragraph left c.split_at.result.0.now c.split_at.result.1.now c.loop-field.field-iterator c.next.new.self all c.in-Some.field.now c.loop-field.invariant c.in-Some.ensures.steps
    (c.split_at.ensures.front ∙ ap (λ n. take n left) count) (c.split_at.ensures.back ∙ ap (λ n. drop n left) count)) c.in_ok-copy.ensures

pub loop-field-preserved : goal.loop-field-preserved
loop-field-preserved c =
    let left = c.loop-field.left.now in
    let all = merged c.args.own.now c.args.others.now in
    let counted : c.count_before.result ≡ prefix_len (λ f. nat_lt (rank f) c.rank.result) left = c.count_before.ensures.value in
    let count = counted ∙ ap (λ n. prefix_len (λ f. nat_lt (rank f) n) left) c.rank.ensures in
    merged_behind c.loop-field.paragraph c.split_at.result.0.now c.split_at.result.1.now c.add_all.new.paragraph c.push.new.self c.next.new.self all c.in_ok-copy.field-0 c.in-Some.field.now
    (merged_ahead c.loop-field.paragraph left c.split_at.result.0.now c.split_at.result.1.now c.loop-field.field-iterator c.next.new.self all c.in-Some.field.now c.loop-field.invariant c.in-Some.ensures.steps
    (c.split_at.ensures.front ∙ ap (λ n. take n left) count) (c.split_at.ensures.back ∙ ap (λ n. drop n left) count)) c.in_ok-add_all.ensures c.in_ok-push.ensures.ok c.in_ok-copy.ensures

pub add_all-requires-2 : goal.add_all-requires-2
add_all-requires-2 c =
    let left = c.loop-field.left.now in
    let all = merged c.args.own.now c.args.others.now in
    front_written c.loop-field.paragraph left [] all c.requires
    (append-nil (c.loop-field.paragraph ++ left) ∙ ap (λ (l : List Field). c.loop-field.paragraph ++ l) (sym (merged_none left) ∙ ap (merged left) (sym c.in-None.ensures.steps.0)) ∙ c.loop-field.invariant)

pub returns : goal.returns
returns c =
    let left = c.loop-field.left.now in
    c.in_ok-add_all-2.ensures ∙ ap (λ (l : List Field). c.loop-field.paragraph ++ l) (sym (merged_none left) ∙ ap (merged left) (sym c.in-None.ensures.steps.0)) ∙ c.loop-field.invariant
