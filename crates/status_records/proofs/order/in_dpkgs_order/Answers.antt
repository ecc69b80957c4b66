use Rattle.std.proofs.Common.{◌≡◌, ◌+◌, ◌++◌, List, [], map, subst, ap, sym, ◌∙◌}
use Rattle.std.specs.Prelude.{nat_lt}
use Rattle.std.specs.List.{prefix_len}
use Rattle.std.proofs.Math.Logic.{∥∥₁_map}
use Rattle.std.proofs.lemmas.List.{append-nil}
use Rattle.control_fields.specs.Spelling.{AreFields}
use Rattle.control_fields.specs.declared.field.Field.{Field}
use Rattle.control_fields.proofs.Keyed.{walk_more}
use Rattle.status_records.specs.Order.{rank, in_dpkgs_order}
use Rattle.status_records.proofs.Merging.{put_more, fields_in_order}
use Rattle.status_records.proofs.order.in_dpkgs_order.Goals as goal

pub loop-field-preserved : goal.loop-field-preserved
loop-field-preserved c =
    let sorted = c.loop-field.sorted.items in
    let place : c.place_among-place.result ≡ prefix_len (λ g. nat_lt (rank g) (c.rank.result + 1)) c.as_slice.result.now = c.place_among-place.ensures.value in
    let at : c.place_among-place.result ≡ prefix_len (λ g. nat_lt (rank g) (rank c.in-Some.field.now + 1)) sorted = place ∙ (λ i. prefix_len (λ g. nat_lt (rank g) (c.rank.ensures i + 1)) (c.as_slice.ensures.value i)) in (
      put_more sorted c.insert.new.self.items c.loop-field.yielded c.in-Some.field c.in_ok-copy.field-0 c.place_among-place.result c.loop-field.invariant.0 c.in_ok-insert.ensures.items c.in_ok-copy.ensures at,
      walk_more c.args.fields.now c.loop-field.field-iterator c.next.new.self c.loop-field.yielded c.in-Some.field c.loop-field.invariant.1 c.in-Some.ensures.steps,
    )

pub add_all-requires : goal.add_all-requires
add_all-requires c =
    let all = c.loop-field.invariant.1 ∙ ap (λ (l : List Field). map (λ b. b.now) c.loop-field.yielded ++ l) c.in-None.ensures.steps.0 ∙ append-nil (map (λ b. b.now) c.loop-field.yielded) in
    let same : in_dpkgs_order c.args.fields.now ≡ c.new-paragraph.result ++ c.as_slice-2.result.now =
    ap in_dpkgs_order all ∙ sym c.loop-field.invariant.0 ∙ sym c.as_slice-2.ensures.value ∙ ap (λ (l : List Field). l ++ c.as_slice-2.result.now) (sym c.new-paragraph.ensures) in
    ∥∥₁_map c.requires (λ known. subst (AreFields []) same (fields_in_order c.args.fields.now known))
