use Rattle.std.proofs.Common.{[], ap, refl, sym, subst, ◌∙◌}
use Rattle.std.specs.Prelude.{filter}
use Rattle.std.proofs.Math.Logic.{∥∥₁_map}
use Rattle.control_fields.specs.Spelling.{AreFields}
use Rattle.status_records.specs.Order.{in_dpkgs_order}
use Rattle.status_records.specs.Recorded.{is_recorded}
use Rattle.status_records.proofs.Kept.{left_over}
use Rattle.status_records.proofs.Merging.{fields_in_order}
use Rattle.status_records.proofs.recorded.fields_of.Goals as goal

pub in_dpkgs_order-requires : goal.in_dpkgs_order-requires
in_dpkgs_order-requires c = ∥∥₁_map c.requires (λ known. subst (AreFields []) (sym c.in_ok-kept.ensures) (left_over is_recorded [] (λ f kept. refl) [] c.args.control.now known))

pub all_recorded-requires : goal.all_recorded-requires
all_recorded-requires c = ∥∥₁_map c.requires (λ known. subst (AreFields []) (sym (c.in_ok-ordered.ensures ∙ ap in_dpkgs_order c.in_ok-kept.ensures))
    (fields_in_order (filter is_recorded c.args.control.now) (left_over is_recorded [] (λ f kept. refl) [] c.args.control.now known)))
