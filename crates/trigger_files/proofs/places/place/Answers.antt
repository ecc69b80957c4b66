use Rattle.std.proofs.Common.{◌≡◌, ◌∙◌, List, ℕ, true, subst, sym, ap}
use Rattle.std.specs.String.{string_bytes}
use Rattle.host_core.specs.Paths.{Path, is_path}
use Rattle.trigger_files.specs.Places.{place}
use Rattle.trigger_files.proofs.Apart.{place_is_path}
use Rattle.trigger_files.proofs.places.place.Goals as goal

pub new-requires : goal.new-requires
new-requires c =
    let named : string_bytes c.in_ok-format.field-0 ≡ place c.as_str-name.result.now = c.in_ok-format.ensures.ok in
    subst (λ (p : Path). is_path p ≡ true) (sym (named ∙ ap (λ (n : List ℕ). place n) c.as_str-name.ensures)) (place_is_path c.args.name.now c.requires)
