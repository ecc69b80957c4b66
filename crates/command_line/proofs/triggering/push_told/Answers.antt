use Rattle.std.proofs.Common.{◌≡◌, ◌∙◌, ◌<◌, ◌+◌, ◌++◌, ◌∷◌, [], List, ℕ, ap, append-nil, append_assoc, length, map, sym, take}
use Rattle.std.proofs.lemmas.Grind.{flat_map-append}
use Rattle.std.proofs.lemmas.List.{take_more}
use Rattle.unit_reports.specs.declared.report.Touched.{Touched}
use Rattle.unit_reports.specs.declared.report.Unit.{Unit as AUnit}
use Rattle.trigger_turns.specs.Turns.{names_told, names_touched}
use Rattle.command_line.proofs.triggering.push_told.Goals as goal

pub loop-unit-preserved : goal.loop-unit-preserved
loop-unit-preserved c =
    let i = c.loop-unit.unit-index in
    let units = c.args.units.now in
    let unit = c.unit-item.result in
    let old = c.args.names.now.items in
    let names = c.loop-unit.names.items in
    let lt : i < length units = c.loop-unit-test.true in
    let grown : names_told (take (i + 1) units) ≡ names_told (take i units) ++ names_touched unit =
    ap names_told (take_more units i unit lt ∙ ap (λ (x : AUnit). take i units ++ x ∷ []) (sym c.unit-item.is)) ∙ flat_map-append names_touched (take i units) (unit ∷ [])
    ∙ ap (λ (l : List (List ℕ)). names_told (take i units) ++ l) (append-nil (names_touched unit)) in
    c.in_ok-push_touched.ensures ∙ ap (λ (l : List Touched). names ++ map (λ (t : Touched). t.«package») l) c.as_slice.ensures.value
    ∙ ap (λ (l : List (List ℕ)). l ++ names_touched unit) c.loop-unit.invariant ∙ append_assoc old (names_told (take i units)) (names_touched unit)
    ∙ ap (λ (l : List (List ℕ)). old ++ l) (sym grown)
