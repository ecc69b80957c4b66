-- Looks at shipped paths, and the text that they add.
use Rattle.std.proofs.Common.{◌≡◌, ℕ, ◌+◌, Bool, true, false, cond, List, [], ◌∷◌, ◌++◌, refl, sym, ap, ◌∙◌, arith}
use Rattle.std.specs.Prelude.{Option, None, if◌then◌else◌}
use Rattle.std.proofs.lemmas.List.{append-nil}
use Rattle.host_core.specs.Host.{State, faults}
use Rattle.host_core.specs.Paths.{Path}
use Rattle.host_core.specs.World.{World}
use Rattle.diversions.specs.Ways.{place as place_of, Ways}
use Rattle.package_tree.specs.declared.shipped.Shipped.{Shipped}
use Rattle.verification.specs.Differences.{difference_lines}
use Rattle.verification.specs.Looks.{AddsEach}
use Rattle.verification.specs.Shipped.{compared_by, shipped_lines, stands_for}
use Rattle.verification.specs.Told.{IsToldBeside}
use Rattle.verification.specs.declared.difference.Difference.{Difference}

one_failed : (b : Bool) (n m : ℕ) → n ≡ m + cond b 1 0 → n ≡ m + (0 + cond b 1 0)
one_failed b n m e = omega (arith, e)

-- its line, by whether a link to a directory stands for it
abbrev lines_by : Ways → List ℕ → World → Shipped → Bool → Bool → List ℕ
lines_by ways name w file failed stands = difference_lines file.path name (if stands then None else compared_by failed (w (place_of ways name file.path)) file.node)

-- none where a link to a directory stands for it
pub adds_stood : (ways : Ways) (name : List ℕ) (file : Shipped) (s : State) (x : List ℕ) → stands_for ways.aliases file.path file.node ≡ true → AddsEach (shipped_lines ways name) (file ∷ []) s s x x
adds_stood ways name file s x stands = record {
  looks = record { at = file; failed = false } ∷ [];
  each = refl;
  failed = one_failed false (faults s) (faults s) (omega arith);
  told = λ h. sym (ap (λ (b : Bool). x ++ (lines_by ways name s.world file false b ++ [])) stands ∙ append-nil x);
}

-- one look
pub adds_compared : (ways : Ways) (name : List ℕ) (file : Shipped) (at : Path) (s t : State) (found : Option Difference) (x y : List ℕ) → stands_for ways.aliases file.path file.node ≡ false → at ≡ place_of ways name file.path
    → IsToldBeside at file.node s t found → y ≡ x ++ difference_lines file.path name found → AddsEach (shipped_lines ways name) (file ∷ []) s t x y
adds_compared ways name file at s t found x y other place told more = record {
  looks = record { at = file; failed = told.failed } ∷ [];
  each = refl;
  failed = one_failed told.failed (faults t) (faults s) told.count;
  told = λ h.
      let difference : found ≡ compared_by told.failed (t.world (place_of ways name file.path)) file.node = told.told h ∙ ap (λ (p : Path). compared_by told.failed (t.world p) file.node) place in
      more ∙ ap (λ (d : Option Difference). x ++ difference_lines file.path name d) difference
      ∙ sym (ap (λ (b : Bool). x ++ (lines_by ways name t.world file told.failed b ++ [])) other ∙ ap (λ (l : List ℕ). x ++ l) (append-nil (lines_by ways name t.world file told.failed false)));
}
