-- Looks taken one after another, and the text that they add.
use Rattle.std.proofs.Common.{◌≡◌, ℕ, ◌+◌, Bool, true, false, cond, List, [], ◌∷◌, ◌++◌, map, IsTrue, refl, sym, ap, subst, ◌∙◌, arith, append_assoc}
use Rattle.std.specs.Prelude.{count_by, Option}
use Rattle.std.specs.List.{flat_map}
use Rattle.std.proofs.lemmas.List.{append-nil, map-append}
use Rattle.std.proofs.lemmas.List.Sums.{sum_by-append}
use Rattle.std.proofs.lemmas.Grind.{flat_map-append}
use Rattle.host_core.specs.Host.{NoFault, Reads, State, faults}
use Rattle.host_core.specs.Paths.{Path}
use Rattle.host_core.specs.World.{World}
use Rattle.diversions.specs.Ways.{place as place_of, Ways}
use Rattle.status_records.specs.declared.record.Record.{Record}
use Rattle.inquiries.specs.Read.{Sight}
use Rattle.verification.specs.Differences.{conffile_of, difference_lines, known_digest, known_of}
use Rattle.verification.specs.Sums.{sum_in, sums_at, sums_path}
use Rattle.verification.specs.Tables.{AreSums, given}
use Rattle.verification.specs.Told.{IsTold}
use Rattle.verification.specs.Looks.{AddsEach, Look}
use Rattle.verification.specs.Verified.{AddsLooks, Listing, look_lines, told_by}
use Rattle.verification.specs.declared.difference.Difference.{Difference}
use Rattle.verification.specs.declared.sums.Sum.{Sum}

module _ {T : Type 0} (lines : World → Look T → List ℕ) where
  -- none
  pub adds_none : (s : State) (text : List ℕ) → AddsEach lines [] s s text text
  adds_none s text = record { looks = []; each = refl; failed = omega arith; told = λ h. sym (append-nil text) }

  -- of others, where these are the same
  pub adds_of : (a b : List T) (s t : State) (x y : List ℕ) → a ≡ b → AddsEach lines a s t x y → AddsEach lines b s t x y
  adds_of a b s t x y same adds = subst (λ (l : List T). AddsEach lines l s t x y) same adds

  -- first some, then others
  pub adds_then : (a b : List T) (s t u : State) (x y z : List ℕ) → AddsEach lines a s t x y → Reads t u → AddsEach lines b t u y z → AddsEach lines (a ++ b) s u x z
  adds_then a b s t u x y z first reads second =
      let of : World → List (Look T) → List ℕ = λ w l. flat_map (lines w) l in
      let count : List (Look T) → ℕ = λ l. count_by (λ (k : Look T). k.failed) l in
      let sums : count (first.looks ++ second.looks) ≡ count first.looks + count second.looks = sum_by-append (λ (k : Look T). cond k.failed 1 0) first.looks second.looks in
      record {
        looks = first.looks ++ second.looks;
        each = map-append (λ (l : Look T). l.at) first.looks second.looks ∙ ap (λ (l : List T). l ++ map (λ (k : Look T). k.at) second.looks) first.each ∙ ap (λ (l : List T). a ++ l) second.each;
        failed = omega (arith, first.failed, second.failed, sums);
        told = λ h.
            second.told h ∙ ap (λ (l : List ℕ). l ++ of u.world second.looks) (first.told (reads.honest h) ∙ ap (λ (w : World). x ++ of w first.looks) (sym reads.world))
            ∙ append_assoc x (of u.world first.looks) (of u.world second.looks) ∙ ap (λ (l : List ℕ). x ++ l) (sym (flat_map-append (lines u.world) first.looks second.looks));
      }

  -- behind looks at other places, none of which failed
  pub adds_behind : (a : List T) (s t u : State) (x y : List ℕ) → NoFault s t → AddsEach lines a t u x y → AddsEach lines a s u x y
  adds_behind a s t u x y none adds = record {
    looks = adds.looks;
    each = adds.each;
    failed = adds.failed ∙ ap (λ (n : ℕ). n + count_by (λ (k : Look T). k.failed) adds.looks) none.faults;
    told = adds.told;
  }

one_failed : (b : Bool) (n m : ℕ) → n ≡ m + cond b 1 0 → n ≡ m + (0 + cond b 1 0)
one_failed b n m e = omega (arith, e)

-- one look
pub adds_one : (ways : Ways) (sight : Sight) (r : Record) (path at : Path) (sums : List Sum) (known : Option (List ℕ)) (s t : State) (found : Option Difference) (x y : List ℕ) → at ≡ place_of ways r.name path
    → known ≡ known_of (conffile_of r.conffiles path) (given sums path) → (IsTrue s.honest → AreSums (sums_at (sight s.world (sums_path r.name))) sums) → Reads s t → IsTold at known s t found
    → y ≡ x ++ difference_lines path r.name found → AddsLooks ways sight ((r, path) ∷ []) s t x y
adds_one ways sight r path at sums known s t found x y place is are reads told more = record {
  looks = record { at = (r, path); failed = told.failed } ∷ [];
  each = refl;
  failed = one_failed told.failed (faults t) (faults s) told.count;
  told = λ h.
      let lines : List (List ℕ) = sums_at (sight t.world (sums_path r.name)) in
      let same : given sums path ≡ sum_in lines path = are (reads.honest h) path ∙ ap (λ (w : World). sum_in (sums_at (sight w (sums_path r.name))) path) (sym reads.world) in
      let right : known ≡ known_digest r.conffiles lines path = is ∙ ap (known_of (conffile_of r.conffiles path)) same in
      let difference : found ≡ told_by told.failed (t.world (place_of ways r.name path)) (known_digest r.conffiles lines path) =
      told.told h ∙ ap (λ (p : Path). told_by told.failed (t.world p) known) place ∙ ap (told_by told.failed (t.world (place_of ways r.name path))) right in
      more ∙ ap (λ (d : Option Difference). x ++ difference_lines path r.name d) difference ∙ ap (λ (l : List ℕ). x ++ l) (sym (append-nil (difference_lines path r.name (told_by told.failed (t.world (place_of ways r.name path)) (known_digest r.conffiles lines path)))));
}
