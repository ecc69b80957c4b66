-- Which places the deeds of a unit leave alone: those outside the administration, and those of other packages in it.
use Rattle.std.proofs.Common.{◌≡◌, ◌≢◌, ◌⊎◌, inl, inr, ℕ, Bool, true, false, List, [], ◌∷◌, ◌++◌, Option, refl, sym, ap, subst, ◌∙◌, get_or, arith}
use Rattle.std.proofs.lemmas.Bool.{false_from_ne_true, true≢false}
use Rattle.host_core.specs.Paths.{Path, is_own}
use Rattle.host_core.specs.World.{World, Avoids, Change}
use Rattle.host_core.proofs.Scripts.{changed_kept}
use Rattle.host_core.specs.declared.node.Node.{Node}
use Rattle.administration.specs.Places.{diversions_path, home_path, is_within, list_path, temporary}
use Rattle.control_members.specs.Stored.{stored_member_path}
use Rattle.status_db.specs.Held.{is_record_place}
use Rattle.unpack_commit.proofs.Left.{list_within, member_within}
use Rattle.listed_files.proofs.Closings.{below_within}
use Rattle.unpack_steps.proofs.Standing.{record_below}
use Rattle.stop_laws.proofs.Taken.{IsSet}

-- outside the administration's directory

outside_is : (q p : Path) → is_within home_path q ≡ false → is_within home_path p ≡ true → q ≢ p
outside_is q p out within e = true≢false (sym within ∙ ap (is_within home_path) (sym e) ∙ out)

pub outside_records : (q : Path) → is_within home_path q ≡ false → is_record_place q ≡ false
outside_records q out = false_from_ne_true (is_record_place q) (λ is. true≢false (sym (below_within q (record_below q is)) ∙ out))

pub outside_list : (q : Path) → is_within home_path q ≡ false → (name : List ℕ) → q ≢ list_path name
outside_list q out name = outside_is q (list_path name) out (list_within name)

pub outside_spare : (q : Path) → is_within home_path q ≡ false → (name : List ℕ) → q ≢ temporary (list_path name)
outside_spare q out name = outside_is q (temporary (list_path name)) out refl

pub outside_member : (q : Path) → is_within home_path q ≡ false → (owner name : Path) → q ≢ stored_member_path owner name
outside_member q out owner name = outside_is q (stored_member_path owner name) out (member_within owner name)

-- the diversions, which stand beside `info`

beside_info : (q : Path) → get_or q 14 0 ≡ 105 → diversions_path ≢ q
beside_info q at e = let same : ◌≡◌ {A = ℕ} 100 105 = ap (λ (l : Path). get_or l 14 0) e ∙ at in absurd (omega arith)

pub beside_list : (name : List ℕ) → diversions_path ≢ list_path name
beside_list name = beside_info (list_path name) refl

pub beside_spare : (name : List ℕ) → diversions_path ≢ temporary (list_path name)
beside_spare name = beside_info (temporary (list_path name)) refl

pub beside_member : (owner member : Path) → diversions_path ≢ stored_member_path owner member
beside_member owner member = beside_info (stored_member_path owner member) refl

-- the program's own places, which scripts leave alone

pub own_list : (name : List ℕ) → is_own (list_path name) ≡ true
own_list name = refl

pub own_member : (owner name : Path) → is_own (stored_member_path owner name) ≡ true
own_member owner name = refl

pub Avoids_back : (kept : Path → Bool) (a b : Change) → Avoids kept (a ++ b) → Avoids kept b
Avoids_back kept [] b all = all
Avoids_back kept (e ∷ a) b all = Avoids_back kept a b all.1

module _ (name : List ℕ) (q : Path) (V : Option Node → Type 0) (kept : Path → Bool) (is : kept q ≡ true) where
  -- what stands at a place that they leave alone is as before, or has V
  pub set_kept : (change : Change) (old now : World) → Avoids kept change → IsSet name q V change old now → (now q ≡ old q) ⊎ ((mid : World) × V (mid q) × (now q ≡ mid q))
  set_kept change old now avoids (IsSet.stood at) = inl (at ∙ changed_kept kept change old avoids q is)
  set_kept change old now avoids (IsSet.left early late are mid has at) =
      inr (mid, has, at ∙ changed_kept kept late mid (Avoids_back kept early late (subst (Avoids kept) are avoids)) q is)
