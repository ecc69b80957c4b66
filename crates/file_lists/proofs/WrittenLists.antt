-- The text of a list, and where it stands.
use Rattle.std.proofs.Common.{◌≡◌, ◌+◌, ◌-◌, ◌<◌, inl, inr, ℕ, zero, suc, true, false, not, nat_eq, List, [], ◌∷◌, ◌++◌, take, length, get_or, refl, sym, ap, ◌∙◌, arith, append_assoc, Contains}
use Rattle.std.specs.Prelude.{codes}
use Rattle.std.specs.List.{flat_map, list_all}
use Rattle.std.proofs.lemmas.Bool.{and_parts, false≢true}
use Rattle.std.proofs.lemmas.Grind.{flat_map-append}
use Rattle.std.proofs.lemmas.List.{map_more, append-nil, get_or-append-add, length-append}
use Rattle.std.proofs.lemmas.List.Elements.{Contains-append_cases}
use Rattle.texts.specs.PackageNames.{is_name_sign, is_package_name}
use Rattle.texts.proofs.PackageNames.{signs_of_name}
use Rattle.host_core.specs.Paths.{Path}
use Rattle.host_core.specs.World.{World, IsDirectory, HasParent}
use Rattle.administration.specs.Places.{info_path, list_path}
use Rattle.file_lists.specs.Lists.{root_line, is_cut}
use Rattle.file_lists.specs.Writing.{line_of, list_lines, list_text}

abbrev written : List ℕ → List ℕ
written line = line ++ 10 ∷ []

-- one path more
pub text_more : (paths : List Path) (i : ℕ) (x : Path) (old new line : List ℕ) → i < length paths → x ≡ get_or paths i x → line ≡ line_of x → old ≡ list_text (take i paths) → new ≡ old ++ line ++ 10 ∷ [] → new ≡ list_text (take (i + 1) paths)
text_more paths i x old new line lt is_x is_line so_far more =
    more ∙ ap (λ (t : List ℕ). t ++ line ++ 10 ∷ []) so_far ∙ ap (λ (l : List ℕ). list_text (take i paths) ++ l ++ 10 ∷ []) (is_line ∙ ap line_of is_x)
    ∙ append_assoc (list_text (take i paths)) (line_of (get_or paths i x)) (10 ∷ [])
    ∙ ap (λ (t : List ℕ). list_text (take i paths) ++ t) (sym (append-nil (written (line_of (get_or paths i x)))))
    ∙ sym (flat_map-append written (list_lines (take i paths)) (line_of (get_or paths i x) ∷ []))
    ∙ ap (λ (ls : List (List ℕ)). flat_map written (root_line ∷ ls)) (sym (map_more line_of paths i x lt))

-- each line is ended

last_of : (front : List ℕ) (b : ℕ) (bs : List ℕ) (d : ℕ) → get_or (front ++ b ∷ bs) (length (front ++ b ∷ bs) - 1) d ≡ get_or (b ∷ bs) (length (b ∷ bs) - 1) d
last_of front b bs d =
    ap (λ i. get_or (front ++ b ∷ bs) i d) (let long = length-append front (b ∷ bs) in omega (arith, long)) ∙ get_or-append-add front (b ∷ bs) (length (b ∷ bs) - 1) d

ended_behind : (front text : List ℕ) → is_cut text ≡ false → is_cut (front ++ 10 ∷ text) ≡ false
ended_behind front [] ended = ap (λ b. not (nat_eq b 10)) (last_of front 10 [] 10)
ended_behind front (b ∷ text) ended =
    ap (λ x. not (nat_eq x 10)) (last_of front 10 (b ∷ text) 10 ∙ last_of (10 ∷ []) b text 10) ∙ ended

ended_lines : (lines : List (List ℕ)) → is_cut (flat_map written lines) ≡ false
ended_lines [] = refl
ended_lines (line ∷ lines) =
    let rest = flat_map written lines in
    ap is_cut (append_assoc line (10 ∷ []) rest) ∙ ended_behind line rest (ended_lines lines)

-- no list that is written is cut short
pub list_ended : (paths : List Path) → is_cut (list_text paths) ≡ false
list_ended paths = ended_lines (list_lines paths)

-- a package's name has no slash

sign_at : (name : List ℕ) (i : ℕ) → list_all is_name_sign name ≡ true → i < length name → get_or name i 47 ≡ 47 → ⊥
sign_at [] i all lt is = omega (arith, lt)
sign_at (b ∷ name) zero all lt is = false≢true (sym (ap is_name_sign is) ∙ (and_parts (is_name_sign b) (list_all is_name_sign name) all).0)
sign_at (b ∷ name) (suc i) all lt is = sign_at name i (and_parts (is_name_sign b) (list_all is_name_sign name) all).1 (omega (arith, lt)) is

ending_plain : (i : ℕ) → i < 5 → get_or (codes ".list") i 47 ≡ 47 → ⊥
ending_plain zero lt is = omega (arith, is)
ending_plain (suc zero) lt is = omega (arith, is)
ending_plain (suc (suc zero)) lt is = omega (arith, is)
ending_plain (suc (suc (suc zero))) lt is = omega (arith, is)
ending_plain (suc (suc (suc (suc zero)))) lt is = omega (arith, is)
ending_plain (suc (suc (suc (suc (suc i))))) lt is = omega (arith, lt)

pub list_parent : (w : World) (name : List ℕ) → is_package_name name ≡ true → IsDirectory (w info_path) → HasParent w (list_path name)
list_parent w name is there = (info_path, name ++ codes ".list", refl, plain, there)
  where
    plain : Contains (name ++ codes ".list") 47 → ⊥
    plain has = elim (Contains-append_cases name (codes ".list") 47 has) [
      | inl in_name ↦ sign_at name in_name.0 (signs_of_name name is) in_name.1 in_name.2
      | inr in_ending ↦ ending_plain in_ending.0 in_ending.1 in_ending.2
    ]
