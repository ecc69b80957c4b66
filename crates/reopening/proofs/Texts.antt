-- The paths of a list that is written are text, so that it is read back.
use Rattle.std.proofs.Common.{◌≡◌, inl, inr, ℕ, zero, suc, ◌+◌, ◌<◌, List, [], ◌∷◌, ◌++◌, Contains, append_assoc, drop, get_or, length, map, refl, sym, ap, subst, ◌∙◌, arith}
use Rattle.std.specs.Str.{IsUtf8, is_utf8}
use Rattle.std.proofs.Props.{props}
use Rattle.std.proofs.Math.Logic.{∥∥₁_elim, ∥∥₁_map}
use Rattle.std.proofs.lemmas.Bool.{and_parts}
use Rattle.std.proofs.Math.Seq.{drop-append_seam, take-append_seam}
use Rattle.std.proofs.lemmas.List.{length-append}
use Rattle.std.proofs.lemmas.Str.{IsCharBoundary-after_ascii, IsCharBoundary-at_seam, IsUtf8-append, IsUtf8-drop, IsUtf8-from_ascii, IsUtf8-from_is_utf8, IsUtf8-had, IsUtf8-take}
use Rattle.std.proofs.lemmas.Str.Ascii.{IsAscii-cons, IsAscii-nil}
use Rattle.host_core.specs.Paths.{Path, is_ship_text}
use Rattle.host_core.specs.World.{World}
use Rattle.file_lists.proofs.Increasing.{all_from}
use Rattle.file_lists.specs.Lists.{HasLists}
use Rattle.file_lists.specs.Owners.{AreListPaths, IsListable, paths_of}
use Rattle.file_lists.specs.declared.paths.PackageList.{PackageList}
use Rattle.list_changes.specs.NewList.{IsNewList, IsWithParents}
use Rattle.status_records.specs.ConffilePaths.{is_ship_path, is_trimmed}
use Rattle.status_records.specs.declared.entries.ConffileEntry.{ConffileEntry}
use Rattle.unpack_engine.proofs.ListEnds.{listed_can, listed_texts}
use Rattle.reopening.proofs.Steps.{AreGood}

-- what stands before a slash in a text is text

slash_seam : (q rest : List ℕ) → get_or (q ++ 47 ∷ rest) (length q) 0 ≡ 47
slash_seam [] rest = refl
slash_seam (b ∷ q) rest = slash_seam q rest

seam_within : (q rest : List ℕ) → length q < length (q ++ 47 ∷ rest)
seam_within q rest = omega (arith, length-append q (47 ∷ rest))

one_more : (q : List ℕ) → length (q ++ 47 ∷ []) ≡ length q + 1
one_more q = omega (arith, length-append q (47 ∷ []))

behind_seam : (q rest : List ℕ) → drop (length q + 1) (q ++ 47 ∷ rest) ≡ rest
behind_seam q rest =
    ap (drop (length q + 1)) (sym (append_assoc q (47 ∷ []) rest))
    ∙ ap (λ n. drop n ((q ++ 47 ∷ []) ++ rest)) (sym (one_more q)) ∙ drop-append_seam (q ++ 47 ∷ []) rest

pub front_text : (q rest : Path) → IsUtf8 (q ++ 47 ∷ rest) → IsUtf8 q
front_text q rest text =
    let slash : get_or (q ++ 47 ∷ rest) (length q) 0 ≡ 47 = slash_seam q rest in
    let behind = IsUtf8-drop (q ++ 47 ∷ rest) (length q + 1) text (IsCharBoundary-after_ascii (q ++ 47 ∷ rest) (length q) text (seam_within q rest) (omega (arith, slash))) in
    let slashed = IsUtf8-append (47 ∷ []) rest (IsUtf8-from_ascii (47 ∷ []) (IsAscii-cons 47 [] (omega arith) IsAscii-nil)) (subst IsUtf8 (behind_seam q rest) behind) in
    subst IsUtf8 (take-append_seam q (47 ∷ rest)) (IsUtf8-take (q ++ 47 ∷ rest) (length q) text (IsCharBoundary-at_seam (q ++ 47 ∷ rest) q (47 ∷ rest) refl slashed))

-- a conffile's path is text
entry_text : (e : ConffileEntry) → IsUtf8 e.path
entry_text e = IsUtf8-from_is_utf8 e.path (and_parts (is_utf8 e.path) (is_ship_text e.path) (and_parts (is_ship_path e.path) (is_trimmed e.path) e.conffile).0).0

pub entries_text : (entries : List ConffileEntry) (q : Path) → Contains (map (λ e. e.path) entries) q → IsUtf8 q
entries_text [] q has = absurd (omega (arith, has.1))
entries_text (e ∷ es) q (zero, lt, same) = subst IsUtf8 same (entry_text e)
entries_text (e ∷ es) q (suc k, lt, same) = entries_text es q (k, omega (arith, lt), same)

-- shipped paths, those that stay, and the directories above these
pub new_list_text : (shipped staying paths : List Path) → IsNewList shipped staying paths → ((q : Path) → Contains shipped q → IsUtf8 q) → ((q : Path) → Contains staying q → IsUtf8 q) → (q : Path) → Contains paths q → IsUtf8 q
new_list_text shipped staying paths is ships stays q has = elim ((is q).0 has) [
  | inl shipped_one ↦ ships q shipped_one
  | inr other ↦ elim other [
    | inl staying_one ↦ stays q staying_one
    | inr above ↦ front_text q above.2.0 (subst IsUtf8 above.2.1 (stays above.0 above.1))
  ]
]

-- these paths, and the directories above others
pub with_parents_text : (paths of listed : List Path) → IsWithParents paths of listed → ((q : Path) → Contains paths q → IsUtf8 q) → ((q : Path) → Contains of q → IsUtf8 q) → (q : Path) → Contains listed q → IsUtf8 q
with_parents_text paths of listed is ones others q has = elim ((is q).0 has) [
  | inl one ↦ ones q one
  | inr above ↦ front_text q above.2.0 (subst IsUtf8 above.2.1 (others above.0 above.1))
]

pub good_paths : (paths : List Path) → AreListPaths paths → ((q : Path) → Contains paths q → IsUtf8 q) → AreGood paths
good_paths paths are texts = record { can = are.room; texts = all_from IsUtf8 paths texts }

-- what is listed is read back
pub good_listed : (w : World) (names : List (List ℕ)) (lists : List PackageList) → HasLists w names lists → (name : List ℕ) → AreGood (paths_of lists name)
good_listed w names lists has name = record {
  can = all_from IsListable (paths_of lists name) (λ q there. listed_can w w names names lists lists has name q there);
  texts = all_from IsUtf8 (paths_of lists name) (λ q there. listed_texts w w names names lists lists has name q there);
}

pub good_none : AreGood []
good_none = record { can = tt; texts = tt }

-- of what was known only to be so
pub good_had : (paths : List Path) → ∥ AreGood paths ∥₁ → AreGood paths
good_had [] has = good_none
good_had (x ∷ xs) has =
    let rest = good_had xs (∥∥₁_map has (λ good. record { can = good.can.1; texts = good.texts.1 })) in
    record {
      can = (record { is = ∥∥₁_elim has (hlevel props) (λ good. good.can.0.is); room = ∥∥₁_elim has (hlevel props) (λ good. good.can.0.room) }, rest.can);
      texts = (IsUtf8-had x (∥∥₁_map has (λ good. good.texts.0)), rest.texts);
    }
