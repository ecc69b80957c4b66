-- What is among a list that was put together.
use Rattle.std.proofs.Common.{◌≡◌, ◌⊎◌, ◌↔◌, inl, inr, ℕ, ◌+◌, ◌<◌, List, [], ◌∷◌, ◌++◌, length, get_or, take, sym, subst, Contains}
use Rattle.std.specs.List.{AllByRecursion}
use Rattle.std.proofs.lemmas.List.Elements.{Contains-append_left, Contains-append_right, Contains-append_cases, Contains-push, Contains-push_cases}
use Rattle.host_core.specs.Paths.{Path}
use Rattle.administration.proofs.Within.{taken_more}
use Rattle.file_lists.specs.Owners.{IsListable, IsSameSet}
use Rattle.file_lists.proofs.Increasing.{all_from}
use Rattle.file_lists.proofs.Sorting.{all_of}
use Rattle.list_changes.specs.NewList.{IsAbove, IsAboveOne, IsNewList, IsWithParents}
use Rattle.list_changes.proofs.Above.{listable_above}

among_both : (a b : List Path) (q : Path) → Contains (a ++ b) q ↔ (Contains a q ⊎ Contains b q)
among_both a b q = (
  λ has. Contains-append_cases a b q has,
  λ has. elim has [ inl h ↦ Contains-append_left a b q h | inr h ↦ Contains-append_right a b q h ],
)

pub both_listable : (a b : List Path) → AllByRecursion IsListable a → AllByRecursion IsListable b → AllByRecursion IsListable (a ++ b)
both_listable a b first second = all_from IsListable (a ++ b) (λ q has. elim (Contains-append_cases a b q has) [
  | inl h ↦ all_of IsListable a q first h
  | inr h ↦ all_of IsListable b q second h
])

-- of two lists, in order
pub union_is : (a b paths : List Path) → IsSameSet (a ++ b) paths → (q : Path) → Contains paths q ↔ (Contains a q ⊎ Contains b q)
union_is a b paths same q = (λ has. (among_both a b q).0 ((same q).0 has), λ has. (same q).1 ((among_both a b q).1 has))

-- the directories above one path more
pub above_more : (of : List Path) (i : ℕ) (path : Path) (old now new : List Path) → i < length of → path ≡ get_or of i path → ((q : Path) → Contains now q ↔ (Contains old q ⊎ IsAboveOne q (take i of)))
    → ((q : Path) → Contains new q ↔ (Contains now q ⊎ IsAbove q path)) → (q : Path) → Contains new q ↔ (Contains old q ⊎ IsAboveOne q (take (i + 1) of))
above_more of i path old now new lt is so_far more q =
    subst (λ (l : List Path). Contains new q ↔ (Contains old q ⊎ IsAboveOne q l)) (sym (taken_more of i path lt is)) (
      λ has. elim ((more q).0 has) [
        | inl h ↦ elim ((so_far q).0 h) [
          | inl before ↦ inl before
          | inr above ↦ inr (above.0, Contains-append_left (take i of) (path ∷ []) above.0 above.1, above.2)
        ]
        | inr above ↦ inr (path, Contains-push (take i of) path, above)
      ],
      λ has. elim has [
        | inl before ↦ (more q).1 (inl ((so_far q).1 (inl before)))
        | inr above ↦ elim (Contains-push_cases (take i of) path above.0 above.1) [
          | inl h ↦ (more q).1 (inl ((so_far q).1 (inr (above.0, h, above.2))))
          | inr same ↦ (more q).1 (inr (subst (IsAbove q) (sym same) above.2))
        ]
      ],
    )

-- the list that was put together of the shipped and the staying paths, and the directories above these
module _ (shipped staying all : List Path) (are : (q : Path) → Contains all q ↔ (Contains (shipped ++ staying) q ⊎ IsAboveOne q staying)) where
  pub new_listable : AllByRecursion IsListable shipped → AllByRecursion IsListable staying → AllByRecursion IsListable all
  new_listable first second = all_from IsListable all (λ q has. elim ((are q).0 has) [
    | inl h ↦ all_of IsListable (shipped ++ staying) q (both_listable shipped staying first second) h
    | inr above ↦ listable_above q above.0 (all_of IsListable staying above.0 second above.1) above.2
  ])

  pub new_list_is : (paths : List Path) → IsSameSet all paths → IsNewList shipped staying paths
  new_list_is paths same q = (
    λ has. elim ((are q).0 ((same q).0 has)) [
      | inl h ↦ elim (Contains-append_cases shipped staying q h) [ inl s ↦ inl s | inr s ↦ inr (inl s) ]
      | inr above ↦ inr (inr above)
    ],
    λ has. (same q).1 (elim has [
      | inl s ↦ (are q).1 (inl (Contains-append_left shipped staying q s))
      | inr (inl s) ↦ (are q).1 (inl (Contains-append_right shipped staying q s))
      | inr (inr above) ↦ (are q).1 (inr above)
    ]),
  )

-- of paths, and the directories above others
module _ (paths of all : List Path) (are : IsWithParents paths of all) where
  pub parents_listable : AllByRecursion IsListable paths → AllByRecursion IsListable of → AllByRecursion IsListable all
  parents_listable first second = all_from IsListable all (λ q has. elim ((are q).0 has) [
    | inl h ↦ all_of IsListable paths q first h
    | inr above ↦ listable_above q above.0 (all_of IsListable of above.0 second above.1) above.2
  ])

  pub with_parents_is : (listed : List Path) → IsSameSet all listed → IsWithParents paths of listed
  with_parents_is listed same q = (λ has. (are q).0 ((same q).0 has), λ has. (same q).1 ((are q).1 has))
