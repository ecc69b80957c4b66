-- The lists of recorded packages, in another world and of other records.
use Rattle.std.proofs.Common.{◌≡◌, ◌⊎◌, ◌↔◌, inl, inr, ℕ, List, sym, subst, Contains}
use Rattle.host_core.specs.World.{World}
use Rattle.administration.specs.Places.{list_path}
use Rattle.file_lists.specs.Lists.{Lists, IsReadable, NamesNothing, HasLists}
use Rattle.file_lists.specs.declared.paths.PackageList.{PackageList}

-- where their files are as before, the lists are
pub has_lists_kept : (old new : World) (names : List (List ℕ)) (lists : List PackageList) → ((name : List ℕ) → Contains names name → new (list_path name) ≡ old (list_path name)) → HasLists old names lists → HasLists new names lists
has_lists_kept old new names lists kept has = record {
  readable = λ name is. subst IsReadable (sym (kept name is)) (has.readable name is);
  whole = λ name q is there. has.whole name q is (subst (λ n. Lists n q) (kept name is) there);
  sound = λ name q is. (let l = has.sound name q is in (l.0, subst (λ n. Lists n q) (sym (kept name l.0)) l.1));
}

-- the lists of the same names are the same
pub has_lists_left : (old new : World) (names less : List (List ℕ)) (lists : List PackageList) → ((name : List ℕ) → Contains less name ↔ Contains names name) → ((name : List ℕ) → Contains names name → new (list_path name) ≡ old (list_path name)) → HasLists old names lists → HasLists new less lists
has_lists_left old new names less lists same kept has =
    let here = has_lists_kept old new names lists kept has in
    record {
      readable = λ name is. here.readable name ((same name).0 is);
      whole = λ name q is there. here.whole name q ((same name).0 is) there;
      sound = λ name q is. (let l = here.sound name q is in ((same name).1 l.0, l.1));
    }

-- a new record whose list names nothing brings no path
pub has_lists_grown : (old new : World) (names more : List (List ℕ)) (name : List ℕ) (lists : List PackageList) → ((n : List ℕ) → Contains more n ↔ (Contains names n ⊎ (n ≡ name))) → ((n : List ℕ) → Contains names n → new (list_path n) ≡ old (list_path n)) → NamesNothing (new (list_path name))
    → HasLists old names lists → HasLists new more lists
has_lists_grown old new names more name lists grown kept bare has =
    let here = has_lists_kept old new names lists kept has in
    record {
      readable = λ n is. elim ((grown n).0 is) [
        | inl h ↦ here.readable n h
        | inr e ↦ subst (λ x. IsReadable (new (list_path x))) (sym e) bare.readable
      ];
      whole = λ n q is there. elim ((grown n).0 is) [
        | inl h ↦ here.whole n q h there
        | inr e ↦ absurd (bare.nothing q (subst (λ x. Lists (new (list_path x)) q) e there))
      ];
      sound = λ n q is. (let l = here.sound n q is in ((grown n).1 (inl l.0), l.1));
    }
