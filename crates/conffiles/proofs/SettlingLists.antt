-- Conffiles of a list, settled one after another.
use Rattle.std.proofs.Common.{◌≡◌, ◌≢◌, inl, inr, ℕ, suc, ◌+◌, ◌<◌, ◌≤◌, ◌||◌, Bool, false, List, [], ◌∷◌, ◌++◌, length, take, drop, get_or, IsTrue, refl, sym, ap, subst, ◌∙◌, arith}
use Rattle.std.specs.List.{list_any, All, AllPairs}
use Rattle.std.specs.Str.{bytes_eq}
use Rattle.std.proofs.Math.Seq.{drop-cons}
use Rattle.std.proofs.lemmas.Bool.{true≢false, false_from_ne_true, cases_lt}
use Rattle.std.proofs.lemmas.List.{take-append-drop, get_or_default, get_or-drop, get_or-take, length-take, length-drop}
use Rattle.std.proofs.lemmas.List.Folds.{list_any_at}
use Rattle.std.proofs.lemmas.List.Elements.{All-nil}
use Rattle.std.proofs.lemmas.Slice.Eq.{bytes_eq-Decides}
use Rattle.host_core.proofs.ShipNames.{ships, same_name, plain_other}
use Rattle.host_core.specs.Paths.{Path, has_reserved_suffix}
use Rattle.host_core.specs.Suffixes.{suffix_text}
use Rattle.host_core.specs.World.{World, KeepsBut}
use Rattle.host_core.specs.Host.{State, Since}
use Rattle.host_core.proofs.Moments.{since_start, since_weaker_if}
use Rattle.host_core.specs.declared.suffix.Suffix.{Suffix}
use Rattle.host_core.specs.declared.suffix.Suffix.TheVariants as suffix
use Rattle.administration.specs.Files.{NoDirectory}
use Rattle.conffiles.specs.declared.entries.Settled.{Settled}
use Rattle.conffiles.specs.Settling.{ConffileFiles, files_at, is_conffile_name, is_name_of_some, settled_files, IsFileOrNone, IsBetween, CanSettle, HasChanged, IsChanging, HasSettled, IsSettling, IsUntouched, AreSettled, IsFirstSettling, AreSettling}

-- the names of one conffile are no names of another

apart_test : (p q : Path) → p ≢ q → bytes_eq p q ≡ false
apart_test p q ne = false_from_ne_true (bytes_eq p q) (λ is. ne ((bytes_eq-Decides p q).0 is))

module _ (x y : Path) (plain_x : has_reserved_suffix x ≡ false) (plain_y : has_reserved_suffix y ≡ false) (ne : x ≢ y) where
  home_apart : is_conffile_name x y ≡ false
  home_apart = λ i.
      apart_test y x (λ e. ne (sym e)) i
      || (apart_test y (x ++ suffix_text suffix.New) (plain_other y x suffix.New plain_y) i
      || (apart_test y (x ++ suffix_text suffix.Old) (plain_other y x suffix.Old plain_y) i
      || (apart_test y (x ++ suffix_text suffix.Dist) (plain_other y x suffix.Dist plain_y) i
      || (apart_test y (x ++ suffix_text suffix.Inst) (plain_other y x suffix.Inst plain_y) i || false))))

  beside_apart : (t : Suffix) → is_conffile_name x (y ++ suffix_text t) ≡ false
  beside_apart t = λ i.
      apart_test (y ++ suffix_text t) x (λ e. plain_other x y t plain_x (sym e)) i
      || (apart_test (y ++ suffix_text t) (x ++ suffix_text suffix.New) (other suffix.New) i
      || (apart_test (y ++ suffix_text t) (x ++ suffix_text suffix.Old) (other suffix.Old) i
      || (apart_test (y ++ suffix_text t) (x ++ suffix_text suffix.Dist) (other suffix.Dist) i
      || (apart_test (y ++ suffix_text t) (x ++ suffix_text suffix.Inst) (other suffix.Inst) i || false))))
    where
      other : (s : Suffix) → y ++ suffix_text t ≢ x ++ suffix_text s
      other s e = ne (sym (same_name y x t s e).0)

-- what is done to one conffile leaves another
untouched_by : (old new : World) (x : Path) (f : Settled) → has_reserved_suffix x ≡ false → x ≢ f.path → KeepsBut (is_conffile_name x) old new → IsUntouched old new f
untouched_by old new x f plain ne keeps =
    let plain_f = (ships f.path f.ships).plain in
    record {
      files = λ i. record {
        home = keeps f.path (home_apart x f.path plain plain_f ne) i;
        shipped = keeps (f.path ++ suffix_text suffix.New) (beside_apart x f.path plain plain_f ne suffix.New) i;
        backup = keeps (f.path ++ suffix_text suffix.Old) (beside_apart x f.path plain plain_f ne suffix.Old) i;
        dist = keeps (f.path ++ suffix_text suffix.Dist) (beside_apart x f.path plain plain_f ne suffix.Dist) i;
      };
      spare = keeps (f.path ++ suffix_text suffix.Inst) (beside_apart x f.path plain plain_f ne suffix.Inst);
    }

-- one conffile over time

settled_still : (old mid new : World) (e : Settled) → HasSettled old mid e → IsUntouched mid new e → HasSettled old new e
settled_still old mid new e first second = record {
  files = second.files ∙ first.files;
  spare = elim first.spare [ inl same ↦ inl (second.spare ∙ same) | inr gone ↦ inr (second.spare ∙ gone) ];
}

untouched_still : (old mid new : World) (e : Settled) → IsUntouched old mid e → IsUntouched mid new e → IsUntouched old new e
untouched_still old mid new e first second = record { files = second.files ∙ first.files; spare = second.spare ∙ first.spare }

settled_then : (old mid new : World) (e : Settled) → IsUntouched old mid e → HasChanged (settled_files e.decision) e.path mid new → HasSettled old new e
settled_then old mid new e first second = record {
  files = second.files ∙ ap (settled_files e.decision) first.files;
  spare = elim second.spare [ inl same ↦ inl (same ∙ first.spare) | inr gone ↦ inr gone ];
}

settling_then : (old mid now : World) (e : Settled) → IsUntouched old mid e → IsChanging (settled_files e.decision) e.path mid now → IsSettling old now e
settling_then old mid now e first second = record {
  files = subst (λ f. IsBetween f (settled_files e.decision f) (files_at now e.path)) first.files second.files;
  spare = second.spare;
}

can_still : (old mid : World) (e : Settled) → IsUntouched old mid e → CanSettle e.path old → CanSettle e.path mid
can_still old mid e same can = record {
  home = subst IsFileOrNone (sym (ap (λ (f : ConffileFiles). f.home) same.files)) can.home;
  shipped = subst IsFileOrNone (sym (ap (λ (f : ConffileFiles). f.shipped) same.files)) can.shipped;
  backup = subst NoDirectory (sym (ap (λ (f : ConffileFiles). f.backup) same.files)) can.backup;
  dist = subst NoDirectory (sym (ap (λ (f : ConffileFiles). f.dist) same.files)) can.dist;
  spare = subst NoDirectory (sym same.spare) can.spare;
}

-- the list, so far

-- so many are settled, and those behind are as before
pub record IsFar (list : List Settled) (i : ℕ) (old now : World) : Type 0 where
  pub settled : (k : ℕ) (d : Settled) → k < i → k < length list → HasSettled old now (get_or list k d)
  pub later : (k : ℕ) (d : Settled) → i ≤ k → k < length list → IsUntouched old now (get_or list k d)
  pub rest : KeepsBut (is_name_of_some list) old now

pub far_start : (list : List Settled) (w : World) → IsFar list 0 w w
far_start list w = record {
  settled = λ k d before less. absurd (omega arith);
  later = λ k d from less. record { files = refl; spare = refl };
  rest = λ q out. refl;
}

-- a test that no element passes
none_at : (p : Settled → Bool) (list : List Settled) (i : ℕ) (d : Settled) → i < length list → list_any p list ≡ false → p (get_or list i d) ≡ false
none_at p list i d less none = false_from_ne_true (p (get_or list i d)) (λ is. true≢false (sym (list_any_at p list i d less is) ∙ none))

-- the one at this place is changed, and no other
module _ (list : List Settled) (i : ℕ) (old mid now : World) (e : Settled) (once : AllPairs (λ a b. a.path ≢ b.path) list) (less : i < length list) (is : e ≡ get_or list i e) (far : IsFar list i old mid) (keeps : KeepsBut (is_conffile_name e.path) mid now) where
  plain : has_reserved_suffix e.path ≡ false
  plain = (ships e.path e.ships).plain

  at_it : (d : Settled) → get_or list i d ≡ e
  at_it d = get_or_default list i d e less ∙ sym is

  before_it : (k : ℕ) (d : Settled) → k < i → IsUntouched mid now (get_or list k d)
  before_it k d before = untouched_by mid now e.path (get_or list k d) plain (λ same. once k i d before less (sym same ∙ ap (λ (f : Settled). f.path) (sym (at_it d)))) keeps

  behind_it : (k : ℕ) (d : Settled) → i < k → k < length list → IsUntouched mid now (get_or list k d)
  behind_it k d behind there = untouched_by mid now e.path (get_or list k d) plain (λ same. once i k d behind there (ap (λ (f : Settled). f.path) (at_it d) ∙ same)) keeps

  first_before : (k : ℕ) (d : Settled) → k < i → HasSettled old now (get_or list k d)
  first_before k d before = settled_still old mid now (get_or list k d) (far.settled k d before (omega arith)) (before_it k d before)

  later_behind : (k : ℕ) (d : Settled) → i < k → k < length list → IsUntouched old now (get_or list k d)
  later_behind k d behind there = untouched_still old mid now (get_or list k d) (far.later k d (omega arith) there) (behind_it k d behind there)

  it_waits : IsUntouched old mid e
  it_waits = subst (IsUntouched old mid) (sym is) (far.later i e (omega arith) less)

  rest_on : KeepsBut (is_name_of_some list) old now
  rest_on q out = keeps q (ap (λ (f : Settled). is_conffile_name f.path q) is ∙ none_at (λ f. is_conffile_name f.path q) list i e less out) ∙ far.rest q out

pub can_at : (list : List Settled) (i : ℕ) (old mid : World) (e : Settled) → i < length list → e ≡ get_or list i e → IsFar list i old mid → All (λ f. CanSettle f.path old) list → CanSettle e.path mid
can_at list i old mid e less is far can =
    can_still old mid e (subst (IsUntouched old mid) (sym is) (far.later i e (omega arith) less)) (subst (λ f. CanSettle f.path old) (sym is) (can i e less))

pub far_more : (list : List Settled) (i : ℕ) (old mid now : World) (e : Settled) → AllPairs (λ a b. a.path ≢ b.path) list → i < length list → e ≡ get_or list i e → IsFar list i old mid → HasChanged (settled_files e.decision) e.path mid now → IsFar list (i + 1) old now
far_more list i old mid now e once less is far changed = record {
  settled = λ k d before there. elim (cases_lt k i) [
    | inl less_k ↦ first_before list i old mid now e once less is far changed.rest k d less_k
    | inr top ↦
        let same : k ≡ i = omega arith in
        subst (HasSettled old now) (sym (ap (λ j. get_or list j d) same ∙ at_it list i old mid now e once less is far changed.rest d))
        (settled_then old mid now e (it_waits list i old mid now e once less is far changed.rest) changed)
  ];
  later = λ k d from there. later_behind list i old mid now e once less is far changed.rest k d (omega arith) there;
  rest = rest_on list i old mid now e once less is far changed.rest;
}

pub amid : (list : List Settled) (i : ℕ) (old mid now : World) (e : Settled) → AllPairs (λ a b. a.path ≢ b.path) list → i < length list → e ≡ get_or list i e → IsFar list i old mid → IsChanging (settled_files e.decision) e.path mid now → AreSettling list old now
amid list i old mid now e once less is far changing = record {
  front = take i list;
  back = drop i list;
  is = sym (take-append-drop i list);
  settled = λ k d there.
      let before : k < i = omega (arith, there, length-take i list) in
      subst (HasSettled old now) (sym (get_or-take i list k d before)) (first_before list i old mid now e once less is far changing.rest k d before);
  next = subst (IsFirstSettling old now) (sym (drop-cons list i e less ∙ ap (λ f. f ∷ drop (suc i) list) (sym is))) (
    settling_then old mid now e (it_waits list i old mid now e once less is far changing.rest) changing,
    λ k d there. subst (IsUntouched old now) (sym (get_or-drop (suc i) list k d))
        (later_behind list i old mid now e once less is far changing.rest (suc i + k) d (omega arith) (omega (arith, there, length-drop (suc i) list))),
  );
  rest = rest_on list i old mid now e once less is far changing.rest;
}

pub all_settled : (list : List Settled) (i : ℕ) (old now : World) → length list ≤ i → IsFar list i old now → AreSettled list old now
all_settled list i old now all far = record { each = λ k d there. far.settled k d (omega arith) there; rest = far.rest }

settling_none : (list : List Settled) (w : World) → All (λ f. CanSettle f.path w) list → IsFirstSettling w w list
settling_none [] w can = tt
settling_none (e ∷ es) w can = (record { files = inl refl; spare = (can 0 e (omega arith)).spare }, λ k d there. record { files = refl; spare = refl })

settling_start : (list : List Settled) (w : World) → All (λ f. CanSettle f.path w) list → AreSettling list w w
settling_start list w can = record { front = []; back = list; is = refl; settled = All-nil (HasSettled w w); next = settling_none list w can; rest = λ q out. refl }

pub since_settling : (list : List Settled) (a : State) → (IsTrue a.honest → All (λ f. CanSettle f.path a.world) list) → Since (λ so_far. AreSettling list a.world) a a
since_settling list a can =
    since_weaker_if (λ so_far w. w ≡ a.world) (λ so_far. AreSettling list a.world) a a
    (λ h so_far w same. subst (AreSettling list a.world) (sym same) (settling_start list a.world (can h)))
    (since_start (λ so_far w. w ≡ a.world) a refl)
