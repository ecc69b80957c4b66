-- The index of names, and what it finds.
use Rattle.std.proofs.Common.{◌≡◌, ℕ, ◌<◌, ◌≤◌, ◌+◌, Bool, true, false, cond, ◌||◌, ◌&&◌, List, Option, Some, None, String, [], ◌∷◌, ◌++◌, length, get_or, take, subst, sym, refl, ap, ◌∙◌, inr, ⊎_elim, ◌⊎◌, arith}
use Rattle.std.specs.Prelude.{IsTrue, ◌↔◌}
use Rattle.std.specs.BTreeMap.{BTreeMap, UpdatesBy, get_by_text}
use Rattle.std.specs.List.{Contains, list_any}
use Rattle.std.specs.Map.{update}
use Rattle.std.specs.Str.{bytes_eq}
use Rattle.std.specs.String.{string_cmp, string_bytes}
use Rattle.std.specs.declared.alloc.Global.{Global}
use Rattle.std.proofs.lemmas.Bool.{cases_lt, cases_Bool, false≢true, or_cases, or_left, or_right, and_parts}
use Rattle.std.proofs.lemmas.List.{get_or_past, get_or_append_left, get_or_read, get_or-take, length-take-le, length_push}
use Rattle.std.proofs.lemmas.List.Folds.{list_any_more, list_any_at, Any-from_list_any}
use Rattle.std.proofs.lemmas.Map.Text.{btree_map_updates_text}
use Rattle.std.proofs.lemmas.Slice.Eq.{bytes_eq-Decides}
use Rattle.dependency_sets.specs.Sets.{row_at}
use Rattle.dependency_sets.proofs.RemovalLaws.{in_more}
use Rattle.relation_fields.specs.Admission.{admits, admits_entry, clause_admits, is_met, is_met_by_provided}
use Rattle.relation_fields.specs.Architectures.{is_to, is_to_entry}
use Rattle.relation_fields.specs.declared.alternative.Alternative.{Alternative}
use Rattle.relation_fields.specs.declared.provides.Provided.{Provided}
use Rattle.relation_index.specs.Bearing.{bears, IsAdmitted, HasPushed, IsEntered, Grows, IsIndex}
use Rattle.relation_index.specs.Packages.{Meets}
use Rattle.relation_index.specs.declared.package.Package.{Package}

alike : (a b : List ℕ) → bytes_eq a b ≡ true → a ≡ b
alike a b = (bytes_eq-Decides a b).0

told_same : (a b : List ℕ) → a ≡ b → bytes_eq a b ≡ true
told_same a b = (bytes_eq-Decides a b).1

pub inserted : (key : String Global) (name : List ℕ) (m n : BTreeMap (String Global) ℕ) (w : Option ℕ) → string_bytes key ≡ name → UpdatesBy string_cmp (string_cmp key) m n w → get_by_text n ≡ update bytes_eq (get_by_text m) name w
inserted key name m n w is h = subst (λ (p : List ℕ). get_by_text n ≡ update bytes_eq (get_by_text m) p w) is (λ i q. btree_map_updates_text (string_bytes key) m n w h q i)

none_in : (x : ℕ) → Contains [] x → ⊥
none_in x c = omega (arith, c.1)

row_of_new : (rows : List (List ℕ)) (s x : ℕ) → Contains (row_at rows s) x → Contains (row_at (rows ++ [] ∷ []) s) x
row_of_new rows s x c = ⊎_elim
    (λ (lt : s < length rows). subst (λ (l : List ℕ). Contains l x) (sym (get_or_append_left rows ([] ∷ []) [] s lt)) c)
    (λ le. absurd (none_in x (subst (λ (l : List ℕ). Contains l x) (get_or_past rows s [] le) c)))
    (cases_lt s (length rows))

some_same : (a b : ℕ) → Some a ≡ Some b → a ≡ b
some_same a b e = cc

none_some : (o : Option ℕ) (b : ℕ) → o ≡ None → o ≡ Some b → ⊥
none_some o b e f = cc

-- a name has its own row
pub slot_is : (slots slots' : List ℕ → Option ℕ) (name : List ℕ) (s n : ℕ) → slots' ≡ update bytes_eq slots name (Some n) → s ≡ n → slots' name ≡ Some s
slot_is slots slots' name s n e same = ap (λ (f : List ℕ → Option ℕ). f name) e ∙ ap (λ (b : Bool). cond b (Some n) (slots name)) (told_same name name refl) ∙ ap (λ (k : ℕ). Some k) (sym same)

pub grows_slot : (slots slots' : List ℕ → Option ℕ) (rows rows' : List (List ℕ)) (name : List ℕ) → slots name ≡ None → slots' ≡ update bytes_eq slots name (Some (length rows)) → rows' ≡ rows ++ [] ∷ [] → Grows slots rows slots' rows'
grows_slot slots slots' rows rows' name absent es er =
    let at : (q : List ℕ) → slots' q ≡ cond (bytes_eq name q) (Some (length rows)) (slots q) = λ q. ap (λ (f : List ℕ → Option ℕ). f q) es in
    let len : length rows' ≡ length rows + 1 = ap length er ∙ length_push rows [] in
    record {
      kept = λ q x w. ⊎_elim
          (λ (t : bytes_eq name q ≡ true). absurd (none_some (slots q) w.0 (ap slots (sym (alike name q t)) ∙ absent) w.1))
          (λ (f : bytes_eq name q ≡ false). (w.0, at q ∙ ap (λ (b : Bool). cond b (Some (length rows)) (slots q)) f ∙ w.1, subst (λ (l : List (List ℕ)). Contains (row_at l w.0) x) (sym er) (row_of_new rows w.0 x w.2)))
          (cases_Bool (bytes_eq name q));
      within = λ h q s e. ⊎_elim
          (λ (t : bytes_eq name q ≡ true). let same : length rows ≡ s = some_same (length rows) s (sym (at q ∙ ap (λ (b : Bool). cond b (Some (length rows)) (slots q)) t) ∙ e) in omega (arith, same, len))
          (λ (f : bytes_eq name q ≡ false). let lt : s < length rows = h q s (sym (at q ∙ ap (λ (b : Bool). cond b (Some (length rows)) (slots q)) f) ∙ e) in omega (arith, lt, len))
          (cases_Bool (bytes_eq name q));
    }

pub grows_refl : (slots : List ℕ → Option ℕ) (rows : List (List ℕ)) → Grows slots rows slots rows
grows_refl slots rows = record { kept = λ q x w. w; within = λ h. h }

pub grows_then : (f g h : List ℕ → Option ℕ) (a b c : List (List ℕ)) → Grows f a g b → Grows g b h c → Grows f a h c
grows_then f g h a b c u v = record { kept = λ q x w. v.kept q x (u.kept q x w); within = λ w. v.within (u.within w) }

pub entries_more : (slots slots' : List ℕ → Option ℕ) (rows rows' : List (List ℕ)) (entries : List Provided) (i x : ℕ) (entry : Provided) (name : List ℕ) → i < length entries → entry ≡ get_or entries i entry → name ≡ entry.name → Grows slots rows slots' rows' → IsEntered slots' rows' name x → ((e : Provided) → Contains (take i entries) e → IsEntered slots rows e.name x) → (e : Provided) → Contains (take (i + 1) entries) e → IsEntered slots' rows' e.name x
entries_more slots slots' rows rows' entries i x entry name lt at is g here old e c = ⊎_elim
    (λ c. g.kept e.name x (old e c))
    (λ (same : get_or entries i entry ≡ e). subst (λ (n : List ℕ). IsEntered slots' rows' n x) (is ∙ ap (λ (p : Provided). p.name) (at ∙ same)) here)
    (in_more entries i entry e lt c)

-- a name that a package bears is its own or one of those provided
pub bearing_entered : (slots slots' : List ℕ → Option ℕ) (rows rows' : List (List ℕ)) (p : Package) (own : List ℕ) (entries : List Provided) (x : ℕ) → own ≡ p.name → entries ≡ p.provides → IsEntered slots rows own x → Grows slots rows slots' rows' → ((e : Provided) → Contains entries e → IsEntered slots' rows' e.name x) → (name : List ℕ) → IsTrue (bears name p) → IsEntered slots' rows' name x
bearing_entered slots slots' rows rows' p own entries x eo ee first g rest name t = ⊎_elim
    (λ (a : bytes_eq name p.name ≡ true). subst (λ (n : List ℕ). IsEntered slots' rows' n x) (eo ∙ sym (alike name p.name a)) (g.kept own x first))
    (λ (a : list_any (λ e. bytes_eq name e.name) p.provides ≡ true).
    let w = Any-from_list_any (λ e. bytes_eq name e.name) p.provides a in
    subst (λ (n : List ℕ). IsEntered slots' rows' n x) (sym (alike name w.1.name w.4)) (rest w.1 (subst (λ (l : List Provided). Contains l w.1) (sym ee) (w.0, w.2, w.3))))
    (or_cases (bytes_eq name p.name) (list_any (λ e. bytes_eq name e.name) p.provides) t)

pub index_more : (packages : List Package) (slots slots' : List ℕ → Option ℕ) (rows rows' : List (List ℕ)) (i : ℕ) (p : Package) → i < length packages → p ≡ get_or packages i p → IsIndex (take i packages) slots rows → Grows slots rows slots' rows' → ((name : List ℕ) → IsTrue (bears name p) → IsEntered slots' rows' name i) → IsIndex (take (i + 1) packages) slots' rows'
index_more packages slots slots' rows rows' i p lt at h g here = record {
  within = g.within h.within;
  entered = λ x q name l e t. ⊎_elim
      (λ (l' : x < i). g.kept name x (h.entered x q name (subst (λ (n : ℕ). x < n) (sym (length-take-le i packages (omega arith))) l')
      (get_or-take i packages x q l' ∙ sym (get_or-take (i + 1) packages x q (omega arith)) ∙ e) t))
      (λ (l' : i ≤ x).
      let same : x ≡ i = omega (arith, length-take-le (i + 1) packages (omega arith)) in
      let is : p ≡ q = get_or_read packages i p lt at q ∙ ap (λ (n : ℕ). get_or packages n q) (sym same) ∙ sym (get_or-take (i + 1) packages x q (omega arith)) ∙ e in
      subst (λ (n : ℕ). IsEntered slots' rows' name n) (sym same) (here name (subst (λ (r : Package). IsTrue (bears name r)) (sym is) t)))
      (cases_lt x i);
}

-- pushing
pub pushed_more : (a : Alternative) (packages : List Package) (numbers : List ℕ) (i : ℕ) (old mid new : List ℕ) → i < length numbers → HasPushed a packages (take i numbers) old mid → ((x : ℕ) → Contains mid x → Contains new x) → (IsAdmitted a packages (get_or numbers i 0) → Contains new (get_or numbers i 0)) → ((x : ℕ) → Contains new x → Contains mid x ⊎ IsAdmitted a packages x) → HasPushed a packages (take (i + 1) numbers) old new
pushed_more a packages numbers i old mid new lt h kept here only = record {
  kept = λ x c. kept x (h.kept x c);
  pushed = λ x c w. ⊎_elim (λ c. kept x (h.pushed x c w))
      (λ (same : get_or numbers i 0 ≡ x). subst (λ (n : ℕ). Contains new n) same (here (subst (λ (n : ℕ). IsAdmitted a packages n) (sym same) w)))
      (in_more numbers i 0 x lt c);
  no_more = λ x c. ⊎_elim (λ c. h.no_more x c) (λ w. inr w) (only x c);
}

-- what is admitted bears the name
admitted_bears : (a : Alternative) (p : Package) → admits a p.name p.architecture p.version p.provides ≡ true → IsTrue (bears a.name p)
admitted_bears a p t =
    let own_meets : Bool = is_to a.architecture p.architecture && is_met a.restriction p.version in
    ⊎_elim
    (λ (own : (bytes_eq a.name p.name && (is_to a.architecture p.architecture && is_met a.restriction p.version)) ≡ true). or_left (bytes_eq a.name p.name) (list_any (λ e. bytes_eq a.name e.name) p.provides) (and_parts (bytes_eq a.name p.name) own_meets own).0)
    (λ (other : list_any (admits_entry a p.architecture) p.provides ≡ true).
    let w = Any-from_list_any (admits_entry a p.architecture) p.provides other in
    let named : bytes_eq a.name w.1.name ≡ true = (and_parts (bytes_eq a.name w.1.name) (is_to_entry a.architecture w.1.architecture p.architecture && is_met_by_provided a.restriction w.1.version) w.4).0 in
    or_right (bytes_eq a.name p.name) (list_any (λ e. bytes_eq a.name e.name) p.provides)
    (list_any_at (λ e. bytes_eq a.name e.name) p.provides w.0 w.1 w.2 (subst (λ (e : Provided). bytes_eq a.name e.name ≡ true) (sym w.3) named)))
    (or_cases (bytes_eq a.name p.name && (is_to a.architecture p.architecture && is_met a.restriction p.version)) (list_any (admits_entry a p.architecture) p.provides) t)

pub meets_none : (packages : List Package) (x : ℕ) → Contains [] x ↔ Meets [] packages x
meets_none packages x = (λ c. absurd (none_in x c), λ w. absurd (false≢true w.3))

pub meets_more : (packages : List Package) (slots : List ℕ → Option ℕ) (rows : List (List ℕ)) (clause : List Alternative) (i : ℕ) (a : Alternative) (name : List ℕ) (row old new : List ℕ) → i < length clause → a ≡ get_or clause i a → name ≡ a.name → IsIndex packages slots rows → ((s : ℕ) → slots name ≡ Some s → row ≡ row_at rows s) → HasPushed a packages row old new → ((x : ℕ) → Contains old x ↔ Meets (take i clause) packages x) → (x : ℕ) → Contains new x ↔ Meets (take (i + 1) clause) packages x
meets_more packages slots rows clause i a name row old new lt at is index row_is pushed h x =
    let test : Package → Alternative → Bool = λ p b. admits b p.name p.architecture p.version p.provides in
    let more : (p : Package) → clause_admits (take (i + 1) clause) p.name p.architecture p.version p.provides ≡ (clause_admits (take i clause) p.name p.architecture p.version p.provides || admits a p.name p.architecture p.version p.provides) = λ p.
    list_any_more (test p) clause i a lt ∙ ap (λ (b : Alternative). clause_admits (take i clause) p.name p.architecture p.version p.provides || admits b p.name p.architecture p.version p.provides) (sym at) in (
      λ c. ⊎_elim
          (λ c. let w = (h x).0 c in (w.0, w.1, w.2, more w.0 ∙ or_left (clause_admits (take i clause) w.0.name w.0.architecture w.0.version w.0.provides) (admits a w.0.name w.0.architecture w.0.version w.0.provides) w.3))
          (λ w. (w.0, w.1, w.2, more w.0 ∙ or_right (clause_admits (take i clause) w.0.name w.0.architecture w.0.version w.0.provides) (admits a w.0.name w.0.architecture w.0.version w.0.provides) w.3))
          (pushed.no_more x c),
      λ w. let p = w.0 in ⊎_elim
          (λ t. pushed.kept x ((h x).1 (p, w.1, w.2, t)))
          (λ (t : admits a p.name p.architecture p.version p.provides ≡ true).
          let e = index.entered x p a.name w.1 w.2 (admitted_bears a p t) in
          let r : row ≡ row_at rows e.0 = row_is e.0 (ap slots is ∙ e.1) in
          pushed.pushed x (subst (λ (l : List ℕ). Contains l x) (sym r) e.2) (p, w.1, w.2, t))
          (or_cases (clause_admits (take i clause) p.name p.architecture p.version p.provides) (admits a p.name p.architecture p.version p.provides) (sym (more p) ∙ w.3)),
    )
