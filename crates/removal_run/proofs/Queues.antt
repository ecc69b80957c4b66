-- The queue behind a removal.
use Rattle.std.proofs.Common.{◌≡◌, ◌≢◌, ◌<◌, ◌||◌, ℕ, zero, suc, Bool, true, false, cond, not, List, [], ◌∷◌, get_or, length, map, refl, sym, ap, subst, ◌∙◌, arith}
use Rattle.std.proofs.Math.ListN.{set}
use Rattle.std.specs.Prelude.{IsTrue}
use Rattle.std.specs.List.{Contains}
use Rattle.std.specs.Str.{bytes_eq}
use Rattle.std.proofs.lemmas.Bool.{true≢false, false_from_ne_true}
use Rattle.std.proofs.lemmas.List.{get_or-map}
use Rattle.std.proofs.lemmas.Map.Views.{Contains-from_any}
use Rattle.std.proofs.lemmas.Slice.Eq.{bytes_eq-Decides}
use Rattle.dependency_check.specs.Waiting.{Waiting, with_removed}
use Rattle.recorded_packages.specs.Renewal.{AreSameBut}
use Rattle.relation_index.proofs.Ordered.{before_differs, in_order}
use Rattle.relation_index.specs.Order.{AreInOrder, IsBeforeAll}
use Rattle.relation_index.specs.Packages.{AreInNameOrder}
use Rattle.relation_index.specs.declared.package.Package.{Package}
use Rattle.status_records.specs.declared.record.Record.{Record}
use Rattle.name_sets.specs.Names.{is_among, without}
use Rattle.removal_run.specs.Units.{AreOthersKept}
use Rattle.removal_run.specs.Waiting.{IsQueueNow, is_installed_by, is_installed_in, name_at}

-- no two packages have one name

name_later : (name : List ℕ) (ps : List Package) (y : ℕ) → IsBeforeAll name ps → y < length ps → name_at ps y ≢ name
name_later name [] y all lt same = absurd (omega (arith, lt))
name_later name (p ∷ ps) zero all lt same = before_differs name p.name all.0 (sym same)
name_later name (p ∷ ps) (suc y) all lt same = name_later name ps y all.1 (omega (arith, lt)) same

names_apart : (ps : List Package) (x y : ℕ) → AreInOrder ps → x < length ps → y < length ps → y ≢ x → name_at ps y ≢ name_at ps x
names_apart [] x y order here there apart same = absurd (omega (arith, here))
names_apart (p ∷ ps) zero zero order here there apart same = apart refl
names_apart (p ∷ ps) zero (suc y) order here there apart same = name_later p.name ps y order.0 (omega (arith, there)) same
names_apart (p ∷ ps) (suc x) zero order here there apart same = name_later p.name ps x order.0 (omega (arith, here)) (sym same)
names_apart (p ∷ ps) (suc x) (suc y) order here there apart same = names_apart ps x y order.1 (omega (arith, here)) (omega (arith, there)) (λ e. apart (ap suc e)) same

-- the name of the package that is found at a number
pub name_here : (packages list : List Package) (x : ℕ) (p : Package) → list ≡ packages → x < length packages → (get_or list x p).name ≡ name_at packages x
name_here packages list x p same within = ap (λ (l : List Package). (get_or l x p).name) same ∙ sym (get_or-map (λ (q : Package). q.name) packages x p [] within)

-- the marks of names, where another test holds of one of them, and the same of the others
module _ (old new : List ℕ → Bool) (name : List ℕ) (agree : (n : List ℕ) → n ≢ name → old n ≡ new n) (gone : new name ≡ false) where
  marks_same : (ps : List Package) → ((y : ℕ) → y < length ps → name_at ps y ≢ name) → map (λ p. old p.name) ps ≡ map (λ p. new p.name) ps
  marks_same [] others = refl
  marks_same (p ∷ ps) others =
      ap (λ (b : Bool). b ∷ map (λ (q : Package). old q.name) ps) (agree p.name (others zero (omega arith))) ∙ ap (λ (l : List Bool). new p.name ∷ l) (marks_same ps (λ y lt. others (suc y) (omega (arith, lt))))

  marks_struck : (ps : List Package) (x : ℕ) → x < length ps → name_at ps x ≡ name → ((y : ℕ) → y < length ps → y ≢ x → name_at ps y ≢ name) → set (map (λ p. old p.name) ps) x false ≡ map (λ p. new p.name) ps
  marks_struck [] x lt at others = absurd (omega (arith, lt))
  marks_struck (p ∷ ps) zero lt at others =
      ap (λ (l : List Bool). false ∷ l) (marks_same ps (λ y within. others (suc y) (omega (arith, within)) (λ e. absurd (omega (arith, e))))) ∙ ap (λ (b : Bool). b ∷ map (λ (q : Package). new q.name) ps) (sym (ap new at ∙ gone))
  marks_struck (p ∷ ps) (suc x) lt at others =
      ap (λ (b : Bool). b ∷ set (map (λ (q : Package). old q.name) ps) x false) (agree p.name (others zero (omega arith) (λ e. absurd (omega (arith, e)))))
      ∙ ap (λ (l : List Bool). new p.name ∷ l) (marks_struck ps x (omega (arith, lt)) at (λ y within apart. others (suc y) (omega (arith, within)) (λ e. apart (omega (arith, e)))))

-- a name that waits no longer

differs : (a b : List ℕ) → a ≢ b → bytes_eq a b ≡ false
differs a b ne = false_from_ne_true (bytes_eq a b) (λ t. ne ((bytes_eq-Decides a b).0 t))

left_other : (name other : List ℕ) (names : List (List ℕ)) → other ≢ name → is_among (without name names) other ≡ is_among names other
left_other name other [] apart = refl
left_other name other (n ∷ ns) apart = by (bytes_eq n name) refl (left_other name other ns apart)
  where
    by : (b : Bool) → bytes_eq n name ≡ b → is_among (without name ns) other ≡ is_among ns other → is_among (cond (not b) (n ∷ without name ns) (without name ns)) other ≡ is_among (n ∷ ns) other
    by true e rest = rest ∙ sym (ap (λ c. c || is_among ns other) (differs other n (λ same. apart (same ∙ (bytes_eq-Decides n name).0 e))))
    by false e rest = ap (λ c. bytes_eq other n || c) rest

left_own : (name : List ℕ) (names : List (List ℕ)) → is_among (without name names) name ≡ false
left_own name [] = refl
left_own name (n ∷ ns) = by (bytes_eq n name) refl (left_own name ns)
  where
    by : (b : Bool) → bytes_eq n name ≡ b → is_among (without name ns) name ≡ false → is_among (cond (not b) (n ∷ without name ns) (without name ns)) name ≡ false
    by true e rest = rest
    by false e rest = ap (λ c. c || is_among (without name ns) name) (differs name n (λ same. true≢false (sym ((bytes_eq-Decides n name).1 (sym same)) ∙ e))) ∙ rest

-- the package isn't installed any more
pub queue_struck : (packages : List Package) (before now : List Record) (names waiting : List (List ℕ)) (q later : Waiting) (x : ℕ) → AreInNameOrder q.packages → x < length q.packages → is_installed_in now (name_at q.packages x) ≡ false → later ≡ with_removed x q
    → IsQueueNow packages before names q → AreOthersKept (name_at q.packages x) before now → waiting ≡ without (name_at q.packages x) names → IsQueueNow packages now waiting later
queue_struck packages before now names waiting q later x order within gone same is kept left = subst (IsQueueNow packages now waiting) (sym same) (record {
  stated = is.stated;
  installed = ap (λ (l : List Bool). set l x false) is.installed
      ∙ marks_struck (is_installed_in before) (is_installed_in now) (name_at q.packages x) (λ n apart. ap is_installed_by (sym (kept n apart))) gone q.packages x within refl others;
  waiting = ap (λ (l : List Bool). set l x false) is.waiting
      ∙ marks_struck (is_among names) (is_among waiting) (name_at q.packages x) (λ n apart. sym (ap (λ (l : List (List ℕ)). is_among l n) left ∙ left_other (name_at q.packages x) n names apart))
      (ap (λ (l : List (List ℕ)). is_among l (name_at q.packages x)) left ∙ left_own (name_at q.packages x) names) q.packages x within refl others;
})
  where
    others : (y : ℕ) → y < length q.packages → y ≢ x → name_at q.packages y ≢ name_at q.packages x
    others y there apart = names_apart q.packages x y (in_order q.packages order) within there apart

-- records that differ at these names alone

pub same_but_none : (names : List (List ℕ)) (records : List Record) → AreSameBut names records records
same_but_none names records = λ q out. refl

pub same_but_more : (names : List (List ℕ)) (name : List ℕ) (start old new : List Record) → IsTrue (is_among names name) → AreSameBut names start old → AreOthersKept name old new → AreSameBut names start new
same_but_more names name start old new among so_far kept = λ q out.
    let there : Contains names name = Contains-from_any {eq = bytes_eq} (λ a b. (bytes_eq-Decides a b).0) name names among in
    kept q (λ same. out (subst (Contains names) (sym same) there)) ∙ so_far q out
