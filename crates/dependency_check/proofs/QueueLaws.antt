-- The sets over packages and their relations are those over numbered clauses.
use Rattle.std.proofs.Common.{◌≡◌, ℕ, zero, suc, Bool, true, List, Option, Some, None, get_or, subst, sym, ap, ◌∙◌, inl, inr, ⊎_elim}
use Rattle.std.specs.Prelude.{IsTrue, ◌↔◌, MatchOption}
use Rattle.std.proofs.lemmas.List.Elements.{Contains-get_or}
use Rattle.dependency_sets.specs.Choices.{IsFirst}
use Rattle.dependency_sets.specs.Removal.{MayGo, IsRemovable, IsReliedOn, IsNextToRemove}
use Rattle.dependency_sets.specs.Sets.{IsMet, IsSupplied, IsConfigurable, or_in, stays}
use Rattle.dependency_sets.specs.declared.clause.Clause.{Clause}
use Rattle.configure_order.specs.Next.{NeedsAtOnce, Needs, IsReady, IsLast, IsNextToConfigure}
use Rattle.configure_order.specs.Reaching.{Chain, Follows}
use Rattle.relation_fields.specs.declared.alternative.Alternative.{Alternative}
use Rattle.relation_index.specs.Packages.{States, AreMeeters, AreClauses}
use Rattle.relation_index.specs.declared.package.Package.{Package}
use Rattle.dependency_check.specs.Queues.{IsMetBy, HasItsNeeds, CanBeConfigured, IsSpared, CanBeRemoved, IsReliedUpon, IsRemovedNext, WantsAtOnce, Wants, HasAllInstalled, IsWantedBack, IsConfiguredNext}

met_by : (packages : List Package) (clause : List Alternative) (c : Clause) (S : ℕ → Bool) → AreMeeters packages clause c.meeters → IsMet c S → IsMetBy packages clause S
met_by packages clause c S are w = (w.0, (are w.0).0 w.1, w.2)

met_of : (packages : List Package) (clause : List Alternative) (c : Clause) (S : ℕ → Bool) → AreMeeters packages clause c.meeters → IsMetBy packages clause S → IsMet c S
met_of packages clause c S are w = (w.0, (are w.0).1 w.1, w.2)

supplied_of : (packages : List Package) (clauses : List Clause) → AreClauses packages clauses → (S : ℕ → Bool) (x : ℕ) → HasItsNeeds packages S x → IsSupplied clauses S x
supplied_of packages clauses z S x h k d lt mine =
    let c = get_or clauses k d in
    let s = z.stated c (Contains-get_or clauses k d lt) in
    met_of packages s.0 c S s.2 (h s.0 (subst (λ (n : ℕ). States packages n s.0) mine s.1))

supplied_by : (packages : List Package) (clauses : List Clause) → AreClauses packages clauses → (S : ℕ → Bool) (x : ℕ) → IsSupplied clauses S x → HasItsNeeds packages S x
supplied_by packages clauses z S x h clause stated =
    let c = z.all x clause stated in
    met_by packages clause c.0 S c.3 (subst (λ (q : Clause). q.owner ≡ x → IsMet q S) c.1.2 (h c.1.0 c.0 c.1.1) c.2)

pub configurable_is : (packages : List Package) (clauses : List Clause) → AreClauses packages clauses → (installed waiting : ℕ → Bool) (x : ℕ) → IsConfigurable clauses installed waiting x ↔ CanBeConfigured packages installed waiting x
configurable_is packages clauses z installed waiting x = (
  λ w. (w.0, (w.1.0, λ y t. supplied_by packages clauses z (or_in installed w.0) y (w.1.1 y t)), w.2),
  λ w. (w.0, (w.1.0, λ y t. supplied_of packages clauses z (or_in installed w.0) y (w.1.1 y t)), w.2),
)

spared_by : (packages : List Package) (clauses : List Clause) → AreClauses packages clauses → (installed waiting S : ℕ → Bool) (x : ℕ) → MayGo clauses installed waiting S x → IsSpared packages installed waiting S x
spared_by packages clauses z installed waiting S x go here y clause user out stated meets =
    let c = z.all y clause stated in
    met_by packages clause c.0 (stays installed waiting) c.3
    (go here c.0 c.1 (subst (λ (n : ℕ). installed n ≡ true) (sym c.2) user) (ap S c.2 ∙ out) ((c.3 x).1 meets))

spared_of : (packages : List Package) (clauses : List Clause) → AreClauses packages clauses → (installed waiting S : ℕ → Bool) (x : ℕ) → IsSpared packages installed waiting S x → MayGo clauses installed waiting S x
spared_of packages clauses z installed waiting S x go here c inc user out meets =
    let s = z.stated c inc in
    met_of packages s.0 c (stays installed waiting) s.2 (go here c.owner s.0 user out s.1 ((s.2 x).0 meets))

pub removable_is : (packages : List Package) (clauses : List Clause) → AreClauses packages clauses → (installed waiting : ℕ → Bool) (x : ℕ) → IsRemovable clauses installed waiting x ↔ CanBeRemoved packages installed waiting x
removable_is packages clauses z installed waiting x = (
  λ w. (w.0, (w.1.0, λ y t. spared_by packages clauses z installed waiting w.0 y (w.1.1 y t)), w.2),
  λ w. (w.0, (w.1.0, λ y t. spared_of packages clauses z installed waiting w.0 y (w.1.1 y t)), w.2),
)

relied_by : (packages : List Package) (clauses : List Clause) → AreClauses packages clauses → (installed members : ℕ → Bool) (x : ℕ) → IsReliedOn clauses installed members x → IsReliedUpon packages installed members x
relied_by packages clauses z installed members x w =
    let s = z.stated w.0 w.1 in
    (w.0.owner, s.0, w.4, w.2, w.3, s.1, (s.2 x).0 w.5)

relied_of : (packages : List Package) (clauses : List Clause) → AreClauses packages clauses → (installed members : ℕ → Bool) (x : ℕ) → IsReliedUpon packages installed members x → IsReliedOn clauses installed members x
relied_of packages clauses z installed members x w =
    let c = z.all w.0 w.1 w.5 in
    (c.0, c.1, subst (λ (n : ℕ). installed n ≡ true) (sym c.2) w.3, subst (λ (n : ℕ). members n ≡ true) (sym c.2) w.4, λ e. w.2 (sym c.2 ∙ e), (c.3 x).1 w.6)

first_same : (P Q : ℕ → Type 0) → ((y : ℕ) → P y → Q y) → ((y : ℕ) → Q y → P y) → (x : ℕ) → IsFirst P x → IsFirst Q x
first_same P Q there back x w = (there x w.0, λ y lt q. w.1 y lt (back y q))

option_same : (o : Option ℕ) (N : Type 0) (P Q : ℕ → Type 0) → ((x : ℕ) → P x → Q x) → MatchOption o N P → MatchOption o N Q
option_same None N P Q f h = h
option_same (Some x) N P Q f h = f x h

removed_next : (packages : List Package) (clauses : List Clause) → AreClauses packages clauses → (installed members : ℕ → Bool) (x : ℕ) → IsNextToRemove clauses installed members x → IsRemovedNext packages installed members x
removed_next packages clauses z installed members x w = ⊎_elim
    (λ f. inl (first_same (λ y. IsTrue (members y) × (IsReliedOn clauses installed members y → ⊥)) (λ y. IsTrue (members y) × (IsReliedUpon packages installed members y → ⊥))
    (λ y h. (h.0, λ r. h.1 (relied_of packages clauses z installed members y r)))
    (λ y h. (h.0, λ r. h.1 (relied_by packages clauses z installed members y r))) x f))
    (λ p. inr (λ y m alone. p.0 y m (λ r. alone (relied_by packages clauses z installed members y r)), p.1))
    w

pub removed_next_is : (packages : List Package) (clauses : List Clause) → AreClauses packages clauses → (installed members : ℕ → Bool) (o : Option ℕ) → MatchOption o ((x : ℕ) → IsTrue (members x) → ⊥) (IsNextToRemove clauses installed members) → MatchOption o ((x : ℕ) → IsTrue (members x) → ⊥) (IsRemovedNext packages installed members)
removed_next_is packages clauses z installed members o h = option_same o ((x : ℕ) → IsTrue (members x) → ⊥) (IsNextToRemove clauses installed members) (IsRemovedNext packages installed members) (removed_next packages clauses z installed members) h

at_once_by : (packages : List Package) (clauses : List Clause) → AreClauses packages clauses → (installed members : ℕ → Bool) (x y : ℕ) → NeedsAtOnce clauses installed members x y → WantsAtOnce packages installed members x y
at_once_by packages clauses z installed members x y w =
    let s = z.stated w.0 w.1 in
    (s.0, subst (λ (n : ℕ). States packages n s.0) w.2 s.1, λ m. w.3 (met_of packages s.0 w.0 installed s.2 m), (s.2 y).0 w.4, w.5)

at_once_of : (packages : List Package) (clauses : List Clause) → AreClauses packages clauses → (installed members : ℕ → Bool) (x y : ℕ) → WantsAtOnce packages installed members x y → NeedsAtOnce clauses installed members x y
at_once_of packages clauses z installed members x y w =
    let c = z.all x w.0 w.1 in
    (c.0, c.1, c.2, λ m. w.2 (met_by packages w.0 c.0 installed c.3 m), (c.3 y).1 w.3, w.4)

chain_map : (D E : ℕ → ℕ → Type 0) → ((a b : ℕ) → D a b → E a b) → (n a b : ℕ) → Chain D n a b → Chain E n a b
chain_map D E f zero a b w = w
chain_map D E f (suc n) a b w = (w.0, f a w.0 w.1, chain_map D E f n w.0 b w.2)

follows_map : (D E : ℕ → ℕ → Type 0) → ((a b : ℕ) → D a b → E a b) → (a b : ℕ) → Follows D a b → Follows E a b
follows_map D E f a b w = (w.0, chain_map D E f (suc w.0) a b w.1)

wants_by : (packages : List Package) (clauses : List Clause) → AreClauses packages clauses → (installed members : ℕ → Bool) (x y : ℕ) → Needs clauses installed members x y → Wants packages installed members x y
wants_by packages clauses z installed members x y w = follows_map (NeedsAtOnce clauses installed members) (WantsAtOnce packages installed members) (at_once_by packages clauses z installed members) x y w

wants_of : (packages : List Package) (clauses : List Clause) → AreClauses packages clauses → (installed members : ℕ → Bool) (x y : ℕ) → Wants packages installed members x y → Needs clauses installed members x y
wants_of packages clauses z installed members x y w = follows_map (WantsAtOnce packages installed members) (NeedsAtOnce clauses installed members) (at_once_of packages clauses z installed members) x y w

last_by : (packages : List Package) (clauses : List Clause) → AreClauses packages clauses → (installed members : ℕ → Bool) (x : ℕ) → IsLast clauses installed members x → IsWantedBack packages installed members x
last_by packages clauses z installed members x w = (w.0, λ y v. wants_by packages clauses z installed members y x (w.1 y (wants_of packages clauses z installed members x y v)))

last_of : (packages : List Package) (clauses : List Clause) → AreClauses packages clauses → (installed members : ℕ → Bool) (x : ℕ) → IsWantedBack packages installed members x → IsLast clauses installed members x
last_of packages clauses z installed members x w = (w.0, λ y v. wants_of packages clauses z installed members y x (w.1 y (wants_by packages clauses z installed members x y v)))

ready_by : (packages : List Package) (clauses : List Clause) → AreClauses packages clauses → (installed members : ℕ → Bool) (x : ℕ) → IsReady clauses installed members x → HasAllInstalled packages installed members x
ready_by packages clauses z installed members x w = (w.0, supplied_by packages clauses z installed x w.1)

ready_of : (packages : List Package) (clauses : List Clause) → AreClauses packages clauses → (installed members : ℕ → Bool) (x : ℕ) → HasAllInstalled packages installed members x → IsReady clauses installed members x
ready_of packages clauses z installed members x w = (w.0, supplied_of packages clauses z installed x w.1)

configured_next : (packages : List Package) (clauses : List Clause) → AreClauses packages clauses → (installed members silent : ℕ → Bool) (x : ℕ) → IsNextToConfigure clauses installed members silent x → IsConfiguredNext packages installed members silent x
configured_next packages clauses z installed members silent x w =
    let R = IsReady clauses installed members in
    let L = IsLast clauses installed members in
    let R' = HasAllInstalled packages installed members in
    let L' = IsWantedBack packages installed members in
    ⊎_elim
    (λ f. inl (first_same R R' (ready_by packages clauses z installed members) (ready_of packages clauses z installed members) x f))
    (λ p. inr (
      λ y r. p.0 y (ready_of packages clauses z installed members y r),
      ⊎_elim
          (λ f. inl (first_same (λ y. L y × IsTrue (silent y)) (λ y. L' y × IsTrue (silent y)) (λ y h. (last_by packages clauses z installed members y h.0, h.1)) (λ y h. (last_of packages clauses z installed members y h.0, h.1)) x f))
          (λ q. inr (λ y l s. q.0 y (last_of packages clauses z installed members y l) s, first_same L L' (last_by packages clauses z installed members) (last_of packages clauses z installed members) x q.1))
          p.1,
    ))
    w

pub configured_next_is : (packages : List Package) (clauses : List Clause) → AreClauses packages clauses → (installed members silent : ℕ → Bool) (o : Option ℕ) → MatchOption o ((x : ℕ) → IsTrue (members x) → ⊥) (IsNextToConfigure clauses installed members silent) → MatchOption o ((x : ℕ) → IsTrue (members x) → ⊥) (IsConfiguredNext packages installed members silent)
configured_next_is packages clauses z installed members silent o h = option_same o ((x : ℕ) → IsTrue (members x) → ⊥) (IsNextToConfigure clauses installed members silent) (IsConfiguredNext packages installed members silent) (configured_next packages clauses z installed members silent) h
