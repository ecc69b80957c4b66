-- The steps of a conversion.
use Rattle.std.proofs.Common.{◌≡◌, ◌≢◌, ◌⊎◌, inl, inr, arith, IsTrue, ℕ, Bool, true, false, List, [], ◌∷◌, ◌++◌, Option, Some, None, Result, Ok, Err, IsErrAnd, take, drop, refl, sym, ap, subst, ◌∙◌, Contains}
use Rattle.std.specs.Prelude.{IfOk, IsSome, OnOk, ◌&&◌, not, is_some}
use Rattle.std.proofs.lemmas.Bool.{and_parts, false≢true, true≢false}
use Rattle.std.proofs.lemmas.List.{take-append-drop}
use Rattle.std.proofs.lemmas.List.Elements.{Contains-append_left}
use Rattle.host_core.specs.Paths.{Path}
use Rattle.host_core.specs.Host.{State, Does, Since}
use Rattle.host_core.specs.Unsynced.{is_temporary}
use Rattle.host_core.specs.World.{World, HasParent, IsDirectory, IsLoose, Take, put}
use Rattle.host_core.specs.declared.fault.HostFault.{HostFault}
use Rattle.host_core.specs.declared.node.Node.{Node}
use Rattle.host_core.specs.declared.node.Node.TheVariants.{File, Dir, Link}
use Rattle.administration.specs.Files.{NoDirectory}
use Rattle.administration.specs.Places.{temporary}
use Rattle.administration.specs.declared.fault.AdministrationFault.{AdministrationFault}
use Rattle.administration.specs.declared.fault.AdministrationFault.TheVariants.{Damaged, Device, NoMemory, Declined}
use Rattle.administration.proofs.WholeFiles.{no_directory_at, no_directory_none}
use Rattle.host_core.proofs.Moments.{since_does, since_weaker_if}
use Rattle.host_core.proofs.Nodes.{none_stands}
use Rattle.host_core.proofs.Paths.{decide}
use Rattle.host_core.proofs.WorldLaws.{put_other, put_same}
use Rattle.info_format.specs.Steps.{AreApart, AreGiven, AreGiving, AreTaken, AreTaking, HaveParents, IsAsideAt, IsGivenAt, IsGiving, IsTaken, IsTakenAt, IsUnfit, IsUnfitAmong}
use Rattle.info_format.specs.Tests.{is_loose}
use Rattle.info_format.specs.declared.pairs.Pair.{Pair}
use Rattle.info_format.proofs.Copies.{no_spare}

-- one step

pub since_taken : {T : Type 0} (result : Result T HostFault) (long short : Path) (old : World) (a b : State) → a.world ≡ old → (IsTrue b.honest → IsLoose (old short)) → (IsTrue b.honest → IsLoose (old long)) → Does (Take long) a b result → Since (λ so_far. IsTaken long short old) a b
since_taken result long short old a b is loose there does = since_does (IsTaken long short old) result (Take long) a b does (λ h. record {
  before = inl is;
  inside = λ t part. absurd part;
  behind = inr (loose h, there h, ap (λ (w : World). put w long None) is);
})

-- one after another

loose_at : (m n : Option Node) → m ≡ n → IsLoose n → IsLoose m
loose_at m n e is = subst IsLoose (sym e) is

module _ (pairs : List Pair) (old : World) (apart : AreApart pairs) where
  -- a first name stands as before
  long_kept : (w : World) (p : Pair) → Contains pairs p → AreGiving pairs old w → w p.long ≡ old p.long
  long_kept w p has giving = elim (giving p.long) [ inl same ↦ same | inr (inl given) ↦ absurd (apart.apart p given.0 has given.1 given.2) | inr (inr aside) ↦ absurd (no_spare p.long aside.0.short (apart.proper p has).0 aside.2) ]

  pub loose_long : (w : World) (p : Pair) → Contains pairs p → AreGiving pairs old w → IsLoose (old p.long) → IsLoose (w p.long)
  loose_long w p has giving is = loose_at (w p.long) (old p.long) (long_kept w p has giving) is

  -- where nothing stands nothing stood
  none_before : (w : World) (p : Pair) → Contains pairs p → AreGiving pairs old w → w p.short ≡ None → old p.short ≡ None
  none_before w p has giving none = elim (giving p.short) [ inl same ↦ sym same ∙ none | inr (inl given) ↦ given.4 | inr (inr aside) ↦ absurd (no_spare p.short aside.0.short (apart.proper p has).1 aside.2) ]

  -- nor did a directory where none stands
  room_before : (w : World) (q : Path) → AreGiving pairs old w → NoDirectory (w q) → NoDirectory (old q)
  room_before w q giving room = elim (giving q) [ inl same ↦ no_directory_at (old q) (w q) (sym same) room | inr (inl given) ↦ no_directory_at (old q) None given.4 no_directory_none | inr (inr aside) ↦ aside.5 ]

  -- what a step leaves as it was
  giving_kept : (w v : World) (q : Path) → AreGiving pairs old w → v q ≡ w q → (v q ≡ old q) ⊎ (IsGivenAt pairs q old v ⊎ IsAsideAt pairs q old v)
  giving_kept w v q giving kept = elim (giving q) [
    | inl same ↦ inl (kept ∙ same)
    | inr (inl is) ↦ inr (inl (is.0, is.1, is.2, is.3, is.4, kept ∙ is.5))
    | inr (inr is) ↦ inr (inr (is.0, is.1, is.2, is.3, is.4, is.5, no_directory_at (v q) (w q) kept is.6))
  ]

  pub giving_start : AreGiving pairs old old
  giving_start q = inl refl

  pub giving_more : (p : Pair) (w v : World) → Contains pairs p → AreGiving pairs old w → IsGiving p.long p.short w v → AreGiving pairs old v
  giving_more p w v has giving (inl (inl same)) q = giving_kept w v q giving (ap (λ (x : World). x q) same)
  giving_more p w v has giving (inl (inr given)) q = elim (decide q p.short) [
    | inl same ↦
        let long_is = long_kept w p has giving in
        inr (inl (p, has, same, loose_at (old p.long) (w p.long) (sym long_is) given.0, ap old same ∙ none_before w p has giving given.1, ap (λ (x : World). x q) given.2 ∙ put_same w p.short q (w p.long) same ∙ long_is))
    | inr other ↦ giving_kept w v q giving (ap (λ (x : World). x q) given.2 ∙ put_other w p.short q (w p.long) other)
  ]
  giving_more p w v has giving (inr copying) q =
      let long_is = long_kept w p has giving in
      let loose = loose_at (old p.long) (w p.long) (sym long_is) copying.loose in
      let none = none_before w p has giving copying.none in
      elim (decide q p.short) [
        | inl same ↦ elim copying.target [
          | inl still ↦ giving_kept w v q giving (ap v same ∙ still ∙ sym (ap w same ∙ copying.none))
          | inr whole ↦ inr (inl (p, has, same, loose, ap old same ∙ none, ap v same ∙ whole ∙ long_is))
        ]
        | inr other ↦ elim (decide q (temporary p.short)) [
          | inl same ↦ inr (inr (p, has, same, loose, none, subst (λ (x : Path). NoDirectory (old x)) (sym same) (room_before w (temporary p.short) giving copying.room), subst (λ (x : Path). NoDirectory (v x)) (sym same) copying.spare))
          | inr beside ↦ giving_kept w v q giving (copying.rest q other beside)
        ]
      ]

  pub since_giving : (p : Pair) (a b : State) → Contains pairs p → (IsTrue b.honest → AreGiving pairs old a.world) → Since (λ so_far. IsGiving p.long p.short a.world) a b → Since (λ so_far. AreGiving pairs old) a b
  since_giving p a b has giving since = since_weaker_if _ _ a b (λ h so_far v given. giving_more p a.world v has (giving h) given) since

  -- what stands stays
  pub stays_given : (p : Pair) (w v : World) (q : Path) → is_temporary q ≡ false → IsGiving p.long p.short w v → IsSome (w q) → IsSome (v q)
  stays_given p w v q proper (inl (inl same)) some = subst (λ (x : World). IsSome (x q)) (sym same) some
  stays_given p w v q proper (inl (inr given)) some = elim (decide q p.short) [
    | inl same ↦ absurd (none_stands (w q) (ap w same ∙ given.1) some)
    | inr other ↦ subst IsSome (sym (ap (λ (x : World). x q) given.2 ∙ put_other w p.short q (w p.long) other)) some
  ]
  stays_given p w v q proper (inr copying) some = elim (decide q p.short) [
    | inl same ↦ absurd (none_stands (w q) (ap w same ∙ copying.none) some)
    | inr other ↦ subst IsSome (sym (copying.rest q other (no_spare q p.short proper))) some
  ]

  pub parents_kept : (w : World) → HaveParents pairs old → AreGiving pairs old w → HaveParents pairs w
  parents_kept w parents giving p has = (let parent = parents p has in (parent.0, parent.1, parent.2, parent.3, directory parent.0 parent.4))
    where
      directory : (front : Path) → IsDirectory (old front) → IsDirectory (w front)
      directory front is = elim (giving front) [
        | inl same ↦ subst IsDirectory (sym same) is
        | inr (inl given) ↦ absurd (let e : None ≡ _ = sym given.4 ∙ is.1 in cc e)
        | inr (inr aside) ↦ absurd (aside.5 is)
      ]

  -- the first names go

  short_kept : (w : World) (p : Pair) → Contains pairs p → AreTaking pairs old w → w p.short ≡ old p.short
  short_kept w p has taking = elim (taking p.short) [ inl same ↦ same | inr taken ↦ absurd (apart.apart taken.0 p taken.1 has (sym taken.2)) ]

  long_loose : (w : World) (p : Pair) → AreTaking pairs old w → IsLoose (w p.long) → IsLoose (old p.long)
  long_loose w p taking is = elim (taking p.long) [ inl same ↦ loose_at (old p.long) (w p.long) (sym same) is | inr gone ↦ absurd (none_stands (w p.long) gone.5 is.0) ]

  pub taking_start : AreTaking pairs old old
  taking_start q = inl refl

  pub taking_more : (p : Pair) (w v : World) → Contains pairs p → AreTaking pairs old w → IsTaken p.long p.short w v → AreTaking pairs old v
  taking_more p w v has taking (inl same) q = subst (λ (x : World). (x q ≡ old q) ⊎ IsTakenAt pairs q old x) (sym same) (taking q)
  taking_more p w v has taking (inr taken) q = elim (decide q p.long) [
    | inl same ↦ inr (p, has, same, loose_at (old p.short) (w p.short) (sym (short_kept w p has taking)) taken.0, long_loose w p taking taken.1, ap (λ (x : World). x q) taken.2 ∙ put_same w p.long q None same)
    | inr other ↦
        let kept : v q ≡ w q = ap (λ (x : World). x q) taken.2 ∙ put_other w p.long q None other in
        elim (taking q) [ inl same ↦ inl (kept ∙ same) | inr is ↦ inr (is.0, is.1, is.2, is.3, is.4, kept ∙ is.5) ]
  ]

  pub since_taking : (p : Pair) (a b : State) → Contains pairs p → (IsTrue b.honest → AreTaking pairs old a.world) → Since (λ so_far. IsTaken p.long p.short a.world) a b → Since (λ so_far. AreTaking pairs old) a b
  since_taking p a b has taking since = since_weaker_if _ _ a b (λ h so_far v taken. taking_more p a.world v has (taking h) taken) since

  pub short_loose : (w : World) (p : Pair) → Contains pairs p → AreTaking pairs old w → IsLoose (old p.short) → IsLoose (w p.short)
  short_loose w p has taking is = loose_at (w p.short) (old p.short) (short_kept w p has taking) is

  -- what is gone stays so
  pub gone_taken : (p : Pair) (w v : World) (q : Path) → IsTaken p.long p.short w v → (IsLoose (w q) → ⊥) → IsLoose (v q) → ⊥
  gone_taken p w v q (inl same) gone is = gone (subst (λ (x : World). IsLoose (x q)) same is)
  gone_taken p w v q (inr taken) gone is = elim (decide q p.long) [
    | inl same ↦ none_stands (v q) (ap (λ (x : World). x q) taken.2 ∙ put_same w p.long q None same) is.0
    | inr other ↦ gone (subst IsLoose (ap (λ (x : World). x q) taken.2 ∙ put_other w p.long q None other) is)
  ]

-- some of a list are of the list
pub of_taken : (pairs : List Pair) (k : ℕ) (p : Pair) → Contains (take k pairs) p → Contains pairs p
of_taken pairs k p has = subst (λ (l : List Pair). Contains l p) (take-append-drop k pairs) (Contains-append_left (take k pairs) (drop k pairs) p has)

-- what was looked at

loose_true : (node : Option Node) → is_loose node ≡ true → IsLoose node
loose_true None is = absurd (false≢true is)
loose_true (Some (File bytes access)) is = (refl, λ d. absurd (let e : Some (File bytes access) ≡ Some (Dir d.0) = d.1 in cc))
loose_true (Some (Dir access)) is = absurd (false≢true is)
loose_true (Some (Link target)) is = (refl, λ d. absurd (let e : Some (Link target) ≡ Some (Dir d.0) = d.1 in cc))

true_loose : (node : Option Node) → IsLoose node → is_loose node ≡ true
true_loose None is = absurd (none_stands None refl is.0)
true_loose (Some (File bytes access)) is = refl
true_loose (Some (Dir access)) is = absurd (is.1 (access, refl))
true_loose (Some (Link target)) is = refl

none_of : (node : Option Node) → not (is_some node) ≡ true → node ≡ None
none_of None is = refl
none_of (Some n) is = absurd (false≢true is)

-- a fault that a `?` passes on is no answer
pub no_answer : {T : Type 0} (P : T → Type 0) (Q : HostFault → Type 0) (result : Result T HostFault) → IsErrAnd result Q → IfOk result P
no_answer P Q (Ok x) told = absurd told
no_answer P Q (Err e) told = tt

pub none_told : (node : Option Node) → is_some node ≡ false → node ≡ None
none_told None is = refl
none_told (Some n) is = absurd (true≢false is)

some_of : (node : Option Node) → not (is_some node) ≡ false → IsSome node
some_of None is = absurd (true≢false is)
some_of (Some n) is = refl

pub lacking : (b : Bool) (w v : World) (long short : Path) → b ≡ true → b ≡ (is_loose (w long) && not (is_some (w short))) → v ≡ w → IsLoose (v long) × (v short ≡ None)
lacking b w v long short is told same =
    let parts = and_parts (is_loose (w long)) (not (is_some (w short))) (sym told ∙ is) in
    (subst (λ (x : World). IsLoose (x long)) (sym same) (loose_true (w long) parts.0), ap (λ (x : World). x short) same ∙ none_of (w short) parts.1)

second_there : (loose none : Bool) → (loose && none) ≡ false → loose ≡ true → none ≡ false
second_there true none e is = e
second_there false none e is = absurd (false≢true is)

pub not_lacking : (b : Bool) (w v : World) (long short : Path) → b ≡ false → b ≡ (is_loose (w long) && not (is_some (w short))) → v ≡ w → IsLoose (w long) → IsSome (v short)
not_lacking b w v long short is told same loose = subst (λ (x : World). IsSome (x short)) (sym same) (some_of (w short) (second_there (is_loose (w long)) (not (is_some (w short))) (sym told ∙ is) (true_loose (w long) loose)))

pub beside : (b : Bool) (w v : World) (long short : Path) → b ≡ true → b ≡ (is_loose (w long) && is_loose (w short)) → v ≡ w → IsLoose (v long) × IsLoose (w short)
beside b w v long short is told same =
    let parts = and_parts (is_loose (w long)) (is_loose (w short)) (sym told ∙ is) in
    (subst (λ (x : World). IsLoose (x long)) (sym same) (loose_true (w long) parts.0), loose_true (w short) parts.1)

pub not_beside : (b : Bool) (w v : World) (long short : Path) → b ≡ false → b ≡ (is_loose (w long) && is_loose (w short)) → v ≡ w → IsLoose (w short) → IsLoose (v long) → ⊥
not_beside b w v long short is told same loose there =
    true≢false (sym (true_loose (w short) loose) ∙ second_there (is_loose (w long)) (is_loose (w short)) (sym told ∙ is) (true_loose (w long) (subst (λ (x : World). IsLoose (x long)) same there)))

pub removed : {T : Type 0} (result : Result T HostFault) (long short : Path) (old : World) (a b : State) → Does (Take long) a b result → OnOk result (IsLoose (old short) → IsLoose (b.world long) → ⊥)
removed (Ok x) long short old a b does = λ loose there. none_stands (b.world long) (ap (λ (w : World). w long) does.world ∙ put_same a.world long long None refl) there.0
removed (Err e) long short old a b does = tt

pub unfit_among : (one : Bool) (w : World) (pairs : List Pair) (p : Pair) (fault : AdministrationFault) → Contains pairs p → IsUnfit one w p fault → IsUnfitAmong one w pairs fault
unfit_among one w pairs p (Damaged file line) has is = (p, has, is)
unfit_among one w pairs p Device has is = tt
unfit_among one w pairs p NoMemory has is = tt
unfit_among one w pairs p Declined has is = tt
