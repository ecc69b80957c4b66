-- The names of works: each tells its place, and what lies below a target has a greater place.
use Rattle.std.proofs.Common.{◌≡◌, ◌≢◌, ◌⊎◌, ℕ, ◌-◌, ◌≤◌, Bool, true, false, List, [], ◌∷◌, ◌++◌, length, get_or, drop, Contains, Option, Some, None, inl, inr, refl, sym, ap, subst, ◌∙◌, arith, append_assoc, ◌||◌}
use Rattle.std.specs.Ordering.{is_lt, nat_cmp, ordering_then}
use Rattle.std.specs.Cmp.{nat_cmp_is}
use Rattle.std.specs.Cmp.Lexicographic.{slice_cmp}
use Rattle.std.specs.declared.cmp.Ordering.TheVariants.{Equal}
use Rattle.std.specs.List.{list_any}
use Rattle.std.specs.Prelude.{nat_eq}
use Rattle.std.specs.Str.{bytes_eq}
use Rattle.std.proofs.lemmas.Cmp.{nat_eq_equiv}
use Rattle.std.proofs.lemmas.Map.Views.{list_any-from_Contains}
use Rattle.std.proofs.lemmas.Slice.Eq.{bytes_eq-Decides}
use Rattle.std.proofs.lemmas.List.Elements.{Contains-append_cases, Contains-push_cases}
use Rattle.std.proofs.lemmas.Bool.{true≢false}
use Rattle.std.proofs.lemmas.List.{append-nil, length-append, get_or-append_right}
use Rattle.host_core.specs.Paths.{Path, is_ship_text, is_own, is_named_by}
use Rattle.host_core.specs.Suffixes.{suffix_text}
use Rattle.host_core.specs.Unsynced.{is_temporary}
use Rattle.host_core.specs.World.{World, HasParent, is_kept}
use Rattle.host_core.proofs.Losses.{temporary_suffix}
use Rattle.host_core.specs.declared.suffix.Suffix.{Suffix}
use Rattle.host_core.specs.declared.suffix.Suffix.TheVariants.{New, Old, Dist, Tmp, Inst}
use Rattle.host_core.proofs.ShipNames.{ships, same_name, plain_other, plain_proper, beside_proper}
use Rattle.package_files.specs.declared.work.Work.{Work}
use Rattle.package_files.specs.Files.{Misses}
use Rattle.package_files.specs.Names.{IsNamed, IsBefore}
use Rattle.package_files.specs.Apart.{IsApart, Differ, IsByPlace, HasNames}

-- what a name adds to its place
abbrev pub ending : Option Suffix → Path
ending None = []
ending (Some s) = suffix_text s

abbrev pub IsShip : Path → Type 0
IsShip p = is_ship_text p ≡ true

-- a name tells its place and its ending
pub same_place : (p r : Path) (j k : Option Suffix) → IsShip p → IsShip r → p ++ ending j ≡ r ++ ending k → (p ≡ r) × (j ≡ k)
same_place p r None None first second e = (sym (append-nil p) ∙ e ∙ append-nil r, refl)
same_place p r None (Some t) first second e = absurd (plain_other p r t (ships p first).plain (sym (append-nil p) ∙ e))
same_place p r (Some s) None first second e = absurd (plain_other r p s (ships r second).plain (sym (append-nil r) ∙ sym e))
same_place p r (Some s) (Some t) first second e = let is = same_name p r s t e in (is.0, ap Some is.1)

abbrev pub Slashless : Path → Type 0
Slashless u = list_any (nat_eq 47) u ≡ false

pub slashless : (k : Option Suffix) → Slashless (ending k)
slashless None = refl
slashless (Some New) = refl
slashless (Some Old) = refl
slashless (Some Dist) = refl
slashless (Some Tmp) = refl
slashless (Some Inst) = refl

no_slash : (u : Path) → Slashless u → Contains u 47 → ⊥
no_slash u free has = true≢false (sym (list_any-from_Contains nat_eq_equiv 47 u has) ∙ free)

at_slash : (p rest : Path) → Contains (p ++ 47 ∷ rest) 47
at_slash p rest =
    let zero_is : length p - length p ≡ 0 = omega arith in
    (length p, omega (arith, length-append p (47 ∷ rest)), get_or-append_right p (47 ∷ rest) (length p) (length p) 47 refl (omega arith) ∙ ap (λ i. get_or (47 ∷ rest) i 47) zero_is)

-- the last slash of a name lies in its place
split : (a u p rest : Path) → Slashless u → a ++ u ≡ p ++ 47 ∷ rest → (m : Path) × (a ≡ p ++ 47 ∷ m)
split [] u p rest free e = absurd (no_slash u free (subst (λ l. Contains l 47) (sym e) (at_slash p rest)))
split (c ∷ a) u [] rest free e = (a, ap (λ h. h ∷ a) (ap (λ (l : Path). get_or l 0 0) e))
split (c ∷ a) u (d ∷ p) rest free e =
    let more = split a u p rest free (ap (drop 1) e) in
    (more.0, (λ i. ap (λ (l : Path). get_or l 0 0) e i ∷ more.1 i))

pub never : (p r : Path) → is_lt (slice_cmp nat_cmp (p ++ r) p) ≡ false
never [] [] = refl
never [] (c ∷ r) = refl
never (a ∷ p) r = ap (λ o. is_lt (ordering_then o (slice_cmp nat_cmp (p ++ r) p))) (sym (nat_cmp_is a a Equal refl)) ∙ never p r

pub record NameOf (x : Work) (q : Path) : Type 0 where
  pub kind : Option Suffix
  pub is : q ≡ x.place ++ ending kind

pub target_name : (x : Work) → IsNamed x → NameOf x x.target
target_name x named = by named.target where
  by : (x.target ≡ x.place) ⊎ (x.target ≡ x.place ++ suffix_text New) → NameOf x x.target
  by (inl e) = record { kind = None; is = e ∙ sym (append-nil x.place) }
  by (inr e) = record { kind = Some New; is = e }

pub backup_name : (x : Work) → IsNamed x → NameOf x x.backup
backup_name x named = record { kind = Some Tmp; is = named.backup }

pub fresh_name : (x : Work) → IsNamed x → NameOf x x.fresh
fresh_name x named = record { kind = Some Inst; is = named.fresh }

-- the three names of a work

kinds_differ : (x : Work) (j k : Option Suffix) → IsNamed x → j ≢ k → x.place ++ ending j ≢ x.place ++ ending k
kinds_differ x j k named ne e = ne (same_place x.place x.place j k named.place named.place e).1

number : Option Suffix → ℕ
number None = 0
number (Some New) = 1
number (Some Old) = 2
number (Some Dist) = 3
number (Some Tmp) = 4
number (Some Inst) = 5

pub named_apart : (x : Work) → IsNamed x → IsApart x
unfolding number
named_apart x named = by named.target where
  by : (x.target ≡ x.place) ⊎ (x.target ≡ x.place ++ suffix_text New) → IsApart x
  by (inl e) = record {
    backup = λ s. kinds_differ x (Some Tmp) None named (λ k. omega (arith, ap number k)) (sym named.backup ∙ s ∙ e ∙ sym (append-nil x.place));
    fresh = λ s. kinds_differ x (Some Inst) None named (λ k. omega (arith, ap number k)) (sym named.fresh ∙ s ∙ e ∙ sym (append-nil x.place));
    spare = λ s. kinds_differ x (Some Inst) (Some Tmp) named (λ k. omega (arith, ap number k)) (sym named.fresh ∙ s ∙ named.backup);
  }
  by (inr e) = record {
    backup = λ s. kinds_differ x (Some Tmp) (Some New) named (λ k. omega (arith, ap number k)) (sym named.backup ∙ s ∙ e);
    fresh = λ s. kinds_differ x (Some Inst) (Some New) named (λ k. omega (arith, ap number k)) (sym named.fresh ∙ s ∙ e);
    spare = λ s. kinds_differ x (Some Inst) (Some Tmp) named (λ k. omega (arith, ap number k)) (sym named.fresh ∙ s ∙ named.backup);
  }

-- names of different places

names_differ : (x y : Work) (p q : Path) → IsNamed x → IsNamed y → x.place ≢ y.place → NameOf x p → NameOf y q → q ≢ p
names_differ x y p q named other ne here there e = ne (sym (same_place y.place x.place there.kind here.kind other.place named.place (sym there.is ∙ e ∙ here.is)).0)

misses : (x y : Work) (q : Path) → IsNamed x → IsNamed y → x.place ≢ y.place → NameOf y q → Misses x q
misses x y q named other ne there = record {
  target = names_differ x y x.target q named other ne (target_name x named) there;
  backup = names_differ x y x.backup q named other ne (backup_name x named) there;
  fresh = names_differ x y x.fresh q named other ne (fresh_name x named) there;
}

pub named_differ : (x y : Work) → IsNamed x → IsNamed y → x.place ≢ y.place → Differ x y
named_differ x y named other ne = record {
  target = misses x y y.target named other ne (target_name y other);
  backup = misses x y y.backup named other ne (backup_name y other);
  fresh = misses x y y.fresh named other ne (fresh_name y other);
}

pub before_differ : (x y : Work) → IsBefore x y → x.place ≢ y.place
before_differ x y less e = true≢false (sym less ∙ ap (λ p. is_lt (slice_cmp nat_cmp p y.place)) (e ∙ sym (append-nil y.place)) ∙ never y.place [])

-- a name of x that is below the target of y: then the place of x is below that of y
pub below_is : (x y : Work) (q rest : Path) → IsNamed y → NameOf x q → q ≡ y.target ++ 47 ∷ rest → (r : Path) × (1 ≤ length r) × (x.place ≡ y.place ++ r)
below_is x y q rest other here e =
    let t = target_name y other in
    let m = split x.place (ending here.kind) y.target rest (slashless here.kind) (sym here.is ∙ e) in
    (ending t.kind ++ 47 ∷ m.0, omega (arith, length-append (ending t.kind) (47 ∷ m.0)), m.1 ∙ ap (λ (l : Path). l ++ 47 ∷ m.0) t.is ∙ append_assoc y.place (ending t.kind) (47 ∷ m.0))

not_below : (x y : Work) (q rest : Path) → IsNamed y → IsBefore x y → NameOf x q → y.target ++ 47 ∷ rest ≢ q
not_below x y q rest other less here e =
    let b = below_is x y q rest other here (sym e) in
    true≢false (sym less ∙ ap (λ p. is_lt (slice_cmp nat_cmp p y.place)) b.2 ∙ never y.place b.0)

-- no name of the first is below the target of the second
abbrev pub IsNotBelow : Work → Work → Type 0
IsNotBelow x y = (rest : Path) → Misses x (y.target ++ 47 ∷ rest)

pub before_above : (x y : Work) → IsNamed x → IsNamed y → IsBefore x y → IsNotBelow x y
before_above x y named other less rest = record {
  target = not_below x y x.target rest other less (target_name x named);
  backup = not_below x y x.backup rest other less (backup_name x named);
  fresh = not_below x y x.fresh rest other less (fresh_name x named);
}

-- the directory of a place

-- the names of a place lie in one directory
pub name_home : (w : World) (p u : Path) → Slashless u → HasParent w p → HasParent w (p ++ u)
name_home w p u free has = (has.0, has.1 ++ u, ap (λ (l : Path). l ++ u) has.2 ∙ append_assoc has.0 (47 ∷ has.1) u, free_name, has.4) where
  free_name : Contains (has.1 ++ u) 47 → ⊥
  free_name c = by (Contains-append_cases has.1 u 47 c) where
    by : Contains has.1 47 ⊎ Contains u 47 → ⊥
    by (inl a) = has.3 a
    by (inr b) = no_slash u free b

pub home_of : (w : World) (x : Work) (q : Path) → NameOf x q → HasParent w x.place → HasParent w q
home_of w x q name has = subst (HasParent w) (sym name.is) (name_home w x.place (ending name.kind) (slashless name.kind) has)

front_other : (front name p u q : Path) → p ≡ front ++ 47 ∷ name → q ≡ p ++ u → front ≢ q
front_other front name p u q is named e = absurd (omega (arith, ap length (e ∙ named), length-append p u, ap length is, length-append front (47 ∷ name)))

front_misses : (x : Work) (front name : Path) → IsNamed x → x.place ≡ front ++ 47 ∷ name → Misses x front
front_misses x front name named is =
    let t = target_name x named in
    record {
      target = front_other front name x.place (ending t.kind) x.target is t.is;
      backup = front_other front name x.place (suffix_text Tmp) x.backup is named.backup;
      fresh = front_other front name x.place (suffix_text Inst) x.fresh is named.fresh;
    }

-- it stays where the names of the place alone change
pub home_stays : (x : Work) (v w : World) → IsNamed x → ((q : Path) → Misses x q → w q ≡ v q) → HasParent v x.place → HasParent w x.place
home_stays x v w named same has = (has.0, has.1, has.2, has.3, (has.4.0, same has.0 (front_misses x has.0 has.1 named has.2) ∙ has.4.1))

-- which names are temporary

pub fresh_temporary : (x : Work) → IsNamed x → is_temporary x.fresh ≡ true
fresh_temporary x named = ap is_temporary named.fresh ∙ temporary_suffix x.place

pub backup_proper : (x : Work) → IsNamed x → is_temporary x.backup ≡ false
unfolding number
backup_proper x named = ap is_temporary named.backup ∙ beside_proper x.place Tmp (λ e. omega (arith, ap (λ s. number (Some s)) e))

pub target_proper : (x : Work) → IsNamed x → is_temporary x.target ≡ false
unfolding number
target_proper x named = by named.target where
  by : (x.target ≡ x.place) ⊎ (x.target ≡ x.place ++ suffix_text New) → is_temporary x.target ≡ false
  by (inl e) = ap is_temporary e ∙ plain_proper x.place (ships x.place named.place).plain
  by (inr e) = ap is_temporary e ∙ beside_proper x.place New (λ s. omega (arith, ap (λ s. number (Some s)) s))

-- each is a name that its place keeps

same_bytes : (p q : Path) → p ≡ q → bytes_eq p q ≡ true
same_bytes p q e = (bytes_eq-Decides p q).1 e

or_right : (a b : Bool) → b ≡ true → a || b ≡ true
or_right true b is = refl
or_right false b is = is

or_left : (a b : Bool) → a ≡ true → a || b ≡ true
or_left true b is = refl
or_left false b is = absurd (true≢false (sym is))

kept_place : (q p : Path) → q ≡ p → is_named_by q p ≡ true
kept_place q p e = or_left (bytes_eq q p) _ (same_bytes q p e)

kept_new : (q p : Path) → q ≡ p ++ suffix_text New → is_named_by q p ≡ true
kept_new q p e = or_right (bytes_eq q p) _ (or_left (bytes_eq q (p ++ suffix_text New)) _ (same_bytes q _ e))

kept_tmp : (q p : Path) → q ≡ p ++ suffix_text Tmp → is_named_by q p ≡ true
kept_tmp q p e = or_right (bytes_eq q p) _ (or_right (bytes_eq q (p ++ suffix_text New)) _ (or_right (bytes_eq q (p ++ suffix_text Old)) _
    (or_right (bytes_eq q (p ++ suffix_text Dist)) _ (or_left (bytes_eq q (p ++ suffix_text Tmp)) _ (same_bytes q _ e)))))

kept_inst : (q p : Path) → q ≡ p ++ suffix_text Inst → is_named_by q p ≡ true
kept_inst q p e = or_right (bytes_eq q p) _ (or_right (bytes_eq q (p ++ suffix_text New)) _ (or_right (bytes_eq q (p ++ suffix_text Old)) _
    (or_right (bytes_eq q (p ++ suffix_text Dist)) _ (or_right (bytes_eq q (p ++ suffix_text Tmp)) _ (or_left (bytes_eq q (p ++ suffix_text Inst)) _ (same_bytes q _ e))))))

pub by_place : (x : Work) → IsNamed x → IsByPlace x
by_place x named = record { target = by named.target; backup = kept_tmp x.backup x.place named.backup; fresh = kept_inst x.fresh x.place named.fresh } where
  by : (x.target ≡ x.place) ⊎ (x.target ≡ x.place ++ suffix_text New) → is_named_by x.target x.place ≡ true
  by (inl e) = kept_place x.target x.place e
  by (inr e) = kept_new x.target x.place e

-- which a running script leaves alone, where the place is listed

any_at : (p : Path → Bool) (xs : List Path) (y : Path) → Contains xs y → p y ≡ true → list_any p xs ≡ true
any_at p [] y has is = absurd (omega (arith, has.1))
any_at p (z ∷ zs) y has is = elim (Contains-append_cases (z ∷ []) zs y has) [
  | inl first ↦ elim (Contains-push_cases [] z y first) [ inl none ↦ absurd (omega (arith, none.1)) | inr here ↦ or_left (p z) (list_any p zs) (ap p here ∙ is) ]
  | inr later ↦ or_right (p z) (list_any p zs) (any_at p zs y later is)
]

pub kept_names : (places : List Path) (x : Work) → IsNamed x → Contains places x.place → HasNames (is_kept places) x
kept_names places x named listed =
    let by = by_place x named in
    record {
      target = or_right (is_own x.target) _ (any_at (λ p. is_named_by x.target p) places x.place listed by.target);
      backup = or_right (is_own x.backup) _ (any_at (λ p. is_named_by x.backup p) places x.place listed by.backup);
      fresh = or_right (is_own x.fresh) _ (any_at (λ p. is_named_by x.fresh p) places x.place listed by.fresh);
    }

-- what a place doesn't name, its work misses
pub other_misses : (x : Work) (q : Path) → IsNamed x → is_named_by q x.place ≡ false → Misses x q
other_misses x q named unnamed =
    let by = by_place x named in
    let differs : (p : Path) → is_named_by p x.place ≡ true → q ≢ p = λ p is e. true≢false (sym is ∙ ap (λ r. is_named_by r x.place) (sym e) ∙ unnamed) in
    record { target = differs x.target by.target; backup = differs x.backup by.backup; fresh = differs x.fresh by.fresh }
