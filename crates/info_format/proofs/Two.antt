-- The two names of a control file.
use Rattle.std.proofs.Common.{◌≡◌, ◌≢◌, ◌⊎◌, ◌&&◌, ◌||◌, inl, inr, arith, ℕ, Bool, true, false, nat_eq, List, [], ◌∷◌, ◌++◌, Option, Some, None, drop, take, length, ◌-◌, refl, sym, ap, subst, ◌∙◌, Contains}
use Rattle.std.specs.Prelude.{IsSome, codes, not}
use Rattle.std.specs.List.{ends_with, list_all, list_any}
use Rattle.std.specs.Str.{bytes_eq}
use Rattle.std.proofs.lemmas.List.Folds.{list_any-append}
use Rattle.std.proofs.lemmas.Slice.Eq.{bytes_eq-Decides}
use Rattle.std.proofs.lemmas.List.{take-append-drop}
use Rattle.host_core.specs.Unsynced.{is_temporary}
use Rattle.texts.specs.PackageNames.{is_name_sign, is_package_name}
use Rattle.texts.proofs.PackageNames.{signs_of_name}
use Rattle.std.proofs.lemmas.Bool.{and_parts, eqb-true, false≢true, true≢false}
use Rattle.std.proofs.lemmas.List.Elements.{Contains-append_left, Contains-push, Contains-push_cases}
use Rattle.host_core.specs.Paths.{Path, is_path}
use Rattle.file_lists.specs.Info.{entry_path}
use Rattle.host_core.specs.World.{World}
use Rattle.info_format.specs.Stage.{AreShort, HaveShortNames, is_long}
use Rattle.info_format.specs.Names.{Architectures, AreTwo, are_ending_signs, is_ending, is_ending_sign, long_front}
use Rattle.info_format.specs.Naming.{ArePairs, AreQualified, HasPairs, IsEntryOf, IsPairAt, IsPairIn, IsPairOf, IsQualified}
use Rattle.info_format.specs.declared.naming.Qualified.{Qualified}
use Rattle.info_format.specs.declared.pairs.Pair.{Pair}

-- a name's last dot stands before its ending

and_false : (b : Bool) → (b && false) ≡ false
and_false true = refl
and_false false = refl

pub has_dot : (a y : Path) → are_ending_signs (a ++ 46 ∷ y) ≡ false
has_dot [] y = refl
has_dot (b ∷ bs) y = ap (λ t. is_ending_sign b && t) (has_dot bs y) ∙ and_false (is_ending_sign b)

pub last_dot : (a b x y : Path) → are_ending_signs x ≡ true → are_ending_signs y ≡ true → a ++ 46 ∷ x ≡ b ++ 46 ∷ y → (a ≡ b) × (x ≡ y)
last_dot [] [] x y px py e = (let same : x ≡ y = cc e in (refl, same))
last_dot [] (b ∷ bs) x y px py e = (let same : x ≡ bs ++ 46 ∷ y = cc e in absurd (true≢false (sym px ∙ ap are_ending_signs same ∙ has_dot bs y)))
last_dot (a ∷ front) [] x y px py e = (let same : front ++ 46 ∷ x ≡ y = cc e in absurd (true≢false (sym py ∙ ap are_ending_signs (sym same) ∙ has_dot front x)))
last_dot (a ∷ front) (b ∷ bs) x y px py e =
    let first : a ≡ b = cc e in
    let behind : front ++ 46 ∷ x ≡ bs ++ 46 ∷ y = cc e in
    let rest = last_dot front bs x y px py behind in
    ((λ i. first i ∷ rest.0 i), rest.1)

pub same_entry : (a b : Path) → entry_path a ≡ entry_path b → a ≡ b
same_entry a b e = ap (λ (l : Path). drop 19 l) e

signs : (x : Path) → is_ending x ≡ true → are_ending_signs x ≡ true
signs x is = (and_parts (are_ending_signs x) (not (bytes_eq x (codes "dpkg-inst"))) is).0

-- an entry has one ending
one_ending : (q : Qualified) (entry x y : Path) → IsEntryOf q entry x → IsEntryOf q entry y → x ≡ y
one_ending q entry x y (px, inl ex) (py, inl ey) = (last_dot q.name q.name x y (signs x px) (signs y py) (sym ex ∙ ey)).1
one_ending q entry x y (px, inl ex) (py, inr ey) = (last_dot q.name q.front x y (signs x px) (signs y py) (sym ex ∙ ey)).1
one_ending q entry x y (px, inr ex) (py, inl ey) = (last_dot q.front q.name x y (signs x px) (signs y py) (sym ex ∙ ey)).1
one_ending q entry x y (px, inr ex) (py, inr ey) = (last_dot q.front q.front x y (signs x px) (signs y py) (sym ex ∙ ey)).1

pub pair_at_entry : (q : Qualified) (entry ending : Path) (found : Option Pair) → IsEntryOf q entry ending → IsPairIn q ending found → IsPairAt q entry found
pair_at_entry q entry ending None of is = λ other is_other. subst (λ (x : Path). IsPairIn q x None) (one_ending q entry ending other of is_other) is
pair_at_entry q entry ending (Some p) of is = (ending, of, is)

pub no_pair_at : (q : Qualified) (entry : Path) → ((ending : Path) → IsEntryOf q entry ending → ⊥) → IsPairAt q entry None
no_pair_at q entry none = λ ending of. absurd (none ending of)

-- the pairs of a package

no_element : {X : Type 0} (x : X) → Contains [] x → ⊥
no_element x has = absurd (omega (arith, has.1))

pub pairs_start : (q : Qualified) (old : List Pair) → HasPairs q [] old old
pairs_start q old = record { before = λ p has. has; sound = λ p has. inl has; whole = λ entry ending has. absurd (no_element entry has) }

both_fit : (q : Qualified) (ending : Path) (p : Pair) → IsPairOf q ending p → IsPairIn q ending None → ⊥
both_fit q ending p is (inl long) = true≢false (sym is.long_fits ∙ ap is_path is.long_is ∙ long)
both_fit q ending p is (inr short) = true≢false (sym is.short_fits ∙ ap is_path is.short_is ∙ short)

pub pairs_passed : (q : Qualified) (entries : List Path) (entry : Path) (old now : List Pair) → HasPairs q entries old now → IsPairAt q entry None → HasPairs q (entries ++ entry ∷ []) old now
pairs_passed q entries entry old now has none = record {
  before = has.before;
  sound = has.sound;
  whole = λ e ending there of p is. elim (Contains-push_cases entries entry e there) [
    | inl earlier ↦ has.whole e ending earlier of p is
    | inr same ↦ absurd (both_fit q ending p is (none ending (subst (λ (x : Path). IsEntryOf q x ending) (sym same) of)))
  ];
}

same_pair : (q : Qualified) (ending : Path) (p r : Pair) → IsPairOf q ending p → IsPairOf q ending r → p ≡ r
same_pair q ending p r is also = (let long : p.long ≡ r.long = is.long_is ∙ sym also.long_is in let short : p.short ≡ r.short = is.short_is ∙ sym also.short_is in (λ i. record { long = long i; short = short i }))

pub pairs_more : (q : Qualified) (entries : List Path) (entry : Path) (old now : List Pair) (p : Pair) → HasPairs q entries old now → IsPairAt q entry (Some p) → HasPairs q (entries ++ entry ∷ []) old (now ++ p ∷ [])
pairs_more q entries entry old now p has (ending, of, is) = record {
  before = λ r there. Contains-append_left now (p ∷ []) r (has.before r there);
  sound = λ r there. elim (Contains-push_cases now p r there) [
    | inl earlier ↦ has.sound r earlier
    | inr same ↦ inr (ending, of.0, subst (IsPairOf q ending) same is)
  ];
  whole = λ e other there of_other r is_r. elim (Contains-push_cases entries entry e there) [
    | inl earlier ↦ Contains-append_left now (p ∷ []) r (has.whole e other earlier of_other r is_r)
    | inr same ↦
        let ends : ending ≡ other = one_ending q entry ending other of (subst (λ (x : Path). IsEntryOf q x other) (sym same) of_other) in
        subst (Contains (now ++ p ∷ [])) (same_pair q other p r (subst (λ (x : Path). IsPairOf q x p) ends is) is_r) (Contains-push now p)
  ];
}

-- the pairs of some packages
pub record ArePairsOf (packages : List Qualified) (entries : List Path) (pairs : List Pair) : Type 0 where
  pub sound : (p : Pair) → Contains pairs p → (q : Qualified) × Contains packages q × ((ending : Path) × (is_ending ending ≡ true) × IsPairOf q ending p)
  pub whole : (q : Qualified) → Contains packages q → (entry ending : Path) → Contains entries entry → IsEntryOf q entry ending → (p : Pair) → IsPairOf q ending p → Contains pairs p

pub packages_start : (entries : List Path) → ArePairsOf [] entries []
packages_start entries = record { sound = λ p has. absurd (no_element p has); whole = λ q has. absurd (no_element q has) }

pub packages_more : (packages : List Qualified) (q : Qualified) (entries : List Path) (old now : List Pair) → ArePairsOf packages entries old → HasPairs q entries old now → ArePairsOf (packages ++ q ∷ []) entries now
packages_more packages q entries old now are has = record {
  sound = λ p there. elim (has.sound p there) [
    | inl earlier ↦ (let is = are.sound p earlier in (is.0, Contains-append_left packages (q ∷ []) is.0 is.1, is.2))
    | inr mine ↦ (q, Contains-push packages q, mine)
  ];
  whole = λ r there entry ending at of p is. elim (Contains-push_cases packages q r there) [
    | inl earlier ↦ has.before p (are.whole r earlier entry ending at of p is)
    | inr same ↦ has.whole entry ending at (subst (λ (x : Qualified). IsEntryOf x entry ending) (sym same) of) p (subst (λ (x : Qualified). IsPairOf x ending p) (sym same) is)
  ];
}

two_of : (arches : Architectures) (q : Qualified) (ending : Path) (p : Pair) → IsQualified arches q → is_ending ending ≡ true → IsPairOf q ending p → AreTwo arches p.long p.short
two_of arches q ending p is plain pair = record {
  name = q.name;
  architecture = is.architecture;
  ending = ending;
  of = is.of;
  named = is.named;
  called = is.called;
  plain = plain;
  long_is = pair.long_is ∙ ap (λ (n : Path). entry_path (n ++ 46 ∷ ending)) is.front_is;
  short_is = pair.short_is;
  long_fits = pair.long_fits;
  short_fits = pair.short_fits;
}

pub all_pairs : (arches : Architectures) (packages : List Qualified) (entries : List Path) (pairs : List Pair) → AreQualified arches packages → ArePairsOf packages entries pairs → ArePairs arches entries pairs
all_pairs arches packages entries pairs qualified are = record {
  sound = λ p has. (let is = are.sound p has in two_of arches is.0 is.2.0 p (qualified.sound is.0 is.1) is.2.1 is.2.2);
  whole = λ long short two entry has at.
      let q : Qualified = record { name = two.name; front = long_front two.name two.architecture } in
      are.whole q (qualified.whole two.name two.architecture two.of) entry two.ending has (
        two.plain,
        elim at [
          | inl e ↦ inr (same_entry entry (long_front two.name two.architecture ++ 46 ∷ two.ending) (e ∙ two.long_is))
          | inr e ↦ inl (same_entry entry (two.name ++ 46 ∷ two.ending) (e ∙ two.short_is))
        ],
      )
      (record { long = long; short = short }) (record { long_is = two.long_is; short_is = two.short_is; long_fits = two.long_fits; short_fits = two.short_fits });
}

-- what stands nowhere in a name

no_sign : (P : ℕ → Bool) (s b : ℕ) (t : Bool) → P s ≡ false → nat_eq b s ≡ t → P b ≡ true → t ≡ false
no_sign P s b true none e sign = absurd (true≢false (sym sign ∙ ap P (eqb-true b s e) ∙ none))
no_sign P s b false none e sign = refl

without : (P : ℕ → Bool) (s : ℕ) → P s ≡ false → (name : Path) → list_all P name ≡ true → list_any (λ b. nat_eq b s) name ≡ false
without P s none [] e = refl
without P s none (b ∷ bs) e =
    let parts = and_parts (P b) (list_all P bs) e in
    ap (λ t. t || list_any (λ b. nat_eq b s) bs) (no_sign P s b (nat_eq b s) none refl parts.0) ∙ without P s none bs parts.1

free-append : (s : ℕ) (a b : Path) → list_any (λ x. nat_eq x s) a ≡ false → list_any (λ x. nat_eq x s) b ≡ false → list_any (λ x. nat_eq x s) (a ++ b) ≡ false
free-append s a b first second = list_any-append (λ x. nat_eq x s) a b ∙ ap (λ t. t || list_any (λ x. nat_eq x s) b) first ∙ second

name_free : (name : Path) → is_package_name name ≡ true → (s : ℕ) → is_name_sign s ≡ false → list_any (λ b. nat_eq b s) name ≡ false
name_free name named s none = without is_name_sign s none name (signs_of_name name named)

or_true : (b : Bool) → (b || true) ≡ true
or_true true = refl
or_true false = refl

pub has_colon : (name architecture : Path) → list_any (λ b. nat_eq b 58) (long_front name architecture) ≡ true
has_colon name architecture = list_any-append (λ b. nat_eq b 58) name (58 ∷ architecture) ∙ or_true (list_any (λ b. nat_eq b 58) name)

module _ (arches : Architectures) where
  -- neither name is that of another control file, but for the same one
  pub two_apart : (l s m r : Path) → AreTwo arches l s → AreTwo arches m r → l ≢ r
  two_apart l s m r two other e =
      let same = last_dot (long_front two.name two.architecture) other.name two.ending other.ending (signs two.ending two.plain) (signs other.ending other.plain) (same_entry (long_front two.name two.architecture ++ 46 ∷ two.ending) (other.name ++ 46 ∷ other.ending) (sym two.long_is ∙ e ∙ other.short_is)) in
      true≢false (sym (has_colon two.name two.architecture) ∙ ap (list_any (λ b. nat_eq b 58)) same.0 ∙ name_free other.name other.named 58 refl)

  pub two_once : (l s m r : Path) → AreTwo arches l s → AreTwo arches m r → s ≡ r → l ≡ m
  two_once l s m r two other e =
      let same = last_dot two.name other.name two.ending other.ending (signs two.ending two.plain) (signs other.ending other.plain) (same_entry (two.name ++ 46 ∷ two.ending) (other.name ++ 46 ∷ other.ending) (sym two.short_is ∙ e ∙ other.short_is)) in
      let arch : two.architecture ≡ other.architecture = (let both : Some two.architecture ≡ Some other.architecture = sym two.of ∙ ap arches same.0 ∙ other.of in cc both) in
      two.long_is ∙ (λ i. entry_path (long_front (same.0 i) (arch i) ++ 46 ∷ same.1 i)) ∙ sym other.long_is

  front_of : (p s : Path) → ends_with nat_eq p s ≡ true → (front : Path) × (p ≡ front ++ s)
  front_of p s is =
      let k = length p - length s in
      (take k p, sym (take-append-drop k p) ∙ ap (λ (l : Path). take k p ++ l) (sym ((bytes_eq-Decides s (drop k p)).0 is)))

  ending_kept : (front ending : Path) → is_ending ending ≡ true → (b : Bool) → is_temporary (entry_path (front ++ 46 ∷ ending)) ≡ b → b ≡ false
  ending_kept front ending plain false e = refl
  ending_kept front ending plain true e =
      let cut = front_of (entry_path (front ++ 46 ∷ ending)) (codes ".dpkg-inst") e in
      let same = last_dot (entry_path front) cut.0 ending (codes "dpkg-inst") (signs ending plain) refl cut.1 in
      absurd (false≢true (sym (ap not ((bytes_eq-Decides ending (codes "dpkg-inst")).1 same.1)) ∙ (and_parts (are_ending_signs ending) (not (bytes_eq ending (codes "dpkg-inst"))) plain).1))

  pub two_proper : (l s : Path) → AreTwo arches l s → is_temporary l ≡ false
  two_proper l s two = ap is_temporary two.long_is ∙ ending_kept (long_front two.name two.architecture) two.ending two.plain (is_temporary (entry_path (long_front two.name two.architecture ++ 46 ∷ two.ending))) refl

  pub two_whole : (l s : Path) → AreTwo arches l s → is_temporary s ≡ false
  two_whole l s two = ap is_temporary two.short_is ∙ ending_kept two.name two.ending two.plain (is_temporary (entry_path (two.name ++ 46 ∷ two.ending))) refl

  no_format : (front ending : Path) → entry_path (front ++ 46 ∷ ending) ≢ entry_path (codes "format")
  no_format front ending e = true≢false (sym (ap are_ending_signs (same_entry (front ++ 46 ∷ ending) (codes "format") e)) ∙ has_dot front ending)

  pub two_aside : (l s : Path) → AreTwo arches l s → (l ≢ entry_path (codes "format")) × (s ≢ entry_path (codes "format"))
  two_aside l s two = (λ e. no_format (long_front two.name two.architecture) two.ending (sym two.long_is ∙ e), λ e. no_format two.name two.ending (sym two.short_is ∙ e))

  ending_free : (ending : Path) → is_ending ending ≡ true → list_any (λ b. nat_eq b 47) (46 ∷ ending) ≡ false
  ending_free ending plain = without is_ending_sign 47 refl ending (signs ending plain)

  -- both are entries of the directory
  pub long_plain : (l s : Path) (two : AreTwo arches l s) → list_any (λ b. nat_eq b 47) (long_front two.name two.architecture ++ 46 ∷ two.ending) ≡ false
  long_plain l s two = free-append 47 (long_front two.name two.architecture) (46 ∷ two.ending) (free-append 47 two.name (58 ∷ two.architecture) (name_free two.name two.named 47 refl) (name_free two.architecture two.called 47 refl)) (ending_free two.ending two.plain)

  pub short_plain : (l s : Path) (two : AreTwo arches l s) → list_any (λ b. nat_eq b 47) (two.name ++ 46 ∷ two.ending) ≡ false
  short_plain l s two = free-append 47 two.name (46 ∷ two.ending) (name_free two.name two.named 47 refl) (ending_free two.ending two.plain)

  -- nor that of a control file of any package without the architecture
  pub long_other : (l s : Path) → AreTwo arches l s → (name ending : Path) → is_package_name name ≡ true → are_ending_signs ending ≡ true → l ≢ entry_path (name ++ 46 ∷ ending)
  long_other l s two name ending named plain e =
      let same = last_dot (long_front two.name two.architecture) name two.ending ending (signs two.ending two.plain) plain (same_entry (long_front two.name two.architecture ++ 46 ∷ two.ending) (name ++ 46 ∷ ending) (sym two.long_is ∙ e)) in
      true≢false (sym (has_colon two.name two.architecture) ∙ ap (list_any (λ b. nat_eq b 58)) same.0 ∙ name_free name named 58 refl)

  -- a colon stands in a name with the architecture, and no file is written under it
  ending_plain : (front ending : Path) → is_ending ending ≡ true → (b : Bool) → ends_with nat_eq (front ++ 46 ∷ ending) (codes ".dpkg-inst") ≡ b → b ≡ false
  ending_plain front ending plain false e = refl
  ending_plain front ending plain true e =
      let cut = front_of (front ++ 46 ∷ ending) (codes ".dpkg-inst") e in
      let same = last_dot front cut.0 ending (codes "dpkg-inst") (signs ending plain) refl cut.1 in
      absurd (false≢true (sym (ap not ((bytes_eq-Decides ending (codes "dpkg-inst")).1 same.1)) ∙ (and_parts (are_ending_signs ending) (not (bytes_eq ending (codes "dpkg-inst"))) plain).1))

  colon_front : (name architecture rest : Path) → list_any (λ b. nat_eq b 58) (long_front name architecture ++ rest) ≡ true
  colon_front name architecture rest = list_any-append (λ b. nat_eq b 58) (long_front name architecture) rest ∙ ap (λ t. t || list_any (λ b. nat_eq b 58) rest) (has_colon name architecture)

  pub long_is_long : (l s : Path) (two : AreTwo arches l s) → is_long (long_front two.name two.architecture ++ 46 ∷ two.ending) ≡ true
  long_is_long l s two =
      let entry = long_front two.name two.architecture ++ 46 ∷ two.ending in
      ap (λ t. t && not (ends_with nat_eq entry (codes ".dpkg-inst"))) (colon_front two.name two.architecture (46 ∷ two.ending))
      ∙ ap not (ending_plain (long_front two.name two.architecture) two.ending two.plain (ends_with nat_eq entry (codes ".dpkg-inst")) refl)

  -- where no entry has such a name none stands
  pub short_none : (w : World) → AreShort w → (l s : Path) → AreTwo arches l s → IsSome (w l) → ⊥
  short_none w short l s two some =
      let entry = long_front two.name two.architecture ++ 46 ∷ two.ending in
      true≢false (sym (long_is_long l s two) ∙ short entry (long_plain l s two) (subst (λ (q : Path). IsSome (w q)) two.long_is some))

pub short_names : (w : World) → AreShort w → HaveShortNames w
short_names w short arches (l, s, two, some) = short_none arches w short l s two some
