-- A walk goes on path by path.
use Rattle.std.proofs.Common.{◌≡◌, ◌≢◌, ◌⊎◌, ◌+◌, ◌<◌, Bool, true, false, not, cond, ℕ, zero, suc, List, [], ◌∷◌, ◌++◌, take, length, get_or, arith, Option, Some, None, refl, sym, ap, subst, ◌∙◌, inl, inr}
use Rattle.std.specs.Prelude.{◌||◌, ◌&&◌, IsSome, IsTrue, Contains, codes, MatchBool}
use Rattle.std.specs.Str.{bytes_eq, IsUtf8}
use Rattle.std.proofs.lemmas.Bool.{or_left, or_right, or_cases, false_from_ne_true, false≢true, true≢false}
use Rattle.std.proofs.lemmas.Slice.Eq.{bytes_eq-Decides}
use Rattle.std.proofs.lemmas.List.Folds.{Any-from_list_any, list_any_at, list_any_more}
use Rattle.std.proofs.lemmas.List.Elements.{Contains-append_left, Contains-append_right, Contains-append_cases}
use Rattle.host_core.specs.Paths.{Path, is_path, has_room, is_below_administration}
use Rattle.host_core.specs.Tree.{IsBelow, IsTree, IsListing}
use Rattle.host_core.specs.World.{World, IsDirectory, kind_of}
use Rattle.host_core.specs.declared.node.Kind.{Kind}
use Rattle.host_core.specs.declared.node.Kind.TheVariants as kind
use Rattle.host_core.specs.declared.node.Node.{Node}
use Rattle.host_core.specs.declared.node.Node.TheVariants as node
use Rattle.administration.specs.Directories.{HasBadName}
use Rattle.administration.proofs.Within.{within_is, below_within}
use Rattle.package_tree.specs.Shipped.{is_control, IsBefore, AreInOrder, StandsBeside, IsShipped, AreShipped, IsBadBeside, IsFirstPath, HasNoPath, ArePathTexts}
use Rattle.package_tree.specs.Walk.{is_child_of, is_child, SeesTo, AreChildren, IsBadHere, HasLooked, IsAmid, IsOrderly, Takes}
use Rattle.package_tree.specs.declared.walk.Sight.{Sight}
use Rattle.package_tree.specs.declared.walk.Sight.TheVariants as look
use Rattle.package_tree.proofs.PathOrder.{below_then, descend, before_below, before_then, not_before_itself, none_before_root, in_order_snoc}

-- children of a directory

abbrev debian : Path
debian = codes "/DEBIAN"

-- a path in `DEBIAN` goes on in it
pub control_goes_on : (q : Path) (rest : Path) → is_control q ≡ true → is_control (q ++ 47 ∷ rest) ≡ true
control_goes_on q rest is = elim (within_is debian q is) [
  | inl e ↦ subst (λ (p : Path). is_control (p ++ 47 ∷ rest) ≡ true) (sym e) (below_within debian rest)
  | inr b ↦ (let b2 = below_then debian q (q ++ 47 ∷ rest) b (rest, refl) in subst (λ (p : Path). is_control p ≡ true) (sym b2.1) (below_within debian b2.0))
]

not_control : (q : Path) → (is_control q ≡ true → ⊥) → is_control q ≡ false
not_control q none = false_from_ne_true (is_control q) none

-- what is beside `DEBIAN` lies in nothing that isn't
pub beside_front : (a q : Path) → IsBelow a q → is_control q ≡ false → is_control a ≡ false
beside_front a q below out = not_control a (λ is. true≢false (sym (subst (λ (p : Path). is_control p ≡ true) (sym below.1) (control_goes_on a below.0 is)) ∙ out))

and3 : (a b c : Bool) → a && (not b && c) ≡ true → (a ≡ true) × (b ≡ false) × (c ≡ true)
and3 true true c is = absurd (false≢true is)
and3 true false c is = (refl, refl, is)
and3 false b c is = absurd (false≢true is)

all3 : (a b c : Bool) → a ≡ true → b ≡ false → c ≡ true → a && (not b && c) ≡ true
all3 true true c x y z = absurd (true≢false y)
all3 true false c x y z = z
all3 false b c x y z = absurd (false≢true x)

pub record ChildOf (dir : Path) (names : List Path) (q : Path) : Type 0 where
  pub name : Path
  pub listed : Contains names name
  pub is : dir ++ 47 ∷ name ≡ q
  pub path : is_path q ≡ true
  pub beside : is_control q ≡ false

pub child_of : (dir : Path) (names : List Path) (q : Path) → is_child dir names q ≡ true → ChildOf dir names q
child_of dir names q hit =
    let any = Any-from_list_any (is_child_of dir q) names hit in
    let parts = and3 (is_path q) (is_control q) (bytes_eq (dir ++ 47 ∷ any.1) q) any.4 in
    record { name = any.1; listed = (any.0, any.2, any.3); is = (bytes_eq-Decides (dir ++ 47 ∷ any.1) q).0 parts.2; path = parts.0; beside = parts.1 }

pub listed_child : (dir : Path) (names : List Path) (name : Path) → Contains names name → is_path (dir ++ 47 ∷ name) ≡ true → is_control (dir ++ 47 ∷ name) ≡ false → is_child dir names (dir ++ 47 ∷ name) ≡ true
listed_child dir names name listed path out =
    let q = dir ++ 47 ∷ name in
    list_any_at (is_child_of dir q) names listed.0 name listed.1
    (subst (λ (n : Path). is_child_of dir q n ≡ true) (sym listed.2) (all3 (is_path q) (is_control q) (bytes_eq q q) path out ((bytes_eq-Decides q q).1 refl)))

joined : (a hit o : Bool) → (hit || (a || o)) ≡ ((a || hit) || o)
joined true true o = refl
joined true false o = refl
joined false true o = refl
joined false false o = refl

-- one name more
pub child_added : (dir : Path) (names : List Path) (i : ℕ) (name q : Path) (new mid first : Bool) → i < length names → name ≡ get_or names i name
    → new ≡ (is_child_of dir q name || mid) → mid ≡ (is_child dir (take i names) q || first) → new ≡ (is_child dir (take (i + 1) names) q || first)
child_added dir names i name q new mid first lt is new_is mid_is =
    let more : is_child dir (take (i + 1) names) q ≡ (is_child dir (take i names) q || is_child_of dir q name) =
    list_any_more (is_child_of dir q) names i name lt ∙ ap (λ (n : Path). is_child dir (take i names) q || is_child_of dir q n) (sym is) in
    new_is ∙ ap (λ b. is_child_of dir q name || b) mid_is ∙ joined (is_child dir (take i names) q) (is_child_of dir q name) first ∙ ap (λ t. t || first) (sym more)

-- a name that makes no path, or a path in `DEBIAN`, adds none
pub no_path : (dir name q : Path) (old : Bool) → is_path (dir ++ 47 ∷ name) ≡ false → old ≡ (is_child_of dir q name || old)
no_path dir name q old none = ap (λ b. b || old) (sym (false_from_ne_true (is_child_of dir q name) (λ t.
    (let parts = and3 (is_path q) (is_control q) (bytes_eq (dir ++ 47 ∷ name) q) t in
    true≢false (sym parts.0 ∙ ap is_path (sym ((bytes_eq-Decides (dir ++ 47 ∷ name) q).0 parts.2)) ∙ none)))))

pub in_control : (dir name q path : Path) (told old : Bool) → path ≡ dir ++ 47 ∷ name → told ≡ is_control path → told ≡ true → old ≡ (is_child_of dir q name || old)
in_control dir name q path told old is says within = ap (λ b. b || old) (sym (false_from_ne_true (is_child_of dir q name) (λ t.
    (let parts = and3 (is_path q) (is_control q) (bytes_eq (dir ++ 47 ∷ name) q) t in
    true≢false (sym within ∙ says ∙ ap is_control (is ∙ (bytes_eq-Decides (dir ++ 47 ∷ name) q).0 parts.2) ∙ parts.1)))))

pub cond_or : (b old : Bool) → cond b true old ≡ (b || old)
cond_or true old = refl
cond_or false old = refl

same_test : (p q : Path) → is_path p ≡ true → is_control p ≡ false → (is_path q && (not (is_control q) && bytes_eq p q)) ≡ bytes_eq p q
same_test p q path out = at (bytes_eq p q) refl
  where
    dropped : (a b : Bool) → a && (not b && false) ≡ false
    dropped true true = refl
    dropped true false = refl
    dropped false b = refl

    at : (t : Bool) → bytes_eq p q ≡ t → (is_path q && (not (is_control q) && t)) ≡ t
    at true e = (let same = (bytes_eq-Decides p q).0 e in all3 (is_path q) (is_control q) true (ap is_path (sym same) ∙ path) (ap is_control (sym same) ∙ out) refl)
    at false e = dropped (is_path q) (is_control q)

pub child_inserted : (dir name q path key : Path) (told new old : Bool) → path ≡ dir ++ 47 ∷ name → is_path path ≡ true → told ≡ is_control path → told ≡ false → key ≡ path → new ≡ cond (bytes_eq key q) true old
    → new ≡ (is_child_of dir q name || old)
child_inserted dir name q path key told new old is fits says beside keyed added =
    added ∙ cond_or (bytes_eq key q) old ∙ ap (λ b. b || old)
    (ap (λ (p : Path). bytes_eq p q) (keyed ∙ is) ∙ sym (same_test (dir ++ 47 ∷ name) q (ap is_path (sym is) ∙ fits) (ap is_control (sym is) ∙ sym says ∙ beside)))

-- the names of a listing are all that is to be looked at
pub sees_from_listing : (w : World) (dir : Path) (names : List Path) (bad : Bool) (old new : Path → Bool) → bad ≡ false → IsListing w dir names bad
    → ((q : Path) → new q ≡ (is_child dir names q || old q)) → SeesTo w dir old new
sees_from_listing w dir names bad old new good listing is = record {
  kept = λ q e. is q ∙ or_right (is_child dir names q) (old q) e;
  only = λ q e. elim (or_cases (is_child dir names q) (old q) (sym (is q) ∙ e)) [
    | inr o ↦ inl o
    | inl hit ↦ (let child = child_of dir names q hit in
        inr ((child.name, sym child.is), subst (λ (p : Path). IsSome (w p)) child.is (listing.there child.name child.listed).1))
  ];
  each = λ name plain out here. is (dir ++ 47 ∷ name) ∙ or_left (is_child dir names (dir ++ 47 ∷ name)) (old (dir ++ 47 ∷ name)) (elim (listing.whole name plain here) [
    | inl m ↦ listed_child dir names name m (listing.fits name m) out
    | inr b ↦ absurd (false≢true (sym good ∙ b.1))
  ]);
}

pub none_bad : (w : World) (dir : Path) (names : List Path) (bad : Bool) → bad ≡ false → IsListing w dir names bad → HasBadName w dir → ⊥
none_bad w dir names bad good listing (name, plain, odd, here) = elim (listing.whole name plain here) [
  | inl m ↦ elim odd [ inl no_text ↦ no_text (listing.text name m) | inr no_path ↦ true≢false (sym (listing.fits name m) ∙ no_path) ]
  | inr b ↦ absurd (false≢true (sym good ∙ b.1))
]

pub children_from_listing : (dir : Path) (names : List Path) (old new : Path → Bool) → ((q : Path) → new q ≡ (is_child dir names q || old q)) → AreChildren dir old new
children_from_listing dir names old new is q e = elim (or_cases (is_child dir names q) (old q) (sym (is q) ∙ e)) [
  | inr o ↦ inl o
  | inl hit ↦ (let child = child_of dir names q hit in inr ((child.name, sym child.is), child.path, child.beside))
]

-- in what isn't a directory nothing is to be looked at, and no name is bad
pub sees_nothing : (w : World) (dir : Path) (old : Path → Bool) → IsTree w → (IsDirectory (w dir) → ⊥) → SeesTo w dir old old
sees_nothing w dir old tree none = record {
  kept = λ q e. e;
  only = λ q e. inl e;
  each = λ name plain out here. absurd (none (tree dir name here));
}

pub no_name : (w : World) (dir : Path) → IsTree w → (IsDirectory (w dir) → ⊥) → HasBadName w dir → ⊥
no_name w dir tree none (name, plain, odd, here) = none (tree dir name here)

-- a look at a path

is_dir : (n : Option Node) → kind_of n ≡ Some kind.Directory → IsDirectory n
is_dir None e = absurd (let o : None ≡ Some kind.Directory = e in cc)
is_dir (Some (node.File bytes access)) e = absurd (let o : kind.File ≡ kind.Directory = cc in cc)
is_dir (Some (node.Dir access)) e = (access, refl)
is_dir (Some (node.Link target)) e = absurd (let o : kind.SymbolicLink ≡ kind.Directory = cc in cc)

not_bad_here : (w : World) (q : Path) (told : Bool) → told ≡ has_room q → told ≡ true → (HasBadName w q → ⊥) → IsBadHere w q → ⊥
not_bad_here w q told is room fine bad = elim bad [ inl narrow ↦ true≢false (sym room ∙ is ∙ narrow) | inr name ↦ fine name ]

pub looked_shut : (w : World) (q : Path) (told dir : Bool) (found : Option Kind) (old : Path → Bool) → IsTree w → told ≡ has_room q → told ≡ true → found ≡ kind_of (w q) → (found ≡ Some kind.Directory → IsTrue dir) → dir ≡ false
    → HasLooked w q old old look.Shipped
looked_shut w q told dir found old tree is room same says shut =
    let none : IsDirectory (w q) → ⊥ = λ d. true≢false (sym (says (same ∙ ap kind_of d.1)) ∙ shut) in
    (not_bad_here w q told is room (no_name w q tree none), sees_nothing w q old tree none, λ out. none out.0)

seen_fine : (v w : World) (q : Path) (bad : Bool) (old new : Path → Bool) → v ≡ w → bad ≡ false → MatchBool bad (HasBadName v q) ((HasBadName v q → ⊥) × SeesTo v q old new) → (HasBadName w q → ⊥) × SeesTo w q old new
seen_fine v w q true old new same fine says = absurd (true≢false fine)
seen_fine v w q false old new same fine says = subst (λ (x : World). (HasBadName x q → ⊥) × SeesTo x q old new) same says

pub looked_open : (v w : World) (q : Path) (told bad below : Bool) (old new : Path → Bool) → v ≡ w → told ≡ has_room q → told ≡ true → bad ≡ false → MatchBool bad (HasBadName v q) ((HasBadName v q → ⊥) × SeesTo v q old new)
    → below ≡ is_below_administration q → below ≡ false → HasLooked w q old new look.Shipped
looked_open v w q told bad below old new same is room fine says under beside =
    let seen = seen_fine v w q bad old new same fine says in
    (not_bad_here w q told is room seen.0, seen.1, λ out. true≢false (sym out.1 ∙ sym under ∙ beside))

pub looked_left_out : (v w : World) (q : Path) (told bad below dir : Bool) (found : Option Kind) (old new : Path → Bool) → v ≡ w → told ≡ has_room q → told ≡ true → bad ≡ false
    → MatchBool bad (HasBadName v q) ((HasBadName v q → ⊥) × SeesTo v q old new) → below ≡ is_below_administration q → below ≡ true → found ≡ kind_of (w q) → (IsTrue dir → found ≡ Some kind.Directory) → dir ≡ true
    → HasLooked w q old new look.LeftOut
looked_left_out v w q told bad below dir found old new same is room fine says under within kept says_dir yes_dir =
    let seen = seen_fine v w q bad old new same fine says in
    (not_bad_here w q told is room seen.0, seen.1, (is_dir (w q) (sym kept ∙ says_dir yes_dir), sym under ∙ within))

-- the walk

same_at : (p q : Path) (C : Type 0) (t : Bool) → bytes_eq p q ≡ t → (p ≡ q → C) → (p ≢ q → C) → C
same_at p q C true e alike apart = alike ((bytes_eq-Decides p q).0 e)
same_at p q C false e alike apart = apart (λ s. false≢true (sym e ∙ (bytes_eq-Decides p q).1 s))

pub same_or_not : (p q : Path) (C : Type 0) → (p ≡ q → C) → (p ≢ q → C) → C
same_or_not p q C alike apart = same_at p q C (bytes_eq p q) refl alike apart

pub none_here : (q : Path) → Contains [] q → ⊥
none_here q (n, lt, is) = absurd (omega (arith, lt))

pub orderly_start : (old todo : Path → Bool) → ((q : Path) → old q ≡ false) → AreChildren [] old todo → IsOrderly [] todo
orderly_start old todo none children = record {
  paths = λ q e. elim (children q e) [ inl o ↦ absurd (false≢true (sym (none q) ∙ o)) | inr c ↦ c.1 ];
  beside = λ q e. elim (children q e) [ inl o ↦ absurd (false≢true (sym (none q) ∙ o)) | inr c ↦ c.2 ];
  order = λ p q here e. absurd (none_here p here);
}

pub amid_start : (w : World) (old todo : Path → Bool) → IsTree w → ((q : Path) → old q ≡ false) → (HasBadName w [] → ⊥) → SeesTo w [] old todo → AreChildren [] old todo → IsAmid w [] todo
amid_start w old todo tree none fine sees children = record {
  sound = λ q here. absurd (none_here q here);
  ahead = λ q e. elim (sees.only q e) [
    | inl o ↦ absurd (false≢true (sym (none q) ∙ o))
    | inr b ↦ record { below = b.0; beside = (orderly_start old todo none children).beside q e; there = b.1 }
  ];
  covered = λ q stands.
      (let t = descend w [] q tree stands.below stands.there in
      let out : is_control (47 ∷ t.name) ≡ false = elim t.ends [ inl e ↦ subst (λ (p : Path). is_control p ≡ false) e stands.beside | inr b ↦ beside_front (47 ∷ t.name) q b stands.beside ] in
      inr (47 ∷ t.name, sees.each t.name t.plain out t.there, t.ends));
  root = fine;
}

-- the least path was looked at, and is done with
pub record Took (path : Path) (todo rest : Path → Bool) : Type 0 where
  pub popped : todo path ≡ true
  pub less : (q : Path) → rest q ≡ cond (bytes_eq path q) false (todo q)
  pub above : (q : Path) → rest q ≡ true → IsBefore path q

left : (b x : Bool) → cond b false x ≡ true → x ≡ true
left true x e = absurd (false≢true e)
left false x e = e

in_todo : (path : Path) (todo rest : Path → Bool) → Took path todo rest → (q : Path) → rest q ≡ true → todo q ≡ true
in_todo path todo rest took q e = left (bytes_eq path q) (todo q) (sym (took.less q) ∙ e)

in_rest : (path : Path) (todo rest : Path → Bool) → Took path todo rest → (q : Path) → todo q ≡ true → path ≢ q → rest q ≡ true
in_rest path todo rest took q e ne = took.less q ∙ ap (λ b. cond b false (todo q)) (false_from_ne_true (bytes_eq path q) (λ t. ne ((bytes_eq-Decides path q).0 t))) ∙ e

-- what is to be looked at later comes after the path
after_path : (path : Path) (todo rest later : Path → Bool) → Took path todo rest → AreChildren path rest later → (q : Path) → later q ≡ true → IsBefore path q
after_path path todo rest later took children q e = elim (children q e) [ inl o ↦ took.above q o | inr c ↦ before_below path q c.0 ]

in_snoc : (found : List Path) (path p : Path) → Contains (found ++ path ∷ []) p → Contains found p ⊎ (path ≡ p)
in_snoc found path p here = elim (Contains-append_cases found (path ∷ []) p here) [
  | inl old ↦ inl old
  | inr (n, lt, is) ↦ inr (last_at n lt is)
]
  where
    last_at : (n : ℕ) → n < 1 → get_or (path ∷ []) n p ≡ p → path ≡ p
    last_at zero lt is = is
    last_at (suc n) lt is = absurd (omega (arith, lt))

pub orderly_on : (found : List Path) (path : Path) (todo rest later : Path → Bool) → IsOrderly found todo → Took path todo rest → AreChildren path rest later → IsOrderly found later
orderly_on found path todo rest later orderly took children = record {
  paths = λ q e. elim (children q e) [ inl o ↦ orderly.paths q (in_todo path todo rest took q o) | inr c ↦ c.1 ];
  beside = λ q e. elim (children q e) [ inl o ↦ orderly.beside q (in_todo path todo rest took q o) | inr c ↦ c.2 ];
  order = λ p q here e. before_then p path q (orderly.order p path here took.popped) (after_path path todo rest later took children q e);
}

pub orderly_found : (found : List Path) (path : Path) (todo rest later : Path → Bool) → IsOrderly found todo → Took path todo rest → AreChildren path rest later → IsOrderly (found ++ path ∷ []) later
orderly_found found path todo rest later orderly took children =
    let on = orderly_on found path todo rest later orderly took children in
    record {
      paths = on.paths;
      beside = on.beside;
      order = λ p q here e. elim (in_snoc found path p here) [
        | inl old ↦ on.order p q old e
        | inr same ↦ subst (λ (x : Path). IsBefore x q) same (after_path path todo rest later took children q e)
      ];
    }

pub in_order_found : (found : List Path) (path : Path) (todo rest : Path → Bool) → IsOrderly found todo → AreInOrder found → Took path todo rest → AreInOrder (found ++ path ∷ [])
in_order_found found path todo rest orderly order took = in_order_snoc found path order (λ p here. orderly.order p path here took.popped)

-- the walk goes on where nothing was wrong
amid_on : (w : World) (found next : List Path) (path : Path) (todo rest later : Path → Bool) → IsTree w → IsAmid w found todo → IsOrderly found todo → Took path todo rest → AreChildren path rest later
    → SeesTo w path rest later → (IsBadHere w path → ⊥) → ((q : Path) → Contains next q → Contains found q ⊎ ((path ≡ q) × IsShipped w q)) → ((q : Path) → Contains found q → Contains next q) → (IsShipped w path → Contains next path)
    → IsAmid w next later
amid_on w found next path todo rest later tree amid orderly took children sees fine only kept here = record {
  sound = λ q there. elim (only q there) [ inl old ↦ amid.sound q old | inr new ↦ new.1 ];
  ahead = λ q e. elim (sees.only q e) [
    | inl o ↦ amid.ahead q (in_todo path todo rest took q o)
    | inr b ↦ record {
      below = below_then [] path q (amid.ahead path took.popped).below b.0;
      beside = (orderly_on found path todo rest later orderly took children).beside q e;
      there = b.1;
    }
  ];
  covered = λ q stands.
      (let Goal = ((IsShipped w q → Contains next q) × (IsBadHere w q → ⊥)) ⊎ ((a : Path) × (later a ≡ true) × ((q ≡ a) ⊎ IsBelow a q)) in
      elim (amid.covered q stands) [
        | inl done ↦ inl ((λ s. kept q (done.0 s)), done.1)
        | inr a ↦ same_or_not path a.0 Goal
            (λ s. elim a.2 [
              | inl e ↦ (let is : path ≡ q = s ∙ sym e in
                  inl (subst (λ (x : Path). (IsShipped w x → Contains next x) × (IsBadHere w x → ⊥)) is (here, fine)))
              | inr b ↦ (let b2 = subst (λ (p : Path). IsBelow p q) (sym s) b in
                  let t = descend w path q tree b2 stands.there in
                  let out : is_control (path ++ 47 ∷ t.name) ≡ false = elim t.ends [
                    | inl e ↦ subst (λ (p : Path). is_control p ≡ false) e stands.beside
                    | inr c ↦ beside_front (path ++ 47 ∷ t.name) q c stands.beside
                  ] in
                  inr (path ++ 47 ∷ t.name, sees.each t.name t.plain out t.there, t.ends))
            ])
            (λ ne. inr (a.0, sees.kept a.0 (in_rest path todo rest took a.0 a.1 ne), a.2))
      ]);
  root = amid.root;
}

pub amid_found : (w : World) (found : List Path) (path : Path) (todo rest later : Path → Bool) → IsTree w → IsAmid w found todo → IsOrderly found todo → Took path todo rest → AreChildren path rest later
    → HasLooked w path rest later look.Shipped → IsAmid w (found ++ path ∷ []) later
amid_found w found path todo rest later tree amid orderly took children looked =
    let shipped : IsShipped w path = record { stands = amid.ahead path took.popped; taken = looked.2 } in
    let last : Contains (found ++ path ∷ []) path = Contains-append_right found (path ∷ []) path (0, omega arith, refl) in
    amid_on w found (found ++ path ∷ []) path todo rest later tree amid orderly took children looked.1 looked.0
    (λ q there. elim (in_snoc found path q there) [ inl old ↦ inl old | inr same ↦ inr (same, subst (IsShipped w) same shipped) ])
    (λ q there. Contains-append_left found (path ∷ []) q there)
    (λ s. last)

pub amid_left_out : (w : World) (found : List Path) (path : Path) (todo rest later : Path → Bool) → IsTree w → IsAmid w found todo → IsOrderly found todo → Took path todo rest → AreChildren path rest later
    → HasLooked w path rest later look.LeftOut → IsAmid w found later
amid_left_out w found path todo rest later tree amid orderly took children looked =
    amid_on w found found path todo rest later tree amid orderly took children looked.1 looked.0 (λ q there. inl there) (λ q there. there) (λ s. absurd (s.taken looked.2))

-- one path more was looked at

pub amid_next : (w : World) (found next : List Path) (path : Path) (todo rest later : Path → Bool) (sight : Sight) → IsTree w → IsAmid w found todo → IsOrderly found todo → Took path todo rest → AreChildren path rest later
    → (sight ≡ look.Bad → ⊥) → HasLooked w path rest later sight → Takes found path sight next → IsAmid w next later
amid_next w found next path todo rest later look.Bad tree amid orderly took children fine looked takes = absurd (fine refl)
amid_next w found next path todo rest later look.Shipped tree amid orderly took children fine looked takes =
    subst (λ (l : List Path). IsAmid w l later) (sym takes) (amid_found w found path todo rest later tree amid orderly took children looked)
amid_next w found next path todo rest later look.LeftOut tree amid orderly took children fine looked takes =
    subst (λ (l : List Path). IsAmid w l later) (sym takes) (amid_left_out w found path todo rest later tree amid orderly took children looked)

pub orderly_next : (found next : List Path) (path : Path) (todo rest later : Path → Bool) (sight : Sight) → IsOrderly found todo → Took path todo rest → AreChildren path rest later → Takes found path sight next → IsOrderly next later
orderly_next found next path todo rest later look.Bad orderly took children takes = subst (λ (l : List Path). IsOrderly l later) (sym takes) (orderly_on found path todo rest later orderly took children)
orderly_next found next path todo rest later look.Shipped orderly took children takes = subst (λ (l : List Path). IsOrderly l later) (sym takes) (orderly_found found path todo rest later orderly took children)
orderly_next found next path todo rest later look.LeftOut orderly took children takes = subst (λ (l : List Path). IsOrderly l later) (sym takes) (orderly_on found path todo rest later orderly took children)

pub in_order_next : (found next : List Path) (path : Path) (todo rest : Path → Bool) (sight : Sight) → IsOrderly found todo → AreInOrder found → Took path todo rest → Takes found path sight next → AreInOrder next
in_order_next found next path todo rest look.Bad orderly order took takes = subst AreInOrder (sym takes) order
in_order_next found next path todo rest look.Shipped orderly order took takes = subst AreInOrder (sym takes) (in_order_found found path todo rest orderly order took)
in_order_next found next path todo rest look.LeftOut orderly order took takes = subst AreInOrder (sym takes) order

pub texts_next : (found next : List Path) (path : Path) (sight : Sight) → ArePathTexts found → IsUtf8 path → is_path path ≡ true → Takes found path sight next → ArePathTexts next
texts_next found next path look.Bad texts text is takes = subst ArePathTexts (sym takes) texts
texts_next found next path look.Shipped texts text is takes = subst ArePathTexts (sym takes) (λ q here. elim (in_snoc found path q here) [
  | inl old ↦ texts q old
  | inr same ↦ subst (λ (p : Path). IsUtf8 p × (is_path p ≡ true)) same (text, is)
])
texts_next found next path look.LeftOut texts text is takes = subst ArePathTexts (sym takes) texts

-- the first bad path is met first
pub first_bad : (w : World) (found : List Path) (path : Path) (todo rest : Path → Bool) → IsAmid w found todo → Took path todo rest → IsBadHere w path → IsFirstPath (IsBadBeside w) path
first_bad w found path todo rest amid took bad = record {
  holds = inr (amid.ahead path took.popped, bad);
  first = λ q is before. elim is [
    | inl root ↦ amid.root root.1
    | inr other ↦ elim (amid.covered q other.0) [
      | inl done ↦ done.1 other.1
      | inr a ↦ same_or_not path a.0 ⊥
          (λ s. not_before_itself path (elim a.2 [
            | inl e ↦ subst (λ (x : Path). IsBefore x path) (e ∙ sym s) before
            | inr b ↦ before_then path q path (before_below path q (subst (λ (p : Path). IsBelow p q) (sym s) b)) before
          ]))
          (λ ne. (let later = took.above a.0 (in_rest path todo rest took a.0 a.1 ne) in
          not_before_itself path (elim a.2 [
            | inl e ↦ before_then path q path (subst (IsBefore path) (sym e) later) before
            | inr b ↦ before_then path a.0 path later (before_then a.0 q path (before_below a.0 q b) before)
          ])))
    ]
  ];
}

pub root_first : (w : World) → HasBadName w [] → IsFirstPath (IsBadBeside w) []
root_first w bad = record { holds = inl (refl, bad); first = λ q is before. none_before_root q before }

-- what the look at the root told
pub start_seen : (w : World) (root : Path) (bad : Bool) (old new : Path → Bool) → root ≡ [] → bad ≡ false → MatchBool bad (HasBadName w root) ((HasBadName w root → ⊥) × SeesTo w root old new) → (HasBadName w [] → ⊥) × SeesTo w [] old new
start_seen w root true old new is fine says = absurd (true≢false fine)
start_seen w root false old new is fine says = subst (λ (p : Path). (HasBadName w p → ⊥) × SeesTo w p old new) is says

pub start_bad : (w : World) (root : Path) (bad : Bool) (old new : Path → Bool) → root ≡ [] → bad ≡ true → MatchBool bad (HasBadName w root) ((HasBadName w root → ⊥) × SeesTo w root old new) → IsFirstPath (IsBadBeside w) root
start_bad w root true old new is bad says = subst (IsFirstPath (IsBadBeside w)) (sym is) (root_first w (subst (HasBadName w) is says))
start_bad w root false old new is bad says = absurd (false≢true bad)

-- what the look at the path that was taken told
pub path_bad : (w v : World) (found : List Path) (path text : Path) (todo rest later : Path → Bool) (sight : Sight) (told : Bool) → v ≡ w → path ≡ text → IsAmid w found todo → Took text todo rest → told ≡ true
    → MatchBool told (sight ≡ look.Bad) (sight ≡ look.Bad → ⊥) → HasLooked v path rest later sight → IsFirstPath (IsBadBeside w) path
path_bad w v found path text todo rest later sight true same is amid took bad says looked =
    let here : IsBadHere w text = subst (λ (p : Path). IsBadHere w p) is (subst (λ (x : World). IsBadHere x path) same (subst (HasLooked v path rest later) says looked)) in
    subst (IsFirstPath (IsBadBeside w)) (sym is) (first_bad w found text todo rest amid took here)
path_bad w v found path text todo rest later sight false same is amid took bad says looked = absurd (false≢true bad)

pub path_fine : (w v : World) (found next : List Path) (path text : Path) (todo rest later : Path → Bool) (sight : Sight) (told : Bool) → IsTree w → v ≡ w → path ≡ text → IsAmid w found todo → IsOrderly found todo → Took text todo rest
    → told ≡ false → MatchBool told (sight ≡ look.Bad) (sight ≡ look.Bad → ⊥) → HasLooked v path rest later sight → AreChildren path rest later → Takes found path sight next → IsAmid w next later
path_fine w v found next path text todo rest later sight true tree same is amid orderly took fine says looked children takes = absurd (true≢false fine)
path_fine w v found next path text todo rest later sight false tree same is amid orderly took fine says looked children takes =
    amid_next w found next text todo rest later sight tree amid orderly took (subst (λ (p : Path). AreChildren p rest later) is children) says
    (subst (λ (p : Path). HasLooked w p rest later sight) is (subst (λ (x : World). HasLooked x path rest later sight) same looked))
    (subst (λ (p : Path). Takes found p sight next) is takes)

-- where nothing is left to be looked at, all was
pub all_done : (w : World) (found : List Path) (todo : Path → Bool) → IsAmid w found todo → AreInOrder found → ((q : Path) → todo q ≡ false) → HasNoPath (IsBadBeside w) × AreShipped w found
all_done w found todo amid order none =
    let done : (q : Path) → StandsBeside w q → (IsShipped w q → Contains found q) × (IsBadHere w q → ⊥) = λ q stands.
    elim (amid.covered q stands) [ inl d ↦ d | inr a ↦ absurd (false≢true (sym (none a.0) ∙ a.1)) ] in (
      (λ q is. elim is [ inl root ↦ amid.root root.1 | inr other ↦ (done q other.0).1 other.1 ]),
      record { only = amid.sound; whole = λ q s. (done q s.stands).0 s; order = order },
    )
