-- Looks that show the same.
use Rattle.std.proofs.Common.{◌≡◌, ◌↔◌, ◌<◌, inl, inr, ℕ, Bool, true, false, cond, List, take, length, get_or, refl, sym, ap, subst, ◌∙◌, Contains, Option, Some, None, Result, Ok, Err, IsErrAnd, IsTrue}
use Rattle.std.specs.List.{list_any}
use Rattle.std.specs.Str.{bytes_eq}
use Rattle.std.proofs.lemmas.Bool.{false≢true, true≢false}
use Rattle.std.proofs.lemmas.Cmp.{nat_list_eq_equiv}
use Rattle.std.proofs.lemmas.List.Elements.{All-contains_itself}
use Rattle.std.proofs.lemmas.List.Sums.{AllPass-from_list_all, list_all-from_AllPass}
use Rattle.std.proofs.lemmas.Slice.Eq.{bytes_eq-Decides}
use Rattle.std.proofs.lemmas.List.Folds.{list_any_more, list_any_at}
use Rattle.std.proofs.lemmas.Map.Views.{Contains-from_any}
use Rattle.host_core.proofs.Counted.{fault_behind, no_fault_then}
use Rattle.host_core.proofs.Moments.{reads_then, silent_then}
use Rattle.host_core.proofs.Nodes.{same_node_is, same_node_itself}
use Rattle.host_core.specs.Host.{Counts, State}
use Rattle.host_core.specs.Looks.{Looks}
use Rattle.host_core.specs.Paths.{Path}
use Rattle.host_core.specs.declared.fault.HostFault.{HostFault}
use Rattle.host_core.specs.Tree.{IsListing, IsOdd}
use Rattle.host_core.specs.World.{World}
use Rattle.host_core.specs.declared.listing.Listing.{Listing}
use Rattle.host_core.specs.declared.node.Node.{Node}
use Rattle.administration.specs.Places.{info_path, updates_path}
use Rattle.inquiries.specs.Glances.{IsGlance, IsInside, IsSame, HaveSame, has_all, same_standing}
use Rattle.inquiries.specs.declared.glance.Glance.{Glance}

-- what stands at a path

pub standing_is : (n m : Option Node) → same_standing n m ≡ true → n ≡ m
standing_is None None is = refl
standing_is None (Some m) is = absurd (false≢true is)
standing_is (Some n) None is = absurd (false≢true is)
standing_is (Some n) (Some m) is = ap (λ (x : Node). Some x) (same_node_is n m is)

standing_itself : (n : Option Node) → same_standing n n ≡ true
standing_itself None = refl
standing_itself (Some node) = same_node_itself node

pub is_standing : (n m : Option Node) → n ≡ m → same_standing n m ≡ true
is_standing n m e = subst (λ o. same_standing n o ≡ true) e (standing_itself n)

-- names of one list among those of another

contains_any : (names : List Path) (name : Path) → Contains names name → list_any (bytes_eq name) names ≡ true
contains_any names name has = list_any_at (bytes_eq name) names has.0 name has.1 ((bytes_eq-Decides name (get_or names has.0 name)).1 (sym has.2))

any_contains : (names : List Path) (name : Path) → list_any (bytes_eq name) names ≡ true → Contains names name
any_contains names name is = Contains-from_any (λ x y e. (bytes_eq-Decides x y).0 e) name names is

pub all_there : (names others : List Path) → has_all names others ≡ true → (name : Path) → Contains others name → Contains names name
all_there names others is name has =
    let found = AllPass-from_list_all (λ n. list_any (bytes_eq n) names) others is has.0 name has.1 in
    subst (Contains names) has.2 (any_contains names (get_or others has.0 name) found)

pub there_all : (names others : List Path) → ((name : Path) → Contains others name → Contains names name) → has_all names others ≡ true
there_all names others there =
    list_all-from_AllPass (λ n. list_any (bytes_eq n) names) others (λ i d lt. contains_any names (get_or others i d) (there (get_or others i d) (All-contains_itself others i d lt)))

pub have_same : (one other : Listing) (y : Bool) → one.bad ≡ other.bad → has_all one.names other.names ≡ true → y ≡ has_all other.names one.names → IsTrue y ↔ HaveSame one other
have_same one other y bad there is = (
  λ t. (bad, λ name. (all_there other.names one.names (sym is ∙ t) name, all_there one.names other.names there name)),
  λ same. is ∙ there_all other.names one.names (λ name. (same.1 name).0),
)

pub not_same : (one other : Listing) (x : Bool) → x ≡ has_all one.names other.names → x ≡ false → IsTrue x ↔ HaveSame one other
not_same one other x is fails = (
  λ t. absurd (true≢false (sym t ∙ fails)),
  λ same. is ∙ there_all one.names other.names (λ name. (same.1 name).1),
)

-- two looks into a directory

not_odd : (w : World) (path : Path) (names : List Path) (bad : Bool) → IsListing w path names bad → (name : Path) → Contains names name → IsOdd path name → ⊥
not_odd w path names bad listing name has odd = elim odd [ inl text ↦ text (listing.text name has) | inr fits ↦ true≢false (sym (listing.fits name has) ∙ fits) ]

goes_over : (w : World) (path : Path) (names others : List Path) (bad worse : Bool) → IsListing w path names bad → IsListing w path others worse → (name : Path) → Contains names name → Contains others name
goes_over w path names others bad worse one other name has =
    let there = one.there name has in
    elim (other.whole name there.0 there.1) [ inl found ↦ found | inr odd ↦ absurd (not_odd w path names bad one name has odd.0) ]

bad_over : (w : World) (path : Path) (names others : List Path) (bad worse : Bool) → IsListing w path names bad → IsListing w path others worse → IsTrue bad → IsTrue worse
bad_over w path names others bad worse one other is =
    let faulty = one.faulty is in
    elim (other.whole faulty.0 faulty.1 faulty.3) [ inl found ↦ absurd (not_odd w path others worse other faulty.0 found faulty.2) | inr odd ↦ odd.1 ]

both_or_none : (a b : Bool) → (IsTrue a → IsTrue b) → (IsTrue b → IsTrue a) → a ≡ b
both_or_none true true f g = refl
both_or_none true false f g = absurd (false≢true (f refl))
both_or_none false true f g = absurd (false≢true (g refl))
both_or_none false false f g = refl

same_listing : (w : World) (path : Path) (one other : Listing) → IsListing w path one.names one.bad → IsListing w path other.names other.bad → HaveSame one other
same_listing w path one other a b = (
  both_or_none one.bad other.bad (bad_over w path one.names other.names one.bad other.bad a b) (bad_over w path other.names one.names other.bad one.bad b a),
  λ name. (goes_over w path one.names other.names one.bad other.bad a b name, goes_over w path other.names one.names other.bad one.bad b a name),
)

same_inside : (info : Bool) (w : World) (path : Path) (one other : Listing) → IsInside info w path one → IsInside info w path other → HaveSame one other
same_inside true w path one other a b = same_listing w path one other a b
same_inside false w path one other a b = (a.1 ∙ sym b.1, λ name. (subst (λ l. Contains l name) (a.0 ∙ sym b.0), subst (λ l. Contains l name) (b.0 ∙ sym a.0)))

-- two looks at one world show the same
pub one_world : (info : Bool) (w : World) (one other : Glance) → IsGlance info w one → IsGlance info w other → IsSame one other
one_world info w one other a b = record {
  status = a.status ∙ sym b.status;
  updates = same_listing w updates_path one.updates other.updates a.names.0 b.names.0;
  info = same_inside info w info_path one.info other.info a.names.1 b.names.1;
}

-- looks one after another

pub looked_err : {T U V : Type 0} (x : T) (fault : HostFault) (result : Result V HostFault) (P : T → World → Type 0) (Q : U → World → Type 0) (R : V → World → Type 0) (a b c : State)
    → Looks (Ok x) P a b → Looks {T = U} (Err fault) Q b c → IsErrAnd result (λ e. e ≡ fault) → Looks result R a c
looked_err {T} {U} {V} x fault (Ok z) P Q R a b c first second is = absurd is
looked_err {T} {U} {V} x fault (Err told) P Q R a b c first second is = record {
  found = λ h. tt;
  reads = reads_then a b c first.reads second.reads;
  silent = silent_then a b c first.silent second.silent;
  counts = subst (λ f. Counts {T = V} a c (Err f)) (sym is) (fault_behind U V a b c fault first.counts second.counts);
}

pub looked_then : {T U V : Type 0} (x : T) (y : U) (z : V) (P : T → World → Type 0) (Q : U → World → Type 0) (R : V → World → Type 0) (a b c : State)
    → Looks (Ok x) P a b → Looks (Ok y) Q b c → ((w : World) → P x w → Q y w → R z w) → Looks (Ok z) R a c
looked_then x y z P Q R a b c first second so = record {
  found = λ h. so a.world (first.found (second.reads.honest h)) (subst (Q y) first.reads.world (second.found h));
  reads = reads_then a b c first.reads second.reads;
  silent = silent_then a b c first.silent second.silent;
  counts = no_fault_then a b c first.counts second.counts;
}
