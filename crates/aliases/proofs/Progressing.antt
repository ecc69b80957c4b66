-- Directories on a way that are looked at one after another.
use Rattle.std.proofs.Common.{◌≡◌, ◌≢◌, inl, inr, ◌||◌, ◌&&◌, ℕ, Bool, true, false, IsTrue, cond, List, [], ◌∷◌, ◌++◌, nat_eq, Option, Some, None, is_some, refl, sym, ap, subst, ◌∙◌, append_assoc}
use Rattle.std.specs.Prelude.{MatchOption}
use Rattle.std.specs.List.{AllByRecursion}
use Rattle.std.specs.Str.{bytes_eq}
use Rattle.std.proofs.lemmas.Bool.{or_parts, true≢false, false≢true, false_from_ne_true, or_right}
use Rattle.std.proofs.lemmas.List.{append-nil}
use Rattle.std.proofs.lemmas.Slice.Eq.{bytes_eq-Decides}
use Rattle.host_core.specs.Paths.{Path}
use Rattle.host_core.specs.Tree.{has_slash, IsBelow}
use Rattle.host_core.specs.World.{World}
use Rattle.aliases.specs.Aliases.{Alias, is_alias, led, gone, way_from, way_to}
use Rattle.aliases.specs.Links.{node_at, leads_to}
use Rattle.aliases.specs.Table.{is_place}
use Rattle.aliases.specs.Reading.{is_link, or_itself, led_in, IsAliasIn, AreAliasesIn, StandsAbove, IsWhole, Grows}
use Rattle.aliases.specs.Ways.{is_linked, IsSettled, Looked, settled, found, HasLooked}
use Rattle.aliases.proofs.Following.{led_free, way_more, way_plain, way_name}
use Rattle.aliases.proofs.Kept.{alias_more}

-- lists

all_more : {X : Type 0} (P : X → Type 0) (xs : List X) (ys : List X) → AllByRecursion P xs → AllByRecursion P ys → AllByRecursion P (xs ++ ys)
all_more P [] ys first second = second
all_more P (x ∷ xs) ys first second = (first.0, all_more P xs ys first.1 second)

all_weaker : {X : Type 0} (P Q : X → Type 0) (xs : List X) → ((x : X) → P x → Q x) → AllByRecursion P xs → AllByRecursion Q xs
all_weaker P Q [] so each = tt
all_weaker P Q (x ∷ xs) so each = (so x each.0, all_weaker P Q xs so each.1)

-- what holds of each directory on a way

abbrev WaysHave : (Path → Type 0) → List Alias → Path → List ℕ → Type 0
WaysHave P aliases way [] = Unit {0}
WaysHave P aliases way (x ∷ rest) = (nat_eq x 47 ≡ true → P way) × WaysHave P aliases (gone aliases way x) rest

have_more : (P : Path → Type 0) (aliases : List Alias) (way : Path) (a b : List ℕ) → WaysHave P aliases way a → WaysHave P aliases (way_from aliases way a) b → WaysHave P aliases way (a ++ b)
have_more P aliases way [] b first second = second
have_more P aliases way (x ∷ a) b first second = (first.0, have_more P aliases (gone aliases way x) a b first.1 second)

have_front : (P : Path → Type 0) (aliases : List Alias) (way : Path) (a b : List ℕ) → WaysHave P aliases way (a ++ b) → WaysHave P aliases way a
have_front P aliases way [] b all = tt
have_front P aliases way (x ∷ a) b all = (all.0, have_front P aliases (gone aliases way x) a b all.1)

have_back : (P : Path → Type 0) (aliases : List Alias) (way : Path) (a b : List ℕ) → WaysHave P aliases way (a ++ b) → WaysHave P aliases (way_from aliases way a) b
have_back P aliases way [] b all = all
have_back P aliases way (x ∷ a) b all = have_back P aliases (gone aliases way x) a b all.1

have_weaker : (P Q : Path → Type 0) (aliases : List Alias) (way : Path) (rest : List ℕ) → ((p : Path) → P p → Q p) → WaysHave P aliases way rest → WaysHave Q aliases way rest
have_weaker P Q aliases way [] so all = tt
have_weaker P Q aliases way (x ∷ rest) so all = (λ slash. so way (all.0 slash), have_weaker P Q aliases (gone aliases way x) rest so all.1)

have_plain : (P : Path → Type 0) (aliases : List Alias) (way name : Path) → has_slash name ≡ false → WaysHave P aliases way name
have_plain P aliases way [] plain = tt
have_plain P aliases way (x ∷ name) plain =
    let parts = or_parts (nat_eq x 47) (has_slash name) plain in
    (λ slash. absurd (true≢false (sym slash ∙ parts.0)), have_plain P aliases (gone aliases way x) name parts.1)

-- aliases that lead the directories on a way alike

gone_alike : (old new : List Alias) (way : Path) (x : ℕ) → (nat_eq x 47 ≡ true → led new way ≡ led old way) → gone new way x ≡ gone old way x
gone_alike old new way x alike = at (nat_eq x 47) alike
  where
    at : (b : Bool) → (b ≡ true → led new way ≡ led old way) → cond b (led new way ++ 47 ∷ []) (way ++ x ∷ []) ≡ cond b (led old way ++ 47 ∷ []) (way ++ x ∷ [])
    at true same = ap (λ (p : Path). p ++ 47 ∷ []) (same refl)
    at false same = refl

way_alike : (old new : List Alias) (way : Path) (rest : List ℕ) → WaysHave (λ p. led new p ≡ led old p) old way rest → way_from new way rest ≡ way_from old way rest
way_alike old new way [] all = refl
way_alike old new way (x ∷ rest) all = ap (λ (p : Path). way_from new p rest) (gone_alike old new way x all.0) ∙ way_alike old new (gone old way x) rest all.1

have_alike : (P : Path → Type 0) (old new : List Alias) (way : Path) (rest : List ℕ) → WaysHave (λ p. (led new p ≡ led old p) × P p) old way rest → WaysHave P new way rest
have_alike P old new way [] all = tt
have_alike P old new way (x ∷ rest) all = (
  λ slash. (all.0 slash).1,
  subst (λ (p : Path). WaysHave P new p rest) (sym (gone_alike old new way x (λ slash. (all.0 slash).0))) (have_alike P old new (gone old way x) rest all.1),
)

-- an alias more, where the directories so far are settled

led_first : (aliases : List Alias) (a : Alias) (p : Path) → is_alias aliases p ≡ true → led (aliases ++ a ∷ []) p ≡ led aliases p
led_first [] a p is = absurd (false≢true is)
led_first (b ∷ aliases) a p is = at (bytes_eq p b.place) is (led_first aliases a p)
  where
    at : (t : Bool) → t || is_alias aliases p ≡ true → (is_alias aliases p ≡ true → led (aliases ++ a ∷ []) p ≡ led aliases p) → cond t b.target (led (aliases ++ a ∷ []) p) ≡ cond t b.target (led aliases p)
    at true there later = refl
    at false there later = later there

led_other : (aliases : List Alias) (a : Alias) (p : Path) → bytes_eq p a.place ≡ false → led (aliases ++ a ∷ []) p ≡ led aliases p
led_other [] a p other = ap (λ t. cond t a.target p) other
led_other (b ∷ aliases) a p other = ap (λ (q : Path). cond (bytes_eq p b.place) b.target q) (led_other aliases a p other)

pub settled_more : (w : World) (aliases : List Alias) (a : Alias) (p : Path) → is_linked w a.place ≡ true → IsSettled w aliases p → (led (aliases ++ a ∷ []) p ≡ led aliases p) × IsSettled w (aliases ++ a ∷ []) p
settled_more w aliases a p linked (inl is) = (led_first aliases a p is, inl (alias_more aliases a p ∙ ap (λ t. t || (bytes_eq p a.place || false)) is))
settled_more w aliases a p linked (inr none) =
    (led_other aliases a p (false_from_ne_true (bytes_eq p a.place) (λ same. true≢false (sym linked ∙ sym (ap (is_linked w) ((bytes_eq-Decides p a.place).0 same)) ∙ none))), inr none)

-- a look at one directory

pub looked_known : (honest : Bool) (w : World) (way : Path) (aliases : List Alias) → is_alias aliases way ≡ true → HasLooked honest w way aliases aliases
looked_known honest w way aliases is = record { added = []; kept = sym (append-nil aliases); looked = λ h. settled (inl is) }

pub looked_settled : (honest : Bool) (w : World) (way : Path) (aliases : List Alias) → (IsTrue honest → IsSettled w aliases way) → HasLooked honest w way aliases aliases
looked_settled honest w way aliases here = record { added = []; kept = sym (append-nil aliases); looked = λ h. settled (here h) }

pub looked_plain : (honest : Bool) (w : World) (way : Path) (aliases : List Alias) → (IsTrue honest → is_linked w way ≡ false) → HasLooked honest w way aliases aliases
looked_plain honest w way aliases none = record { added = []; kept = sym (append-nil aliases); looked = λ h. settled (inr (none h)) }

pub no_place_linked : (w : World) (way : Path) → is_place way ≡ false → is_linked w way ≡ false
no_place_linked w way none = ap (λ b. is_link (cond b (w way) None) && is_some (leads_to w way)) none

pub looked_link : (honest : Bool) (w : World) (way target : Path) (old new : List Alias) → is_place way ≡ true → (IsTrue honest → (is_link (w way) ≡ true) × (leads_to w way ≡ Some target)) → is_alias old way ≡ false → new ≡ old ++ record { place = way; target = target } ∷ [] → HasLooked honest w way old new
looked_link honest w way target old new placed linked none is = record {
  added = record { place = way; target = target } ∷ [];
  kept = is;
  looked = λ h. found (record { place = way; target = target }) refl (record { link = ap (λ b. is_link (cond b (w way) None)) placed ∙ (linked h).0; leads = (linked h).1 }) none;
}

-- the same, by what the calls told

abbrev HasPlace : Path → Option Path → Type 0
HasPlace way told = MatchOption told (is_place way ≡ false) (λ p. (is_place way ≡ true) × (p ≡ way))

abbrev HasTarget : World → Path → Option Path → Type 0
HasTarget w place told = MatchOption told (is_linked w place ≡ false) (λ t. (is_link (w place) ≡ true) × (leads_to w place ≡ Some t))

pub looked_unplaced : (honest : Bool) (w : World) (way : Path) (aliases : List Alias) (told : Option Path) → HasPlace way told → told ≡ None → HasLooked honest w way aliases aliases
looked_unplaced honest w way aliases told has is = let none : HasPlace way None = subst (HasPlace way) is has in looked_plain honest w way aliases (λ h. no_place_linked w way none)

pub looked_unlinked : (honest : Bool) (w : World) (way place : Path) (aliases : List Alias) (told target : Option Path) → HasPlace way told → told ≡ Some place → (IsTrue honest → HasTarget w place target) → target ≡ None → HasLooked honest w way aliases aliases
looked_unlinked honest w way place aliases told target has is leads none =
    let placed : HasPlace way (Some place) = subst (HasPlace way) is has in
    looked_plain honest w way aliases (λ h. let unlinked : HasTarget w place None = subst (HasTarget w place) none (leads h) in ap (is_linked w) (sym placed.1) ∙ unlinked)

pub looked_found : (honest : Bool) (w : World) (way place t : Path) (old new : List Alias) (told target : Option Path) → HasPlace way told → told ≡ Some place → (IsTrue honest → HasTarget w place target) → target ≡ Some t → is_alias old way ≡ false
    → new ≡ old ++ record { place = place; target = t } ∷ [] → HasLooked honest w way old new
looked_found honest w way place t old new told target has is leads some none grown =
    let placed : HasPlace way (Some place) = subst (HasPlace way) is has in
    looked_link honest w way t old new placed.0
    (λ h. let linked : HasTarget w place (Some t) = subst (HasTarget w place) some (leads h) in (ap (λ (p : Path). is_link (w p)) (sym placed.1) ∙ linked.0, ap (leads_to w) (sym placed.1) ∙ linked.1)) none
    (grown ∙ ap (λ (p : Path). old ++ record { place = p; target = t } ∷ []) placed.1)

-- how far a way was gone

record Came (w : World) (aliases : List Alias) (way front : Path) : Type 0 where
  pub came : way ≡ way_to aliases front
  pub settled : WaysHave (IsSettled w aliases) aliases [] front

name_here : (aliases : List Alias) (way front name : Path) → way ≡ way_to aliases front → has_slash name ≡ false → way_to aliases (front ++ name) ≡ way ++ name
name_here aliases way front name came plain =
    way_more aliases [] front name ∙ way_plain aliases (way_to aliases front) name plain ∙ ap (λ (p : Path). p ++ name) (sym came)

came_name : (w : World) (aliases : List Alias) (way front name : Path) → Came w aliases way front → has_slash name ≡ false → IsSettled w aliases (way ++ name) → Came w aliases (led aliases (way ++ name) ++ 47 ∷ []) (front ++ (name ++ 47 ∷ []))
came_name w aliases way front name so plain here = record {
  came = ap (λ (p : Path). led aliases (p ++ name) ++ 47 ∷ []) so.came ∙ sym (way_more aliases [] front (name ++ 47 ∷ []) ∙ way_name aliases (way_to aliases front) name [] plain);
  settled = have_more (IsSettled w aliases) aliases [] front (name ++ 47 ∷ []) so.settled
      (have_more (IsSettled w aliases) aliases (way_to aliases front) name (47 ∷ []) (have_plain (IsSettled w aliases) aliases (way_to aliases front) name plain)
      (λ slash. subst (IsSettled w aliases) (ap (λ (p : Path). p ++ name) so.came ∙ sym (way_plain aliases (way_to aliases front) name plain)) here, tt));
}

module _ (w : World) (aliases : List Alias) (a : Alias) (linked : is_linked w a.place ≡ true) where
  alike_more : (front : Path) → WaysHave (IsSettled w aliases) aliases [] front → WaysHave (λ p. (led (aliases ++ a ∷ []) p ≡ led aliases p) × IsSettled w (aliases ++ a ∷ []) p) aliases [] front
  alike_more front so = have_weaker (IsSettled w aliases) (λ p. (led (aliases ++ a ∷ []) p ≡ led aliases p) × IsSettled w (aliases ++ a ∷ []) p) aliases [] front (λ p here. settled_more w aliases a p linked here) so

  way_to_more : (front : Path) → WaysHave (IsSettled w aliases) aliases [] front → way_to (aliases ++ a ∷ []) front ≡ way_to aliases front
  way_to_more front so =
      way_alike aliases (aliases ++ a ∷ []) [] front
      (have_weaker (λ p. (led (aliases ++ a ∷ []) p ≡ led aliases p) × IsSettled w (aliases ++ a ∷ []) p) (λ p. led (aliases ++ a ∷ []) p ≡ led aliases p) aliases [] front (λ p both. both.0) (alike_more front so))

  came_more : (way front : Path) → Came w aliases way front → Came w (aliases ++ a ∷ []) way front
  came_more way front so = record {
    came = so.came ∙ sym (way_to_more front so.settled);
    settled = have_alike (IsSettled w (aliases ++ a ∷ [])) aliases (aliases ++ a ∷ []) [] front (alike_more front so.settled);
  }

-- what was added so far

abbrev StandsOn : List Alias → Path → Alias → Type 0
StandsOn aliases front a = (q : Path) × (q ≢ []) × IsBelow q front × (a.place ≡ way_to aliases q)

stands_further : (aliases : List Alias) (front more : Path) (a : Alias) → StandsOn aliases front a → StandsOn aliases (front ++ more) a
stands_further aliases front more a on =
    (on.0, on.1, (on.2.0 ++ more, ap (λ (p : Path). p ++ more) on.2.1 ∙ append_assoc on.0 (47 ∷ on.2.0) more), on.3)

-- the way so far, and what was added on it
pub record Progress (w : World) (path : Path) (now added : List Alias) (way rest : Path) : Type 0 where
  pub front : Path
  pub is : path ≡ front ++ rest
  pub came : way ≡ way_to now front
  pub settled : WaysHave (IsSettled w now) now [] front
  pub sound : AreAliasesIn w added
  pub above : AllByRecursion (StandsOn now front) added

pub progress_start : (w : World) (path : Path) (now : List Alias) → Progress w path now [] [] path
progress_start w path now = record { front = []; is = refl; came = refl; settled = tt; sound = tt; above = tt }

no_place : (w : World) (a : Alias) → IsAliasIn w a → a.place ≢ []
no_place w a in_world root = false≢true (sym (ap (λ (p : Path). is_link (node_at w p)) root) ∙ in_world.link)

pub linked_alias : (w : World) (a : Alias) → IsAliasIn w a → is_linked w a.place ≡ true
linked_alias w a in_world = ap (λ b. b && is_some (leads_to w a.place)) in_world.link ∙ ap is_some in_world.leads

joined : (path front rest name behind : Path) → path ≡ front ++ rest → rest ≡ name ++ 47 ∷ behind → path ≡ (front ++ (name ++ 47 ∷ [])) ++ behind
joined path front rest name behind is cut =
    is ∙ ap (λ (l : Path). front ++ l) (cut ∙ sym (append_assoc name (47 ∷ []) behind)) ∙ sym (append_assoc front (name ++ 47 ∷ []) behind)

module _ (w : World) (path : Path) (now added : List Alias) (way rest name behind : Path) (so : Progress w path now added way rest) (cut : rest ≡ name ++ 47 ∷ behind) (plain : has_slash name ≡ false) where
  progress_settled : IsSettled w now (way ++ name) → Progress w path now added (led now (way ++ name) ++ 47 ∷ []) behind
  progress_settled here =
      let next = came_name w now way so.front name (record { came = so.came; settled = so.settled }) plain here in
      record {
        front = so.front ++ (name ++ 47 ∷ []);
        is = joined path so.front rest name behind so.is cut;
        came = next.came;
        settled = next.settled;
        sound = so.sound;
        above = all_weaker (StandsOn now so.front) (StandsOn now (so.front ++ (name ++ 47 ∷ []))) added (λ a on. stands_further now so.front (name ++ 47 ∷ []) a on) so.above;
      }

  module _ (a : Alias) (place : a.place ≡ way ++ name) (in_world : IsAliasIn w a) where
    here_now : way_to (now ++ a ∷ []) (so.front ++ name) ≡ way ++ name
    here_now = name_here (now ++ a ∷ []) way so.front name (so.came ∙ sym (way_to_more w now a (linked_alias w a in_world) so.front so.settled)) plain

    this_stands : StandsOn (now ++ a ∷ []) (so.front ++ (name ++ 47 ∷ [])) a
    this_stands = (
      so.front ++ name,
      λ root. no_place w a in_world (place ∙ sym here_now ∙ ap (way_to (now ++ a ∷ [])) root),
      ([], sym (append_assoc so.front name (47 ∷ []))),
      place ∙ sym here_now,
    )

    others_stand : (b : Alias) → StandsOn now so.front b → StandsOn (now ++ a ∷ []) (so.front ++ (name ++ 47 ∷ [])) b
    others_stand b on =
        let settled_there = have_front (IsSettled w now) now [] on.0 (47 ∷ on.2.0) (subst (λ (p : Path). WaysHave (IsSettled w now) now [] p) on.2.1 so.settled) in
        stands_further (now ++ a ∷ []) so.front (name ++ 47 ∷ []) b (on.0, on.1, on.2, on.3 ∙ sym (way_to_more w now a (linked_alias w a in_world) on.0 settled_there))

    progress_found : Progress w path (now ++ a ∷ []) (added ++ a ∷ []) (led (now ++ a ∷ []) (way ++ name) ++ 47 ∷ []) behind
    progress_found =
        let moved = came_more w now a (linked_alias w a in_world) way so.front (record { came = so.came; settled = so.settled }) in
        let known : is_alias (now ++ a ∷ []) (way ++ name) ≡ true =
        alias_more now a (way ++ name) ∙ or_right (is_alias now (way ++ name)) (bytes_eq (way ++ name) a.place || false) (ap (λ t. t || false) ((bytes_eq-Decides (way ++ name) a.place).1 (sym place))) in
        let next = came_name w (now ++ a ∷ []) way so.front name moved plain (inl known) in
        record {
          front = so.front ++ (name ++ 47 ∷ []);
          is = joined path so.front rest name behind so.is cut;
          came = next.came;
          settled = next.settled;
          sound = all_more (IsAliasIn w) added (a ∷ []) so.sound (in_world, tt);
          above = all_more (StandsOn (now ++ a ∷ []) (so.front ++ (name ++ 47 ∷ []))) added (a ∷ [])
              (all_weaker (StandsOn now so.front) (StandsOn (now ++ a ∷ []) (so.front ++ (name ++ 47 ∷ []))) added others_stand so.above) (this_stands, tt);
        }

  progress_looked : (more : List Alias) → Looked w (way ++ name) now more → Progress w path (now ++ more) (added ++ more) (led (now ++ more) (way ++ name) ++ 47 ∷ []) behind
  progress_looked [] (settled here) =
      subst (λ (l : List Alias). Progress w path l (added ++ []) (led l (way ++ name) ++ 47 ∷ []) behind) (sym (append-nil now))
      (subst (λ (l : List Alias). Progress w path now l (led now (way ++ name) ++ 47 ∷ []) behind) (sym (append-nil added)) (progress_settled here))
  progress_looked (a ∷ []) (found b place in_world new) = progress_found b place in_world
  progress_looked (a ∷ (b ∷ more)) look = elim look [ ]

-- where it ends

module _ (w : World) where
  alias_led : (aliases : List Alias) (p : Path) → AreAliasesIn w aliases → is_alias aliases p ≡ true → led aliases p ≡ led_in w p
  alias_led [] p each is = absurd (false≢true is)
  alias_led (a ∷ aliases) p each is = at (bytes_eq p a.place) refl is (alias_led aliases p each.1)
    where
      this : led_in w a.place ≡ a.target
      this = ap (λ b. cond b (or_itself (leads_to w a.place) a.place) a.place) each.0.link ∙ ap (λ (o : Option Path). or_itself o a.place) each.0.leads

      at : (t : Bool) → bytes_eq p a.place ≡ t → t || is_alias aliases p ≡ true → (is_alias aliases p ≡ true → led aliases p ≡ led_in w p) → cond t a.target (led aliases p) ≡ led_in w p
      at true same there later = sym (ap (led_in w) ((bytes_eq-Decides p a.place).0 same) ∙ this)
      at false same there later = later there

  no_link_led : (p : Path) → is_linked w p ≡ false → led_in w p ≡ p
  no_link_led p none = at (is_link (node_at w p)) (leads_to w p) none
    where
      at : (b : Bool) (o : Option Path) → b && is_some o ≡ false → cond b (or_itself o p) p ≡ p
      at true None is = refl
      at true (Some t) is = absurd (true≢false is)
      at false o is = refl

  settled_led : (aliases : List Alias) (p : Path) → AreAliasesIn w aliases → IsSettled w aliases p → led aliases p ≡ led_in w p
  settled_led aliases p each (inl is) = alias_led aliases p each is
  settled_led aliases p each (inr none) = at (is_alias aliases p) refl
    where
      at : (b : Bool) → is_alias aliases p ≡ b → led aliases p ≡ led_in w p
      at true is = alias_led aliases p each is
      at false is = led_free aliases p is ∙ sym (no_link_led p none)

  pub progress_whole : (path : Path) (old now added : List Alias) (way rest : Path) → now ≡ old ++ added → Progress w path now added way rest → has_slash rest ≡ false → AreAliasesIn w old → IsWhole w path now
  progress_whole path old now added way rest kept so plain each q on =
      let all : WaysHave (IsSettled w now) now [] (so.front ++ rest) = have_more (IsSettled w now) now [] so.front rest so.settled (have_plain (IsSettled w now) now (way_to now so.front) rest plain) in
      let at_q = have_back (IsSettled w now) now [] q (47 ∷ on.1.0) (subst (λ (p : Path). WaysHave (IsSettled w now) now [] p) (sym so.is ∙ on.1.1) all) in
      settled_led now (way_to now q) (subst (AreAliasesIn w) (sym kept) (all_more (IsAliasIn w) old added each so.sound)) (at_q.0 refl)

  pub progress_above : (path : Path) (now added : List Alias) (way rest : Path) → Progress w path now added way rest → AllByRecursion (StandsAbove now path) added
  progress_above path now added way rest so =
      all_weaker (StandsOn now so.front) (StandsAbove now path) added
      (λ a on. (on.0, (on.1, (on.2.0 ++ rest, so.is ∙ ap (λ (p : Path). p ++ rest) on.2.1 ∙ append_assoc on.0 (47 ∷ on.2.0) rest)), on.3)) so.above

-- what is known between two looks, whether the answers were true or not

pub record SoFar (honest : Bool) (w : World) (path : Path) (old now : List Alias) (way rest : Path) : Type 0 where
  pub added : List Alias
  pub kept : now ≡ old ++ added
  pub progress : IsTrue honest → Progress w path now added way rest

pub so_far_start : (honest : Bool) (w : World) (path : Path) (old : List Alias) → SoFar honest w path old old [] path
so_far_start honest w path old = record { added = []; kept = sym (append-nil old); progress = λ h. progress_start w path old }

pub so_far_grows : (honest : Bool) (w : World) (path : Path) (old now : List Alias) (way rest : Path) → SoFar honest w path old now way rest → Grows honest w path old now
so_far_grows honest w path old now way rest so = record {
  added = so.added;
  kept = so.kept;
  sound = λ h. (so.progress h).sound;
  above = λ h. progress_above w path now so.added way rest (so.progress h);
}

-- true answers behind a call were true before it
pub so_far_later : (before after : Bool) (w : World) (path : Path) (old now : List Alias) (way rest : Path) → (IsTrue after → IsTrue before) → SoFar before w path old now way rest → SoFar after w path old now way rest
so_far_later before after w path old now way rest falls so = record { added = so.added; kept = so.kept; progress = λ h. so.progress (falls h) }

pub so_far_next : (before after : Bool) (w v : World) (path : Path) (old now next : List Alias) (way rest name behind here onward : Path) → (IsTrue after → IsTrue before) → v ≡ w → SoFar before w path old now way rest
    → rest ≡ name ++ 47 ∷ behind → has_slash name ≡ false → here ≡ way ++ name → HasLooked after v here now next → onward ≡ led next here ++ 47 ∷ [] → SoFar after w path old next onward behind
so_far_next before after w v path old now next way rest name behind here onward falls same so cut plain is looked went = record {
  added = so.added ++ looked.added;
  kept = looked.kept ∙ ap (λ (l : List Alias). l ++ looked.added) so.kept ∙ append_assoc old so.added looked.added;
  progress = λ h.
      (let look : Looked w (way ++ name) now looked.added = subst (λ (u : World). Looked u (way ++ name) now looked.added) same (subst (λ (p : Path). Looked v p now looked.added) is (looked.looked h)) in
      let moved = progress_looked w path now so.added way rest name behind (so.progress (falls h)) cut plain looked.added look in
      let there : onward ≡ led (now ++ looked.added) (way ++ name) ++ 47 ∷ [] = went ∙ ap (λ (l : List Alias). led l here ++ 47 ∷ []) looked.kept ∙ ap (λ (p : Path). led (now ++ looked.added) p ++ 47 ∷ []) is in
      subst (λ (l : List Alias). Progress w path l (so.added ++ looked.added) onward behind) (sym looked.kept)
      (subst (λ (p : Path). Progress w path (now ++ looked.added) (so.added ++ looked.added) p behind) (sym there) moved));
}
