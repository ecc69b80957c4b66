-- What was followed stays so where aliases of the same world are added.
use Rattle.std.proofs.Common.{◌≡◌, ◌≢◌, ℕ, zero, suc, Bool, true, false, not, IsTrue, ◌||◌, cond, List, [], ◌∷◌, ◌++◌, nat_eq, Option, refl, sym, ap, subst, ◌∙◌, append_assoc, arith, Contains, get_or, length, take, ◌+◌, ◌<◌}
use Rattle.std.specs.Str.{bytes_eq}
use Rattle.std.proofs.lemmas.Bool.{or_parts, false≢true, eqb-true}
use Rattle.std.proofs.lemmas.List.{append-nil, take_more}
use Rattle.std.proofs.lemmas.List.Folds.{list_any-append}
use Rattle.std.proofs.lemmas.Slice.Eq.{bytes_eq-Decides}
use Rattle.host_core.specs.Paths.{Path}
use Rattle.host_core.specs.World.{World}
use Rattle.aliases.specs.Aliases.{Alias, is_alias, led, gone, way_from, way_to}
use Rattle.aliases.specs.Links.{above, leads_to, node_at}
use Rattle.aliases.specs.Reading.{is_link, or_itself, led_in, AreAliasesIn, IsWhole, Grows}
use Rattle.aliases.proofs.Following.{led_free}
use Rattle.aliases.proofs.Beside.{whole_beside}
use Rattle.diversions.specs.Diverted.{Diverted}
use Rattle.diversions.specs.Ways.{Ways}
use Rattle.file_lists.specs.Followed.{AreFollowed, ArePassed, AreWhole, GrowAlong, HasMoreAliases}
use Rattle.file_lists.specs.Owners.{paths_of}
use Rattle.file_lists.specs.declared.paths.PackageList.{PackageList}

pub aliases_more : (w : World) (old added : List Alias) → AreAliasesIn w old → AreAliasesIn w added → AreAliasesIn w (old ++ added)
aliases_more w [] added first second = second
aliases_more w (a ∷ old) added first second = (first.0, aliases_more w old added first.1 second)

aliases_front : (w : World) (old added : List Alias) → AreAliasesIn w (old ++ added) → AreAliasesIn w old
aliases_front w [] added each = tt
aliases_front w (a ∷ old) added each = (each.0, aliases_front w old added each.1)

module _ (w : World) where
  -- an alias leads where its link does
  alias_leads : (aliases : List Alias) (p : Path) → AreAliasesIn w aliases → is_alias aliases p ≡ true → led aliases p ≡ led_in w p
  alias_leads [] p each is = absurd (false≢true is)
  alias_leads (a ∷ aliases) p each is = at (bytes_eq p a.place) refl is (alias_leads aliases p each.1)
    where
      this : led_in w a.place ≡ a.target
      this = ap (λ b. cond b (or_itself (leads_to w a.place) a.place) a.place) each.0.link ∙ ap (λ (o : Option Path). or_itself o a.place) each.0.leads

      at : (t : Bool) → bytes_eq p a.place ≡ t → t || is_alias aliases p ≡ true → (is_alias aliases p ≡ true → led aliases p ≡ led_in w p) → cond t a.target (led aliases p) ≡ led_in w p
      at true same there later = sym (ap (led_in w) ((bytes_eq-Decides p a.place).0 same) ∙ this)
      at false same there later = later there

  -- no alias stands at the root
  root_leads : (aliases : List Alias) → AreAliasesIn w aliases → led aliases [] ≡ []
  root_leads [] each = refl
  root_leads (a ∷ aliases) each = at (bytes_eq [] a.place) refl (root_leads aliases each.1)
    where
      at : (t : Bool) → bytes_eq [] a.place ≡ t → led aliases [] ≡ [] → cond t a.target (led aliases []) ≡ []
      at true same later = absurd (false≢true (ap (λ (p : Path). is_link (node_at w p)) ((bytes_eq-Decides [] a.place).0 same) ∙ each.0.link))
      at false same later = later

  -- a path that is led as its link leads is led alike by more aliases
  led_alike : (old added : List Alias) (p : Path) → AreAliasesIn w (old ++ added) → led old p ≡ led_in w p → led (old ++ added) p ≡ led old p
  led_alike old added p each is = at (is_alias (old ++ added) p) refl
    where
      at : (b : Bool) → is_alias (old ++ added) p ≡ b → led (old ++ added) p ≡ led old p
      at true there = alias_leads (old ++ added) p each there ∙ sym is
      at false none =
          let parts = or_parts (is_alias old p) (is_alias added p) (sym (list_any-append (λ (a : Alias). bytes_eq p a.place) old added) ∙ none) in
          led_free (old ++ added) p none ∙ sym (led_free old p parts.0)

gone_alike : (old new : List Alias) (way : Path) (x : ℕ) → (nat_eq x 47 ≡ true → led new way ≡ led old way) → gone new way x ≡ gone old way x
gone_alike old new way x alike = at (nat_eq x 47) alike
  where
    at : (b : Bool) → (b ≡ true → led new way ≡ led old way) → cond b (led new way ++ 47 ∷ []) (way ++ x ∷ []) ≡ cond b (led old way ++ 47 ∷ []) (way ++ x ∷ [])
    at true same = ap (λ (p : Path). p ++ 47 ∷ []) (same refl)
    at false same = refl

-- of each directory above the rest of a way: both lead it alike
abbrev LeadAlike : List Alias → List Alias → Path → List ℕ → Type 0
LeadAlike old new way rest = (a b : List ℕ) → rest ≡ a ++ 47 ∷ b → led new (way_from old way a) ≡ led old (way_from old way a)

way_alike : (old new : List Alias) (way : Path) (rest : List ℕ) → LeadAlike old new way rest → way_from new way rest ≡ way_from old way rest
way_alike old new way [] alike = refl
way_alike old new way (x ∷ rest) alike =
    ap (λ (p : Path). way_from new p rest) (gone_alike old new way x (λ slash. alike [] rest (ap (λ c. c ∷ rest) (eqb-true x 47 slash))))
    ∙ way_alike old new (gone old way x) rest (λ a b is. alike (x ∷ a) b (ap (λ (l : List ℕ). x ∷ l) is))

-- the directories above a path are followed as before
pub whole_more : (w : World) (path : Path) (old added : List Alias) → AreAliasesIn w old → AreAliasesIn w added → IsWhole w path old → IsWhole w path (old ++ added)
whole_more w path old added first second whole q on = ap (led (old ++ added)) same ∙ leads q on.0 on.1.0 on.1.1 ∙ whole q on ∙ ap (led_in w) (sym same)
  where
    each : AreAliasesIn w (old ++ added)
    each = aliases_more w old added first second

    leads : (p : Path) → p ≢ [] → (b : Path) → path ≡ p ++ 47 ∷ b → led (old ++ added) (way_to old p) ≡ led old (way_to old p)
    leads p other b is = led_alike w old added (way_to old p) each (whole p (other, (b, is)))

    any : (p b : Path) → path ≡ p ++ 47 ∷ b → led (old ++ added) (way_to old p) ≡ led old (way_to old p)
    any [] b is = root_leads w (old ++ added) each ∙ sym (root_leads w old first)
    any (x ∷ p) b is = leads (x ∷ p) (λ none. cc) b is

    same : way_to (old ++ added) q ≡ way_to old q
    same = way_alike old (old ++ added) [] q (λ a b is. any a (b ++ 47 ∷ on.1.0) (on.1.1 ∙ ap (λ (l : Path). l ++ 47 ∷ on.1.0) is ∙ append_assoc a (47 ∷ b) (47 ∷ on.1.0)))

abbrev pub with_aliases : Ways → List Alias → Ways
with_aliases ways aliases = record ways { aliases = aliases }

pub followed_more : (lists : List PackageList) (ways : Ways) (w : World) (added : List Alias) → AreFollowed lists ways w → AreAliasesIn w added → AreFollowed lists (with_aliases ways (ways.aliases ++ added)) w
followed_more lists ways w added are sound = record {
  aliases = aliases_more w ways.aliases added are.aliases sound;
  whole = λ name path has. whole_more w path ways.aliases added are.aliases sound (are.whole name path has);
}

-- Path by path.

pub more_start : (honest : Bool) (w : World) (ways : Diverted) → HasMoreAliases honest w ways ways
more_start honest w d = record { added = []; kept = ap (λ (l : List Alias). record d { ways = record d.ways { aliases = l } }) (sym (append-nil d.ways.aliases)); sound = λ h. tt }

pub more_one : (honest : Bool) (w : World) (b c : Diverted) (path : Path) → Grows honest w path b.ways.aliases c.ways.aliases → c ≡ record b { ways = record b.ways { aliases = c.ways.aliases } } → HasMoreAliases honest w b c
more_one honest w b c path grows kept = record {
  added = grows.added;
  kept = kept ∙ ap (λ (l : List Alias). record b { ways = record b.ways { aliases = l } }) grows.kept;
  sound = grows.sound;
}

pub more_joined : (before after : Bool) (w v : World) (a b c : Diverted) → (IsTrue after → IsTrue before) → v ≡ w → HasMoreAliases before w a b → HasMoreAliases after v b c → HasMoreAliases after w a c
more_joined before after w v a b c falls same first second = record {
  added = first.added ++ second.added;
  kept = second.kept ∙ ap (λ (x : Diverted). record x { ways = record x.ways { aliases = x.ways.aliases ++ second.added } }) first.kept ∙ ap (λ (l : List Alias). record a { ways = record a.ways { aliases = l } }) (append_assoc a.ways.aliases first.added second.added);
  sound = λ h. aliases_more w first.added second.added (first.sound (falls h)) (subst (λ (u : World). AreAliasesIn u second.added) same (second.sound h));
}

-- the aliases behind a change are ones of the world
pub aliases_grown : (honest : Bool) (w : World) (a b : Diverted) → HasMoreAliases honest w a b → IsTrue honest → AreAliasesIn w a.ways.aliases → AreAliasesIn w b.ways.aliases
aliases_grown honest w a b more h each = subst (λ (x : Diverted). AreAliasesIn w x.ways.aliases) (sym more.kept) (aliases_more w a.ways.aliases more.added each (more.sound h))

-- a path stays followed
pub whole_grown : (honest : Bool) (w : World) (a b : Diverted) (path : Path) → HasMoreAliases honest w a b → IsTrue honest → AreAliasesIn w a.ways.aliases → IsWhole w path a.ways.aliases → IsWhole w path b.ways.aliases
whole_grown honest w a b path more h each whole = subst (λ (x : Diverted). IsWhole w path x.ways.aliases) (sym more.kept) (whole_more w path a.ways.aliases more.added each (more.sound h) whole)

-- the aliases before a change are ones of the world, as those behind it are
aliases_before : (honest : Bool) (w : World) (a b : Diverted) → HasMoreAliases honest w a b → AreAliasesIn w b.ways.aliases → AreAliasesIn w a.ways.aliases
aliases_before honest w a b more each = aliases_front w a.ways.aliases more.added (subst (λ (x : Diverted). AreAliasesIn w x.ways.aliases) more.kept each)

-- so do the paths of directories that were gone through
pub passed_grown : (honest : Bool) (w : World) (a b : Diverted) (directories : Path → Bool) → HasMoreAliases honest w a b → IsTrue honest → ArePassed a.ways.aliases directories w → ArePassed b.ways.aliases directories w
passed_grown honest w a b directories more h passed each path is = (let before = aliases_before honest w a b more each in whole_grown honest w a b path more h before (passed before path is))

-- and of one directory more, a path of which is followed
pub passed_more : (honest : Bool) (w : World) (a b : Diverted) (path directory : Path) (old new : Path → Bool) → HasMoreAliases honest w a b → IsTrue honest → directory ≡ above path → ((q : Path) → new q ≡ cond (bytes_eq directory q) true (old q))
    → (AreAliasesIn w a.ways.aliases → IsWhole w path b.ways.aliases) → ArePassed a.ways.aliases old w → ArePassed b.ways.aliases new w
passed_more honest w a b path directory old new more h is updates here passed each q entered = at (bytes_eq directory (above q)) refl (sym (updates (above q)) ∙ entered)
  where
    at : (t : Bool) → bytes_eq directory (above q) ≡ t → cond t true (old (above q)) ≡ true → IsWhole w q b.ways.aliases
    at true same found = whole_beside w b.ways.aliases path q (sym is ∙ (bytes_eq-Decides directory (above q)).0 same) (here (aliases_before honest w a b more each))
    at false other found = passed_grown honest w a b old more h passed each q found

pub same_directory : (directory last : Path) → false ≡ not (bytes_eq directory last) → directory ≡ last
same_directory directory last told = at (bytes_eq directory last) refl told
  where
    at : (b : Bool) → bytes_eq directory last ≡ b → false ≡ not b → directory ≡ last
    at true same told = (bytes_eq-Decides directory last).0 same
    at false other told = absurd (false≢true told)

-- as more aliases are read

pub each_grown : (honest : Bool) (w : World) (paths : List Path) (a b : Diverted) → HasMoreAliases honest w a b → IsTrue honest → AreAliasesIn w a.ways.aliases → AreWhole w paths a.ways.aliases → AreWhole w paths b.ways.aliases
each_grown honest w [] a b more h each whole = tt
each_grown honest w (path ∷ paths) a b more h each whole = (whole_grown honest w a b path more h each whole.0, each_grown honest w paths a b more h each whole.1)

with_last : (w : World) (paths : List Path) (path : Path) (aliases : List Alias) → AreWhole w paths aliases → IsWhole w path aliases → AreWhole w (paths ++ path ∷ []) aliases
with_last w [] path aliases each last = (last, tt)
with_last w (p ∷ paths) path aliases each last = (each.0, with_last w paths path aliases each.1 last)

pub each_next : (w : World) (paths : List Path) (i : ℕ) (path : Path) (aliases : List Alias) → i < length paths → path ≡ get_or paths i path → AreWhole w (take i paths) aliases → IsWhole w path aliases → AreWhole w (take (i + 1) paths) aliases
each_next w paths i path aliases lt is each last =
    subst (λ (ps : List Path). AreWhole w ps aliases) (sym (take_more paths i path lt ∙ ap (λ (p : Path). take i paths ++ p ∷ []) (sym is))) (with_last w (take i paths) path aliases each last)

-- each path grows what those before it left

pub along_last : (w : World) (paths : List Path) (path : Path) (old mid new : List Alias) → GrowAlong w paths old mid → Grows true w path mid new → GrowAlong w (paths ++ path ∷ []) old new
along_last w [] path old mid new same grows = (new, subst (λ (l : List Alias). Grows true w path l new) same grows, refl)
along_last w (p ∷ paths) path old mid new (one, first, rest) grows = (one, first, along_last w paths path one mid new rest grows)

pub along_next : (w : World) (paths : List Path) (i : ℕ) (path : Path) (old mid new : List Alias) → i < length paths → path ≡ get_or paths i path → GrowAlong w (take i paths) old mid → Grows true w path mid new → GrowAlong w (take (i + 1) paths) old new
along_next w paths i path old mid new lt is so_far grows =
    subst (λ (ps : List Path). GrowAlong w ps old new) (sym (take_more paths i path lt ∙ ap (λ (p : Path). take i paths ++ p ∷ []) (sym is))) (along_last w (take i paths) path old mid new so_far grows)

-- where the answers were true
pub grows_true : (honest : Bool) (v w : World) (path : Path) (old new : List Alias) → IsTrue honest → v ≡ w → Grows honest v path old new → Grows true w path old new
grows_true honest v w path old new h same grows =
    subst (λ (u : World). Grows true u path old new) same (record { added = grows.added; kept = grows.kept; sound = λ yes. grows.sound h; above = λ yes. grows.above h })

-- lists of which each is followed
pub all_listed : (lists : List PackageList) (P : Path → Type 0) → ((l : PackageList) → Contains lists l → (path : Path) → Contains l.paths path → P path) → (name : List ℕ) (path : Path) → Contains (paths_of lists name) path → P path
all_listed [] P each name path has = absurd (omega (arith, has.1))
all_listed (l ∷ lists) P each name path has = by (bytes_eq name l.name) has (all_listed lists P (λ x in_them. each x (suc in_them.0, omega (arith, in_them.1), in_them.2)) name path)
  where
    by : (b : Bool) → Contains (cond b l.paths (paths_of lists name)) path → (Contains (paths_of lists name) path → P path) → P path
    by true here rest = each l (zero, omega arith, refl) path here
    by false there rest = rest there
