-- Links lead to directories, at and above which no link stands.
use Rattle.std.proofs.Common.{◌≡◌, ◌⊎◌, ◌||◌, inl, inr, ℕ, zero, suc, Bool, true, false, cond, codes, List, [], ◌∷◌, ◌++◌, nat_eq, Option, Some, None, is_some, refl, sym, ap, subst, ◌∙◌}
use Rattle.std.specs.List.{AllByRecursion}
use Rattle.std.specs.Str.{bytes_eq}
use Rattle.std.proofs.lemmas.Bool.{true≢false}
use Rattle.std.proofs.lemmas.Slice.Eq.{bytes_eq-Decides}
use Rattle.host_core.specs.Paths.{Path}
use Rattle.host_core.specs.Tree.{has_slash, IsTree}
use Rattle.host_core.specs.World.{World, IsDirectory}
use Rattle.host_core.specs.declared.node.Node.{Node}
use Rattle.host_core.specs.declared.node.Node.TheVariants.{File, Dir, Link}
use Rattle.host_core.proofs.Nodes.{directory_stands}
use Rattle.aliases.specs.Aliases.{Alias, is_alias, IsOn, IsFree, IsFlat}
use Rattle.aliases.specs.Table.{is_place}
use Rattle.aliases.specs.Links.{Way, Leads, Meets, Ends, above, start_of, stays, names_of, node_at, turn_at, turn_of, way_on, go, end_of, leads_to}
use Rattle.aliases.specs.Reading.{is_link, AreAliasesIn}
use Rattle.aliases.specs.declared.links.Turn.{Turn}
use Rattle.aliases.specs.declared.links.Turn.TheVariants as turn
use Rattle.aliases.proofs.Above.{plain_above, splits}

-- the root, or a directory
abbrev pub IsHome : World → Path → Type 0
IsHome w at = (at ≡ []) ⊎ IsDirectory (w at)

abbrev IsHomeTurn : World → Turn → Type 0
IsHomeTurn w (turn.Into at) = IsHome w at
IsHomeTurn w (turn.Link text) = Unit {0}
IsHomeTurn w turn.Nowhere = Unit {0}

abbrev IsHomeWay : World → Way → Type 0
IsHomeWay w (Leads at) = IsHome w at
IsHomeWay w (Meets at names) = IsHome w at
IsHomeWay w Ends = Unit {0}

above_home : (w : World) (at : Path) → IsTree w → IsHome w at → IsHome w (above at)
above_home w at tree (inl root) = inl (ap above root)
above_home w at tree (inr there) = by (has_slash at) refl
  where
    by : (b : Bool) → has_slash at ≡ b → IsHome w (above at)
    by true some =
        let parts = splits at some in
        inr (tree (above at) parts.name (ap (λ (p : Path). is_some (w p)) (sym parts.is) ∙ directory_stands (w at) there))
    by false none = inl (plain_above at none)

node_home : (w : World) (path : Path) (n : Option Node) → n ≡ node_at w path → IsHomeTurn w (turn_at n path)
node_home w path None is = tt
node_home w path (Some (File bytes access)) is = tt
node_home w path (Some (Dir access)) is = inr (access, by (is_place path) is)
  where
    by : (b : Bool) → Some (Dir access) ≡ cond b (w path) None → w path ≡ Some (Dir access)
    by true same = sym same
    by false same = absurd (let e : Some (Dir access) ≡ None = same in cc)
node_home w path (Some (Link text)) is = tt

turn_home : (w : World) (at name : Path) → IsTree w → IsHome w at → IsHomeTurn w (turn_of w at name)
turn_home w at name tree home = by (stays name) (bytes_eq name (codes ".."))
  where
    by : (a b : Bool) → IsHomeTurn w (cond a (turn.Into at) (cond b (turn.Into (above at)) (turn_at (node_at w (at ++ 47 ∷ name)) (at ++ 47 ∷ name))))
    by true b = home
    by false true = above_home w at tree home
    by false false = node_home w (at ++ 47 ∷ name) (node_at w (at ++ 47 ∷ name)) refl

start_home : (w : World) (at : Path) (text : List ℕ) → IsHome w at → IsHome w (start_of at text)
start_home w at [] home = home
start_home w at (b ∷ text) home = by (nat_eq b 47)
  where
    by : (t : Bool) → IsHome w (cond t [] at)
    by true = inl refl
    by false = home

way_home : (w : World) (t : Turn) (at : Path) (names : List Path) → IsHomeTurn w t → IsHome w at → ((next : Path) → IsHome w next → IsHomeWay w (go w next names)) → IsHomeWay w (way_on t (λ next. go w next names) at names)
way_home w (turn.Into next) at names here home later = later next here
way_home w (turn.Link text) at names here home later = start_home w at text home
way_home w turn.Nowhere at names here home later = tt

go_home : (w : World) (at : Path) (names : List Path) → IsTree w → IsHome w at → IsHomeWay w (go w at names)
go_home w at [] tree home = home
go_home w at (name ∷ names) tree home = way_home w (turn_of w at name) at names (turn_home w at name tree home) home (λ next here. go_home w next names tree here)

end_home : (w : World) (way : Way) (links : ℕ) (t : Path) → IsTree w → IsHomeWay w way → end_of w way links ≡ Some t → IsHome w t
end_home w (Leads at) links t tree home is = subst (IsHome w) (let e : Some at ≡ Some t = is in cc) home
end_home w (Meets at names) zero t tree home is = absurd (let e : None ≡ Some t = is in cc)
end_home w (Meets at names) (suc links) t tree home is = end_home w (go w at names) links t tree (go_home w at names tree home) is
end_home w Ends links t tree home is = absurd (let e : None ≡ Some t = is in cc)

pub target_home : (w : World) (path t : Path) → IsTree w → leads_to w path ≡ Some t → IsHome w t
unfolding leads_to
target_home w path t tree is = end_home w (go w [] (names_of path)) 8 t tree (go_home w [] (names_of path) tree (inl refl)) is

-- no link stands at the root or at a directory

pub no_link : (w : World) (q : Path) → IsHome w q → is_link (node_at w q) ≡ false
no_link w q (inl root) = ap (λ (p : Path). is_link (node_at w p)) root
no_link w q (inr there) = by (is_place q)
  where
    by : (b : Bool) → is_link (cond b (w q) None) ≡ false
    by true = ap is_link there.1
    by false = refl

pub no_alias : (w : World) (aliases : List Alias) (q : Path) → AreAliasesIn w aliases → is_link (node_at w q) ≡ false → is_alias aliases q ≡ false
no_alias w [] q each none = refl
no_alias w (a ∷ aliases) q each none = by (bytes_eq q a.place) refl (no_alias w aliases q each.1 none)
  where
    by : (b : Bool) → bytes_eq q a.place ≡ b → is_alias aliases q ≡ false → bytes_eq q a.place || is_alias aliases q ≡ false
    by true is rest = absurd (true≢false (sym (ap (λ (p : Path). is_link (node_at w p)) ((bytes_eq-Decides q a.place).0 is) ∙ each.0.link) ∙ none))
    by false is rest = ap (λ b. b || is_alias aliases q) is ∙ rest

pub home_above : (w : World) (q t : Path) → IsTree w → IsHome w t → IsOn q t → IsHome w q
home_above w q t tree home (inl same) = subst (IsHome w) (sym same) home
home_above w q t tree (inl root) (inr below) = absurd (nothing q below.0 (sym root ∙ below.1))
  where
    nothing : (q r : Path) → [] ≡ q ++ 47 ∷ r → ⊥
    nothing [] r e = cc
    nothing (y ∷ q) r e = cc
home_above w q t tree (inr there) (inr below) = inr (tree q below.0 (ap (λ (p : Path). is_some (w p)) (sym below.1) ∙ directory_stands (w t) there))

free_targets : (w : World) (all aliases : List Alias) → IsTree w → AreAliasesIn w all → AreAliasesIn w aliases → AllByRecursion (λ a. IsFree all a.target) aliases
free_targets w all [] tree each some = tt
free_targets w all (a ∷ aliases) tree each some =
    (λ q on. no_alias w all q each (no_link w q (home_above w q a.target tree (target_home w a.place a.target tree some.0.leads) on)), free_targets w all aliases tree each some.1)

pub aliases_flat : (w : World) (aliases : List Alias) → IsTree w → AreAliasesIn w aliases → IsFlat aliases
aliases_flat w aliases tree each = free_targets w aliases aliases tree each each
