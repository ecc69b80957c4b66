-- Names that are gone through, one after another.
use Rattle.std.proofs.Common.{◌≡◌, ◌||◌, ◌-◌, not, ℕ, zero, suc, Bool, true, false, cond, codes, List, [], ◌∷◌, ◌++◌, filter, Option, None, refl, sym, ap, ◌∙◌, arith}
use Rattle.std.specs.Str.{bytes_eq}
use Rattle.std.proofs.lemmas.List.Elements.{filter-append}
use Rattle.host_core.specs.Paths.{Path, components}
use Rattle.host_core.specs.Tree.{has_slash}
use Rattle.host_core.specs.World.{World}
use Rattle.host_core.proofs.PathLaws.{components_child, one_component}
use Rattle.aliases.specs.Links.{Way, Meets, start_of, names_of, with_name, above, node_at, turn_at, turn_of, way_on, go, end_of}
use Rattle.aliases.specs.Stops.{way_of}
use Rattle.aliases.specs.declared.links.Stop.{Stop}
use Rattle.aliases.specs.declared.links.Turn.{Turn}
use Rattle.aliases.specs.declared.links.Turn.TheVariants as turn

abbrev is_named : Path → Bool
is_named name = not (bytes_eq name [])

pub names_join : (text rest : List ℕ) → names_of (text ++ 47 ∷ rest) ≡ names_of text ++ names_of rest
names_join text rest = ap (filter is_named) (components_child text rest) ∙ filter-append is_named (components text) (components rest)

one_name : (name : Path) → has_slash name ≡ false → names_of name ≡ filter is_named (name ∷ [])
one_name name plain = ap (filter is_named) (one_component name plain)

pub name_cut : (text name rest : Path) → text ≡ name ++ 47 ∷ rest → has_slash name ≡ false → names_of text ≡ with_name name (names_of rest)
name_cut text name rest is plain =
    ap names_of is ∙ names_join name rest ∙ ap (λ (l : List Path). l ++ names_of rest) (one_name name plain) ∙ at (bytes_eq name []) (names_of rest)
  where
    at : (b : Bool) (names : List Path) → cond (not b) (name ∷ []) [] ++ names ≡ cond b names (name ∷ names)
    at true names = refl
    at false names = refl

pub name_last : (name : Path) → has_slash name ≡ false → names_of name ≡ with_name name []
name_last name plain = one_name name plain ∙ at (bytes_eq name [])
  where
    at : (b : Bool) → cond (not b) (name ∷ []) [] ≡ cond b [] (name ∷ [])
    at true = refl
    at false = refl

-- a name before others
go_name : (w : World) (at name : Path) (names : List Path) → go w at (with_name name names) ≡ way_on (turn_of w at name) (λ next. go w next names) at names
go_name w at name names = by (bytes_eq name []) refl
  where
    by : (b : Bool) → bytes_eq name [] ≡ b → go w at (cond b names (name ∷ names)) ≡ way_on (turn_of w at name) (λ next. go w next names) at names
    by true is = sym (ap (λ c. way_on (cond (c || bytes_eq name (codes ".")) (turn.Into at) (cond (bytes_eq name (codes "..")) (turn.Into (above at)) (turn_at (node_at w (at ++ 47 ∷ name)) (at ++ 47 ∷ name)))) (λ next. go w next names) at names) is)
    by false is = refl

-- the first of some names, where it leads as is told
pub go_turn : (w : World) (at rest name behind : Path) (t : Turn) → names_of rest ≡ with_name name (names_of behind) → t ≡ turn_of w at name → go w at (names_of rest) ≡ way_on t (λ next. go w next (names_of behind)) at (names_of behind)
go_turn w at rest name behind t cut is =
    ap (go w at) cut ∙ go_name w at name (names_of behind) ∙ ap (λ (s : Turn). way_on s (λ next. go w next (names_of behind)) at (names_of behind)) (sym is)

-- the same, where the turn was taken in a world that is this
pub went : (w v : World) (x : Way) (at rest name behind : Path) (t : Turn) → v ≡ w → x ≡ go w at (names_of rest) → names_of rest ≡ with_name name (names_of behind) → t ≡ turn_of v at name → x ≡ way_on t (λ next. go w next (names_of behind)) at (names_of behind)
went w v x at rest name behind t same so cut is = so ∙ go_turn w at rest name behind t cut (is ∙ ap (λ (u : World). turn_of u at name) same)

-- a link is met, and its names stand before the others
pub met : (at text rest begun names : Path) → begun ≡ start_of at text → names ≡ text ++ 47 ∷ rest → Meets begun (names_of names) ≡ Meets (start_of at text) (names_of text ++ names_of rest)
met at text rest begun names begins joins = ap (λ (p : Path). Meets p (names_of names)) begins ∙ ap (λ (l : List Path). Meets (start_of at text) l) (ap names_of joins ∙ names_join text rest)

-- names led so far: what is left of the way leads where all of it does
pub stopped : (w v : World) (at names text : Path) (told is : Stop) (links : ℕ) (x : Option Path) → v ≡ w → text ≡ names → way_of told ≡ go v at (names_of text) → told ≡ is → end_of w (go w at (names_of names)) links ≡ x → end_of w (way_of is) links ≡ x
stopped w v at names text told is links x same spelled goes same_stop so =
    ap (λ (y : Way). end_of w y links) (ap way_of (sym same_stop) ∙ goes ∙ ap (λ (u : World). go u at (names_of text)) same ∙ ap (λ (n : Path). go w at (names_of n)) spelled) ∙ so

pub no_links : (w : World) (at : Path) (names : List Path) (links : ℕ) → links ≡ 0 → end_of w (Meets at names) links ≡ None
no_links w at names links none = ap (end_of w (Meets at names)) none

pub one_link : (w : World) (at : Path) (names : List Path) (links : ℕ) → (links ≡ 0 → ⊥) → end_of w (Meets at names) links ≡ end_of w (go w at names) (links - 1)
one_link w at names zero some = absurd (some refl)
one_link w at names (suc links) some = let e : links ≡ suc links - 1 = omega arith in ap (λ n. end_of w (go w at names) n) e
