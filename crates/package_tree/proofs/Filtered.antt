-- What of the shipped files is named by lines.
use Rattle.std.proofs.Common.{◌≡◌, Bool, true, false, cond, List, [], ◌∷◌, Some, refl, sym, ap, subst, ◌∙◌, inl, inr}
use Rattle.std.specs.Prelude.{◌&&◌, Contains}
use Rattle.std.specs.List.{AllByRecursion, filter, list_any}
use Rattle.std.specs.Str.{bytes_eq, IsUtf8}
use Rattle.std.proofs.lemmas.Bool.{and_parts, false≢true, true≢false}
use Rattle.std.proofs.lemmas.List.Folds.{Any-from_list_any, list_any-from_Any}
use Rattle.std.proofs.lemmas.Slice.Eq.{bytes_eq-Decides}
use Rattle.host_core.specs.Paths.{Path}
use Rattle.host_core.specs.World.{World, IsFile, is_file, kind_of}
use Rattle.host_core.specs.declared.node.Kind.TheVariants as kind
use Rattle.host_core.specs.declared.node.Node.{Node}
use Rattle.host_core.specs.declared.node.Node.TheVariants.{File, Dir, Link}
use Rattle.package_tree.specs.Conffiles.{HasNoEntry}
use Rattle.package_tree.specs.ConffileFaults.{AreNamed, IsAstray}
use Rattle.package_tree.specs.LineNames.{is_named}
use Rattle.package_tree.specs.ShipMap.{paths_of, is_file_in, AreFiles, HasFileAt}
use Rattle.package_tree.specs.Shipped.{AreInOrder, ArePathTexts, IsBefore, IsShipLine}
use Rattle.package_tree.specs.declared.conffile_lines.Entry.{Entry}
use Rattle.package_tree.specs.declared.conffile_lines.Entry.TheVariants as entry
use Rattle.package_tree.specs.declared.line_names.LineKind.TheVariants.{Plain, Flagged}
use Rattle.package_tree.specs.declared.shipped.Shipped.{Shipped}
use Rattle.package_tree.proofs.Ordered.{none_in, in_first, in_later, first_or_later}

-- an entry of the ship map at a path
pub record IsAt (P : Shipped → Bool) (files : List Shipped) (q : Path) : Type 0 where
  pub file : Shipped
  pub there : Contains files file
  pub at : file.path ≡ q
  pub passes : P file ≡ true

later : (P : Shipped → Bool) (f : Shipped) (files : List Shipped) (q : Path) → IsAt P files q → IsAt P (f ∷ files) q
later P f files q is = record { file = is.file; there = in_later f files is.file is.there; at = is.at; passes = is.passes }

-- what is left of a list by a test
pub filtered : (P : Shipped → Bool) (files : List Shipped) (q : Path) → Contains (paths_of (filter P files)) q → IsAt P files q
filtered P [] q has = absurd (none_in q has)
filtered P (f ∷ files) q has = at (λ h. filtered P files q h) (P f) refl
  where
    at : (Contains (paths_of (filter P files)) q → IsAt P files q) → (b : Bool) → P f ≡ b → IsAt P (f ∷ files) q
    at next true e = elim (first_or_later f.path (paths_of (filter P files)) q (subst (λ b. Contains (paths_of (cond b (f ∷ filter P files) (filter P files))) q) e has)) [
      | inl same ↦ record { file = f; there = in_first f files; at = same; passes = e }
      | inr on ↦ later P f files q (next on)
    ]
    at next false e = later P f files q (next (subst (λ b. Contains (paths_of (cond b (f ∷ filter P files) (filter P files))) q) e has))

pub in_filter : (P : Shipped → Bool) (files : List Shipped) (file : Shipped) → Contains files file → P file ≡ true → Contains (paths_of (filter P files)) file.path
in_filter P [] file has passes = absurd (none_in file has)
in_filter P (f ∷ files) file has passes = at (λ h. in_filter P files file h passes) (P f) refl
  where
    at : (Contains files file → Contains (paths_of (filter P files)) file.path) → (b : Bool) → P f ≡ b → Contains (paths_of (filter P (f ∷ files))) file.path
    at next true e = subst (λ b. Contains (paths_of (cond b (f ∷ filter P files) (filter P files))) file.path) (sym e) (elim (first_or_later f files file has) [
      | inl same ↦ subst (λ (x : Shipped). Contains (f.path ∷ paths_of (filter P files)) x.path) same (in_first f.path (paths_of (filter P files)))
      | inr on ↦ in_later f.path (paths_of (filter P files)) file.path (next on)
    ])
    at next false e = subst (λ b. Contains (paths_of (cond b (f ∷ filter P files) (filter P files))) file.path) (sym e) (elim (first_or_later f files file has) [
      | inl same ↦ absurd (true≢false (sym passes ∙ ap P (sym same) ∙ e))
      | inr on ↦ next on
    ])

all_filter : (Q : Path → Type 0) (P : Shipped → Bool) (files : List Shipped) → AllByRecursion Q (paths_of files) → AllByRecursion Q (paths_of (filter P files))
all_filter Q P [] all = tt
all_filter Q P (f ∷ files) all = at (all_filter Q P files all.1) (P f) refl
  where
    at : AllByRecursion Q (paths_of (filter P files)) → (b : Bool) → P f ≡ b → AllByRecursion Q (paths_of (filter P (f ∷ files)))
    at rest true e = subst (λ b. AllByRecursion Q (paths_of (cond b (f ∷ filter P files) (filter P files)))) (sym e) (all.0, rest)
    at rest false e = subst (λ b. AllByRecursion Q (paths_of (cond b (f ∷ filter P files) (filter P files)))) (sym e) rest

pub filter_order : (P : Shipped → Bool) (files : List Shipped) → AreInOrder (paths_of files) → AreInOrder (paths_of (filter P files))
filter_order P [] order = tt
filter_order P (f ∷ files) order = at (filter_order P files order.1) (P f) refl
  where
    at : AreInOrder (paths_of (filter P files)) → (b : Bool) → P f ≡ b → AreInOrder (paths_of (filter P (f ∷ files)))
    at rest true e = subst (λ b. AreInOrder (paths_of (cond b (f ∷ filter P files) (filter P files)))) (sym e) (all_filter (IsBefore f.path) P files order.0, rest)
    at rest false e = subst (λ b. AreInOrder (paths_of (cond b (f ∷ filter P files) (filter P files)))) (sym e) rest

file_of_test : (n : Node) → is_file n ≡ true → IsFile n
file_of_test (File bytes access) e = (bytes, access, refl)
file_of_test (Dir access) e = absurd (false≢true e)
file_of_test (Link target) e = absurd (false≢true e)

-- each such path is that of a file
pub file_among : (P : Path → Bool) (files : List Shipped) (paths : List Path) (q : Path) → paths ≡ paths_of (filter (is_file_in P) files) → Contains paths q → HasFileAt files q
file_among P files paths q is has =
    let found = filtered (is_file_in P) files q (subst (λ (l : List Path). Contains l q) is has) in
    (found.file, found.there, found.at, file_of_test found.file.node (and_parts (is_file found.file.node) (P found.file.path) found.passes).0)

-- and passes the test
pub name_among : (P : Path → Bool) (files : List Shipped) (paths : List Path) (q : Path) → paths ≡ paths_of (filter (is_file_in P) files) → Contains paths q → P q ≡ true
name_among P files paths q is has =
    let found = filtered (is_file_in P) files q (subst (λ (l : List Path). Contains l q) is has) in
    subst (λ (p : Path). P p ≡ true) found.at (and_parts (is_file found.file.node) (P found.file.path) found.passes).1

-- lines

pub named_line : (q : Path) (all : List Entry) → Contains all (entry.Plain q) → list_any (is_named Plain q) all ≡ true
named_line q all has = list_any-from_Any (is_named Plain q) all (has.0, entry.Plain q, has.1, has.2, (bytes_eq-Decides q q).1 refl)

pub flagged_line : (q : Path) (all : List Entry) → Contains all (entry.Flagged q) → list_any (is_named Flagged q) all ≡ true
flagged_line q all has = list_any-from_Any (is_named Flagged q) all (has.0, entry.Flagged q, has.1, has.2, (bytes_eq-Decides q q).1 refl)

plain_is : (q : Path) (e : Entry) → is_named Plain q e ≡ true → e ≡ entry.Plain q
plain_is q entry.Blank h = absurd (false≢true h)
plain_is q (entry.Plain path) h = ap entry.Plain ((bytes_eq-Decides path q).0 h)
plain_is q (entry.Flagged path) h = absurd (false≢true h)
plain_is q entry.Odd h = absurd (false≢true h)

flagged_is : (q : Path) (e : Entry) → is_named Flagged q e ≡ true → e ≡ entry.Flagged q
flagged_is q entry.Blank h = absurd (false≢true h)
flagged_is q (entry.Plain path) h = absurd (false≢true h)
flagged_is q (entry.Flagged path) h = ap entry.Flagged ((bytes_eq-Decides path q).0 h)
flagged_is q entry.Odd h = absurd (false≢true h)

pub line_named : (q : Path) (all : List Entry) → list_any (is_named Plain q) all ≡ true → Contains all (entry.Plain q)
line_named q all h =
    let any = Any-from_list_any (is_named Plain q) all h in
    subst (Contains all) (plain_is q any.1 any.4) (any.0, any.2, any.3)

pub line_flagged : (q : Path) (all : List Entry) → list_any (is_named Flagged q) all ≡ true → Contains all (entry.Flagged q)
line_flagged q all h =
    let any = Any-from_list_any (is_named Flagged q) all h in
    subst (Contains all) (flagged_is q any.1 any.4) (any.0, any.2, any.3)

each_line : (P : Entry → Type 0) (all : List Entry) (e : Entry) → HasNoEntry P all → Contains all e → P e → ⊥
each_line P [] e none has holds = none_in e has
each_line P (x ∷ all) e none has holds = elim (first_or_later x all e has) [
  | inl same ↦ none.0 (subst P (sym same) holds)
  | inr on ↦ each_line P all e none.1 on holds
]

-- what can't be missing is there
there_unless : (paths : List Path) (q : Path) → ((Contains paths q → ⊥) → ⊥) → Contains paths q
there_unless paths q missing = at (list_any (bytes_eq q) paths) refl
  where
    at : (b : Bool) → list_any (bytes_eq q) paths ≡ b → Contains paths q
    at true e = (let any = Any-from_list_any (bytes_eq q) paths e in subst (Contains paths) (sym ((bytes_eq-Decides q any.1).0 any.4)) (any.0, any.2, any.3))
    at false e = absurd (missing (λ has. true≢false (sym (list_any-from_Any (bytes_eq q) paths (has.0, q, has.1, has.2, (bytes_eq-Decides q q).1 refl)) ∙ e)))

kind_is_file : (n : Node) → kind_of (Some n) ≡ Some kind.File → is_file n ≡ true
kind_is_file (File bytes access) e = refl
kind_is_file (Dir access) e = absurd (let other : Some kind.Directory ≡ Some kind.File = e in cc)
kind_is_file (Link target) e = absurd (let other : Some kind.SymbolicLink ≡ Some kind.File = e in cc)

both : (a b : Bool) → a ≡ true → b ≡ true → a && b ≡ true
both true b first second = second
both false b first second = absurd (false≢true first)

-- the entry of a path that is shipped
at_path : (files : List Shipped) (q : Path) → Contains (paths_of files) q → (file : Shipped) × Contains files file × (file.path ≡ q)
at_path [] q has = absurd (none_in q has)
at_path (f ∷ files) q has = elim (first_or_later f.path (paths_of files) q has) [
  | inl same ↦ (f, in_first f files, same)
  | inr on ↦ (let found = at_path files q on in (found.0, in_later f files found.0 found.1, found.2))
]

node_of : (w : World) (files : List Shipped) (file : Shipped) → AllByRecursion (λ f. w f.path ≡ Some f.node) files → Contains files file → w file.path ≡ Some file.node
node_of w [] file all has = absurd (none_in file has)
node_of w (f ∷ files) file all has = elim (first_or_later f files file has) [
  | inl same ↦ subst (λ (x : Shipped). w x.path ≡ Some x.node) same all.0
  | inr on ↦ node_of w files file all.1 on
]

-- the conffiles are what the plain lines name
pub plain_named : (w : World) (P : Path → Bool) (all : List Entry) (files : List Shipped) (paths : List Path) → HasNoEntry (IsAstray w) all → AreFiles w files → ArePathTexts (paths_of files)
    → ((q : Path) → P q ≡ true → IsUtf8 q) → ((q : Path) → IsUtf8 q → P q ≡ list_any (is_named Plain q) all) → paths ≡ paths_of (filter (is_file_in P) files) → AreNamed entry.Plain all paths
plain_named w P all files paths none are texts utf8 says is = record {
  only = λ q has.
      (let found = filtered (is_file_in P) files q (subst (λ (l : List Path). Contains l q) is has) in
      let named : P q ≡ true = ap P (sym found.at) ∙ (and_parts (is_file found.file.node) (P found.file.path) found.passes).1 in
      line_named q all (sym (says q (utf8 q named)) ∙ named));
  whole = λ q line. there_unless paths q (λ missing. each_line (IsAstray w) all (entry.Plain q) none line (λ ships.
      (let found = at_path files q (are.paths.whole q ships.shipped) in
      let text : IsUtf8 q = (texts q (are.paths.whole q ships.shipped)).0 in
      let node : w q ≡ Some found.0.node = ap w (sym found.2) ∙ node_of w files found.0 are.nodes found.1 in
      let file : is_file found.0.node ≡ true = kind_is_file found.0.node (ap kind_of (sym node) ∙ ships.file) in
      let named : P found.0.path ≡ true = ap P found.2 ∙ says q text ∙ named_line q all line in
      missing (subst (λ (l : List Path). Contains l q) (sym is) (subst (Contains (paths_of (filter (is_file_in P) files))) found.2 (in_filter (is_file_in P) files found.0 found.1 (both (is_file found.0.node) (P found.0.path) file named)))))));
  order = subst AreInOrder (sym is) (filter_order (is_file_in P) files are.paths.order);
}

-- the flagged paths are what the flagged lines name
pub flagged_named : (w : World) (all : List Entry) (flagged : List Path) → HasNoEntry (IsAstray w) all → AreInOrder flagged → ((q : Path) → Contains flagged q → list_any (is_named Flagged q) all ≡ true)
    → ((q : Path) → IsShipLine q → list_any (is_named Flagged q) all ≡ true → Contains flagged q) → AreNamed entry.Flagged all flagged
flagged_named w all flagged none order only whole = record {
  only = λ q has. line_flagged q all (only q has);
  whole = λ q line. there_unless flagged q (λ missing. each_line (IsAstray w) all (entry.Flagged q) none line (λ ships. missing (whole q ships (flagged_line q all line))));
  order = order;
}
