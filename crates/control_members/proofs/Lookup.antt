-- Control files looked up by their names.
use Rattle.std.proofs.Common.{◌≡◌, ◌≢◌, ◌+◌, ◌<◌, ℕ, zero, suc, Bool, true, false, cond, List, [], ◌∷◌, ◌++◌, take, drop, length, get_or, Option, Some, None, is_some, refl, sym, ap, subst, ◌∙◌, arith, Contains, drop-cons, add-one}
use Rattle.std.specs.Prelude.{IsSome, ◌||◌}
use Rattle.std.specs.List.{AllByRecursion}
use Rattle.std.specs.Option.{option_copied}
use Rattle.std.specs.Str.{bytes_eq}
use Rattle.std.proofs.lemmas.Bool.{true≢false, false_from_ne_true}
use Rattle.std.proofs.lemmas.List.{take-append-drop}
use Rattle.std.proofs.lemmas.Slice.Eq.{bytes_eq-Decides}
use denote.Ref.{Bor}
use Rattle.host_core.specs.Paths.{Path}
use Rattle.host_core.specs.World.{IsFile, is_file}
use Rattle.host_core.specs.declared.node.Node.{Node}
use Rattle.host_core.specs.declared.node.Node.TheVariants.{File, Dir, Link}
use Rattle.administration.specs.Files.{NoDirectory}
use Rattle.administration.proofs.WholeFiles.{no_directory_none, no_directory_file}
use Rattle.host_core.specs.Outcome.{script_name}
use Rattle.host_core.specs.declared.call.Script.{Script}
use Rattle.host_core.specs.declared.call.Script.TheVariants.{Preinst, Postinst, Prerm, Postrm}
use Rattle.control_members.specs.Names.{is_member_name, is_script_name}
use Rattle.name_tables.specs.Tables.{put_value}
use Rattle.name_tables.proofs.Lookups.{value_in-put_value}
use Rattle.name_tables.proofs.Names.{before_differs}
use Rattle.control_members.specs.Members.{IsBefore, AreInOrder, name_of, names_of, member_of, node_of, member_node}
use Rattle.control_members.specs.Stored.{over}
use Rattle.control_members.specs.declared.member.Member.{Member}

-- the first of two
abbrev pub or_else : Option Member → Option Member → Option Member
or_else None other = other
or_else (Some m) other = Some m

pub found_here : (ms : List Member) (m : Member) (name : Path) → m.name ≡ name → member_of (m ∷ ms) name ≡ Some m
found_here ms m name e = ap (λ b. cond b (Some m) (member_of ms name)) ((bytes_eq-Decides m.name name).1 e)

pub passed_over : (ms : List Member) (m : Member) (name : Path) → m.name ≢ name → member_of (m ∷ ms) name ≡ member_of ms name
passed_over ms m name ne = ap (λ b. cond b (Some m) (member_of ms name)) (false_from_ne_true (bytes_eq m.name name) (λ t. ne ((bytes_eq-Decides m.name name).0 t)))

pub member_of-append : (xs ys : List Member) (name : Path) → member_of (xs ++ ys) name ≡ or_else (member_of xs name) (member_of ys name)
member_of-append [] ys name = refl
member_of-append (x ∷ xs) ys name = at (bytes_eq x.name name) (member_of-append xs ys name)
  where
    at : (b : Bool) → member_of (xs ++ ys) name ≡ or_else (member_of xs name) (member_of ys name) → cond b (Some x) (member_of (xs ++ ys) name) ≡ or_else (cond b (Some x) (member_of xs name)) (member_of ys name)
    at true rest = refl
    at false rest = rest

-- of a name that none in front has
pub pushed_here : (ms : List Member) (m : Member) → member_of ms m.name ≡ None → member_of (ms ++ m ∷ []) m.name ≡ Some m
pushed_here ms m none = member_of-append ms (m ∷ []) m.name ∙ ap (λ o. or_else o (member_of (m ∷ []) m.name)) none ∙ found_here [] m m.name refl

or_none : (o : Option Member) → or_else o None ≡ o
or_none None = refl
or_none (Some m) = refl

pub pushed_other : (ms : List Member) (m : Member) (name : Path) → m.name ≢ name → member_of (ms ++ m ∷ []) name ≡ member_of ms name
pushed_other ms m name ne = member_of-append ms (m ∷ []) name ∙ ap (or_else (member_of ms name)) (passed_over [] m name ne) ∙ or_none (member_of ms name)

-- what the first found is
pub is_named : (ms : List Member) (m : Member) (name : Path) → member_of ms name ≡ Some m → m.name ≡ name
is_named [] m name e = absurd cc
is_named (x ∷ ms) m name e = at (bytes_eq x.name name) refl (is_named ms m name) e
  where
    at : (b : Bool) → bytes_eq x.name name ≡ b → (member_of ms name ≡ Some m → m.name ≡ name) → cond b (Some x) (member_of ms name) ≡ Some m → m.name ≡ name
    at true is rest found = (let same : x ≡ m = cc in ap (λ (y : Member). y.name) (sym same) ∙ (bytes_eq-Decides x.name name).0 is)
    at false is rest found = rest found

file_is : (node : Node) → is_file node ≡ true → IsFile node
file_is (File b m) is = (b, m, refl)
file_is (Dir m) is = absurd (true≢false (sym is))
file_is (Link t) is = absurd (true≢false (sym is))

pub member_file : (m : Member) → IsFile m.node
member_file m = file_is m.node m.file

pub member_loose : (m : Member) → NoDirectory (Some m.node)
member_loose m = no_directory_file m.node (member_file m)

node_loose : (o : Option Member) → NoDirectory (node_of o)
node_loose None = no_directory_none
node_loose (Some m) = member_loose m

pub loose_at : (ms : List Member) (name : Path) → NoDirectory (member_node ms name)
loose_at ms name = node_loose (member_of ms name)

-- what is found has the name of a control file
pub found_named : (ms : List Member) (name : Path) → IsSome (member_node ms name) → is_member_name name ≡ true
found_named ms name some = at (member_of ms name) refl some
  where
    at : (o : Option Member) → member_of ms name ≡ o → IsSome (node_of o) → is_member_name name ≡ true
    at None e is = absurd (true≢false (sym is))
    at (Some m) e is = subst (λ n. is_member_name n ≡ true) (is_named ms m name e) m.named

pub none_unnamed : (ms : List Member) (name : Path) → (is_member_name name ≡ true → ⊥) → member_node ms name ≡ None
none_unnamed ms name not = at (member_node ms name) refl
  where
    at : (o : Option Node) → member_node ms name ≡ o → o ≡ None
    at None e = refl
    at (Some n) e = absurd (not (found_named ms name (ap is_some e)))

-- among the names

pub found_listed : (ms : List Member) (name : Path) → IsSome (member_node ms name) → Contains (names_of ms) name
found_listed [] name some = absurd (true≢false (sym some))
found_listed (m ∷ ms) name some = at (bytes_eq m.name name) refl (found_listed ms name) some
  where
    at : (b : Bool) → bytes_eq m.name name ≡ b → (IsSome (member_node ms name) → Contains (names_of ms) name) → IsSome (node_of (cond b (Some m) (member_of ms name))) → Contains (m.name ∷ names_of ms) name
    at true e rest is = (zero, omega arith, (bytes_eq-Decides m.name name).0 e)
    at false e rest is = (let has = rest is in (suc has.0, omega (arith, has.1), has.2))

pub listed_named : (ms : List Member) (name : Path) → Contains (names_of ms) name → is_member_name name ≡ true
listed_named [] name has = absurd (omega (arith, has.1))
listed_named (m ∷ ms) name (zero, lt, e) = subst (λ n. is_member_name n ≡ true) e m.named
listed_named (m ∷ ms) name (suc k, lt, e) = listed_named ms name (k, omega (arith, lt), e)

-- of names in order none is that of one behind
pub none_before : (front back : List Member) (m : Member) → AreInOrder (names_of (front ++ m ∷ back)) → member_of front m.name ≡ None
none_before [] back m order = refl
none_before (x ∷ front) back m order =
    passed_over front x m.name (before_differs x.name m.name (all_of front order.0)) ∙ none_before front back m order.1
  where
    all_of : (zs : List Member) → AllByRecursion (IsBefore x.name) (names_of (zs ++ m ∷ back)) → IsBefore x.name m.name
    all_of [] all = all.0
    all_of (z ∷ zs) all = all_of zs all.1

-- a list, cut at one of its items
pub cut_at : (ms : List Member) (i : ℕ) (m : Member) → i < length ms → m ≡ get_or ms i m → take i ms ++ m ∷ drop (i + 1) ms ≡ ms
cut_at ms i m lt e =
    ap (λ (l : List Member). take i ms ++ l) (sym (drop-cons ms i m lt ∙ ap (λ x. x ∷ drop (suc i) ms) (sym e) ∙ ap (λ k. m ∷ drop k ms) (sym (add-one i)))) ∙ take-append-drop i ms

-- one that comes in
pub added_found : (ms : List Member) (m : Member) (name : Path) → member_of ms m.name ≡ None → member_of (put_value name_of m ms) name ≡ member_of (ms ++ m ∷ []) name
added_found ms m name none = value_in-put_value name_of m ms name ∙ at (bytes_eq m.name name) refl
  where
    at : (b : Bool) → bytes_eq m.name name ≡ b → cond b (Some m) (member_of ms name) ≡ member_of (ms ++ m ∷ []) name
    at true e = sym (pushed_here ms m none) ∙ ap (member_of (ms ++ m ∷ [])) ((bytes_eq-Decides m.name name).0 e)
    at false e = sym (pushed_other ms m name (λ same. true≢false (sym ((bytes_eq-Decides m.name name).1 same) ∙ e)))

-- one whose name is there already
pub already_found : (ms : List Member) (m : Member) (name : Path) → IsSome (node_of (member_of ms m.name)) → member_of ms name ≡ member_of (ms ++ m ∷ []) name
already_found ms m name some = at (bytes_eq m.name name) refl
  where
    stays : (o : Option Member) → IsSome (node_of o) → o ≡ or_else o (Some m)
    stays None is = absurd (true≢false (sym is))
    stays (Some x) is = refl

    at : (b : Bool) → bytes_eq m.name name ≡ b → member_of ms name ≡ member_of (ms ++ m ∷ []) name
    at true e = (let same = (bytes_eq-Decides m.name name).0 e in
        ap (member_of ms) (sym same) ∙ stays (member_of ms m.name) some
        ∙ ap (or_else (member_of ms m.name)) (sym (found_here [] m m.name refl)) ∙ sym (member_of-append ms (m ∷ []) m.name) ∙ ap (member_of (ms ++ m ∷ [])) same)
    at false e = sym (pushed_other ms m name (λ same. true≢false (sym ((bytes_eq-Decides m.name name).1 same) ∙ e)))

-- whether a name is found, as a look told

pub told_some : (r : Option (Bor Member)) (b : Bool) (o : Option Member) → option_copied r ≡ o → b ≡ is_some r → b ≡ is_some (node_of o)
told_some None b o e told = told ∙ ap (λ (x : Option Member). is_some (node_of x)) e
told_some (Some m) b o e told = told ∙ ap (λ (x : Option Member). is_some (node_of x)) e

pub told_none : (r : Option (Bor Member)) (b : Bool) (o : Option Member) → option_copied r ≡ o → b ≡ is_some r → b ≡ false → o ≡ None
told_none None b o e told lacks = sym e
told_none (Some m) b o e told lacks = absurd (true≢false (sym told ∙ lacks))

-- one more, as nodes
pub added_node : (ms : List Member) (m : Member) (name : Path) → member_node (ms ++ m ∷ []) name ≡ over (member_node ms name) (cond (bytes_eq m.name name) (Some m.node) None)
added_node ms m name = ap node_of (member_of-append ms (m ∷ []) name) ∙ at (member_of ms name) (bytes_eq m.name name)
  where
    at : (o : Option Member) (b : Bool) → node_of (or_else o (cond b (Some m) None)) ≡ over (node_of o) (cond b (Some m.node) None)
    at None true = refl
    at None false = refl
    at (Some x) b = refl

-- the names of others alone, one more

pub other_passed : (ms ys : List Member) (m : Member) (is : Path → Bool) → is m.name ≡ true → ((name : Path) → member_of ms name ≡ cond (is name) None (member_of ys name)) → (name : Path) → member_of ms name ≡ cond (is name) None (member_of (ys ++ m ∷ []) name)
other_passed ms ys m is script before name = before name ∙ at (is name) refl
  where
    at : (b : Bool) → is name ≡ b → cond b None (member_of ys name) ≡ cond b None (member_of (ys ++ m ∷ []) name)
    at true e = refl
    at false e = sym (pushed_other ys m name (λ same. true≢false (sym script ∙ ap is same ∙ e)))

pub other_added : (old new ys : List Member) (m : Member) (is : Path → Bool) → is m.name ≡ false → ((name : Path) → member_of old name ≡ cond (is name) None (member_of ys name)) → ((name : Path) → member_of new name ≡ member_of (old ++ m ∷ []) name)
    → (name : Path) → member_of new name ≡ cond (is name) None (member_of (ys ++ m ∷ []) name)
other_added old new ys m is other before added name = added name ∙ member_of-append old (m ∷ []) name ∙ ap (λ o. or_else o (member_of (m ∷ []) name)) (before name) ∙ at (is name) refl
  where
    at : (b : Bool) → is name ≡ b → or_else (cond b None (member_of ys name)) (member_of (m ∷ []) name) ≡ cond b None (member_of (ys ++ m ∷ []) name)
    at true e = passed_over [] m name (λ same. true≢false (sym e ∙ ap is (sym same) ∙ other))
    at false e = sym (member_of-append ys (m ∷ []) name)

-- a name that is no script's

flip_eq : (a b : Path) → bytes_eq a b ≡ false → bytes_eq b a ≡ false
flip_eq a b e = false_from_ne_true (bytes_eq b a) (λ t. true≢false (sym ((bytes_eq-Decides a b).1 (sym ((bytes_eq-Decides b a).0 t))) ∙ e))

neither : (a b : Bool) → a || b ≡ false → (a ≡ false) × (b ≡ false)
neither true b is = absurd (true≢false is)
neither false b is = (refl, is)

script_apart : (script : Script) (name : Path) → is_script_name name ≡ false → bytes_eq (script_name script) name ≡ false
script_apart script name other =
    let first = neither (bytes_eq name (script_name Preinst)) _ other in
    let second = neither (bytes_eq name (script_name Postinst)) _ first.1 in
    let third = neither (bytes_eq name (script_name Prerm)) _ second.1 in
    let fourth = neither (bytes_eq name (script_name Postrm)) false third.1 in
    at script first.0 second.0 third.0 fourth.0
  where
    at : (s : Script) → bytes_eq name (script_name Preinst) ≡ false → bytes_eq name (script_name Postinst) ≡ false → bytes_eq name (script_name Prerm) ≡ false → bytes_eq name (script_name Postrm) ≡ false → bytes_eq (script_name s) name ≡ false
    at Preinst a b c d = flip_eq name (script_name Preinst) a
    at Postinst a b c d = flip_eq name (script_name Postinst) b
    at Prerm a b c d = flip_eq name (script_name Prerm) c
    at Postrm a b c d = flip_eq name (script_name Postrm) d

over_none : (o : Option Node) → over o None ≡ o
over_none None = refl
over_none (Some n) = refl

pub other_stays : (script : Script) (name : Path) (file old new : Option Node) → is_script_name name ≡ false → new ≡ over old (cond (bytes_eq (script_name script) name) file None) → new ≡ old
other_stays script name file old new other e = e ∙ ap (λ b. over old (cond b file None)) (script_apart script name other) ∙ over_none old
