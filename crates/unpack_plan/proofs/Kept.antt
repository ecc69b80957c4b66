-- The other files of a tree as control files.
use Rattle.std.proofs.Common.{◌≡◌, ℕ, Bool, true, false, not, cond, List, [], ◌∷◌, Option, Some, None, codes, length, map, refl, sym, ap, ◌∙◌, nat_eq}
use Rattle.std.specs.Prelude.{◌||◌, ◌&&◌, nat_le}
use Rattle.std.specs.List.{list_all, list_any}
use Rattle.std.specs.Str.{bytes_eq}
use Rattle.std.proofs.lemmas.Bool.{and_parts, false≢true, true≢false, false_from_ne_true}
use Rattle.std.proofs.lemmas.Slice.Eq.{bytes_eq-Decides}
use Rattle.host_core.specs.Paths.{Path}
use Rattle.host_core.specs.declared.node.Node.{Node}
use Rattle.control_members.specs.Members.{member_node, member_of, node_of}
use Rattle.control_members.specs.Names.{is_member_name, is_member_sign, other_uses}
use Rattle.control_members.specs.declared.member.Member.{Member}
use Rattle.package_tree.specs.OtherNames.{is_name_byte, is_other_name, is_suffix_name, is_taken}
use Rattle.package_tree.specs.declared.other_file.OtherFile.{OtherFile}
use Rattle.unpack_plan.specs.Members.{Named, named_member, named_other, other_node}

-- names

or_first : (a b : Bool) → (a || b) ≡ false → a ≡ false
or_first true b e = absurd (true≢false e)
or_first false b e = refl

or_rest : (a b : Bool) → (a || b) ≡ false → b ≡ false
or_rest true b e = absurd (true≢false e)
or_rest false b e = e

not_true : (b : Bool) → not b ≡ true → b ≡ false
not_true true is = absurd (false≢true is)
not_true false is = refl

none_of : (a b : Bool) → a ≡ false → b ≡ false → (a || b) ≡ false
none_of a b first second = ap (λ t. t || b) first ∙ second

all_of : (a b : Bool) → a ≡ true → b ≡ true → (a && b) ≡ true
all_of a b first second = ap (λ t. t && b) first ∙ second

undotted : (name word : Path) → bytes_eq (46 ∷ name) (46 ∷ word) ≡ false → bytes_eq name word ≡ false
undotted name word other = false_from_ne_true (bytes_eq name word) (λ e. true≢false (sym ((bytes_eq-Decides (46 ∷ name) (46 ∷ word)).1 (ap (λ (l : Path). 46 ∷ l) ((bytes_eq-Decides name word).0 e))) ∙ other))

assoc : (a b c : Bool) → (a || (b || c)) ≡ ((a || b) || c)
assoc true b c = refl
assoc false b c = refl

sign_of : (b : ℕ) → is_name_byte b ≡ is_member_sign b
sign_of b = assoc (nat_le 97 b && nat_le b 122) (nat_le 48 b && nat_le b 57) (nat_eq b 43 || (nat_eq b 45 || nat_eq b 95))

signs_of : (name : Path) → list_all is_name_byte name ≡ list_all is_member_sign name
signs_of [] = refl
signs_of (b ∷ name) = ap (λ t. t && list_all is_name_byte name) (sign_of b) ∙ ap (λ t. is_member_sign b && t) (signs_of name)

no_use : (name : Path) → is_taken name ≡ false → is_suffix_name name ≡ false → list_any (bytes_eq name) other_uses ≡ false
no_use name taken suffix =
    let t1 = or_rest (bytes_eq name (codes "control")) _ taken in
    let t2 = or_rest (bytes_eq name (codes "conffiles")) _ t1 in
    let s1 = or_rest (bytes_eq (46 ∷ name) (codes ".dpkg-new")) _ suffix in
    let s2 = or_rest (bytes_eq (46 ∷ name) (codes ".dpkg-old")) _ s1 in
    let s3 = or_rest (bytes_eq (46 ∷ name) (codes ".dpkg-dist")) _ s2 in
    let s4 = or_rest (bytes_eq (46 ∷ name) (codes ".dpkg-tmp")) _ s3 in
    none_of (bytes_eq name (codes "control")) _ (or_first (bytes_eq name (codes "control")) _ taken)
    (none_of (bytes_eq name (codes "conffiles")) _ (or_first (bytes_eq name (codes "conffiles")) _ t1)
    (none_of (bytes_eq name (codes "list")) _ (or_first (bytes_eq name (codes "list")) _ t2)
    (none_of (bytes_eq name (codes "dpkg-new")) _ (undotted name (codes "dpkg-new") (or_first (bytes_eq (46 ∷ name) (codes ".dpkg-new")) _ suffix))
    (none_of (bytes_eq name (codes "dpkg-old")) _ (undotted name (codes "dpkg-old") (or_first (bytes_eq (46 ∷ name) (codes ".dpkg-old")) _ s1))
    (none_of (bytes_eq name (codes "dpkg-dist")) _ (undotted name (codes "dpkg-dist") (or_first (bytes_eq (46 ∷ name) (codes ".dpkg-dist")) _ s2))
    (none_of (bytes_eq name (codes "dpkg-tmp")) _ (undotted name (codes "dpkg-tmp") (or_first (bytes_eq (46 ∷ name) (codes ".dpkg-tmp")) _ s3))
    (none_of (bytes_eq name (codes "dpkg-inst")) _ (undotted name (codes "dpkg-inst") (or_first (bytes_eq (46 ∷ name) (codes ".dpkg-inst")) _ s4)) refl)))))))

-- each name of another file is that of a control file that is kept
pub other_is_member : (name : Path) → is_other_name name ≡ true → is_member_name name ≡ true
other_is_member name is =
    let some = and_parts (nat_le 1 (length name)) (nat_le (length name) 44 && (list_all is_name_byte name && (not (is_taken name) && not (is_suffix_name name)))) is in
    let few = and_parts (nat_le (length name) 44) (list_all is_name_byte name && (not (is_taken name) && not (is_suffix_name name))) some.1 in
    let signs = and_parts (list_all is_name_byte name) (not (is_taken name) && not (is_suffix_name name)) few.1 in
    let free = and_parts (not (is_taken name)) (not (is_suffix_name name)) signs.1 in
    all_of (nat_le 1 (length name)) _ some.0
    (all_of (nat_le (length name) 44) _ few.0
    (all_of (list_all is_member_sign name) _ (sym (signs_of name) ∙ signs.0) (ap not (no_use name (not_true (is_taken name) free.0) (not_true (is_suffix_name name) free.1)))))

-- names with their files

abbrev node_in : List Named → Path → Option Node
node_in [] name = None
node_in (x ∷ xs) name = cond (bytes_eq x.0 name) (Some x.1) (node_in xs name)

of_members : (ms : List Member) (name : Path) → member_node ms name ≡ node_in (map named_member ms) name
of_members [] name = refl
of_members (m ∷ ms) name = by (bytes_eq m.name name) ∙ ap (cond (bytes_eq m.name name) (Some m.node)) (of_members ms name)
  where
    by : (b : Bool) → node_of (cond b (Some m) (member_of ms name)) ≡ cond b (Some m.node) (member_node ms name)
    by true = refl
    by false = refl

of_others : (os : List OtherFile) (name : Path) → other_node os name ≡ node_in (map named_other os) name
of_others [] name = refl
of_others (o ∷ os) name = ap (cond (bytes_eq o.name name) (Some o.node)) (of_others os name)

pub same_nodes : (ms : List Member) (os : List OtherFile) → map named_member ms ≡ map named_other os → (name : Path) → member_node ms name ≡ other_node os name
same_nodes ms os same name = of_members ms name ∙ ap (λ (l : List Named). node_in l name) same ∙ sym (of_others os name)
