-- A tree is that of one package, or has one fault.
use Rattle.std.proofs.Common.{◌≡◌, ℕ, true, List, [], ◌∷◌, ◌++◌, Option, Some, None, refl, sym, ◌∙◌, ap, ap₂, subst, inl, inr}
use Rattle.std.specs.Prelude.{Contains}
use Rattle.std.proofs.Props.{props}
use Rattle.std.proofs.Math.Logic.{∥∥₁_elim}
use mathlib.Core.HLevel.{is_prop→PathP}
use Rattle.std.specs.List.{AllByRecursion}
use Rattle.std.proofs.lemmas.Bool.{false≢true}
use Rattle.std.proofs.lemmas.Bool.Decides.{same_from_decides}
use Rattle.host_core.specs.Paths.{Path}
use Rattle.host_core.specs.World.{World, is_file, kind_of}
use Rattle.host_core.specs.declared.node.Kind.TheVariants as kind
use Rattle.host_core.specs.declared.node.Node.{Node}
use Rattle.host_core.specs.declared.node.Node.TheVariants.{File, Dir, Link}
use Rattle.host_core.specs.declared.call.Script.{Script}
use Rattle.control_fields.specs.Grammar.{ReadsOne, lines_of}
use Rattle.control_fields.specs.Faults.{IsFaultOfOne}
use Rattle.control_fields.specs.declared.field.Field.{Field}
use Rattle.control_fields.proofs.OnlyOne.{reads_one_once, no_fault_of_one}
use Rattle.administration.specs.Scripts.{script_of, file_of}
use Rattle.stated_relations.specs.Stated.{States}
use Rattle.package_tree.specs.ControlFile.{key_of, relation_order, IsControlText, HasValue, HasNoBad, HasNoBadRelation, HasBadValue}
use Rattle.package_tree.specs.ControlLimit.{HasNoneOver, IsOver}
use Rattle.package_tree.specs.Conffiles.{HasNoEntry, IsFirstEntry, IsOdd}
use Rattle.package_tree.specs.ConffileFaults.{AreNamed, IsAstray}
use Rattle.package_tree.proofs.Firsts.{no_bad_path}
use Rattle.package_tree.specs.OtherNames.{is_other_name}
use Rattle.package_tree.specs.OtherFiles.{names_of, control_member}
use Rattle.package_tree.specs.Owners.{root_at}
use Rattle.package_tree.specs.ShipMap.{paths_of}
use Rattle.package_tree.specs.declared.conffile_lines.Entry.{Entry}
use Rattle.package_tree.specs.declared.control_file.ControlFile.{ControlFile}
use Rattle.package_tree.specs.declared.conffile_lines.Entry.TheVariants.{Plain, Flagged}
use Rattle.package_tree.specs.declared.other_file.OtherFile.{OtherFile}
use Rattle.package_tree.specs.declared.shipped.Shipped.{Shipped}
use Rattle.package_tree.specs.Tree.{HasControl, IsTreeOf, IsTreeFault}
use Rattle.package_tree.specs.declared.package.Package.{Package}
use Rattle.package_tree.specs.declared.fault.FieldName.{FieldName}
use Rattle.package_tree.specs.declared.fault.FieldName.TheVariants as field
use Rattle.relation_fields.specs.declared.relation_field.RelationField.{RelationField}
use Rattle.package_tree.specs.declared.fault.TreeFault.{TreeFault}
use Rattle.package_tree.specs.declared.fault.TreeFault.TheVariants.{Twice, NoRoom, NoControl, Control, FieldMissing, FieldBad, PathBad, Reserved, ConffileNotShipped, ConffileShipped, ConffileFlag, TooLarge, TooMany, Device, NoMemory, Declined}
use Rattle.package_tree.proofs.Ordered.{none_in, first_or_later, same_list}
use Rattle.package_tree.proofs.FieldsOnce.{lacked, one_value, not_bad, not_lacked}
use Rattle.package_tree.proofs.OneStated.{stated_once}
use Rattle.package_tree.proofs.Owning.{kind_root}

abbrev bytes_of : Option Node → List ℕ
bytes_of None = []
bytes_of (Some (File bytes access)) = bytes
bytes_of (Some (Dir access)) = []
bytes_of (Some (Link target)) = []

one_text : (w : World) (a b : List ℕ) → HasControl w a → HasControl w b → a ≡ b
one_text w a b one other = ap bytes_of (sym one.0.1 ∙ other.0.1)

one_control : (w : World) (p : Package) → (t : IsTreeOf w p) → (text : List ℕ) (paragraph : List Field) → HasControl w text → ReadsOne (lines_of text) paragraph → paragraph ≡ p.control
one_control w p t text paragraph there reads =
    reads_one_once (lines_of t.text) paragraph p.control (subst (λ (b : List ℕ). ReadsOne (lines_of b) paragraph) (one_text w text t.text there t.there) reads) t.control.reads

none_bad : (name : FieldName) (fields : List Field) → HasNoBad name fields → HasBadValue name fields → ⊥
none_bad name fields (inl lacks) bad = lacked (key_of name) fields bad.field bad.called lacks
none_bad name fields (inr good) bad = not_bad name fields good.0 good.1 bad

relation_among : (before after : List RelationField) (relation : RelationField) (fields : List Field) → HasNoBadRelation (before ++ relation ∷ after) fields → HasNoBad (field.Relation relation) fields
relation_among [] after relation fields all = all.0
relation_among (r ∷ before) after relation fields all = relation_among before after relation fields all.1

none_of : (P : Entry → Type 0) (front rest : List Entry) (entry : Entry) → HasNoEntry P (front ++ entry ∷ rest) → P entry → ⊥
none_of P [] rest entry all holds = all.0 holds
none_of P (e ∷ front) rest entry all holds = none_of P front rest entry all.1 holds

first_of_none : (P : Entry → Type 0) (entries : List Entry) (number : ℕ) (entry : Entry) → HasNoEntry P entries → IsFirstEntry P entries number entry → ⊥
first_of_none P entries number entry all first = none_of P first.front first.rest entry (subst (HasNoEntry P) first.is all) first.holds

over_of_none : (w : World) (before after : List Path) (path : Path) → HasNoneOver w (before ++ path ∷ after) → IsOver (w path) → ⊥
over_of_none w [] after path all over = all.0 over
over_of_none w (p ∷ before) after path all over = over_of_none w before after path all.1 over

pub no_fault : (w : World) (p : Package) (fault : TreeFault) → IsTreeOf w p → IsTreeFault w fault → ⊥
no_fault w p Twice t wrong = wrong
no_fault w p (NoRoom path) t wrong = wrong
no_fault w p NoControl t wrong = wrong t.text t.there.0
no_fault w p (Control fault) t wrong = wrong.2.1 (no_fault_of_one (lines_of t.text) p.control fault t.control.reads (subst (λ (b : List ℕ). IsFaultOfOne (lines_of b) fault) (one_text w wrong.0 t.text wrong.1 t.there) wrong.2.0))
no_fault w p (FieldMissing field.Package) t wrong =
    not_lacked field.Package wrong.2.0 p.name (subst (λ (l : List Field). HasValue field.Package l p.name) (sym (one_control w p t wrong.0 wrong.2.0 wrong.1 wrong.2.1)) t.control.fields.named) wrong.2.2
no_fault w p (FieldMissing field.Version) t wrong =
    not_lacked field.Version wrong.2.0 p.version (subst (λ (l : List Field). HasValue field.Version l p.version) (sym (one_control w p t wrong.0 wrong.2.0 wrong.1 wrong.2.1)) t.control.fields.versioned) wrong.2.2.1
no_fault w p (FieldMissing field.Essential) t wrong = absurd wrong.2.2
no_fault w p (FieldMissing (field.Relation relation)) t wrong = absurd wrong.2.2
no_fault w p (FieldBad field.Package) t wrong =
    not_bad field.Package wrong.2.0 p.name (subst (λ (l : List Field). HasValue field.Package l p.name) (sym (one_control w p t wrong.0 wrong.2.0 wrong.1 wrong.2.1)) t.control.fields.named) wrong.2.2.1
no_fault w p (FieldBad field.Version) t wrong =
    not_bad field.Version wrong.2.0 p.version (subst (λ (l : List Field). HasValue field.Version l p.version) (sym (one_control w p t wrong.0 wrong.2.0 wrong.1 wrong.2.1)) t.control.fields.versioned) wrong.2.2.1
no_fault w p (FieldBad field.Essential) t wrong =
    none_bad field.Essential wrong.2.0 (subst (HasNoBad field.Essential) (sym (one_control w p t wrong.0 wrong.2.0 wrong.1 wrong.2.1)) t.control.fields.essential) wrong.2.2.2
no_fault w p (FieldBad (field.Relation relation)) t wrong =
    let first = wrong.2.2.3 in
    let good = subst (HasNoBadRelation relation_order) (sym (one_control w p t wrong.0 wrong.2.0 wrong.1 wrong.2.1)) t.control.fields.relations in
    none_bad (field.Relation relation) wrong.2.0 (relation_among first.front first.rest relation wrong.2.0 (subst (λ (l : List RelationField). HasNoBadRelation l wrong.2.0) first.is good)) first.bad
no_fault w p (PathBad path) t wrong = no_bad_path w t.paths.files t.paths.beside path wrong.1.holds
no_fault w p (Reserved path) t wrong = t.paths.reserved path wrong.2.holds
no_fault w p (ConffileNotShipped name) t wrong = first_of_none (IsAstray w) _ wrong.2.1 wrong.2.0 t.lines.named wrong.2.2
no_fault w p (ConffileShipped path) t wrong = t.lines.flagged path wrong.3.holds
no_fault w p (ConffileFlag line) t wrong = first_of_none IsOdd _ line wrong.4.0 t.lines.words wrong.4.1
no_fault w p (TooLarge path) t (inl (inl wrong)) = t.there.1 wrong.1
no_fault w p (TooLarge path) t (inl (inr wrong)) = over_of_none w wrong.1.before wrong.1.after path (subst (HasNoneOver w) wrong.1.is t.members) wrong.1.over
no_fault w p (TooLarge path) t (inr (_, _, _, inl wrong)) = t.room path wrong.0.holds
no_fault w p (TooLarge path) t (inr (_, _, _, inr wrong)) = t.small wrong.1.0 wrong.1.2.holds
no_fault w p TooMany t wrong = t.room wrong.3.0 wrong.3.1.0.holds
no_fault w p Device t wrong = wrong
no_fault w p NoMemory t wrong = wrong
no_fault w p Declined t wrong = wrong

pub control_once : (w : World) (p q : Package) → IsTreeOf w p → IsTreeOf w q → p.control ≡ q.control
control_once w p q s t = one_control w q t s.text p.control s.there s.control.reads

pub name_once : (w : World) (p q : Package) → IsTreeOf w p → IsTreeOf w q → p.name ≡ q.name
name_once w p q s t = one_value field.Package q.control p.name q.name (subst (λ (l : List Field). HasValue field.Package l p.name) (control_once w p q s t) s.control.fields.named) t.control.fields.named

pub version_once : (w : World) (p q : Package) → IsTreeOf w p → IsTreeOf w q → p.version ≡ q.version
version_once w p q s t = one_value field.Version q.control p.version q.version (subst (λ (l : List Field). HasValue field.Version l p.version) (control_once w p q s t) s.control.fields.versioned) t.control.fields.versioned

pub relations_once : (w : World) (p q : Package) → IsTreeOf w p → IsTreeOf w q → p.relations ≡ q.relations
relations_once w p q s t =
    ∥∥₁_elim s.relations (hlevel props) (λ one.
    ∥∥₁_elim t.relations (hlevel props) (λ other.
    stated_once q.control p.relations q.relations (subst (λ (fields : List Field). States fields p.relations) (control_once w p q s t) one) other))

pub scripts_once : (w : World) (p q : Package) → IsTreeOf w p → IsTreeOf w q → (script : Script) → file_of (script_of p.scripts script) ≡ file_of (script_of q.scripts script)
scripts_once w p q s t script = s.scripts script ∙ sym (t.scripts script)

pub ships_once : (w : World) (p q : Package) → IsTreeOf w p → IsTreeOf w q → p.ships ≡ q.ships
ships_once w p q s t = same_from_decides p.ships q.ships s.ships t.ships

pub has_conffiles_once : (w : World) (p q : Package) → IsTreeOf w p → IsTreeOf w q → p.has_conffiles ≡ q.has_conffiles
has_conffiles_once w p q s t = s.has_conffiles ∙ sym t.has_conffiles

-- the same paths, each with what stands there
same_files : (w : World) (a b : List Shipped) → paths_of a ≡ paths_of b → AllByRecursion (λ f. w f.path ≡ Some f.node) a → AllByRecursion (λ f. w f.path ≡ Some f.node) b → a ≡ b
same_files w [] [] same na nb = refl
same_files w [] (y ∷ b) same na nb = absurd cc
same_files w (x ∷ a) [] same na nb = absurd cc
same_files w (x ∷ a) (y ∷ b) same na nb =
    let path : x.path ≡ y.path = cc same in
    let rest : paths_of a ≡ paths_of b = cc same in
    let stands : Some x.node ≡ Some y.node = sym na.0 ∙ ap w path ∙ nb.0 in
    let node : x.node ≡ y.node = cc stands in
    let first : x ≡ y = λ i. record { path = path i; node = node i } in
    ap₂ (λ (f : Shipped) (fs : List Shipped). f ∷ fs) first (same_files w a b rest na.1 nb.1)

pub files_once : (w : World) (p q : Package) → IsTreeOf w p → IsTreeOf w q → p.files ≡ q.files
files_once w p q s t =
    same_files w p.files q.files
    (same_list (paths_of p.files) (paths_of q.files) s.files.paths.order t.files.paths.order (λ x has. t.files.paths.whole x (s.files.paths.only x has)) (λ x has. s.files.paths.whole x (t.files.paths.only x has)))
    s.files.nodes t.files.nodes

named_once : (kind : List ℕ → Entry) (all : List Entry) (a b : List Path) → AreNamed kind all a → AreNamed kind all b → a ≡ b
named_once kind all a b one other = same_list a b one.order other.order (λ x has. other.whole x (one.only x has)) (λ x has. one.whole x (other.only x has))

pub conffiles_once : (w : World) (p q : Package) → IsTreeOf w p → IsTreeOf w q → p.conffiles ≡ q.conffiles
conffiles_once w p q s t = named_once Plain _ p.conffiles q.conffiles s.conffiles t.conffiles

pub flagged_once : (w : World) (p q : Package) → IsTreeOf w p → IsTreeOf w q → p.flagged ≡ q.flagged
flagged_once w p q s t = named_once Flagged _ p.flagged q.flagged s.flagged t.flagged

kind_of_file : (n : Node) → is_file n ≡ true → kind_of (Some n) ≡ Some kind.File
kind_of_file (File bytes access) e = refl
kind_of_file (Dir access) e = absurd (false≢true e)
kind_of_file (Link target) e = absurd (false≢true e)

-- what is stored has a name for that, and is a file
stored_at : (w : World) (others : List OtherFile) (name : List ℕ) → AllByRecursion (λ o. root_at (w (control_member o.name)) ≡ Some o.node) others → Contains (names_of others) name → (is_other_name name ≡ true) × (kind_of (w (control_member name)) ≡ Some kind.File)
stored_at w [] name all has = absurd (none_in name has)
stored_at w (o ∷ others) name all has = elim (first_or_later o.name (names_of others) name has) [
  | inl same ↦ subst (λ (n : List ℕ). (is_other_name n ≡ true) × (kind_of (w (control_member n)) ≡ Some kind.File)) same (o.named, sym (kind_root (w (control_member o.name))) ∙ ap kind_of all.0 ∙ kind_of_file o.node o.file)
  | inr on ↦ stored_at w others name all.1 on
]

same_others : (w : World) (a b : List OtherFile) → names_of a ≡ names_of b → AllByRecursion (λ o. root_at (w (control_member o.name)) ≡ Some o.node) a → AllByRecursion (λ o. root_at (w (control_member o.name)) ≡ Some o.node) b → a ≡ b
same_others w [] [] same na nb = refl
same_others w [] (y ∷ b) same na nb = absurd cc
same_others w (x ∷ a) [] same na nb = absurd cc
same_others w (x ∷ a) (y ∷ b) same na nb =
    let name : x.name ≡ y.name = cc same in
    let rest : names_of a ≡ names_of b = cc same in
    let stands : Some x.node ≡ Some y.node = sym na.0 ∙ ap (λ (n : List ℕ). root_at (w (control_member n))) name ∙ nb.0 in
    let node : x.node ≡ y.node = cc stands in
    let first : x ≡ y = λ i. record {
      name = name i;
      node = node i;
      named = is_prop→PathP (λ j. is_other_name (name j) ≡ true) (λ j. hlevel props) x.named y.named i;
      file = is_prop→PathP (λ j. is_file (node j) ≡ true) (λ j. hlevel props) x.file y.file i;
    } in
    ap₂ (λ (o : OtherFile) (os : List OtherFile). o ∷ os) first (same_others w a b rest na.1 nb.1)

pub others_once : (w : World) (p q : Package) → IsTreeOf w p → IsTreeOf w q → p.others ≡ q.others
others_once w p q s t =
    same_others w p.others q.others
    (same_list (names_of p.others) (names_of q.others) s.others.order t.others.order
    (λ x has. (let at = stored_at w p.others x s.others.nodes has in t.others.whole x at.0 at.1))
    (λ x has. (let at = stored_at w q.others x t.others.nodes has in s.others.whole x at.0 at.1)))
    s.others.nodes t.others.nodes

-- a control file that is read alone

pub alone_control : (w : World) (p : Package) (text : List ℕ) (file : ControlFile) → IsTreeOf w p → HasControl w text → IsControlText text file.paragraph file.name file.version → file.paragraph ≡ p.control
alone_control w p text file t there is = one_control w p t text file.paragraph there is.reads

pub alone_name : (w : World) (p : Package) (text : List ℕ) (file : ControlFile) → IsTreeOf w p → HasControl w text → IsControlText text file.paragraph file.name file.version → file.name ≡ p.name
alone_name w p text file t there is =
    one_value field.Package p.control file.name p.name (subst (λ (l : List Field). HasValue field.Package l file.name) (alone_control w p text file t there is) is.fields.named) t.control.fields.named

pub alone_version : (w : World) (p : Package) (text : List ℕ) (file : ControlFile) → IsTreeOf w p → HasControl w text → IsControlText text file.paragraph file.name file.version → file.version ≡ p.version
alone_version w p text file t there is =
    one_value field.Version p.control file.version p.version (subst (λ (l : List Field). HasValue field.Version l file.version) (alone_control w p text file t there is) is.fields.versioned) t.control.fields.versioned

pub alone_relations : (w : World) (p : Package) (text : List ℕ) (file : ControlFile) → IsTreeOf w p → HasControl w text → IsControlText text file.paragraph file.name file.version → ∥ States file.paragraph file.relations ∥₁ → file.relations ≡ p.relations
alone_relations w p text file t there is stated =
    ∥∥₁_elim stated (hlevel props) (λ one.
    ∥∥₁_elim t.relations (hlevel props) (λ other.
    stated_once p.control file.relations p.relations (subst (λ (fields : List Field). States fields file.relations) (alone_control w p text file t there is) one) other))
