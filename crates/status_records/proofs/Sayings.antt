-- What the fields of a paragraph say.
use Rattle.std.proofs.Common.{◌≡◌, ℕ, ◌+◌, ◌<◌, ◌^◌, Bool, true, false, cond, Option, None, Some, Bor, List, [], ◌∷◌, ◌++◌, length, refl, sym, ap, subst, ◌∙◌, arith, codes, IsTrue, suc, map, eqb}
use Rattle.std.specs.Prelude.{IfSome, IfNone, ◌↔◌, option_copied, slice_get, ◌==◌}
use Rattle.std.specs.List.{list_any, AllByRecursion}
use Rattle.std.specs.Str.{bytes_eq}
use Rattle.std.proofs.lemmas.Bool.{true≢false, false≢true, or_parts}
use Rattle.std.proofs.lemmas.List.{map-append}
use Rattle.std.proofs.lemmas.Slice.Eq.{bytes_eq-Decides}
use Rattle.control_fields.specs.Names.{lower, is_called, IsFieldCalled}
use Rattle.control_fields.specs.declared.field.Field.{Field}
use Rattle.texts.specs.PackageNames.{is_package_name}
use Rattle.version_order.specs.Versions.{IsVersion}
use Rattle.status_records.specs.declared.words.Want.{Want}
use Rattle.status_records.specs.declared.words.Flag.{Flag}
use Rattle.status_records.specs.declared.words.StateWord.{StateWord}
use Rattle.status_records.specs.declared.words.StateWord.TheVariants.{NotInstalled}
use Rattle.status_records.specs.Words.{is_not_installed, state_of, status_text, IsStatusText}
use Rattle.status_records.specs.Values.{IsReadable}
use Rattle.status_records.specs.Paragraphs.{field_in, Says, IsNamed, IsGone}
use Rattle.control_fields.specs.Names.{line_of_field}
use Rattle.control_fields.specs.declared.located.Located.{Located}
use Rattle.std.proofs.lemmas.Bool.Decides.{nat_tests}
use Rattle.status_records.specs.Damage.{IsTaken, IsBadField, HasLines}
use Rattle.status_records.proofs.Parsing.{gone_state, is_gone_state}

-- the field of a name

called_found : (text : List ℕ) (front : List Field) (f : Field) (rest : List Field) → lower f.name ≡ text → is_called text front ≡ false → field_in text (front ++ f ∷ rest) ≡ Some f
called_found text [] f rest named none = ap (λ b. cond b (Some f) (field_in text rest)) ((bytes_eq-Decides (lower f.name) text).1 named)
called_found text (g ∷ front) f rest named none =
    let parts = or_parts (bytes_eq (lower g.name) text) (is_called text front) none in
    ap (λ b. cond b (Some g) (field_in text (front ++ f ∷ rest))) parts.0 ∙ called_found text front f rest named parts.1

pub not_called : (text : List ℕ) (fs : List Field) → is_called text fs ≡ false → field_in text fs ≡ None
not_called text [] none = refl
not_called text (g ∷ fs) none =
    let parts = or_parts (bytes_eq (lower g.name) text) (is_called text fs) none in
    ap (λ b. cond b (Some g) (field_in text fs)) parts.0 ∙ not_called text fs parts.1

pub found_field : (r : Option (Bor Field)) (text : List ℕ) (fs : List Field) → IfSome r (λ f. IsFieldCalled text fs f.now) → IfNone r (is_called text fs ≡ false) → option_copied r ≡ field_in text fs
found_field None text fs some none = sym (not_called text fs none)
found_field (Some f) text fs some none = sym (ap (field_in text) some.is ∙ called_found text some.front f.now some.rest some.named some.first)

-- one value

pub says_same : (text : List ℕ) (fs : List Field) (a b : List ℕ) → Says text fs a → Says text fs b → a ≡ b
says_same text fs a b p q =
    let same : p.field ≡ q.field = (let both : Some p.field ≡ Some q.field = sym p.there ∙ q.there in cc both) in
    sym p.value_is ∙ ap (λ (f : Field). f.first) same ∙ q.value_is

pub none_named : (fs : List Field) (value : List ℕ) → Says (codes "package") fs value → is_package_name value ≡ false → (name : List ℕ) → IsNamed fs name → ⊥
none_named fs value says bad name is = true≢false (sym is.1 ∙ ap is_package_name (says_same (codes "package") fs name value is.0 says) ∙ bad)

pub none_status : (fs : List Field) (value : List ℕ) → Says (codes "status") fs value → (IsStatusText value → ⊥) → (w : Want) (g : Flag) (s : StateWord) → Says (codes "status") fs (status_text w g s) → ⊥
none_status fs value says bad w g s is = bad (w, g, s, says_same (codes "status") fs value (status_text w g s) says is)

pub none_version : (fs : List Field) (value : List ℕ) → Says (codes "version") fs value → (IsVersion value → ⊥) → (v : List ℕ) → Says (codes "version") fs v × IsVersion v → ⊥
none_version fs value says bad v is = bad (subst IsVersion (says_same (codes "version") fs v value is.0 says) is.1)

-- gone

pub not_gone : (fs : List Field) → ((w : Want) (g : Flag) (s : StateWord) → Says (codes "status") fs (status_text w g s) → ⊥) → IsTrue false ↔ IsGone fs
not_gone fs none = (λ t. absurd (false≢true t), λ is. absurd (none is.0 is.1 NotInstalled is.2))

pub gone_by : (fs : List Field) (w : Want) (g : Flag) (s : StateWord) (b : Bool) → Says (codes "status") fs (status_text w g s) → b ≡ is_not_installed (state_of s) → IsTrue b ↔ IsGone fs
gone_by fs w g s b says e = (
  λ t. (w, g, subst (λ (q : StateWord). Says (codes "status") fs (status_text w g q)) (is_gone_state s (sym e ∙ t)) says),
  λ is. e ∙ gone_state w is.0 g is.1 s (says_same (codes "status") fs (status_text w g s) (status_text is.0 is.1 NotInstalled) says is.2),
)

-- taken

pub not_taken : (names : List (List ℕ)) (fs : List Field) → ((name : List ℕ) → IsNamed fs name → ⊥) → IsTrue false ↔ IsTaken names fs
not_taken names fs none = (λ t. absurd (false≢true t), λ is. absurd (none is.0 is.1))

pub taken_by : (names : List (List ℕ)) (fs : List Field) (name : List ℕ) (b : Bool) → IsNamed fs name → b ≡ list_any (bytes_eq name) names → IsTrue b ↔ IsTaken names fs
taken_by names fs name b is e = (λ t. (name, is, sym e ∙ t), λ taken. e ∙ ap (λ (n : List ℕ). list_any (bytes_eq n) names) (says_same (codes "package") fs name taken.0 is.0 taken.1.0) ∙ taken.2)

-- no line goes on with a field
pub no_lines : (more m : List (List ℕ)) (b : Bool) → m ≡ more → b ≡ (length m == 0) → b ≡ true → more ≡ []
no_lines [] m b is e t = refl
no_lines (l ∷ more) m b is e t = let h : eqb (suc (length more)) 0 ≡ true = ap (λ (x : List (List ℕ)). length x == 0) (sym is) ∙ sym e ∙ t in absurd (grind (arith, nat_tests))

-- the first field that can't be read

there_at : (front rest : List Field) (f : Field) → slice_get (front ++ f ∷ rest) (length front) ≡ Some f
there_at [] rest f = refl
there_at (g ∷ front) rest f = there_at front rest f

pub line_fits : (l : Located) (front left next : List Field) (f : Field) (i : ℕ) → i ≡ length front → l.paragraph ≡ front ++ left → left ≡ f ∷ next → HasLines l → line_of_field l.line l.paragraph i < 2 ^ 64
line_fits l front left next f i counted walked step lines =
    lines i f (ap (λ fs. slice_get fs i) (walked ∙ ap (λ (r : List Field). front ++ r) step) ∙ ap (slice_get (front ++ f ∷ next)) counted ∙ there_at front next f)

all_last : (P : Field → Type 0) (fs : List Field) (f : Field) → AllByRecursion P fs → P f → AllByRecursion P (fs ++ f ∷ [])
all_last P [] f all here = (here, tt)
all_last P (g ∷ fs) f all here = (all.0, all_last P fs f all.1 here)

pub good_more : (ys : List (Bor Field)) (x : Bor Field) (b : Bool) → AllByRecursion IsReadable (map (λ b. b.now) ys) → (IsTrue b ↔ IsReadable x.now) → b ≡ true → AllByRecursion IsReadable (map (λ b. b.now) (ys ++ x ∷ []))
good_more ys x b all says t = subst (AllByRecursion IsReadable) (sym (map-append (λ (b : Bor Field). b.now) ys (x ∷ []))) (all_last IsReadable (map (λ b. b.now) ys) x.now all (says.0 t))

one_last : (ys : List (Bor Field)) (x : Bor Field) → length (map (λ (b : Bor Field). b.now) (ys ++ x ∷ [])) ≡ length (map (λ (b : Bor Field). b.now) ys) + 1
one_last [] x = refl
one_last (y ∷ ys) x = omega (arith, one_last ys x)

pub one_more : (ys : List (Bor Field)) (x : Bor Field) (i : ℕ) → i ≡ length (map (λ (b : Bor Field). b.now) ys) → i + 1 ≡ length (map (λ (b : Bor Field). b.now) (ys ++ x ∷ []))
one_more ys x i counted = omega (arith, counted, one_last ys x)

before_end : (front next : List Field) (f : Field) → length front < length (front ++ f ∷ next)
before_end [] next f = omega arith
before_end (g ∷ front) next f = omega (arith, before_end front next f)

pub before_last : (all front left next : List Field) (f : Field) (i : ℕ) → i ≡ length front → all ≡ front ++ left → left ≡ f ∷ next → length all < 2 ^ 63 → i + 1 < 2 ^ 64
before_last all front left next f i counted walked step fits = omega (arith, counted, before_end front next f, ap length (walked ∙ ap (λ (r : List Field). front ++ r) step), fits)

pub bad_here : (l : Located) (front left next : List Field) (f : Field) (i : ℕ) (b : Bool) (line : ℕ) → i ≡ length front → l.paragraph ≡ front ++ left → left ≡ f ∷ next → AllByRecursion IsReadable front → (IsTrue b ↔ IsReadable f) → b ≡ false
    → line ≡ line_of_field l.line l.paragraph i → IsBadField l line
bad_here l front left next f i b line counted walked step all says fails e = record {
  front = front;
  field = f;
  rest = next;
  is = walked ∙ ap (λ (r : List Field). front ++ r) step;
  good = all;
  bad = λ is. true≢false (sym (says.1 is) ∙ fails);
  line_is = e ∙ ap (line_of_field l.line l.paragraph) counted;
}
