-- The names of works lie outside the administration's directory.
use Rattle.std.proofs.Common.{◌≡◌, ◌≢◌, ◌||◌, ◌&&◌, not, Bool, true, false, [], ◌∷◌, ◌++◌, Option, Some, None, codes, get_or, drop, nat_eq, refl, sym, ap, ◌∙◌}
use Rattle.std.specs.List.{list_any}
use Rattle.std.specs.Str.{bytes_eq}
use Rattle.std.proofs.lemmas.Bool.{and_parts, true≢false, false≢true}
use Rattle.std.proofs.lemmas.List.{append-nil}
use Rattle.host_core.specs.Paths.{Path, is_path_text, has_room, has_reserved_suffix, is_below_administration, is_ship_text}
use Rattle.host_core.specs.declared.suffix.Suffix.{Suffix}
use Rattle.host_core.specs.declared.suffix.Suffix.TheVariants.{New, Old, Dist, Tmp, Inst}
use Rattle.host_core.specs.Suffixes.{suffix_text}
use Rattle.administration.specs.Places.{info_path, list_path, temporary}
use Rattle.administration.proofs.Within.{starts_with-append, rest_of}
use Rattle.package_files.specs.declared.work.Work.{Work}
use Rattle.package_files.specs.Files.{Misses}
use Rattle.package_files.specs.Names.{IsNamed}
use Rattle.package_files.proofs.WorkNames.{ending, NameOf, target_name, backup_name, fresh_name}

no_or : (a b : Bool) → a || b ≡ false → b ≡ false
no_or true b is = absurd (true≢false is)
no_or false b is = is

not_true : (b : Bool) → not b ≡ true → b ≡ false
not_true true is = absurd (false≢true is)
not_true false is = refl

abbrev has_dot : Path → Bool
has_dot p = list_any (nat_eq 46) p

-- what goes on behind a dot has the whole of a front without one
front_is : (front p s rest : Path) → has_dot front ≡ false → p ++ 46 ∷ s ≡ front ++ rest → (r : Path) × (p ≡ front ++ r)
front_is [] p s rest plain e = (p, refl)
front_is (c ∷ front) [] s rest plain e =
    let dot : c ≡ 46 = sym (ap (λ (l : Path). get_or l 0 0) e) in
    absurd (true≢false (sym (ap (λ b. nat_eq 46 b || has_dot front) dot) ∙ plain))
front_is (c ∷ front) (b ∷ p) s rest plain e =
    let more = front_is front p s rest (no_or (nat_eq 46 c) (has_dot front) plain) (ap (drop 1) e) in
    (more.0, (λ i. ap (λ (l : Path). get_or l 0 0) e i ∷ more.1 i))

abbrev administration : Path
administration = codes "/var/lib/dpkg/"

-- what goes on from the directory lies below it
pub goes_on : (rest : Path) → is_below_administration (administration ++ rest) ≡ true
goes_on rest = starts_with-append administration rest

ship_outside : (p : Path) → is_ship_text p ≡ true → is_below_administration p ≡ false
ship_outside p is =
    let text = and_parts (is_path_text p) (has_room p && (not (bytes_eq p (codes "/")) && (not (has_reserved_suffix p) && not (is_below_administration p)))) is in
    let fits = and_parts (has_room p) (not (bytes_eq p (codes "/")) && (not (has_reserved_suffix p) && not (is_below_administration p))) text.1 in
    let below = and_parts (not (bytes_eq p (codes "/"))) (not (has_reserved_suffix p) && not (is_below_administration p)) fits.1 in
    not_true (is_below_administration p) (and_parts (not (has_reserved_suffix p)) (not (is_below_administration p)) below.1).1

dotted : (s : Suffix) → (t : Path) × (suffix_text s ≡ 46 ∷ t)
dotted New = (codes "dpkg-new", refl)
dotted Old = (codes "dpkg-old", refl)
dotted Dist = (codes "dpkg-dist", refl)
dotted Tmp = (codes "dpkg-tmp", refl)
dotted Inst = (codes "dpkg-inst", refl)

name_outside : (p : Path) (k : Option Suffix) → is_ship_text p ≡ true → is_below_administration (p ++ ending k) ≡ true → ⊥
name_outside p None ship is = true≢false (sym is ∙ ap is_below_administration (append-nil p) ∙ ship_outside p ship)
name_outside p (Some s) ship is =
    let rest = rest_of (p ++ suffix_text s) administration is in
    let dot = dotted s in
    let front = front_is administration p dot.0 rest.0 refl (ap (λ (l : Path). p ++ l) (sym dot.1) ∙ rest.1) in
    true≢false (sym (ap is_below_administration front.1 ∙ goes_on front.0) ∙ ship_outside p ship)

differs : (x : Work) (q n : Path) → IsNamed x → is_below_administration q ≡ true → NameOf x n → q ≢ n
differs x q n named below name e = name_outside x.place name.kind named.place (sym (ap is_below_administration (e ∙ name.is)) ∙ below)

pub apart : (x : Work) (q : Path) → IsNamed x → is_below_administration q ≡ true → Misses x q
apart x q named below = record {
  target = differs x q x.target named below (target_name x named);
  backup = differs x q x.backup named below (backup_name x named);
  fresh = differs x q x.fresh named below (fresh_name x named);
}

-- where lists stand

pub info_below : is_below_administration info_path ≡ true
info_below = goes_on (codes "info")

pub list_below : (name : Path) → is_below_administration (list_path name) ≡ true
list_below name = goes_on (codes "info/" ++ (name ++ codes ".list"))

pub spare_below : (name : Path) → is_below_administration (temporary (list_path name)) ≡ true
spare_below name = goes_on ((codes "info/" ++ (name ++ codes ".list")) ++ codes ".dpkg-inst")
