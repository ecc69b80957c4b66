-- What the parts of a unit leave as it is in the administration: all but records, and the list and control files of its package.
use Rattle.std.proofs.Common.{◌≡◌, ◌≢◌, ◌||◌, ◌&&◌, not, ℕ, Bool, true, false, cond, List, [], ◌∷◌, ◌++◌, Option, Some, None, codes, drop, get_or, nat_eq, refl, sym, ap, subst, ◌∙◌}
use Rattle.std.specs.List.{AllByRecursion, list_any}
use Rattle.std.specs.Str.{bytes_eq}
use Rattle.std.proofs.lemmas.Bool.{and_parts, false≢true, true≢false}
use Rattle.std.proofs.lemmas.Slice.Eq.{bytes_eq-Decides}
use Rattle.texts.specs.PackageNames.{is_package_name}
use Rattle.host_core.specs.Paths.{Path, has_reserved_suffix, has_room, is_below_administration, is_own, is_path_text, is_ship_text}
use Rattle.host_core.specs.World.{World, SameOn}
use Rattle.host_core.specs.declared.node.Access.{Access}
use Rattle.host_core.specs.declared.node.Node.{Node}
use Rattle.host_core.specs.declared.node.Node.TheVariants.{File, Dir, Link}
use Rattle.administration.proofs.Within.{rest_of, starts_with-append}
use Rattle.administration.specs.Places.{home_path, is_within, list_path, temporary}
use Rattle.conffiles.specs.Settling.{backup_name, dist_name, is_conffile_name, is_name_of_some, shipped_name, spare_name}
use Rattle.conffiles.specs.declared.entries.Settled.{Settled}
use Rattle.control_members.specs.Names.{is_member_name}
use Rattle.control_members.specs.Stored.{goes, stored_member_path}
use Rattle.file_lists.specs.Info.{IsLink}
use Rattle.file_lists.specs.declared.paths.PackageList.{PackageList}
use Rattle.file_removal.specs.Clearing.{cleared}
use Rattle.status_db.specs.Held.{is_record_place}
use Rattle.status_records.specs.Words.{is_not_installed}
use Rattle.status_records.specs.declared.record.Record.{Record}
use Rattle.listed_files.proofs.Closings.{below_within}
use Rattle.listed_files.specs.Closing.{SparesAdministration}
use Rattle.listed_files.specs.Concluding.{AreElsewhere}
use Rattle.unit_stages.specs.PartFitting.{AreFit, IsFit}
use Rattle.unit_stages.proofs.Outside.{removed_outside}
use Rattle.unit_stages.specs.Parts.{HasDone, HaveDone, part_lists, part_records}
use Rattle.unit_stages.specs.declared.part.Part.{Part}
use Rattle.unit_stages.specs.declared.part.Part.TheVariants.{Note, Forget, Settle, Remove, RemoveDirectories, Clear, List as Listing, DropList, DropMembers}

-- a path of the administration at which no record is written
pub record IsInside (q : Path) : Type 0 where
  pub own : is_own q ≡ true
  pub below : is_below_administration q ≡ true
  pub unnoted : is_record_place q ≡ false

-- one that is none of the list or a control file of this package
pub record IsOthers (name q : Path) : Type 0 where
  pub inside : IsInside q
  pub list : (q ≢ list_path name) × (q ≢ temporary (list_path name))
  pub members : (member : Path) → is_member_name member ≡ true → q ≢ stored_member_path name member

-- such a path stays, and no link comes anywhere
pub record KeepsOthers (name : Path) (old new : World) : Type 0 where
  pub stays : (q : Path) → IsOthers name q → new q ≡ old q
  pub links : (q : Path) → IsInside q → IsLink (new q) → IsLink (old q)

pub keeps_here : (name : Path) (w : World) → KeepsOthers name w w
keeps_here name w = record { stays = λ q others. refl; links = λ q inside link. link }

pub keeps_then : (name : Path) (v w x : World) → KeepsOthers name v w → KeepsOthers name w x → KeepsOthers name v x
keeps_then name v w x first second = record {
  stays = λ q others. second.stays q others ∙ first.stays q others;
  links = λ q inside link. first.links q inside (second.links q inside link);
}

-- where all stays
pub keeps_same : (name : Path) (old new : World) → ((q : Path) → IsInside q → new q ≡ old q) → KeepsOthers name old new
keeps_same name old new same = record { stays = λ q others. same q others.inside; links = λ q inside link. subst IsLink (same q inside) link }

pub keeps_own : (name : Path) (old new : World) → SameOn is_own old new → KeepsOthers name old new
keeps_own name old new same = keeps_same name old new (λ q inside. same q inside.own)

-- none of a package's
abbrev pub IsUnnamed : Path → Type 0
IsUnnamed q = (name : Path) → is_package_name name ≡ true → IsOthers name q

-- whatever the packages are, such a path stays, and no link comes anywhere
pub record KeepsUnnamed (old new : World) : Type 0 where
  pub stays : (q : Path) → IsUnnamed q → new q ≡ old q
  pub links : (q : Path) → IsInside q → IsLink (new q) → IsLink (old q)

pub unnamed_of : (name : Path) (old new : World) → is_package_name name ≡ true → KeepsOthers name old new → KeepsUnnamed old new
unnamed_of name old new named keeps = record { stays = λ q unnamed. keeps.stays q (unnamed name named); links = keeps.links }

pub unnamed_here : (w : World) → KeepsUnnamed w w
unnamed_here w = record { stays = λ q unnamed. refl; links = λ q inside link. link }

pub unnamed_then : (v w x : World) → KeepsUnnamed v w → KeepsUnnamed w x → KeepsUnnamed v x
unnamed_then v w x first second = record {
  stays = λ q unnamed. second.stays q unnamed ∙ first.stays q unnamed;
  links = λ q inside link. first.links q inside (second.links q inside link);
}

-- a node is a link, or it is none

no_link_none : (stood : Option Node) → stood ≡ None → IsLink stood → ⊥
no_link_none stood none link = (let e : None ≡ Some (Link link.0) = sym none ∙ link.1 in cc)

no_link_file : (stood : Option Node) (bytes : List ℕ) (access : Access) → stood ≡ Some (File bytes access) → IsLink stood → ⊥
no_link_file stood bytes access is link = (let e : Some (File bytes access) ≡ Some (Link link.0) = sym is ∙ link.1 in cc)

by_absence : (old : Option Node) → ((IsLink old → ⊥) → ⊥) → IsLink old
by_absence None away = absurd (away (no_link_none None refl))
by_absence (Some (File bytes access)) away = absurd (away (no_link_file (Some (File bytes access)) bytes access refl))
by_absence (Some (Dir access)) away = absurd (away (λ link. (let e : Some (Dir access) ≡ Some (Link link.0) = link.1 in cc)))
by_absence (Some (Link target)) away = (target, refl)

-- the names of conffiles aren't below the administration's directory

not_true : (b : Bool) → not b ≡ true → b ≡ false
not_true true is = absurd (false≢true is)
not_true false is = refl

no_or : (a b : Bool) → a || b ≡ false → b ≡ false
no_or true b is = absurd (true≢false is)
no_or false b is = is

ship_outside : (p : Path) → is_ship_text p ≡ true → is_below_administration p ≡ false
ship_outside p is =
    let text = and_parts (is_path_text p) (has_room p && (not (bytes_eq p (codes "/")) && (not (has_reserved_suffix p) && not (is_below_administration p)))) is in
    let fits = and_parts (has_room p) (not (bytes_eq p (codes "/")) && (not (has_reserved_suffix p) && not (is_below_administration p))) text.1 in
    let below = and_parts (not (bytes_eq p (codes "/"))) (not (has_reserved_suffix p) && not (is_below_administration p)) fits.1 in
    not_true (is_below_administration p) (and_parts (not (has_reserved_suffix p)) (not (is_below_administration p)) below.1).1

-- what goes on behind a dot has the whole of a front without one
front_is : (front p s rest : Path) → list_any (nat_eq 46) front ≡ false → p ++ 46 ∷ s ≡ front ++ rest → (r : Path) × (p ≡ front ++ r)
front_is [] p s rest plain e = (p, refl)
front_is (c ∷ front) [] s rest plain e =
    let dot : c ≡ 46 = sym (ap (λ (l : Path). get_or l 0 0) e) in
    absurd (true≢false (sym (ap (λ b. nat_eq 46 b || list_any (nat_eq 46) front) dot) ∙ plain))
front_is (c ∷ front) (b ∷ p) s rest plain e =
    let more = front_is front p s rest (no_or (nat_eq 46 c) (list_any (nat_eq 46) front) plain) (ap (drop 1) e) in
    (more.0, (λ i. ap (λ (l : Path). get_or l 0 0) e i ∷ more.1 i))

abbrev administration : Path
administration = codes "/var/lib/dpkg/"

behind_outside : (p s : Path) → is_ship_text p ≡ true → is_below_administration (p ++ 46 ∷ s) ≡ true → ⊥
behind_outside p s ship is =
    let rest = rest_of (p ++ 46 ∷ s) administration is in
    let front = front_is administration p s rest.0 refl rest.1 in
    true≢false (sym (ap is_below_administration front.1 ∙ starts_with-append administration front.0) ∙ ship_outside p ship)

differs : (q n : Path) → (q ≡ n → ⊥) → bytes_eq q n ≡ false
differs q n other = by (bytes_eq q n) refl
  where
    by : (b : Bool) → bytes_eq q n ≡ b → b ≡ false
    by true e = absurd (other ((bytes_eq-Decides q n).0 e))
    by false e = refl

no_conffile_name : (x q : Path) → is_ship_text x ≡ true → is_below_administration q ≡ true → is_conffile_name x q ≡ false
no_conffile_name x q ship below =
    let behind : (s : Path) → bytes_eq q (x ++ 46 ∷ s) ≡ false = (λ s. differs q (x ++ 46 ∷ s) (λ e. behind_outside x s ship (sym (ap is_below_administration e) ∙ below))) in
    ap (λ b. b || list_any (bytes_eq q) (shipped_name x ∷ backup_name x ∷ dist_name x ∷ spare_name x ∷ [])) (differs q x (λ e. true≢false (sym below ∙ ap is_below_administration e ∙ ship_outside x ship)))
    ∙ ap (λ b. b || list_any (bytes_eq q) (backup_name x ∷ dist_name x ∷ spare_name x ∷ [])) (behind (codes "dpkg-new"))
    ∙ ap (λ b. b || list_any (bytes_eq q) (dist_name x ∷ spare_name x ∷ [])) (behind (codes "dpkg-old"))
    ∙ ap (λ b. b || list_any (bytes_eq q) (spare_name x ∷ [])) (behind (codes "dpkg-dist"))
    ∙ ap (λ b. b || false) (behind (codes "dpkg-inst"))

no_name_of_some : (list : List Settled) (q : Path) → is_below_administration q ≡ true → is_name_of_some list q ≡ false
no_name_of_some [] q below = refl
no_name_of_some (e ∷ es) q below = ap (λ b. b || is_name_of_some es q) (no_conffile_name e.path q e.ships below) ∙ no_name_of_some es q below

-- what a part leaves as it is, where it is of this package: records of it that stand, and no place of the administration

abbrev pub IsOwn : Path → Part → Type 0
IsOwn name (Note r) = (r.name ≡ name) × (is_not_installed r.state ≡ false)
IsOwn name Forget = Unit {0}
IsOwn name (Settle settled) = Unit {0}
IsOwn name (Remove leaving) = SparesAdministration leaving.items
IsOwn name (RemoveDirectories leaving) = SparesAdministration leaving.items
IsOwn name (Clear names) = AreElsewhere names.items
IsOwn name (Listing paths) = Unit {0}
IsOwn name DropList = Unit {0}
IsOwn name (DropMembers keep_postrm) = Unit {0}

abbrev pub AreOwn : Path → List Part → Type 0
AreOwn name parts = AllByRecursion (IsOwn name) parts

-- part by part

taken_link : (gone : Bool) (old new : Option Node) → new ≡ cond gone None old → IsLink new → (IsLink old → ⊥) → ⊥
taken_link true old new is link away = no_link_none new is link
taken_link false old new is link away = away (subst IsLink is link)

module _ (name : Path) where
  part_keeps : (declined : Path → Type 0) (part : Part) (rs : List Record) (old new : World) → IsOwn name part → HasDone name declined part rs old new → KeepsOthers name old new
  part_keeps declined (Note r) rs old new fit done = keeps_same name old new (λ q inside. done.rest q inside.unnoted)
  part_keeps declined Forget rs old new fit done = keeps_same name old new (λ q inside. done.rest q inside.unnoted)
  part_keeps declined (Settle settled) rs old new fit done = keeps_same name old new (λ q inside. done.rest q (no_name_of_some settled.items q inside.below))
  part_keeps declined (Remove leaving) rs old new fit done = keeps_same name old new (λ q inside. removed_outside false leaving.items old new fit declined done q (below_within q inside.below))
  part_keeps declined (RemoveDirectories leaving) rs old new fit done = keeps_same name old new (λ q inside. removed_outside true leaving.items old new fit declined done q (below_within q inside.below))
  part_keeps declined (Clear names) rs old new fit done =
      keeps_same name old new (λ q inside. done.each q ∙ ap (λ b. cond b (cleared (old q)) (old q)) (fit q (below_within q inside.below)))
  part_keeps declined (Listing paths) rs old new fit done = record {
    stays = λ q others. done.rest q others.list.0 others.list.1;
    links = λ q inside link. subst IsLink (done.rest q
        (λ e. no_link_file (new q) _ _ (ap new e ∙ done.target) link)
        (λ e. no_link_none (new q) (ap new e ∙ done.spare) link)) link;
  }
  part_keeps declined DropList rs old new fit done = record {
    stays = λ q others. done.rest q others.list.0;
    links = λ q inside link. subst IsLink (done.rest q (λ e. no_link_none (new q) (ap new e ∙ done.target) link)) link;
  }
  part_keeps declined (DropMembers keep_postrm) rs old new fit done = record {
    stays = λ q others. done.taken.rest q others.members;
    links = λ q inside link. by_absence (old q) (λ away. away (subst IsLink (done.taken.rest q
        (λ member is e. taken_link (goes done.names keep_postrm member) (old q) (new q) (ap new e ∙ done.taken.stands member is ∙ ap (λ p. cond (goes done.names keep_postrm member) None (old p)) (sym e)) link away)) link));
  }

  pub parts_keep : (declined : Path → Type 0) (parts : List Part) (rs : List Record) (old new : World) → AreOwn name parts → HaveDone name declined parts rs old new → KeepsOthers name old new
  parts_keep declined [] rs old new fit done = subst (KeepsOthers name old) (sym done) (keeps_here name old)
  parts_keep declined (part ∷ parts) rs old new fit done = keeps_then name old done.0 new (part_keeps declined part rs old done.0 fit.0 done.1)
      (parts_keep declined parts (part_records name part rs) done.0 new fit.1 done.2)

  -- what fits is so
  part_own : (part : Part) (rs : List Record) (ls : List PackageList) → IsFit name part rs ls → IsOwn name part
  part_own (Note r) rs ls fit = (fit.own, fit.stands)
  part_own Forget rs ls fit = tt
  part_own (Settle settled) rs ls fit = tt
  part_own (Remove leaving) rs ls fit = fit
  part_own (RemoveDirectories leaving) rs ls fit = fit
  part_own (Clear names) rs ls fit = fit
  part_own (Listing paths) rs ls fit = tt
  part_own DropList rs ls fit = tt
  part_own (DropMembers keep_postrm) rs ls fit = tt

  pub parts_own : (parts : List Part) (rs : List Record) (ls : List PackageList) → AreFit name parts rs ls → AreOwn name parts
  parts_own [] rs ls fit = tt
  parts_own (part ∷ parts) rs ls fit = (part_own part rs ls fit.0, parts_own parts (part_records name part rs) (part_lists name part ls) fit.1)
