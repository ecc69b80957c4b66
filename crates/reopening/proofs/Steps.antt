-- Lists are written, control files come and go, places leave lists: at each moment no opening refuses what stands in `info`.
use Rattle.std.proofs.Common.{◌≡◌, ◌≢◌, ◌⊎◌, inl, inr, Bool, true, false, cond, List, [], ◌∷◌, Option, Some, None, Contains, filter, refl, sym, ap, subst, ◌∙◌}
use Rattle.std.specs.List.{AllByRecursion}
use Rattle.std.specs.Str.{IsUtf8}
use Rattle.texts.specs.PackageNames.{is_package_name}
use Rattle.host_core.proofs.Paths.{decide}
use Rattle.host_core.specs.Outcome.{script_name}
use Rattle.host_core.specs.Paths.{Path}
use Rattle.host_core.specs.World.{World, IsFile}
use Rattle.host_core.specs.declared.call.Script.{Script}
use Rattle.host_core.specs.declared.node.Node.{Node}
use Rattle.host_core.specs.declared.node.Node.TheVariants.{File, Link}
use Rattle.administration.specs.Files.{IsDropped, IsDropping, IsReplaced, IsReplacing, KeepsBesideFile}
use Rattle.administration.specs.Places.{list_path, script_path, temporary}
use Rattle.control_members.proofs.Apart.{no_list, no_list_temporary, no_temporary, same_stored}
use Rattle.control_members.proofs.Lookup.{member_file}
use Rattle.control_members.proofs.MemberNames.{script_is_member}
use Rattle.control_members.specs.Members.{member_of, node_of}
use Rattle.control_members.specs.Names.{is_member_name}
use Rattle.control_members.specs.Stored.{AreReplaced, AreReplacing, AreTaken, AreTaking, is_among, over, stored_member_path}
use Rattle.control_members.specs.declared.member.Member.{Member}
use Rattle.diversions.specs.Ways.{Ways}
use Rattle.file_lists.specs.Info.{IsLink}
use Rattle.file_lists.specs.Lists.{IsReadable}
use Rattle.file_lists.specs.Owners.{IsListable, paths_of}
use Rattle.file_lists.specs.Taking.{HasTakenAll, IsTaking}
use Rattle.file_lists.specs.Writing.{left_paths, list_file}
use Rattle.file_lists.specs.declared.paths.PackageList.{PackageList}
use Rattle.unpack_commit.proofs.Left.{no_other, same_list}
use Rattle.unpack_commit.proofs.Loose.{replaced_replacing}
use Rattle.unit_stages.proofs.Names.{among}
use Rattle.file_lists.proofs.ReadBack.{list_readable}
use Rattle.reopening.proofs.Inside.{IsQuiet}

-- paths that a list can have, as it is read back
pub record AreGood (paths : List Path) : Type 0 where
  pub can : AllByRecursion IsListable paths
  pub texts : AllByRecursion IsUtf8 paths

pub good_readable : (paths : List Path) → AreGood paths → IsReadable (Some (list_file paths))
good_readable paths good = list_readable paths good.can good.texts

-- a stored script is no list

pub script_no_list : (owner name : Path) (script : Script) → script_path owner script ≢ list_path name
script_no_list owner name script = no_list owner name (script_name script) (script_is_member script)

pub script_no_spare : (owner path : Path) (script : Script) → script_path owner script ≢ temporary path
script_no_spare owner path script = no_temporary owner (script_name script) path (script_is_member script)

-- a list is written

pub one_written : (had now : Option Node) (paths : List Path) → AreGood paths → (now ≡ had) ⊎ (now ≡ Some (list_file paths)) → IsReadable had → IsReadable now
one_written had now paths good (inl same) readable = subst IsReadable (sym same) readable
one_written had now paths good (inr written) readable = subst IsReadable (sym written) (good_readable paths good)

module _ (name : Path) (named : is_package_name name ≡ true) (paths : List Path) (good : AreGood paths) (old now : World) where
  listing_quiet : KeepsBesideFile (list_path name) old now → (now (list_path name) ≡ old (list_path name)) ⊎ (now (list_path name) ≡ Some (list_file paths)) → IsQuiet old now
  listing_quiet rest target = record {
    stays = λ q unnamed. (let others = unnamed.others name named in rest q others.list.0 others.list.1);
    links = λ owner script link. subst IsLink (rest (script_path owner script) (script_no_list owner name script) (script_no_spare owner (list_path name) script)) link;
    lists = λ q readable. elim (decide q name) [
      | inl same ↦ subst (λ (n : Path). IsReadable (now (list_path n))) (sym same)
          (one_written (old (list_path name)) (now (list_path name)) paths good target (subst (λ (n : Path). IsReadable (old (list_path n))) same readable))
      | inr other ↦ subst IsReadable (sym (rest (list_path q) (λ e. other (same_list q name e)) (no_list_temporary q (list_path name)))) readable
    ];
  }

  pub replacing_quiet : IsReplacing (list_path name) (list_file paths) old now → IsQuiet old now
  replacing_quiet is = listing_quiet is.rest is.target

  pub replaced_quiet : IsReplaced (list_path name) (list_file paths) old now → IsQuiet old now
  replaced_quiet is = listing_quiet is.rest (inr is.target)

-- the file of a list goes

pub one_dropped : (had now : Option Node) → (now ≡ had) ⊎ (now ≡ None) → IsReadable had → IsReadable now
one_dropped had now (inl same) readable = subst IsReadable (sym same) readable
one_dropped had now (inr none) readable = subst IsReadable (sym none) tt

module _ (name : Path) (named : is_package_name name ≡ true) (old now : World) where
  pub dropping_quiet : IsDropping (list_path name) old now → IsQuiet old now
  dropping_quiet is = record {
    stays = λ q unnamed. is.rest q (unnamed.others name named).list.0;
    links = λ owner script link. subst IsLink (is.rest (script_path owner script) (script_no_list owner name script)) link;
    lists = λ q readable. elim (decide q name) [
      | inl same ↦ subst (λ (n : Path). IsReadable (now (list_path n))) (sym same)
          (one_dropped (old (list_path name)) (now (list_path name)) is.target (subst (λ (n : Path). IsReadable (old (list_path n))) same readable))
      | inr other ↦ subst IsReadable (sym (is.rest (list_path q) (λ e. other (same_list q name e)))) readable
    ];
  }

  pub dropped_quiet : IsDropped (list_path name) old now → IsQuiet old now
  dropped_quiet is = dropping_quiet (record { target = inr is.target; rest = is.rest })

-- control files come and go

pub no_link_none : (stood : Option Node) → stood ≡ None → IsLink stood → ⊥
no_link_none stood none link = (let e : None ≡ Some (Link link.0) = sym none ∙ link.1 in cc)

no_link_file : (n : Node) → IsFile n → IsLink (Some n) → ⊥
no_link_file n file link = (let e : Some (File file.0 file.1) ≡ Some (Link link.0) = ap Some (sym file.2) ∙ link.1 in cc)

over_link : (o : Option Member) (gone : Bool) (before : Option Node) → IsLink (over (node_of o) (cond gone None before)) → IsLink before
over_link None true before link = absurd (no_link_none None refl link)
over_link None false before link = link
over_link (Some m) gone before link = absurd (no_link_file m.node (member_file m) link)

cond_link : (gone : Bool) (before : Option Node) → IsLink (cond gone None before) → IsLink before
cond_link true before link = absurd (no_link_none None refl link)
cond_link false before link = link

-- at the stored scripts of one package no link comes
pub own_links : (name : Path) (old now : World) → ((member : Path) → is_member_name member ≡ true → IsLink (now (stored_member_path name member)) → IsLink (old (stored_member_path name member)))
    → ((owner : Path) (script : Script) → owner ≢ name → now (script_path owner script) ≡ old (script_path owner script))
    → (owner : Path) (script : Script) → IsLink (now (script_path owner script)) → IsLink (old (script_path owner script))
own_links name old now own rest owner script link = elim (decide owner name) [
  | inl same ↦
      let word = script_name script in
      subst (λ (n : Path). IsLink (old (stored_member_path n word))) (sym same)
      (own word (script_is_member script) (subst (λ (n : Path). IsLink (now (stored_member_path n word))) same link))
  | inr other ↦ subst IsLink (rest owner script other) link
]

pub script_others : (name owner member : Path) (script : Script) → owner ≢ name → is_member_name member ≡ true → script_path owner script ≢ stored_member_path name member
script_others name owner member script other is e = other (same_stored owner name (script_name script) member (script_is_member script) is e).0

pub member_no_list : (name q member : Path) → is_member_name member ≡ true → list_path q ≢ stored_member_path name member
member_no_list name q member is e = no_list name q member is (sym e)

module _ (name : Path) (named : is_package_name name ≡ true) (old now : World) where
  pub storing_quiet : (new : List Member) (stale : List Path) → AreReplacing name new stale old now → IsQuiet old now
  storing_quiet new stale is = record {
    stays = λ q unnamed. is.rest q (unnamed.others name named).members;
    links = own_links name old now
        (λ member m link. elim (is.own member m) [
          | inl same ↦ subst IsLink same link
          | inr stored ↦ over_link (member_of new member) (is_among stale member) (old (stored_member_path name member)) (subst IsLink stored link)
        ])
        (λ owner script other. is.rest (script_path owner script) (λ member m. (script_others name owner member script other m, script_no_spare owner (stored_member_path name member) script)));
    lists = λ q readable. subst IsReadable (sym (is.rest (list_path q) (λ member m. (member_no_list name q member m, no_list_temporary q (stored_member_path name member))))) readable;
  }

  pub stored_quiet : (new : List Member) (stale : List Path) → AreReplaced name new stale old now → IsQuiet old now
  stored_quiet new stale is = storing_quiet new stale (replaced_replacing name new stale old now is)

  pub taking_quiet : (gone : Path → Bool) → AreTaking name gone old now → IsQuiet old now
  taking_quiet gone is = record {
    stays = λ q unnamed. is.rest q (λ member m. ((unnamed.others name named).members member m).0);
    links = own_links name old now
        (λ member m link. elim (is.own member m) [
          | inl same ↦ subst IsLink same link
          | inr taken ↦ cond_link (gone member) (old (stored_member_path name member)) (subst IsLink taken link)
        ])
        (λ owner script other. is.rest (script_path owner script) (λ member m. script_others name owner member script other m));
    lists = λ q readable. subst IsReadable (sym (is.rest (list_path q) (λ member m. member_no_list name q member m))) readable;
  }

  pub taken_quiet : (gone : Path → Bool) → AreTaken name gone old now → IsQuiet old now
  taken_quiet gone is = taking_quiet gone (record { own = λ member m. inr (is.stands member m); rest = is.rest })

-- places leave the lists of several packages

filter_all : {X : Type 0} (P : X → Type 0) (keep : X → Bool) (xs : List X) → AllByRecursion P xs → AllByRecursion P (filter keep xs)
filter_all P keep [] all = tt
filter_all P keep (x ∷ xs) all = by (keep x) (filter_all P keep xs all.1)
  where
    by : (b : Bool) → AllByRecursion P (filter keep xs) → AllByRecursion P (cond b (x ∷ filter keep xs) (filter keep xs))
    by true rest = (all.0, rest)
    by false rest = rest

pub good_filter : (keep : Path → Bool) (paths : List Path) → AreGood paths → AreGood (filter keep paths)
good_filter keep paths good = record { can = filter_all IsListable keep paths good.can; texts = filter_all IsUtf8 keep paths good.texts }

module _ (ways : Ways) (places from : List Path) (had : List PackageList) (named : (name : Path) → Contains from name → is_package_name name ≡ true)
    (good : (name : Path) → Contains from name → AreGood (paths_of had name)) (old now : World) where
  pub releasing_quiet : IsTaking ways places from had old now → IsQuiet old now
  releasing_quiet is = record {
    stays = λ q unnamed. is.rest q (λ name has. (unnamed.others name (named name has)).list);
    links = λ owner script link. subst IsLink (is.rest (script_path owner script) (λ name has. (script_no_list owner name script, script_no_spare owner (list_path name) script))) link;
    lists = λ q readable. elim (among from q) [
      | inl has ↦ one_written (old (list_path q)) (now (list_path q)) (left_paths ways places q (paths_of had q)) (good_filter _ (paths_of had q) (good q has)) (is.lists q has) readable
      | inr none ↦ subst IsReadable (sym (is.rest (list_path q) (no_other from q none))) readable
    ];
  }

  pub released_quiet : HasTakenAll ways places from had old now → IsQuiet old now
  released_quiet is = record {
    stays = λ q unnamed. is.rest q (λ name has. (unnamed.others name (named name has)).list);
    links = λ owner script link. subst IsLink (is.rest (script_path owner script) (λ name has. (script_no_list owner name script, script_no_spare owner (list_path name) script))) link;
    lists = λ q readable. elim (among from q) [
      | inl has ↦ one_written (old (list_path q)) (now (list_path q)) (left_paths ways places q (paths_of had q)) (good_filter _ (paths_of had q) (good q has)) (inr (is.lists q has)) readable
      | inr none ↦ subst IsReadable (sym (is.rest (list_path q) (no_other from q none))) readable
    ];
  }
