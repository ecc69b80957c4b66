-- Each part that fits leaves the administration in order.
use Rattle.std.proofs.Common.{◌≡◌, ◌≢◌, ◌⊎◌, inl, inr, ℕ, Bool, true, false, cond, List, [], ◌∷◌, ◌++◌, Option, Some, None, is_some, codes, length, refl, sym, ap, subst, ◌∙◌, arith, Contains}
use Rattle.std.specs.Str.{bytes_eq, IsUtf8}
use Rattle.std.specs.List.{AllByRecursion}
use Rattle.std.proofs.Math.Logic.{∥∥₁_map}
use Rattle.std.proofs.lemmas.Bool.{false≢true}
use Rattle.std.proofs.lemmas.Slice.Eq.{bytes_eq-Decides}
use Rattle.texts.specs.PackageNames.{is_package_name}
use Rattle.host_core.specs.Nodes.{own_access}
use Rattle.host_core.specs.Paths.{Path}
use Rattle.host_core.specs.World.{World, IsDirectory, IsFile, is_directory}
use Rattle.host_core.specs.declared.node.Node.{Node}
use Rattle.host_core.specs.declared.node.Node.TheVariants.{File, Dir, Link}
use Rattle.host_core.proofs.Paths.{decide}
use Rattle.administration.specs.Files.{IsDropped, IsDropping, IsReplaced, IsReplacing, NoDirectory}
use Rattle.administration.specs.Places.{home_path, info_path, list_path, temporary, tmp_path}
use Rattle.administration.proofs.WholeFiles.{no_directory_at, no_directory_file, no_directory_none}
use Rattle.administration.proofs.Within.{below_within}
use Rattle.control_members.specs.Stored.{AreTaken, AreTaking, IsMembersReady, stored_member_path}
use Rattle.control_members.proofs.Apart.{info_other, no_list}
use Rattle.file_lists.specs.Info.{AreLoose}
use Rattle.file_lists.specs.Lists.{HasLists}
use Rattle.file_lists.specs.Owners.{paths_of}
use Rattle.file_lists.specs.Writing.{IsListReady, list_file, list_text, with_list}
use Rattle.file_lists.specs.declared.paths.PackageList.{PackageList}
use Rattle.status_db.specs.Held.{IsKept}
use Rattle.status_db.specs.Noting.{IsNoted, IsNoting}
use Rattle.status_db.specs.Recorded.{Recorded}
use Rattle.status_records.specs.Records.{drop_record, put_record, record_in}
use Rattle.status_records.specs.declared.record.Record.{Record}
use Rattle.unit_stages.specs.PartFitting.{IsListing, IsNotable}
use Rattle.held_administration.specs.Order.{IsInOrder, record_names}
use Rattle.unit_stages.proofs.Lists.{lists_dropped, lists_named, lists_written}
use Rattle.unit_stages.proofs.Names.{dropped_had, dropped_has, is_recorded, put_had, put_has}
use Rattle.unit_stages.proofs.Outside.{IsOutside}
use Rattle.unit_stages.proofs.Places.{Stays, kept_stays, list_ready, listing_stays, members_ready, members_stay}

pub directory_there : (node : Option Node) → is_directory node ≡ true → IsDirectory node
directory_there None e = absurd (false≢true e)
directory_there (Some (File bytes access)) e = absurd (false≢true e)
directory_there (Some (Dir access)) e = (access, refl)
directory_there (Some (Link target)) e = absurd (false≢true e)

there_directory : (found : Option Node) → IsDirectory found → is_directory found ≡ true
there_directory found is = ap is_directory is.1

list_is_file : (paths : List Path) → IsFile (list_file paths)
list_is_file paths = (list_text paths, own_access 0o644, refl)

info_no_list : (name : Path) → (info_path ≢ list_path name) × (info_path ≢ temporary (list_path name))
info_no_list name = (λ e. absurd (omega (arith, ap length e)), λ e. absurd (omega (arith, ap length e)))

-- what stands at a path that a file may replace, or that may go

loose_replacing : (path : Path) (node : Node) (old now : World) (q : Path) → IsFile node → IsReplacing path node old now → NoDirectory (old q) → NoDirectory (now q)
loose_replacing path node old now q file is none = by (bytes_eq q path) (bytes_eq q (temporary path)) refl refl
  where
    by : (b t : Bool) → bytes_eq q path ≡ b → bytes_eq q (temporary path) ≡ t → NoDirectory (now q)
    by true t e f =
        let same : q ≡ path = (bytes_eq-Decides q path).0 e in
        elim is.target [
          | inl kept ↦ no_directory_at (now q) (old q) (ap now same ∙ kept ∙ ap old (sym same)) none
          | inr written ↦ no_directory_at (now q) (Some node) (ap now same ∙ written) (no_directory_file node file)
        ]
    by false true e f = no_directory_at (now q) (now (temporary path)) (ap now ((bytes_eq-Decides q (temporary path)).0 f)) is.spare
    by false false e f = no_directory_at (now q) (old q)
        (is.rest q (λ same. false≢true (sym e ∙ (bytes_eq-Decides q path).1 same)) (λ same. false≢true (sym f ∙ (bytes_eq-Decides q (temporary path)).1 same))) none

pub replaced_replacing : (path : Path) (node : Node) (old now : World) → IsReplaced path node old now → IsReplacing path node old now
replaced_replacing path node old now is = record { target = inr is.target; spare = no_directory_at (now (temporary path)) None is.spare no_directory_none; rest = is.rest }

-- as before, or gone
less_loose : (was now : Option Node) → (now ≡ was) ⊎ (now ≡ None) → NoDirectory was → NoDirectory now
less_loose was now (inl same) none = no_directory_at now was same none
less_loose was now (inr gone) none = no_directory_at now None gone no_directory_none

loose_dropping : (path : Path) (old now : World) (q : Path) → IsDropping path old now → NoDirectory (old q) → NoDirectory (now q)
loose_dropping path old now q is none = elim (decide q path) [
  | inl same ↦ subst (λ p. NoDirectory (now p)) (sym same) (less_loose (old path) (now path) is.target (subst (λ p. NoDirectory (old p)) same none))
  | inr ne ↦ no_directory_at (now q) (old q) (is.rest q ne) none
]

or_gone : (b : Bool) (was now : Option Node) → (now ≡ was) ⊎ (now ≡ cond b None was) → (now ≡ was) ⊎ (now ≡ None)
or_gone b was now (inl same) = inl same
or_gone true was now (inr gone) = inr gone
or_gone false was now (inr same) = inl same

pub taken_taking : (owner : Path) (gone : Path → Bool) (old now : World) → AreTaken owner gone old now → AreTaking owner gone old now
taken_taking owner gone old now is = record { own = λ name member. inr (is.stands name member); rest = is.rest }

-- if a directory stands there, it is none of these, so that it stood there before
loose_taking : (owner : Path) (gone : Path → Bool) (old now : World) (q : Path) → AreTaking owner gone old now → NoDirectory (old q) → NoDirectory (now q)
loose_taking owner gone old now q is none d = none (subst IsDirectory (is.rest q (λ name member e.
    let p = stored_member_path owner name in
    less_loose (old p) (now p) (or_gone (gone name) (old p) (now p) (is.own name member)) (subst (λ x. NoDirectory (old x)) e none) (subst (λ x. IsDirectory (now x)) e d))) d)

module _ (d : Recorded) (ls : List PackageList) (v : World) (order : IsInOrder d ls v) where
  pub home_there : IsDirectory (v home_path)
  home_there = directory_there (v home_path) order.home

  pub info_there : IsDirectory (v info_path)
  info_there = directory_there (v info_path) order.info

  pub own_list : (name : Path) → is_package_name name ≡ true → IsListReady name v
  own_list name named = list_ready v info_there order.loose name named

  pub own_members : (name : Path) → is_package_name name ≡ true → IsMembersReady name v
  own_members name named = members_ready v info_there order.loose name named

  -- nothing in the administration changes
  pub outside_order : (w : World) → IsOutside v w → IsInOrder d ls w
  outside_order w same = record {
    home = ap is_directory (same home_path refl) ∙ order.home;
    info = ap is_directory (same info_path refl) ∙ order.info;
    loose = λ entry plain. no_directory_at (w (info_path ++ 47 ∷ entry)) (v (info_path ++ 47 ∷ entry)) (same (info_path ++ 47 ∷ entry) (below_within home_path (codes "info/" ++ entry))) (order.loose entry plain);
    tmp = same tmp_path refl ∙ order.tmp;
    kept = kept_stays d v w (record { same = λ q within other. same q within }) order.kept;
    listed = ∥∥₁_map order.listed (λ has. lists_named v w (record_names d.records) (record_names d.records) ls (λ name. same (list_path name) (below_within home_path (codes "info/" ++ (name ++ codes ".list")))) (λ name is. is) (λ name is. inl is) has);
  }

  -- what is in `info` changes, and no directory comes into it
  info_order : (after : List PackageList) (w : World) → w info_path ≡ v info_path → Stays v w → AreLoose w → ∥ HasLists w (record_names d.records) after ∥₁ → IsInOrder d after w
  info_order after w info stays loose listed = record {
    home = ap is_directory (stays.same home_path refl (λ b. absurd (omega (arith, b)))) ∙ order.home;
    info = ap is_directory info ∙ order.info;
    loose = loose;
    tmp = stays.same tmp_path refl (λ b. absurd (omega (arith, b))) ∙ order.tmp;
    kept = kept_stays d v w stays order.kept;
    listed = listed;
  }

  -- the list

  pub replacing_loose : (name : Path) (paths : List Path) (now : World) → IsReplacing (list_path name) (list_file paths) v now → AreLoose now
  replacing_loose name paths now is = λ entry plain. loose_replacing (list_path name) (list_file paths) v now (info_path ++ 47 ∷ entry) (list_is_file paths) is (order.loose entry plain)

  pub replacing_kept : (name : Path) (paths : List Path) (now : World) → IsReplacing (list_path name) (list_file paths) v now → IsKept d now
  replacing_kept name paths now is = kept_stays d v now (listing_stays name v now is.rest) order.kept

  pub listing_order : (name : Path) (paths : List Path) (w : World) → IsListing name paths d.records → AllByRecursion IsUtf8 paths → IsReplaced (list_path name) (list_file paths) v w → IsInOrder d (with_list name paths ls) w
  listing_order name paths w fit texts is =
      info_order (with_list name paths ls) w (is.rest info_path (info_no_list name).0 (info_no_list name).1) (listing_stays name v w is.rest)
      (replacing_loose name paths w (replaced_replacing (list_path name) (list_file paths) v w is))
      (∥∥₁_map order.listed (λ has. lists_written v w (record_names d.records) name ls paths fit.listable.room texts (is_recorded d.records name fit.known) is has))

  pub dropping_loose : (name : Path) (now : World) → IsDropping (list_path name) v now → AreLoose now
  dropping_loose name now is = λ entry plain. loose_dropping (list_path name) v now (info_path ++ 47 ∷ entry) is (order.loose entry plain)

  pub dropping_kept : (name : Path) (now : World) → IsDropping (list_path name) v now → IsKept d now
  dropping_kept name now is = kept_stays d v now (listing_stays name v now (λ q ne spare. is.rest q ne)) order.kept

  pub dropped_order : (name : Path) (w : World) → paths_of ls name ≡ [] → IsDropped (list_path name) v w → IsInOrder d ls w
  dropped_order name w none is =
      info_order ls w (is.rest info_path (info_no_list name).0) (listing_stays name v w (λ q ne spare. is.rest q ne))
      (dropping_loose name w (record { target = inr is.target; rest = is.rest }))
      (∥∥₁_map order.listed (λ has. lists_dropped v w (record_names d.records) name ls none is has))

  -- control files

  pub taking_loose : (owner : Path) (gone : Path → Bool) (now : World) → AreTaking owner gone v now → AreLoose now
  taking_loose owner gone now is = λ entry plain. loose_taking owner gone v now (info_path ++ 47 ∷ entry) is (order.loose entry plain)

  pub taking_kept : (owner : Path) (gone : Path → Bool) (now : World) → AreTaking owner gone v now → IsKept d now
  taking_kept owner gone now is = kept_stays d v now (members_stay owner v now is.rest) order.kept

  pub taken_order : (owner : Path) (gone : Path → Bool) (w : World) → AreTaken owner gone v w → IsInOrder d ls w
  taken_order owner gone w is =
      info_order ls w (is.rest info_path (λ name member. info_other owner name)) (members_stay owner v w is.rest)
      (taking_loose owner gone w (taken_taking owner gone v w is))
      (∥∥₁_map order.listed (λ has. lists_named v w (record_names d.records) (record_names d.records) ls
      (λ name. is.rest (list_path name) (λ member m e. no_list owner name member m (sym e))) (λ name has_it. has_it) (λ name has_it. inl has_it) has))

  -- the records

  pub noting_loose : (after : List Record) (now : World) → IsNoting d.records after v now → AreLoose now
  noting_loose after now is = λ entry plain. no_directory_at (now (info_path ++ 47 ∷ entry)) (v (info_path ++ 47 ∷ entry)) (is.rest (info_path ++ 47 ∷ entry) refl) (order.loose entry plain)

  noted_order : (e : Recorded) (w : World) → IsNoted e v w → ((name : List ℕ) → Contains (record_names e.records) name → Contains (record_names d.records) name)
      → ((name : List ℕ) → Contains (record_names d.records) name → Contains (record_names e.records) name ⊎ (paths_of ls name ≡ [])) → IsInOrder e ls w
  noted_order e w noted had stays = record {
    home = there_directory (w home_path) noted.kept.unblocked.home;
    info = ap is_directory (noted.rest info_path refl) ∙ order.info;
    loose = λ entry plain. no_directory_at (w (info_path ++ 47 ∷ entry)) (v (info_path ++ 47 ∷ entry)) (noted.rest (info_path ++ 47 ∷ entry) refl) (order.loose entry plain);
    tmp = noted.rest tmp_path refl ∙ order.tmp;
    kept = noted.kept;
    listed = ∥∥₁_map order.listed (λ has. lists_named v w (record_names d.records) (record_names e.records) ls (λ name. noted.rest (list_path name) refl) had stays has);
  }

  pub note_order : (name : List ℕ) (r : Record) (e : Recorded) (w : World) → IsNotable name r d.records → e.records ≡ put_record r d.records → IsNoted e v w → IsInOrder e ls w
  note_order name r e w fit is noted =
      noted_order e w noted
      (λ q has. put_had r d.records known q (subst (λ rs. Contains (record_names rs) q) is has))
      (λ q has. inl (subst (λ rs. Contains (record_names rs) q) (sym is) (put_has r d.records known q has)))
    where
      known : is_some (record_in d.records r.name) ≡ true
      known = ap (λ (n : List ℕ). is_some (record_in d.records n)) fit.own ∙ fit.known

  pub forget_order : (name : List ℕ) (e : Recorded) (w : World) → paths_of ls name ≡ [] → e.records ≡ drop_record name d.records → IsNoted e v w → IsInOrder e ls w
  forget_order name e w none is noted =
      noted_order e w noted
      (λ q has. dropped_had name d.records q (subst (λ rs. Contains (record_names rs) q) is has))
      (λ q has. elim (decide q name) [
        | inl same ↦ inr (ap (paths_of ls) same ∙ none)
        | inr ne ↦ inl (subst (λ rs. Contains (record_names rs) q) (sym is) (dropped_has name d.records q ne has))
      ])
