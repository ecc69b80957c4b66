-- What is in `info` as a unit leaves it: each entry is as before, nothing, or a file at a name that no opening refuses.
use Rattle.std.proofs.Common.{◌≡◌, ◌≢◌, ◌⊎◌, inl, inr, IsTrue, ℕ, nat_le, length, zero, suc, Bool, true, false, List, ◌∷◌, ◌++◌, Option, Some, None, Contains, codes, drop, refl, sym, ap, subst, ◌∙◌, arith}
use Rattle.std.specs.Prelude.{IsSome}
use Rattle.std.specs.Str.{IsUtf8, bytes_eq}
use Rattle.std.proofs.lemmas.Bool.{true≢false}
use Rattle.std.proofs.lemmas.Slice.Eq.{bytes_eq-Decides}
use Rattle.std.proofs.lemmas.Str.{IsUtf8-append, IsUtf8-from_ascii}
use Rattle.texts.specs.PackageNames.{is_package_name}
use Rattle.texts.proofs.PackageNames.{signs_ascii, signs_of_name}
use Rattle.host_core.specs.Paths.{Path, is_path}
use Rattle.host_core.specs.Tree.{IsOdd, has_slash}
use Rattle.host_core.specs.World.{World, IsFile}
use Rattle.host_core.specs.Events.{changes_of}
use Rattle.host_core.specs.Host.{State}
use Rattle.host_core.specs.Outcome.{script_name}
use Rattle.host_core.specs.declared.call.Script.{Script}
use Rattle.host_core.specs.declared.node.Node.{Node}
use Rattle.host_core.specs.declared.node.Node.TheVariants.{File, Link}
use Rattle.administration.specs.Directories.{HasBadName}
use Rattle.administration.specs.Places.{info_path, list_name, list_path, stored_name, temporary}
use Rattle.administration.proofs.NamePaths.{list_is_path, list_spare_is_path}
use Rattle.undo_rows.specs.Transcripts.{Ended, Committed, Unwound}
use Rattle.control_members.specs.Names.{is_member_name}
use Rattle.control_members.specs.Stored.{stored_member_path}
use Rattle.control_members.specs.Members.{member_node, member_of, node_of}
use Rattle.control_members.specs.declared.member.Member.{Member}
use Rattle.control_members.proofs.Apart.{no_list, no_temporary, same_stored}
use Rattle.control_members.proofs.Lookup.{member_file}
use Rattle.control_members.proofs.MemberNames.{script_is_member, stored_is_path, stored_name_plain, stored_spare_is_path, stored_utf8}
use Rattle.file_lists.specs.Info.{AreLoose, AreSound, IsLink, entry_path}
use Rattle.file_lists.specs.Lists.{HasLists, IsReadable}
use Rattle.file_lists.specs.Taking.{IsNoList}
use Rattle.file_lists.specs.declared.paths.PackageList.{PackageList}
use Rattle.package_files.specs.Files.{Each}
use Rattle.package_files.specs.Names.{IsNamed}
use Rattle.status_records.specs.Records.{record_in}
use Rattle.status_records.specs.declared.record.Record.{Record}
use Rattle.unpack_commit.specs.Areas.{IsNoMember}
use Rattle.unpack_commit.specs.Commit.{Changes}
use Rattle.unpack_commit.specs.Takeover.{put_records, taken_places}
use Rattle.unpack_commit.proofs.Left.{committed_keeps, members_stored}
use Rattle.unpack_commit.proofs.Stays.{no_leaving_place}
use Rattle.listed_files.specs.Closing.{SparesAdministration}
use Rattle.listed_files.specs.Concluding.{AreElsewhere}
use Rattle.unpack_plan.specs.Planned.{Planned}
use Rattle.unpack_rows.specs.Kinds.{kinds_of}
use Rattle.unpack_rows.specs.Stages.{stage_of}
use Rattle.unpack_steps.specs.At.{At, Holding}
use Rattle.unpack_steps.specs.Clearing.{MayClear, is_gone, next_ready}
use Rattle.unpack_steps.specs.Task.{state_on}
use Rattle.unpack_engine.specs.Units.{Begins, BeginsAt, Ground, HasFollowed, HasLeft, changes, commit_records, last_place, package_name, task_from}
use Rattle.unpack_engine.proofs.Apart.{entry_beside}
use Rattle.unpack_engine.proofs.Begun.{cleared_if, dropped_same}
use Rattle.unpack_engine.proofs.Cleared.{begun_at, begun_beside, works_on}
use Rattle.undo_rows.specs.Place.{Place}
use Rattle.unpack_engine.proofs.Frames.{come_same}
use Rattle.unpack_engine.proofs.Losing.{loser_named}

-- a name that no opening refuses: text that makes a path
record IsTame (entry : Path) : Type 0 where
  text : IsUtf8 entry
  fits : is_path (entry_path entry) ≡ true

tame_or_odd : (entry : Path) → IsTame entry → IsOdd info_path entry → ⊥
tame_or_odd entry tame (inl no_text) = no_text tame.text
tame_or_odd entry tame (inr no_path) = true≢false (sym tame.fits ∙ no_path)

odd_apart : (entry other : Path) → IsOdd info_path entry → IsTame other → entry_path entry ≢ entry_path other
odd_apart entry other odd tame e = let same : entry ≡ other = ap (λ (l : Path). drop 19 l) e in tame_or_odd other tame (subst (IsOdd info_path) same odd)

-- the names of lists and control files, and their temporary names, are tame

suffix_text : IsUtf8 (codes ".dpkg-inst")
suffix_text = IsUtf8-from_ascii (codes ".dpkg-inst") (signs_ascii (codes ".dpkg-inst") refl)

module _ (name : Path) (named : is_package_name name ≡ true) where
  name_text : IsUtf8 name
  name_text = IsUtf8-from_ascii name (signs_ascii name (signs_of_name name named))

  list_tame : IsTame (list_name name)
  list_tame = record {
    text = IsUtf8-append name (codes ".list") name_text (IsUtf8-from_ascii (codes ".list") (signs_ascii (codes ".list") refl));
    fits = list_is_path name named;
  }

  list_spare_tame : IsTame (list_name name ++ codes ".dpkg-inst")
  list_spare_tame = record {
    text = IsUtf8-append (list_name name) (codes ".dpkg-inst") list_tame.text suffix_text;
    fits = list_spare_is_path name named;
  }

  member_tame : (member : Path) → is_member_name member ≡ true → IsTame (name ++ 46 ∷ member)
  member_tame member is = record {
    text = stored_utf8 name member named is;
    fits = stored_is_path name member named is;
  }

  member_spare_tame : (member : Path) → is_member_name member ≡ true → IsTame ((name ++ 46 ∷ member) ++ codes ".dpkg-inst")
  member_spare_tame member is = record {
    text = IsUtf8-append (name ++ 46 ∷ member) (codes ".dpkg-inst") (member_tame member is).text suffix_text;
    fits = stored_spare_is_path name member named is;
  }

-- an entry that is no list of these packages and no control file of the first, nor a temporary name of one
record IsAside (own : List ℕ) (losers : List (List ℕ)) (entry : Path) : Type 0 where
  lists : IsNoList (own ∷ losers) (entry_path entry)
  members : IsNoMember own (entry_path entry)

each_named : (own : List ℕ) (losers : List (List ℕ)) → is_package_name own ≡ true → ((q : List ℕ) → Contains losers q → is_package_name q ≡ true) → (q : List ℕ) → Contains (own ∷ losers) q → is_package_name q ≡ true
each_named own losers first rest q (zero, lt, e) = subst (λ (x : List ℕ). is_package_name x ≡ true) e first
each_named own losers first rest q (suc k, lt, e) = rest q (k, omega (arith, lt), e)

-- so is one that an opening may refuse
odd_aside : (own : List ℕ) (losers : List (List ℕ)) (entry : Path) → is_package_name own ≡ true → ((q : List ℕ) → Contains losers q → is_package_name q ≡ true) → IsOdd info_path entry → IsAside own losers entry
odd_aside own losers entry named all odd = record {
  lists = λ name has.
      let is = each_named own losers named all name has in
      (odd_apart entry (list_name name) odd (list_tame name is), odd_apart entry (list_name name ++ codes ".dpkg-inst") odd (list_spare_tame name is));
  members = λ member is. (
    odd_apart entry (own ++ 46 ∷ member) odd (member_tame own named member is),
    odd_apart entry ((own ++ 46 ∷ member) ++ codes ".dpkg-inst") odd (member_spare_tame own named member is),
  );
}

-- and a script of another package
script_aside : (own : List ℕ) (losers : List (List ℕ)) (name : List ℕ) (script : Script) → (name ≡ own → ⊥) → IsAside own losers (stored_name name script)
script_aside own losers name script other =
    let word = script_name script in
    let is = script_is_member script in
    record {
      lists = λ q has. (no_list name q word is, no_temporary name word (list_path q) is);
      members = λ member m. ((λ e. other (same_stored name own word member is m e).0), no_temporary name word (stored_member_path own member) is);
    }

-- no link stands where a control file does
no_link_none : (stood : Option Node) → stood ≡ None → IsLink stood → ⊥
no_link_none stood none link = (let e : None ≡ Some (Link link.0) = sym none ∙ link.1 in cc)

no_link_member : (ms : List Member) (name : Path) (stood : Option Node) → stood ≡ member_node ms name → IsLink stood → ⊥
no_link_member ms name stood is link = at (member_of ms name) (sym is ∙ link.1)
  where
    no_file : (n : Node) → IsFile n → Some n ≡ Some (Link link.0) → ⊥
    no_file n file e = (let same : Some (File file.0 file.1) ≡ Some (Link link.0) = ap Some (sym file.2) ∙ e in cc)

    at : (o : Option Member) → node_of o ≡ Some (Link link.0) → ⊥
    at None e = cc
    at (Some m) e = no_file m.node (member_file m) e

module _ (g : Ground) (p : Planned) (named : is_package_name (package_name g p) ≡ true) (works_named : Each IsNamed p.works) (spares : SparesAdministration p.leaving) (elsewhere : AreElsewhere p.names)
    (ended : Ended) (mid : Holding) (old : World) (begun last : State) (begins : Begins g p old begun.world) (at : At (task_from g p begun) mid last (last_place g p ended)) (h : IsTrue last.honest)
    (new : World) (left : HasLeft (changes g p mid.works mid.lists) (commit_records g p mid.works mid.lists mid.database.records) g.ways mid.lists mid.database.records (length p.others) ended last.world new) where
  abbrev own : List ℕ
  own = package_name g p

  abbrev c : Changes
  c = changes g p mid.works mid.lists

  losers_named : (q : List ℕ) → Contains c.losers q → is_package_name q ≡ true
  losers_named = loser_named g.ways (taken_places mid.works) mid.lists own g.yields

  -- where the rows and what follows them leave an entry as it was

  rows_same : (entry : Path) → entry_path entry ≢ list_path own → entry_path entry ≢ temporary (list_path own) → last.world (entry_path entry) ≡ at.base (entry_path entry)
  rows_same entry unlisted unspared =
      come_same (task_from g p (state_on begun at.base)) (entry_path entry) (entry_beside own entry unlisted unspared) works_named (last_place g p ended) (stage_of (kinds_of p.found p.others) (last_place g p ended)) mid.works (works_on g p (last_place g p ended) begun at.base mid.works at.works) (changes_of at.since) last.world (at.world h).came

  abbrev place : Place
  place = last_place g p ended

  then : BeginsAt g p place old at.base
  then = begun_at g p place old begun mid last begins at h

  base_same : (entry : Path) → IsAside own c.losers entry → at.base (entry_path entry) ≡ old (entry_path entry)
  base_same entry aside = begun_beside g p place old at.base then (entry_path entry) refl
      (record { list = (aside.lists own (zero, omega arith, refl)).0; members = λ member is. (aside.members member is).0 })

  followed_same : (entry : Path) → IsAside own c.losers entry → (e : Ended) (v w : World) → HasFollowed c (commit_records g p mid.works mid.lists mid.database.records) g.ways mid.lists mid.database.records (length p.others) e v w → w (entry_path entry) ≡ v (entry_path entry)
  followed_same entry aside Committed v w has =
      committed_keeps c g.ways mid.lists v (put_records (commit_records g p mid.works mid.lists mid.database.records) mid.database.records) w (entry_path entry) has (record {
        stays = no_leaving_place p.leaving (entry_path entry) spares refl;
        uncleared = elsewhere (entry_path entry) refl;
        unlisted = aside.lists;
        no_member = aside.members;
        unnoted = refl;
      })
  followed_same entry aside (Unwound fall failed) v w dropped = dropped_same (nat_le (length p.others) fall.row) (record_in mid.database.records own) own v w (entry_path entry) dropped (aside.lists own (zero, omega arith, refl)).0

  aside_same : (entry : Path) → IsAside own c.losers entry → new (entry_path entry) ≡ old (entry_path entry)
  aside_same entry aside =
      let beside = aside.lists own (zero, omega arith, refl) in
      left.removed.rest (entry_path entry) refl
      ∙ followed_same entry aside ended last.world left.followed left.has_followed
      ∙ rows_same entry beside.0 beside.1
      ∙ base_same entry aside

  -- each name in it is text still
  pub text_left : (HasBadName old info_path → ⊥) → HasBadName new info_path → ⊥
  text_left text bad = text (bad.0, bad.1, bad.2, subst IsSome (aside_same bad.0 (odd_aside own c.losers bad.0 named losers_named bad.2)) bad.3)

  -- no link takes the place of a script of the package

  base_link : (script : Script) (found : Option Record) → (found ≡ None → is_gone found (length p.others) place ≡ true)
      → MayClear (is_gone found (length p.others) place) (is_gone found (length p.others) (next_ready place)) own then.begun at.base
      → ((r : Record) → found ≡ Some r → IsLink (old (entry_path (stored_name own script))) → ⊥) → IsLink (at.base (entry_path (stored_name own script))) → ⊥
  base_link script None gone may before link =
      no_link_none (at.base (entry_path (stored_name own script))) ((cleared_if _ _ own then.begun at.base (gone refl) may).members (script_name script) (script_is_member script)) link
  base_link script (Some r) gone same before link =
      before r refl (subst IsLink (ap (λ (w : World). w (entry_path (stored_name own script))) same ∙ then.begins.lays (entry_path (stored_name own script)) refl) link)

  followed_link : (script : Script) (e : Ended) (w : World) → HasFollowed c (commit_records g p mid.works mid.lists mid.database.records) g.ways mid.lists mid.database.records (length p.others) e last.world w
      → (IsLink (last.world (entry_path (stored_name own script))) → ⊥) → IsLink (w (entry_path (stored_name own script))) → ⊥
  followed_link script Committed w has before link =
      let word = script_name script in
      let is = script_is_member script in
      no_link_member p.members word (w (stored_member_path own word))
      (members_stored c g.ways mid.lists last.world (put_records (commit_records g p mid.works mid.lists mid.database.records) mid.database.records) w elsewhere has word is) link
  followed_link script (Unwound fall failed) w dropped before link =
      before (subst IsLink (dropped_same (nat_le (length p.others) fall.row) (record_in mid.database.records own) own last.world w (entry_path (stored_name own script)) dropped (no_list own own (script_name script) (script_is_member script))) link)

  own_script : (script : Script) → (p.found ≡ None → is_gone p.found (length p.others) place ≡ true) → ((r : Record) → p.found ≡ Some r → IsLink (old (entry_path (stored_name own script))) → ⊥) → IsLink (new (entry_path (stored_name own script))) → ⊥
  own_script script gone before link =
      let entry = stored_name own script in
      let word = script_name script in
      let is = script_is_member script in
      followed_link script ended left.followed left.has_followed
      (λ at_last. base_link script p.found gone then.clears before (subst IsLink (rows_same entry (no_list own own word is) (no_temporary own word (list_path own) is)) at_last))
      (subst IsLink (left.removed.rest (entry_path entry) refl) link)

  -- each entry is sound in the end, for packages of before and this one
  module _ (before after : List (List ℕ)) (found : (r : Record) → p.found ≡ Some r → Contains before own) (known : (q : List ℕ) → Contains after q → Contains before q ⊎ (q ≡ own))
      (gone : Contains after own → p.found ≡ None → is_gone p.found (length p.others) place ≡ true)
      (sound : AreSound old before) (loose : AreLoose new) (lists : List PackageList) (listed : HasLists new after lists) where
    script_left : (entry : Path) → has_slash entry ≡ false → (script : Script) (q : List ℕ) → Contains after q → entry ≡ stored_name q script → IsLink (new (entry_path entry)) → (b : Bool) → bytes_eq q own ≡ b → ⊥
    script_left entry whole script q has is link true e =
        let same : q ≡ own = (bytes_eq-Decides q own).0 e in
        let at_own : entry ≡ stored_name own script = is ∙ ap (λ (n : List ℕ). stored_name n script) same in
        own_script script (gone (subst (Contains after) same has)) (λ r is_found. (sound (stored_name own script) (stored_name_plain own (script_name script) named (script_is_member script))).script (script, own, found r is_found, refl)) (subst (λ (x : Path). IsLink (new (entry_path x))) at_own link)
    script_left entry whole script q has is link false e =
        let other : q ≡ own → ⊥ = (λ same. true≢false (sym ((bytes_eq-Decides q own).1 same) ∙ e)) in
        elim (known q has) [
          | inl old_one ↦ (sound entry whole).script (script, q, old_one, is)
              (subst IsLink (aside_same entry (subst (λ (x : Path). IsAside own c.losers x) (sym is) (script_aside own c.losers q script other))) link)
          | inr same ↦ absurd (other same)
        ]

    pub sound_left : AreSound new after
    sound_left entry whole = record {
      loose = loose entry whole;
      list = λ of. subst (λ (x : Path). IsReadable (new (entry_path x))) (sym of.2) (listed.readable of.0 of.1);
      script = λ of link. script_left entry whole of.0 of.1 of.2 of.3 link (bytes_eq of.1 own) refl;
    }
