-- What stands at the targets of works while the rows run.
use Rattle.std.proofs.Common.{◌≡◌, ◌≢◌, ◌⊎◌, inl, inr, Bool, true, false, List, [], ◌++◌, Option, Some, Contains, refl, sym, ap, subst, ◌∙◌}
use Rattle.std.proofs.lemmas.Bool.{false_from_ne_true}
use Rattle.std.proofs.lemmas.List.{append-nil}
use Rattle.std.proofs.lemmas.List.Sorted.{IsPermutation-sym}
use Rattle.host_core.specs.Paths.{Path, is_below_administration}
use Rattle.host_core.specs.World.{World, Change, changed, is_kept}
use Rattle.host_core.proofs.Scripts.{changed-append, changed_at, changed_kept}
use Rattle.host_core.specs.declared.node.Node.{Node}
use Rattle.host_core.specs.declared.node.Node.TheVariants.{File, Dir, Link}
use Rattle.administration.specs.Files.{IsReplaced, IsReplacing}
use Rattle.administration.specs.Places.{list_path, temporary}
use Rattle.undo_rows.specs.Place.{Place}
use Rattle.file_lists.specs.Writing.{list_file}
use Rattle.file_check.specs.Rearranged.{IsRearranged}
use Rattle.package_files.specs.declared.work.Work.{Work}
use Rattle.package_files.specs.Files.{Each, HasPutBack, HasUndone, HasWritten, IsBack, IsShown, IsUnwritten, IsWhole, Misses, Stays, Undone, is_written, shown}
use Rattle.package_files.specs.Free.{IsWrittenFrom}
use Rattle.package_files.specs.Names.{IsNamed}
use Rattle.package_files.specs.Back.{GoesBack, IsGoingBack}
use Rattle.package_files.proofs.WorkLists.{each_map, each_of}
use Rattle.package_files.proofs.WorkNames.{kept_names}
use Rattle.status_db.specs.Held.{is_record_place}
use Rattle.status_records.specs.declared.record.Record.{Record}
use Rattle.listed_files.specs.Listing.{MayList, MayTurnBack, MayUnlist}
use Rattle.listed_files.proofs.Apart.{apart, list_below, spare_below}
use Rattle.unpack_rows.specs.Stages.{Stage, Unwritten, Wrote, Restored}
use Rattle.unpack_steps.specs.Task.{Task, all_places, name}
use Rattle.unpack_steps.specs.Trail.{Follows, HasCome, HasFiles, HasGoneBack, HasPutAll, HasTurned}
use Rattle.unpack_steps.specs.At.{AreWorksAt, IsAmid}
use Rattle.unpack_steps.proofs.FileWorlds.{still_written}
use Rattle.unpack_steps.proofs.Rearranged.{each_rearranged, named_rearranged, places_listed}
use Rattle.unpack_steps.proofs.Standing.{record_below}
use Rattle.unpack_laws.specs.Whole.{IsTargetAmid, IsTargetBack, IsTargetSet, IsWorkAmid, IsWorkBack, IsWorkSet}

-- a name of a work lies nowhere below the administration's directory

pub name_apart : (x : Work) → IsNamed x → (q : Path) → (Misses x q → ⊥) → (p : Path) → is_below_administration p ≡ true → q ≢ p
name_apart x named q hits p below e = hits (subst (Misses x) (sym e) (apart x p named below))

pub name_unnoted : (x : Work) → IsNamed x → (q : Path) → (Misses x q → ⊥) → is_record_place q ≡ false
name_unnoted x named q hits = false_from_ne_true (is_record_place q) (λ is. hits (apart x q named (record_below q is)))

pub hits_target : (x : Work) → Misses x x.target → ⊥
hits_target x m = m.target refl

pub hits_backup : (x : Work) → Misses x x.backup → ⊥
hits_backup x m = m.backup refl

pub hits_fresh : (x : Work) → Misses x x.fresh → ⊥
hits_fresh x m = m.fresh refl

-- what is written is shown

is_shown : (node : Node) → IsShown node (Some node)
is_shown (File b m) = refl
is_shown (Dir m) = (m, refl)
is_shown (Link t) = refl

pub shown_now : (node : Node) (there : Option Node) → there ≡ Some node → IsShown node there
shown_now node there is = subst (IsShown node) (sym is) (is_shown node)

-- each moment, by how the target stands to what was there when the files were begun
module _ (x : Work) (old now : World) (change : Change) where
  abbrev SetHere : Type 0
  SetHere = IsWorkSet old now change x

  abbrev BackHere : Type 0
  BackHere = IsWorkBack old now change x

  abbrev AmidHere : Type 0
  AmidHere = IsWorkAmid old now change x

  shown_or_stood : (b : Bool) (had : Option Node) → had ≡ changed change old x.target → now x.target ≡ shown b x.node had → SetHere
  shown_or_stood true had was is = IsTargetSet.shown (shown_now x.node (now x.target) is)
  shown_or_stood false had was is = IsTargetSet.before (IsTargetBack.stood (is ∙ was))

  pub written_amid : (mid w : World) → mid x.target ≡ changed change old x.target → now x.target ≡ w x.target → HasWritten mid w x → SetHere
  written_amid mid w was same has = shown_or_stood (is_written x.node (mid x.target)) (mid x.target) was (same ∙ has.target)

  pub whole_amid : (mid : World) → mid x.target ≡ changed change old x.target → IsWhole mid now x → AmidHere
  whole_amid mid was (IsWhole.before same) = IsTargetAmid.whole (IsTargetSet.before (IsTargetBack.stood (same ∙ was)))
  whole_amid mid was (IsWhole.between access made written none kept) = IsTargetAmid.between access made none (kept ∙ was)
  whole_amid mid was (IsWhole.behind written there kept) = IsTargetAmid.whole (IsTargetSet.shown there)

  back_at : (early late : Change) → change ≡ early ++ late → (mid w : World) → mid x.target ≡ changed early old x.target → now x.target ≡ changed late w x.target → IsUnwritten mid w x ⊎ Stays mid w x → BackHere
  back_at early late is mid w was same (inl back) =
      IsTargetBack.stood (same ∙ changed_at late w (changed early old) x.target (back.target ∙ was) ∙ ap (λ (v : World). v x.target) (sym (changed-append early late old)) ∙ ap (λ c. changed c old x.target) (sym is))
  back_at early late is mid w was same (inr stays) = IsTargetBack.stayed stays.made.0 early late w stays.made.1 is (stays.target ∙ ap Some stays.made.1) same

  pub undone_back : (early late : Change) → change ≡ early ++ late → (mid w : World) → mid x.target ≡ changed early old x.target → now x.target ≡ changed late w x.target → HasUndone mid w x → BackHere
  undone_back early late is mid w was same has = back_at early late is mid w was same has.is

-- of what was put back nothing is left

unwritten : (mid w : World) (x : Work) → IsBack mid w x ⊎ Stays mid w x → IsUnwritten mid w x ⊎ Stays mid w x
unwritten mid w x (inl back) = inl (record { target = back.target; backup = inr back.backup })
unwritten mid w x (inr stays) = inr stays

put_undone : (mid w : World) (x : Work) → HasPutBack mid w x → HasUndone mid w x
put_undone mid w x put = record { is = unwritten mid w x put.is; fresh = inr put.fresh }

module _ (t : Task) (all_named : Each IsNamed t.works) where
  -- a target is what the calls of before made of it
  followed_target : (places : List Path) (c : Change) (v w : World) → Follows places c v w → (x : Work) → IsNamed x → w x.target ≡ changed c v x.target
  followed_target places c v w follows x named = follows.rest x.target (name_unnoted x named x.target (hits_target x))

  module _ (works : List Work) (moved : IsRearranged t.works works) where
    abbrev pub Known : Work → Type 0
    Known x = IsNamed x × Contains (all_places t) x.place

    named : Each IsNamed works
    named = named_rearranged t.works works moved all_named

    pub known : Each Known works
    known = each_map IsNamed (λ x. Contains (all_places t) x.place) Known (λ x a b. (a, b)) works named (places_listed t.places t.works works moved)

    -- a name of a work is what the calls of before made of it, when the list is written

    list_off : (x : Work) → IsNamed x → (q : Path) → (Misses x q → ⊥) → (node : Node) (v w : World) → IsReplaced (list_path (name t)) node v w → w q ≡ v q
    list_off x named q hits node v w is = is.rest q (name_apart x named q hits (list_path (name t)) (list_below (name t))) (name_apart x named q hits (temporary (list_path (name t))) (spare_below (name t)))

    listing_off : (x : Work) → IsNamed x → (q : Path) → (Misses x q → ⊥) → (node : Node) (v w : World) → IsReplacing (list_path (name t)) node v w → w q ≡ v q
    listing_off x named q hits node v w is = is.rest q (name_apart x named q hits (list_path (name t)) (list_below (name t))) (name_apart x named q hits (temporary (list_path (name t))) (spare_below (name t)))

    begun_at : (c : Change) (found mid : World) → Follows t.places c t.start.world found → IsReplaced (list_path (name t)) (list_file t.union) found mid → (x : Work) → IsNamed x → (q : Path) → (Misses x q → ⊥) → mid q ≡ changed c t.start.world q
    begun_at c found mid follows is x named q hits = list_off x named q hits (list_file t.union) found mid is ∙ follows.rest q (name_unnoted x named q hits)

    module _ (c : Change) (w : World) (has : HasFiles t works c w) where
      -- what follows the files leaves them alone
      mid_at : (x : Work) → IsNamed x → (q : Path) → (Misses x q → ⊥) → is_kept (all_places t) q ≡ true → has.listed.mid q ≡ changed c t.start.world q
      mid_at x named q hits kept =
          begun_at has.early has.found has.listed.mid has.before has.listed.replaced x named q hits
          ∙ sym (changed_kept (is_kept (all_places t)) has.late (changed has.early t.start.world) has.since.avoids q kept)
          ∙ ap (λ (v : World). v q) (sym (changed-append has.early has.late t.start.world)) ∙ ap (λ d. changed d t.start.world q) (sym has.changes)

      mid_is : (x : Work) → Known x → has.listed.mid x.target ≡ changed c t.start.world x.target
      mid_is x is = mid_at x is.0 x.target (hits_target x) (kept_names (all_places t) x is.0 is.1).target

      pub still : IsWrittenFrom works has.listed.mid w
      still = still_written t works c w has moved named

      files_set : Each (IsWorkSet t.start.world w c) works
      files_set = each_map Known (HasWritten has.listed.mid w) (IsWorkSet t.start.world w c) (λ x is written. written_amid x t.start.world w c has.listed.mid w (mid_is x is) refl written) works known still.has

      going_back_amid : (now : World) → IsGoingBack works w now → Each (IsWorkAmid t.start.world now c) works
      going_back_amid now going =
          each_map Known (IsWhole has.listed.mid now) (IsWorkAmid t.start.world now c) (λ x is whole. whole_amid x t.start.world now c has.listed.mid (mid_is x is) whole) works known (going has.listed.mid still).each

    -- from the world in which they were begun nothing is left of the files, or of what was begun of them, and only the list is written
    -- since
    pub record IsUndoneSince (c : Change) (back : World) : Type 0 where
      pub mid : World
      pub last : World
      pub target : (x : Work) → Known x → mid x.target ≡ changed c t.start.world x.target
      pub backup : (x : Work) → Known x → mid x.backup ≡ changed c t.start.world x.backup
      pub fresh : (x : Work) → Known x → mid x.fresh ≡ changed c t.start.world x.fresh
      pub each : Each (HasUndone mid last) works
      pub rest : (x : Work) → IsNamed x → (q : Path) → (Misses x q → ⊥) → back q ≡ last q

    -- they were put back
    pub put_since : (c : Change) (w last back : World) → HasFiles t works c w → GoesBack works w last → ((x : Work) → IsNamed x → (q : Path) → (Misses x q → ⊥) → back q ≡ last q) → IsUndoneSince c back
    put_since c w last back has goes rest = record {
      mid = has.listed.mid;
      last = last;
      target = λ x is. mid_at c w has x is.0 x.target (hits_target x) (kept_names (all_places t) x is.0 is.1).target;
      backup = λ x is. mid_at c w has x is.0 x.backup (hits_backup x) (kept_names (all_places t) x is.0 is.1).backup;
      fresh = λ x is. mid_at c w has x is.0 x.fresh (hits_fresh x) (kept_names (all_places t) x is.0 is.1).fresh;
      each = each_of (HasPutBack has.listed.mid last) (HasUndone has.listed.mid last) (put_undone has.listed.mid last) works (goes has.listed.mid (still c w has)).each;
      rest = rest;
    }

    -- a step of them was declined
    pub turned_since : (c : Change) (found mid last back : World) → Follows t.places c t.start.world found → IsReplaced (list_path (name t)) (list_file t.union) found mid → Undone works mid last
        → ((x : Work) → IsNamed x → (q : Path) → (Misses x q → ⊥) → back q ≡ last q) → IsUndoneSince c back
    turned_since c found mid last back follows replaced undone rest = record {
      mid = mid;
      last = last;
      target = λ x is. begun_at c found mid follows replaced x is.0 x.target (hits_target x);
      backup = λ x is. begun_at c found mid follows replaced x is.0 x.backup (hits_backup x);
      fresh = λ x is. begun_at c found mid follows replaced x is.0 x.fresh (hits_fresh x);
      each = undone.each;
      rest = rest;
    }

    put_or_turned : (c : Change) (back : World) → HasPutAll t works c back ⊎ HasTurned t works c back → IsUndoneSince c back
    put_or_turned c back (inl all) = put_since c all.last all.unlisted.mid back all.files all.unlisted.back (λ x named q hits. list_off x named q hits (list_file t.listed) all.unlisted.mid back all.unlisted.replaced)
    put_or_turned c back (inr it) = turned_since c it.found it.turned.mid it.turned.back back it.before it.turned.replaced it.turned.undone (λ x named q hits. list_off x named q hits (list_file t.listed) it.turned.back back it.turned.unlisted)

    pub gone_back_since : (c : Change) (w : World) (has : HasGoneBack t works c w) → IsUndoneSince has.early has.back
    gone_back_since c w has = put_or_turned has.early has.back has.put

    -- the targets then, where only calls came since
    set_since : (early late c : Change) → c ≡ early ++ late → (back now : World) → ((x : Work) → IsNamed x → (q : Path) → (Misses x q → ⊥) → now q ≡ changed late back q) → IsUndoneSince early back → Each (IsWorkBack t.start.world now c) works
    set_since early late c is back now since undone =
        each_map Known (HasUndone undone.mid undone.last) (IsWorkBack t.start.world now c)
        (λ x known_x it. undone_back x t.start.world now c early late is undone.mid undone.last (undone.target x known_x)
        (since x known_x.0 x.target (hits_target x) ∙ changed_at late back undone.last x.target (undone.rest x known_x.0 x.target (hits_target x))) it) works known undone.each

    same_since : (c : Change) (now : World) → IsUndoneSince c now → Each (IsWorkBack t.start.world now c) works
    same_since c now undone = set_since c [] c (sym (append-nil c)) now now (λ x named q hits. refl) undone

    amid_since : (c : Change) (now : World) → IsUndoneSince c now → Each (IsWorkAmid t.start.world now c) works
    amid_since c now undone = each_of (IsWorkBack t.start.world now c) (IsWorkAmid t.start.world now c) (λ x is. IsTargetAmid.whole (IsTargetSet.before is)) works (same_since c now undone)

    -- they are back, and the list is being written
    pub unlisting_since : (c : Change) (w last now : World) (node : Node) → HasFiles t works c w → GoesBack works w last → IsReplacing (list_path (name t)) node last now → IsUndoneSince c now
    unlisting_since c w last now node has goes is = put_since c w last now has goes (λ x named q hits. listing_off x named q hits node last now is)

    pub turning_since : (c : Change) (found mid last now : World) (node : Node) → Follows t.places c t.start.world found → IsReplaced (list_path (name t)) (list_file t.union) found mid → Undone works mid last
        → IsReplacing (list_path (name t)) node last now → IsUndoneSince c now
    turning_since c found mid last now node follows replaced undone is = turned_since c found mid last now follows replaced undone (λ x named q hits. listing_off x named q hits node last now is)

    unlisting_amid : (c : Change) (w : World) → HasFiles t works c w → (paths : List Path) (now : World) → MayUnlist (list_path (name t)) (list_file paths) works w now → Each (IsWorkAmid t.start.world now c) works
    unlisting_amid c w has paths now (inl going) = going_back_amid c w has now going
    unlisting_amid c w has paths now (inr m) = amid_since c now (unlisting_since c w m.0 now (list_file paths) has m.1 m.2)

    listing_amid : (c : Change) (found now : World) → Follows t.places c t.start.world found → MayList (list_path (name t)) (list_file t.union) works found now → Each (IsWorkAmid t.start.world now c) works
    listing_amid c found now follows (inl is) =
        each_of IsNamed (IsWorkAmid t.start.world now c) (λ x x_named. IsTargetAmid.whole (IsTargetSet.before (IsTargetBack.stood (listing_off x x_named x.target (hits_target x) (list_file t.union) found now is ∙ followed_target t.places c t.start.world found follows x x_named)))) works named
    listing_amid c found now follows (inr m) =
        each_map IsNamed (IsWhole m.0 now) (IsWorkAmid t.start.world now c)
        (λ x x_named whole. whole_amid x t.start.world now c m.0 (begun_at c found m.0 follows m.1 x x_named x.target (hits_target x)) whole) works named m.2.each

    turning_amid : (c : Change) (found now : World) → Follows t.places c t.start.world found → MayTurnBack (list_path (name t)) (list_file t.union) (list_file t.listed) works found now → Each (IsWorkAmid t.start.world now c) works
    turning_amid c found now follows (inl may) = listing_amid c found now follows may
    turning_amid c found now follows (inr m) = amid_since c now (turning_since c found m.0 m.1 now (list_file t.listed) follows m.2 m.3 m.4)

    -- so it is of the works as they are planned

    unmoved_back : (c : Change) (now : World) → Each (IsWorkBack t.start.world now c) works → Each (IsWorkBack t.start.world now c) t.works
    unmoved_back c now all = each_rearranged (IsWorkBack t.start.world now c) (λ x is. is) (λ x is. is) works t.works (IsPermutation-sym _ _ moved) all

    unmoved_set : (c : Change) (now : World) → Each (IsWorkSet t.start.world now c) works → Each (IsWorkSet t.start.world now c) t.works
    unmoved_set c now all = each_rearranged (IsWorkSet t.start.world now c) (λ x is. is) (λ x is. is) works t.works (IsPermutation-sym _ _ moved) all

    unmoved : (c : Change) (now : World) → Each (IsWorkAmid t.start.world now c) works → Each (IsWorkAmid t.start.world now c) t.works
    unmoved c now all = each_rearranged (IsWorkAmid t.start.world now c) (λ x is. is) (λ x is. is) works t.works (IsPermutation-sym _ _ moved) all

    pub targets_gone_back : (c : Change) (w : World) → HasGoneBack t works c w → Each (IsWorkBack t.start.world w c) t.works
    targets_gone_back c w has = unmoved_back c w
        (set_since has.early has.late c has.changes has.back w (λ x named q hits. has.since.rest q (name_unnoted x named q hits)) (gone_back_since c w has))

    pub targets_since : (c : Change) (now : World) → IsUndoneSince c now → Each (IsWorkBack t.start.world now c) t.works
    targets_since c now undone = unmoved_back c now (same_since c now undone)

  followed_set : (c : Change) (w : World) → Follows t.places c t.start.world w → Each (IsWorkSet t.start.world w c) t.works
  followed_set c w follows = each_of IsNamed (IsWorkSet t.start.world w c) (λ x is. IsTargetSet.before (IsTargetBack.stood (followed_target t.places c t.start.world w follows x is))) t.works all_named

  all_before : (c : Change) (w : World) → Each (IsWorkBack t.start.world w c) t.works → Each (IsWorkSet t.start.world w c) t.works
  all_before c w all = each_of (IsWorkBack t.start.world w c) (IsWorkSet t.start.world w c) (λ x is. IsTargetSet.before is) t.works all

  all_whole : (c : Change) (w : World) → Each (IsWorkSet t.start.world w c) t.works → Each (IsWorkAmid t.start.world w c) t.works
  all_whole c w all = each_of (IsWorkSet t.start.world w c) (IsWorkAmid t.start.world w c) (λ x is. IsTargetAmid.whole is) t.works all

  pub targets_come : (place : Place) (stage : Stage) (works : List Work) → AreWorksAt t place stage works → (c : Change) (w : World) → HasCome t stage works c w → Each (IsWorkSet t.start.world w c) t.works
  targets_come place Unwritten works are c w come = followed_set c w come
  targets_come place Wrote works are c w come = unmoved_set works are.same c w (files_set works are.same c w come)
  targets_come place Restored works are c w come = all_before c w (targets_gone_back works are.same c w come)

  pub targets_amid : (table : List Record) (c : Change) (w : World) → IsAmid t table c w → Each (IsWorkAmid t.start.world w c) t.works
  targets_amid table c w (IsAmid.untouched follows) = all_whole c w (followed_set c w follows)
  targets_amid table c w (IsAmid.writing works found moved marked follows may) = unmoved works moved c w (turning_amid works moved c found w follows may)
  targets_amid table c w (IsAmid.written works moved marked has) = all_whole c w (unmoved_set works moved c w (files_set works moved c w has))
  targets_amid table c w (IsAmid.going_back works last moved marked has may) = unmoved works moved c w (unlisting_amid works moved c last has t.listed w may)
  targets_amid table c w (IsAmid.back works moved has) = all_whole c w (all_before c w (targets_gone_back works moved c w has))
