-- What outside the administration differs while the rows of a unit run, and that the package's list names it.
use Rattle.std.proofs.Common.{◌≡◌, ◌⊎◌, inl, inr, ℕ, zero, suc, true, false, List, [], ◌∷◌, Some, Contains, refl, sym, ap, subst, ◌∙◌, arith}
use Rattle.std.proofs.lemmas.List.Elements.{Contains-append_right}
use Rattle.host_core.specs.Paths.{Path, is_named_by}
use Rattle.host_core.specs.World.{World, Change, changed, is_kept}
use Rattle.host_core.specs.declared.node.Node.{Node}
use Rattle.host_core.specs.Host.{State}
use Rattle.host_core.proofs.Scripts.{changed_at, changed_kept}
use Rattle.host_core.proofs.Paths.{decide}
use Rattle.administration.specs.Places.{home_path, is_within, list_path}
use Rattle.diversions.specs.Ways.{Ways, place}
use Rattle.file_check.specs.Ships.{shipped_works}
use Rattle.file_lists.specs.Writing.{list_file}
use Rattle.file_check.specs.Rearranged.{IsRearranged}
use Rattle.file_check.proofs.Shipping.{shipped_at}
use Rattle.package_files.specs.declared.work.Work.{Work}
use Rattle.package_files.specs.Files.{Each, Misses}
use Rattle.package_files.specs.Names.{IsNamed}
use Rattle.package_files.specs.Back.{CanGoBack}
use Rattle.package_files.proofs.WorkNames.{by_place}
use Rattle.package_tree.specs.ShipMap.{paths_of as shipped_paths}
use Rattle.package_tree.specs.declared.shipped.Shipped.{Shipped}
use Rattle.status_db.specs.Held.{HasRecords}
use Rattle.status_records.specs.Records.{record_in}
use Rattle.status_records.specs.declared.record.Record.{Record}
use Rattle.listed_files.proofs.Apart.{list_below}
use Rattle.listed_files.proofs.Listings.{all_miss}
use Rattle.unpack_plan.specs.Planned.{IsPlanned, Planned, pairs_of}
use Rattle.unpack_rows.specs.Kinds.{own_of}
use Rattle.unpack_rows.specs.Notes.{half_installed}
use Rattle.unpack_rows.specs.declared.rows.Present.{Present}
use Rattle.unpack_steps.specs.At.{IsAmid, IsMarked}
use Rattle.unpack_steps.specs.Task.{Task, all_places}
use Rattle.unpack_steps.specs.Trail.{Follows, HasFiles}
use Rattle.unpack_steps.proofs.FileWorlds.{still_written}
use Rattle.unpack_steps.proofs.Rearranged.{named_rearranged}
use Rattle.unpack_steps.specs.Clearing.{IsBesideOwn}
use Rattle.unpack_engine.specs.Units.{Given, Ground, ground_of, job_of, package_name, task_from}
use Rattle.unpack_laws.specs.InHand.{unit_found, unit_name, unit_works}
use Rattle.unpack_laws.specs.Marked.{IsAccounted, IsMarkedAmid, IsNameBack, IsNamedIn, IsRestored}
use Rattle.unpack_laws.specs.Whole.{IsWorkBack}
use Rattle.unpack_laws.proofs.Alone.{Based, begun_beside}
use Rattle.unpack_laws.proofs.NamesBack.{IsBesideBack, name_at, names_gone_back, names_since, target_beside, target_out_tmp}
use Rattle.unpack_laws.proofs.OwnFiles.{rebased_back}
use Rattle.unpack_laws.proofs.Passing.{outside_list, outside_member, outside_records, outside_tmp, works_are}
use Rattle.unpack_laws.proofs.Scripted.{IsSpared, amid_there}
use Rattle.unpack_laws.proofs.Targets.{IsUndoneSince, targets_gone_back, targets_since, turning_since, unlisting_since}

-- a path is a name of one of the works, or of none

abbrev pub IsNameOf : Work → Path → Type 0
IsNameOf x q = (q ≡ x.target) ⊎ ((q ≡ x.backup) ⊎ (q ≡ x.fresh))

one_name : (x : Work) (q : Path) → IsNameOf x q ⊎ Misses x q
one_name x q = elim (decide q x.target) [
  | inl at ↦ inl (inl at)
  | inr no_target ↦ elim (decide q x.backup) [
    | inl at ↦ inl (inr (inl at))
    | inr no_backup ↦ elim (decide q x.fresh) [
      | inl at ↦ inl (inr (inr at))
      | inr no_fresh ↦ inr (record { target = no_target; backup = no_backup; fresh = no_fresh })
    ]
  ]
]

pub names_or_misses : (works : List Work) (q : Path) → ((x : Work) × Contains works x × IsNameOf x q) ⊎ Each (λ x. Misses x q) works
names_or_misses [] q = inr tt
names_or_misses (x ∷ works) q = elim (one_name x q) [
  | inl name ↦ inl (x, (zero, omega arith, refl), name)
  | inr miss ↦ elim (names_or_misses works q) [
    | inl more ↦ inl (more.0, Contains-append_right (x ∷ []) works more.0 more.1, more.2)
    | inr all ↦ inr (miss, all)
  ]
]

pub each_at : (P : Work → Type 0) (works : List Work) (x : Work) → Each P works → Contains works x → P x
each_at P [] x all has = absurd (omega (arith, has.1))
each_at P (y ∷ works) x all (zero, lt, is) = subst P is all.0
each_at P (y ∷ works) x all (suc k, lt, is) = each_at P works x all.1 (k, omega (arith, lt), is)

-- a path with what stands there is of a shipped one
pair_path : (files : List Shipped) (s : Path × Node) → Contains (pairs_of files) s → Contains (shipped_paths files) s.0
pair_path [] s has = absurd (omega (arith, has.1))
pair_path (f ∷ files) s (zero, lt, is) = (zero, omega arith, ap (λ (t : Path × Node). t.0) is)
pair_path (f ∷ files) s (suc k, lt, is) = Contains-append_right (f.path ∷ []) (shipped_paths files) s.0 (pair_path files s (k, omega (arith, lt), is))

-- each work is of a shipped path, at its place
pub work_path : (ways : Ways) (name : List ℕ) (conffiles : List Path) (files : List Shipped) (x : Work) → Contains (shipped_works ways name conffiles (pairs_of files)) x → (path : Path) × Contains (shipped_paths files) path × (place ways name path ≡ x.place)
work_path ways name conffiles files x has =
    let s = shipped_at ways name conffiles (pairs_of files) x has in
    (s.0.0, pair_path files s.0 s.1, ap (λ (y : Work). y.place) (sym s.2))

name_by : (x : Work) → IsNamed x → (q : Path) → IsNameOf x q → is_named_by q x.place ≡ true
name_by x named q (inl at) = ap (λ r. is_named_by r x.place) at ∙ (by_place x named).target
name_by x named q (inr (inl at)) = ap (λ r. is_named_by r x.place) at ∙ (by_place x named).backup
name_by x named q (inr (inr at)) = ap (λ r. is_named_by r x.place) at ∙ (by_place x named).fresh

module _ (g : Given) (stored : Present) (p : Planned) (plan : IsPlanned (job_of g stored) p) (places : List Path) where
  abbrev here : Ground
  here = ground_of g places

  abbrev own : List ℕ
  own = package_name here p

  abbrev list : Path
  list = list_path own

  -- the shipped paths are listed
  abbrev pub HasShipped : List Path → Type 0
  HasShipped paths = (q : Path) → Contains (shipped_paths g.«package».files) q → Contains paths q

  pub union_shipped : HasShipped p.union
  union_shipped q has = (plan.lists_are.union_is.are q).1 (inr has)

  pub new_shipped : HasShipped p.new_list
  new_shipped q has = (plan.lists_are.new_is.are q).1 (inl has)

  pub unit_work : (x : Work) → Contains p.works x → Contains (unit_works g) x
  unit_work x has = subst (λ (l : List Work). Contains l x) (works_are g stored p plan places) has

  pub named_in : (paths : List Path) → HasShipped paths → (x : Work) → Contains p.works x → (q : Path) → IsNameOf x q → IsNamedIn g paths q
  named_in paths shipped x has q name =
      let at = work_path g.ways (unit_name g) g.«package».conffiles g.«package».files x (unit_work x has) in
      (at.0, shipped at.0 at.1, ap (is_named_by q) at.2 ∙ name_by x (each_at IsNamed p.works x plan.works_are.named has) q name)

  -- outside the administration

  pub out_beside : (q : Path) → is_within home_path q ≡ false → IsBesideOwn own q
  out_beside q out = record { list = (outside_list q out own).0; members = λ member is. (outside_member q out own member).0 }

  pub begun_out : (old : World) (begun : State) → Based here p old begun.world → (q : Path) → is_within home_path q ≡ false → begun.world q ≡ old q
  begun_out old begun begins q out = begun_beside here p q (out_beside q out) (outside_tmp q out) old begun.world begins

  pub out_spared : (q : Path) → is_within home_path q ≡ false → Each (λ x. Misses x q) p.works → IsSpared list p.works q
  out_spared q out missed = record { unnoted = outside_records q out; unlisted = (outside_list q out own).0; unspared = (outside_list q out own).1; missed = missed }

  module _ (old : World) (begun : State) (begins : Based here p old begun.world) where
    abbrev task : Task
    task = task_from here p begun

    pub begun_target : (x : Work) → IsNamed x → begun.world x.target ≡ old x.target
    begun_target x named = begun_beside here p x.target (target_beside x named own) (target_out_tmp x named) old begun.world begins

    pub from_begun : (c : Change) (now : World) (q : Path) → is_within home_path q ≡ false → now q ≡ changed c begun.world q → now q ≡ changed c old q
    from_begun c now q out is = is ∙ changed_at c begun.world old q (begun_out old begun begins q out)

    -- what stands at a name beside a place
    pub restored_beside : (c : Change) (now : World) (x : Work) → Contains p.works x → (q : Path) → is_within home_path q ≡ false → (q ≡ x.backup) ⊎ (q ≡ x.fresh)
        → (now q ≡ changed c begun.world q) ⊎ IsNameBack g old now c x.target x.backup x.node q → IsRestored g old now c q
    restored_beside c now x there q out beside (inl is) = IsRestored.scripted (from_begun c now q out is)
    restored_beside c now x there q out beside (inr is) = IsRestored.beside x (unit_work x there) beside is

    followed_list : (more : List Path) (c : Change) (v w : World) → Follows more c v w → w list ≡ v list
    followed_list more c v w follows = follows.rest list refl ∙ changed_kept (is_kept more) c v follows.avoids list refl

    module _ (works : List Work) (moved : IsRearranged p.works works) where
      named : Each IsNamed works
      named = named_rearranged p.works works moved plan.works_are.named

      miss : Each (λ x. Misses x list) works
      miss = all_miss works list named (list_below own)

      pub union_list : (c : Change) (w : World) → HasFiles task works c w → w list ≡ Some (list_file p.union)
      union_list c w has = followed_list (all_places task) has.late has.written w has.since ∙ has.listed.written.rest list miss ∙ has.listed.replaced.target

      can : (c : Change) (w : World) → HasFiles task works c w → CanGoBack works w
      can c w has = (has.listed.mid, still_written task works c w has moved named)

    -- while the rows run
    module _ (table : List Record) (c : Change) (now : World) (has : HasRecords now table) (amid : IsAmid task table c now) where
      scripted : (q : Path) → is_within home_path q ≡ false → Each (λ x. Misses x q) p.works → now q ≡ changed c old q
      scripted q out missed = from_begun c now q out (amid_there task q (out_spared q out missed) plan.works_are.named table c now amid)

      accounted : (paths : List Path) → HasShipped paths → (q : Path) → is_within home_path q ≡ false → IsAccounted g old now c paths q
      accounted paths shipped q out = elim (names_or_misses p.works q) [
        | inl at ↦ IsAccounted.named (named_in paths shipped at.0 at.1 q at.2)
        | inr missed ↦ IsAccounted.scripted (scripted q out missed)
      ]

      own_marked : IsMarked task table → record_in table (unit_name g) ≡ Some (half_installed (own_of (unit_found g) p.incoming))
      own_marked marked = ap (record_in table) (sym plan.records_are.own) ∙ marked ∙ ap (λ f. Some (half_installed (own_of f p.incoming))) plan.records_are.found_is

      marked_with : IsMarked task table → now list ≡ Some (list_file p.union) → IsMarkedAmid g old now c
      marked_with marked is = IsMarkedAmid.marked (record {
        table = table;
        records = has;
        incoming = p.incoming;
        is_incoming = plan.records_are.incoming_is;
        own = own_marked marked;
        paths = p.union;
        listed = record { list = ap (λ (n : List ℕ). now (list_path n)) (sym plan.records_are.own) ∙ is; accounted = accounted p.union union_shipped };
      })

      -- the targets were put back
      restored_at : Each (IsWorkBack begun.world now c) p.works → Each (IsBesideBack g begun.world now c) p.works → (q : Path) → is_within home_path q ≡ false → IsRestored g old now c q
      restored_at back names q out = elim (names_or_misses p.works q) [
        | inl at ↦ name_back at.0 at.1 at.2
        | inr missed ↦ IsRestored.scripted (scripted q out missed)
      ]
        where
          name_back : (x : Work) → Contains p.works x → IsNameOf x q → IsRestored g old now c q
          name_back x there (inl at) = IsRestored.target x (unit_work x there) at
              (rebased_back x.target x.node old begun.world now c (begun_out old begun begins x.target (subst (λ r. is_within home_path r ≡ false) at out)) (each_at (IsWorkBack begun.world now c) p.works x back there))
          name_back x there (inr beside) = restored_beside c now x there q out beside
              (name_at g x q old begun.world now now c (begun_target x (each_at IsNamed p.works x plan.works_are.named there)) refl (each_at (IsBesideBack g begun.world now c) p.works x names there) beside)

    -- nothing is left of the files
    undone_amid : (works : List Work) (moved : IsRearranged p.works works) (table : List Record) (c : Change) (now : World) → HasRecords now table → IsAmid task table c now
        → IsUndoneSince task plan.works_are.named works moved c now → IsMarkedAmid g old now c
    undone_amid works moved table c now has amid undone = IsMarkedAmid.restored
        (restored_at table c now has amid (targets_since task plan.works_are.named works moved c now undone) (names_since g task plan.works_are.named works moved c now undone))

    pub marks_amid : (table : List Record) (c : Change) (now : World) → HasRecords now table → IsAmid task table c now → IsMarkedAmid g old now c
    marks_amid table c now has (IsAmid.untouched follows) = IsMarkedAmid.untouched (λ q out. from_begun c now q out (follows.rest q (outside_records q out)))
    marks_amid table c now has (IsAmid.writing works found moved marked follows (inl (inl is))) = IsMarkedAmid.untouched (λ q out.
        from_begun c now q out (is.rest q (outside_list q out own).0 (outside_list q out own).1 ∙ follows.rest q (outside_records q out)))
    marks_amid table c now has (IsAmid.writing works found moved marked follows (inl (inr m))) =
        marked_with table c now has (IsAmid.writing works found moved marked follows (inl (inr m))) marked (m.2.rest list (miss works moved) ∙ m.1.target)
    marks_amid table c now has (IsAmid.writing works found moved marked follows (inr m)) =
        undone_amid works moved table c now has (IsAmid.writing works found moved marked follows (inr m)) (turning_since task plan.works_are.named works moved c found m.0 m.1 now (list_file p.listed) follows m.2 m.3 m.4)
    marks_amid table c now has (IsAmid.written works moved marked files) =
        marked_with table c now has (IsAmid.written works moved marked files) marked (union_list works moved c now files)
    marks_amid table c now has (IsAmid.going_back works last moved marked files (inl is)) =
        let w = can works moved c last files in
        marked_with table c now has (IsAmid.going_back works last moved marked files (inl is)) marked ((is w.0 w.1).rest list (miss works moved) ∙ union_list works moved c last files)
    marks_amid table c now has (IsAmid.going_back works last moved marked files (inr m)) =
        undone_amid works moved table c now has (IsAmid.going_back works last moved marked files (inr m)) (unlisting_since task plan.works_are.named works moved c last m.0 now (list_file p.listed) files m.1 m.2)
    marks_amid table c now has (IsAmid.back works moved gone) = IsMarkedAmid.restored
        (restored_at table c now has (IsAmid.back works moved gone) (targets_gone_back task plan.works_are.named works moved c now gone)
        (names_gone_back g task plan.works_are.named works moved c now gone))
