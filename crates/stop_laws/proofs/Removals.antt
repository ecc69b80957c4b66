-- A removal or a purge at each moment: its records, what other packages keep, paths, its list and its control files.
use Rattle.std.proofs.Common.{◌≡◌, ◌≢◌, ◌⊎◌, inl, inr, ℕ, Bool, true, false, List, [], Option, Some, None, refl, sym, ap, subst, ◌∙◌}
use Rattle.std.proofs.lemmas.Bool.{true≢false}
use Rattle.host_core.specs.Paths.{Path, is_own}
use Rattle.host_core.specs.World.{World, Avoids, changed}
use Rattle.host_core.specs.Events.{Event, IsDeniedIn, changes_of}
use Rattle.host_core.proofs.Scripts.{no_change}
use Rattle.host_core.specs.declared.node.Node.{Node}
use Rattle.administration.specs.Places.{diversions_path, home_path, is_within, list_path}
use Rattle.control_members.specs.Names.{is_member_name}
use Rattle.control_members.specs.Stored.{stored_member_path}
use Rattle.control_members.proofs.Apart.{no_list_temporary, same_stored}
use Rattle.file_lists.specs.Owners.{paths_of}
use Rattle.file_lists.specs.Writing.{list_file}
use Rattle.file_removal.specs.Clearing.{is_among}
use Rattle.list_changes.specs.Leaving.{leaving_of}
use Rattle.status_db.specs.Held.{HasRecords, is_record_place}
use Rattle.status_db.specs.Recorded.{Recorded}
use Rattle.status_records.specs.declared.record.Record.{Record}
use Rattle.held_administration.specs.Order.{IsInOrder}
use Rattle.unit_stages.proofs.Places.{kept_opens}
use Rattle.unpack_commit.proofs.Left.{list_within, member_within, same_list}
use Rattle.unpack_commit.proofs.Ready.{list_is_no_member, member_is_no_list}
use Rattle.unpack_commit.proofs.Stays.{no_leaving_place}
use Rattle.listed_files.specs.Areas.{is_leaving_place}
use Rattle.listed_files.specs.Concluding.{AreElsewhere}
use Rattle.removal_engine.specs.Lists.{IsToCome}
use Rattle.removal_engine.specs.Names.{cleared_names, purged_names, waiting_names}
use Rattle.removal_engine.specs.Records.{config_files, entry_paths}
use Rattle.removal_engine.specs.Scripts.{AreStored, stored_in}
use Rattle.removal_engine.specs.Stages.{Deed, Planned, removal_stages}
use Rattle.removal_engine.specs.Units.{Given, IsAmid, IsAmidUnit, IsRemovable}
use Rattle.removal_engine.specs.declared.extent.Extent.TheVariants.{InFavour, Purge}
use Rattle.removal_engine.specs.declared.scripts.Stored.{Stored}
use Rattle.removal_engine.proofs.Elsewhere.{cleared_elsewhere, purged_elsewhere, waiting_elsewhere}
use Rattle.removal_engine.proofs.Sparing.{leaving_spares}
use Rattle.removal_engine.proofs.Tables.{is_named, one_record}
use Rattle.stop_laws.specs.Left.{IsLeft, IsLeftOrGoing}
use Rattle.stop_laws.specs.Removing.{GoesWithFiles, GoesWithPurge, HasRecordsAmid, IsListed, IsOwnList, IsOwnMember, IsOwnRecord, IsPurgedFrom, MayGo}
use Rattle.stop_laws.proofs.Avoiding.{own_avoided}
use Rattle.stop_laws.proofs.Moments.{AllIn, AmidStages, stages_amid}
use Rattle.stop_laws.proofs.Noted.{NotesOwn, stages_good}
use Rattle.stop_laws.proofs.Places.{beside_list, beside_member, beside_spare, outside_list, outside_member, outside_records, outside_spare, set_kept}
use Rattle.stop_laws.proofs.RemovalStages.{OfEnds, OfFiles, OfPrerm, OfPurge, removal_all}
use Rattle.stop_laws.proofs.Taken.{IsSet, IsSetOrGoing, Sets, SetsOr, stages_going, stages_set}

-- the scripts that are stored in a world are those
are_those : (name : List ℕ) (w : World) (stored : Stored) → AreStored name w stored → stored ≡ stored_in name w
are_those name w stored are = λ i. record stored { prerm = are.prerm i; postinst = are.postinst i; postrm = are.postrm i }

module _ (g : Given) (removable : IsRemovable g.extent g.before.records g.name) where
  abbrev pub own : Record
  own = removable.entry

  pub own_named : own.name ≡ g.name
  own_named = is_named g.before.records g.name own removable.found

  -- the stages, where these scripts are stored and this list is to come
  abbrev pub stages_by : Stored → List Path → List Planned
  stages_by stored to_come = removal_stages g.ways g.before.lists g.extent own stored to_come

  -- P holds of each deed of them
  module _ (P : Deed → Type 0) (stored : Stored) (to_come : List Path) (comes : IsToCome own stored to_come) where
    pub of_each : OfEnds P g.ways g.before.lists own stored to_come → OfFiles P g.ways g.before.lists own stored to_come → (g.extent ≢ InFavour → OfPrerm P g.ways g.before.lists own stored to_come)
        → (g.extent ≡ Purge → (c : Record) (listed : List Path) → IsPurgedFrom g own stored c listed → OfPurge P g.ways g.before.lists own stored to_come c listed) → AllIn P (stages_by stored to_come)
    of_each ends files prerm purge =
        removal_all P g.ways g.before.lists own stored to_come ends files g.extent removable.begins prerm
        (λ is. purge is (config_files own) to_come (IsPurgedFrom.left refl comes))
        (λ is found. purge is own (paths_of g.before.lists own.name) (IsPurgedFrom.found found refl refl))

  -- what is noted
  module _ (stored : Stored) (to_come : List Path) (comes : IsToCome own stored to_come) where
    abbrev Notes : Deed → Type 0
    Notes = NotesOwn g.name g.before.records (IsOwnRecord g own stored)

    purged_named : (c : Record) (listed : List Path) → IsPurgedFrom g own stored c listed → c.name ≡ g.name
    purged_named c listed (IsPurgedFrom.found state is at) = ap (λ (x : Record). x.name) is ∙ own_named
    purged_named c listed (IsPurgedFrom.left is comes_then) = ap (λ (x : Record). x.name) is ∙ own_named

    pub all_noted : AllIn Notes (stages_by stored to_come)
    all_noted = of_each Notes stored to_come comes
        (record { left = (own_named, IsOwnRecord.removed refl); members = λ keep. (tt, tt); bare = (tt, tt); unlisted = (tt, tt); forgotten = (tt, IsOwnRecord.gone refl) })
        (record { losing = (own_named, IsOwnRecord.losing refl); waiting = (tt, tt); files = (tt, tt); names = (tt, tt); listed = (tt, tt); lost = (own_named, IsOwnRecord.lost refl) })
        (λ favours. record { half = (own_named, IsOwnRecord.deconfigured favours refl); before = (own_named, IsOwnRecord.stayed refl) })
        (λ purges c listed from. record { noted = (purged_named c listed from, IsOwnRecord.purging purges c listed from refl); names = (tt, tt); directories = (tt, tt) })

    -- what is left outside the administration
    module _ (q : Path) (out : is_within home_path q ≡ false) where
      abbrev Went : Option Node → Type 0
      Went there = MayGo g own stored q × (there ≡ None)

      abbrev Lowers : Type 0
      Lowers = IsListed g own stored q

      outside_listing : (paths : List Path) → SetsOr g.name q Went Lowers (Deed.Lists paths)
      outside_listing paths = (outside_spare q out g.name, λ is. absurd (outside_list q out g.name is))

      pub all_outside : AllIn (SetsOr g.name q Went Lowers) (stages_by stored to_come)
      all_outside =
          let unnoted = outside_records q out in
          let off = outside_list q out g.name in
          of_each (SetsOr g.name q Went Lowers) stored to_come comes
          (record { left = unnoted; members = λ keep. inl (λ member is. outside_member q out g.name member); bare = outside_listing []; unlisted = λ is. absurd (off is); forgotten = unnoted })
          (record {
            losing = unnoted;
            waiting = λ is. (MayGo.with_files (GoesWithFiles.waiting is), refl);
            files = λ is. ((MayGo.with_files (GoesWithFiles.listed to_come comes is), refl), (to_come, comes, is));
            names = λ is. (MayGo.with_files (GoesWithFiles.beside is), refl);
            listed = outside_listing to_come;
            lost = unnoted;
          })
          (λ favours. record { half = unnoted; before = unnoted })
          (λ purges c listed from. record {
            noted = unnoted;
            names = λ is. (MayGo.with_purge purges c listed from (GoesWithPurge.conffile is), refl);
            directories = λ is. (MayGo.with_purge purges c listed from (GoesWithPurge.directory is), refl);
          })

    -- places of the administration's directory: no path goes from there, no name is cleared
    module _ (q : Path) (V : Option Node → Type 0) (within : is_within home_path q ≡ true) (unnoted : is_record_place q ≡ false) where
      no_leaving : (X : Type 0) (listed to_stay : List Path) (c : Record) → is_leaving_place (leaving_of g.ways g.before.lists c.name to_stay (entry_paths c.conffiles) listed) q ≡ true → X
      no_leaving X listed to_stay c is =
          absurd (true≢false (sym is ∙ no_leaving_place (leaving_of g.ways g.before.lists c.name to_stay (entry_paths c.conffiles) listed) q (leaving_spares g.ways g.before.lists c.name to_stay (entry_paths c.conffiles) listed) within))

      no_name : (names : List Path) → AreElsewhere names → is_among names q ≡ true → V None
      no_name names elsewhere is = absurd (true≢false (sym is ∙ elsewhere q within))

      pub all_within : ((paths : List Path) → (paths ≡ []) ⊎ IsToCome own stored paths → Sets g.name q V (Deed.Lists paths)) → Sets g.name q V Deed.DropsList → ((keep : Bool) → Sets g.name q V (Deed.DropsMembers keep)) → AllIn (Sets g.name q V) (stages_by stored to_come)
      all_within listing dropping members =
          of_each (Sets g.name q V) stored to_come comes
          (record { left = unnoted; members = members; bare = listing [] (inl refl); unlisted = dropping; forgotten = unnoted })
          (record {
            losing = unnoted;
            waiting = no_name (waiting_names g.ways own.name own.pending) (waiting_elsewhere g.ways own.name own.pending);
            files = no_leaving (V None × ⊥) (paths_of g.before.lists own.name) to_come own;
            names = no_name (cleared_names g.ways g.before.lists own) (cleared_elsewhere g.ways g.before.lists own);
            listed = listing to_come (inr comes);
            lost = unnoted;
          })
          (λ favours. record { half = unnoted; before = unnoted })
          (λ purges c listed from. record {
            noted = unnoted;
            names = no_name (purged_names g.ways g.before.lists c) (purged_elsewhere g.ways g.before.lists c);
            directories = no_leaving (V None) listed [] c;
          })

  -- at each moment of a planned unit
  module _ (old now : World) (so_far : List Event) (amid : IsAmid g old so_far now) where
    abbrev pub stored_then : Stored
    stored_then = stored_in g.name old

    abbrev pub list_then : List Path
    list_then = amid.plan.plan.to_come

    entry_is : amid.plan.entry ≡ own
    entry_is = one_record amid.plan.entry own (sym amid.plan.found ∙ removable.found)

    stored_is : amid.plan.plan.stored ≡ stored_then
    stored_is = are_those g.name old amid.plan.plan.stored (subst (λ (n : List ℕ). AreStored n old amid.plan.plan.stored) (ap (λ (e : Record). e.name) entry_is ∙ own_named) (amid.plan.plan.seen refl))

    pub comes_then : IsToCome own stored_then list_then
    comes_then = subst (λ (s : Stored). IsToCome own s list_then) stored_is (subst (λ (e : Record). IsToCome e amid.plan.plan.stored list_then) entry_is amid.plan.plan.comes)

    pub amid_at : AmidStages g.name (IsDeniedIn so_far) (stages_by stored_then list_then) g.before.records old (changes_of so_far) now
    amid_at = subst (λ (ps : List Planned). AmidStages g.name (IsDeniedIn so_far) ps g.before.records old (changes_of so_far) now)
        (amid.plan.plan.are ∙ ap (λ (e : Record). removal_stages g.ways g.before.lists g.extent e amid.plan.plan.stored list_then) entry_is
        ∙ ap (λ (s : Stored). stages_by s list_then) stored_is)
        (stages_amid g.name (IsDeniedIn so_far) g.ways amid.stages g.before old so_far now (λ p is. is) amid.running)

    pub avoided : Avoids is_own (changes_of so_far)
    avoided = own_avoided g.name g.ways amid.stages g.before old so_far now amid.running

    records_amid : HasRecordsAmid g own stored_then now
    records_amid =
        let standing = stages_good g.name g.before.records (IsOwnRecord g own stored_then) (IsDeniedIn so_far) (stages_by stored_then list_then) g.before.records old (changes_of so_far) now
        (all_noted stored_then list_then comes_then) (record { own = IsOwnRecord.stayed removable.found; others = λ q other. refl }) amid_at in
        record { table = standing.table; records = standing.records; opens = amid.running.opens.opens; own = standing.good.own; others = standing.good.others }

    left_amid : (q : Path) → is_within home_path q ≡ false → IsLeftOrGoing q (MayGo g own stored_then q) (IsListed g own stored_then q) (changes_of so_far) old now
    left_amid q out = so (stages_going g.name q (Went stored_then list_then comes_then q out) (IsListed g own stored_then q) (IsDeniedIn so_far) (stages_by stored_then list_then) g.before.records old (changes_of so_far) now (all_outside stored_then list_then comes_then q out) amid_at)
      where
        by : (w : World) → IsSet g.name q (Went stored_then list_then comes_then q out) (changes_of so_far) old w → IsLeft q (MayGo g own stored_then q) (changes_of so_far) old w
        by w (IsSet.stood is) = IsLeft.stood is
        by w (IsSet.left early late are mid has is) = IsLeft.went has.0 early late are mid has.1 is

        so : IsSetOrGoing g.name q (Went stored_then list_then comes_then q out) (IsListed g own stored_then q) (changes_of so_far) old now
            → IsLeftOrGoing q (MayGo g own stored_then q) (IsListed g own stored_then q) (changes_of so_far) old now
        so (inl is) = inl (by now is)
        so (inr going) = inr (going.0, (going.1.0, by going.1.0 going.1.1, going.1.2))

    -- a place of the administration that scripts leave alone
    module _ (q : Path) (V : Option Node → Type 0) (mine : is_own q ≡ true) where
      by_deeds : AllIn (Sets g.name q V) (stages_by stored_then list_then) → (now q ≡ old q) ⊎ ((mid : World) × V (mid q) × (now q ≡ mid q))
      by_deeds sets = set_kept g.name q V is_own mine (changes_of so_far) old now avoided (stages_set g.name q V (IsDeniedIn so_far) (stages_by stored_then list_then) g.before.records old (changes_of so_far) now sets amid_at)

      pub value_amid : AllIn (Sets g.name q V) (stages_by stored_then list_then) → (now q ≡ old q) ⊎ V (now q)
      value_amid sets = elim (by_deeds sets) [ inl same ↦ inl same | inr is ↦ inr (subst V (sym is.2) is.1) ]

    abbrev Never : Option Node → Type 0
    Never there = ⊥

    unchanged : (q : Path) → (now q ≡ old q) ⊎ ⊥ → now q ≡ old q
    unchanged q (inl same) = same
    unchanged q (inr none) = absurd none

    other_list : (q : List ℕ) → q ≢ g.name → now (list_path q) ≡ old (list_path q)
    other_list q other =
        unchanged (list_path q) (value_amid (list_path q) Never refl
        (all_within stored_then list_then comes_then (list_path q) Never (list_within q) refl
        (λ paths is. ((λ e. no_list_temporary q (list_path g.name) e), λ e. other (same_list q g.name e)))
        (λ e. other (same_list q g.name e))
        (λ keep. inl (λ member is. (list_is_no_member g.name q member is).0))))

    diversions_amid : now diversions_path ≡ old diversions_path
    diversions_amid =
        unchanged diversions_path (value_amid diversions_path Never refl
        (all_within stored_then list_then comes_then diversions_path Never refl refl
        (λ paths is. ((λ e. beside_spare g.name e), λ e. beside_list g.name e))
        (λ e. beside_list g.name e)
        (λ keep. inl (λ member is. beside_member g.name member))))

    other_member : (q : List ℕ) (member : Path) → q ≢ g.name → is_member_name member ≡ true → now (stored_member_path q member) ≡ old (stored_member_path q member)
    other_member q member other is =
        let off = member_is_no_list q member g.name is in
        unchanged (stored_member_path q member) (value_amid (stored_member_path q member) Never refl
        (all_within stored_then list_then comes_then (stored_member_path q member) Never (member_within q member) refl
        (λ paths known. (off.1, λ e. absurd (off.0 e)))
        (λ e. absurd (off.0 e))
        (λ keep. inl (λ word known e. other (same_stored q g.name member word is known e).0))))

    abbrev ListValue : Option Node → Type 0
    ListValue there = ((paths : List Path) × IsToCome own stored_then paths × (there ≡ Some (list_file paths))) ⊎ ((there ≡ Some (list_file [])) ⊎ (there ≡ None))

    own_list_amid : IsOwnList g own stored_then (old (list_path g.name)) (now (list_path g.name))
    own_list_amid = by (value_amid (list_path g.name) ListValue refl
        (all_within stored_then list_then comes_then (list_path g.name) ListValue (list_within g.name) refl
        (λ paths is. ((λ e. no_list_temporary g.name (list_path g.name) e), λ e. listing paths is))
        (λ e. inr (inr refl))
        (λ keep. inl (λ member is. (list_is_no_member g.name g.name member is).0))))
      where
        listing : (paths : List Path) → (paths ≡ []) ⊎ IsToCome own stored_then paths → ListValue (Some (list_file paths))
        listing paths (inl none) = inr (inl (ap (λ (l : List Path). Some (list_file l)) none))
        listing paths (inr comes) = inl (paths, comes, refl)

        by : (now (list_path g.name) ≡ old (list_path g.name)) ⊎ ListValue (now (list_path g.name)) → IsOwnList g own stored_then (old (list_path g.name)) (now (list_path g.name))
        by (inl same) = IsOwnList.stood same
        by (inr (inl some)) = IsOwnList.to_come some.0 some.1 some.2
        by (inr (inr (inl bare))) = IsOwnList.bare bare
        by (inr (inr (inr gone))) = IsOwnList.gone gone

    own_member_amid : (member : Path) → is_member_name member ≡ true → IsOwnMember (old (stored_member_path g.name member)) (now (stored_member_path g.name member))
    own_member_amid member is =
        let off = member_is_no_list g.name member g.name is in
        value_amid (stored_member_path g.name member) (λ (there : Option Node). there ≡ None) refl
        (all_within stored_then list_then comes_then (stored_member_path g.name member) (λ (there : Option Node). there ≡ None) (member_within g.name member) refl
        (λ paths known. (off.1, λ e. absurd (off.0 e)))
        (λ e. absurd (off.0 e))
        (λ keep. inr ((member, is, refl), refl)))

  -- at each moment of a unit
  module _ (old now : World) (so_far : List Event) where
    pub removal_records : (d : Recorded) → IsInOrder d g.before.lists old → d.records ≡ g.before.records → IsAmidUnit g old so_far now → HasRecordsAmid g own (stored_in g.name old) now
    removal_records d order same (inl looks) = subst (HasRecordsAmid g own (stored_in g.name old)) (sym looks.0) (record {
      table = g.before.records;
      records = subst (HasRecords old) same order.kept.holds;
      opens = kept_opens d old order.kept;
      own = IsOwnRecord.stayed removable.found;
      others = λ q other. refl;
    })
    removal_records d order same (inr amid) = records_amid old now so_far amid

    pub removal_left : (q : Path) → is_within home_path q ≡ false → IsAmidUnit g old so_far now → IsLeftOrGoing q (MayGo g own (stored_in g.name old) q) (IsListed g own (stored_in g.name old) q) (changes_of so_far) old now
    removal_left q out (inl looks) = inl (IsLeft.stood (ap (λ (w : World). w q) looks.0 ∙ ap (λ c. changed c old q) (sym (no_change so_far looks.1))))
    removal_left q out (inr amid) = left_amid old now so_far amid q out

    pub removal_other_list : (q : List ℕ) → q ≢ g.name → IsAmidUnit g old so_far now → now (list_path q) ≡ old (list_path q)
    removal_other_list q other (inl looks) = ap (λ (w : World). w (list_path q)) looks.0
    removal_other_list q other (inr amid) = other_list old now so_far amid q other

    pub removal_other_member : (q : List ℕ) (member : Path) → q ≢ g.name → is_member_name member ≡ true → IsAmidUnit g old so_far now → now (stored_member_path q member) ≡ old (stored_member_path q member)
    removal_other_member q member other is (inl looks) = ap (λ (w : World). w (stored_member_path q member)) looks.0
    removal_other_member q member other is (inr amid) = other_member old now so_far amid q member other is

    pub removal_diversions : IsAmidUnit g old so_far now → now diversions_path ≡ old diversions_path
    removal_diversions (inl looks) = ap (λ (w : World). w diversions_path) looks.0
    removal_diversions (inr amid) = diversions_amid old now so_far amid

    pub removal_list : IsAmidUnit g old so_far now → IsOwnList g own (stored_in g.name old) (old (list_path g.name)) (now (list_path g.name))
    removal_list (inl looks) = IsOwnList.stood (ap (λ (w : World). w (list_path g.name)) looks.0)
    removal_list (inr amid) = own_list_amid old now so_far amid

    pub removal_member : (member : Path) → is_member_name member ≡ true → IsAmidUnit g old so_far now → IsOwnMember (old (stored_member_path g.name member)) (now (stored_member_path g.name member))
    removal_member member is (inl looks) = inl (ap (λ (w : World). w (stored_member_path g.name member)) looks.0)
    removal_member member is (inr amid) = own_member_amid old now so_far amid member is
