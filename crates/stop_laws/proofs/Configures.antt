-- Configuring a package at each moment: records, lists, control files and paths.
use Rattle.std.proofs.Common.{◌≡◌, ◌≢◌, ◌⊎◌, inl, inr, ℕ, true, false, List, [], ◌∷◌, Option, Some, map, refl, sym, ap, subst, ◌∙◌}
use Rattle.std.specs.List.{list_any}
use Rattle.std.proofs.lemmas.Bool.{false_from_ne_true, true≢false}
use Rattle.host_core.specs.Paths.{Path, is_below_administration, is_own}
use Rattle.host_core.specs.World.{World, Avoids, changed}
use Rattle.host_core.specs.Events.{Event, IsDeniedIn, changes_of}
use Rattle.host_core.proofs.Scripts.{changed_kept, no_change}
use Rattle.host_core.specs.declared.node.Node.{Node}
use Rattle.administration.specs.Places.{diversions_path, list_path, temporary}
use Rattle.conffiles.specs.Settling.{is_conffile_name, is_name_of_some}
use Rattle.conffiles.specs.declared.entries.Settled.{Settled}
use Rattle.control_members.specs.Names.{is_member_name}
use Rattle.control_members.specs.Stored.{stored_member_path}
use Rattle.control_members.proofs.Apart.{no_list_temporary}
use Rattle.file_lists.specs.Owners.{paths_of, has_other_owner}
use Rattle.file_lists.specs.Writing.{list_file}
use Rattle.status_db.specs.Held.{HasRecords, is_record_place}
use Rattle.status_db.specs.Recorded.{Recorded}
use Rattle.status_records.specs.Records.{record_in}
use Rattle.status_records.specs.declared.record.Record.{Record}
use Rattle.held_administration.specs.Order.{IsInOrder}
use Rattle.unit_stages.proofs.ConffileNames.{below_none}
use Rattle.unit_stages.proofs.Places.{kept_opens}
use Rattle.unpack_commit.proofs.Left.{same_list}
use Rattle.unpack_commit.proofs.Ready.{member_is_no_list}
use Rattle.listed_files.proofs.Apart.{list_below, spare_below}
use Rattle.unpack_steps.proofs.Standing.{record_below}
use Rattle.removal_engine.specs.Stages.{Deed, Planned, planned}
use Rattle.removal_engine.proofs.Tables.{is_named, one_record}
use Rattle.configure_engine.specs.Decided.{decided_paths}
use Rattle.configure_engine.specs.Stages.{listed_without}
use Rattle.configure_engine.specs.Units.{Given, IsAmid, IsAmidUnit}
use Rattle.configure_engine.specs.Waiting.{going_paths, settling_places}
use Rattle.stop_laws.specs.Configuring.{HasRecordsAmid, IsOwnList, IsSettledRecord, IsWaitingRecord, is_settling_name}
use Rattle.stop_laws.proofs.Avoiding.{own_avoided}
use Rattle.stop_laws.proofs.ConfigureStages.{first_deeds, last_deeds, names_of_decided, stage_with, stages_all, stages_deeds}
use Rattle.stop_laws.proofs.Moments.{AllIn, AmidStages, stages_amid}
use Rattle.stop_laws.proofs.Noted.{NotesOwn, stages_good}
use Rattle.stop_laws.proofs.Others.{others_avoided}
use Rattle.stop_laws.proofs.Places.{beside_list, beside_spare, set_kept}
use Rattle.stop_laws.proofs.Taken.{IsSet, Sets, stages_set}

-- what isn't below the administration's directory

elsewhere_is : (q p : Path) → is_below_administration q ≡ false → is_below_administration p ≡ true → q ≢ p
elsewhere_is q p out below e = true≢false (sym below ∙ ap is_below_administration (sym e) ∙ out)

pub elsewhere_unnoted : (q : Path) → is_below_administration q ≡ false → is_record_place q ≡ false
elsewhere_unnoted q out = false_from_ne_true (is_record_place q) (λ is. true≢false (sym (record_below q is) ∙ out))

pub elsewhere_list : (q : Path) → is_below_administration q ≡ false → (name : List ℕ) → q ≢ list_path name
elsewhere_list q out name = elsewhere_is q (list_path name) out (list_below name)

pub elsewhere_spare : (q : Path) → is_below_administration q ≡ false → (name : List ℕ) → q ≢ temporary (list_path name)
elsewhere_spare q out name = elsewhere_is q (temporary (list_path name)) out (spare_below name)

abbrev pub Never : Option Node → Type 0
Never there = ⊥

module _ (g : Given) (r : Record) (found : record_in g.before.records g.name ≡ Some r) where
  pub named : r.name ≡ g.name
  named = is_named g.before.records g.name r found

  abbrev pub listed : List Path
  listed = paths_of g.before.lists g.name

  -- at each moment of a planned unit
  module _ (old now : World) (so_far : List Event) (amid : IsAmid g old so_far now) where
    entry_is : amid.plan.entry ≡ r
    entry_is = one_record amid.plan.entry r (sym amid.plan.found ∙ found)

    abbrev pub decisions_then : List Settled
    decisions_then = amid.plan.plan.decisions

    pub paths_then : decided_paths decisions_then ≡ settling_places g.ways r
    paths_then = amid.plan.plan.paths ∙ ap (settling_places g.ways) entry_is

    abbrev pub stages_then : List Planned
    stages_then = stage_with (first_deeds r listed decisions_then) amid.plan.plan.stages_are.first.row ∷ stage_with (last_deeds r) amid.plan.plan.stages_are.second.row ∷ []

    deeds_are : map planned amid.stages ≡ stages_then
    deeds_are =
        stages_deeds amid.plan.entry listed decisions_then amid.plan.plan.stored amid.stages amid.plan.plan.stages_are
        ∙ ap (λ (e : Record). stage_with (first_deeds e listed decisions_then) amid.plan.plan.stages_are.first.row ∷ stage_with (last_deeds e) amid.plan.plan.stages_are.second.row ∷ []) entry_is

    pub amid_at : AmidStages g.name (IsDeniedIn so_far) stages_then g.before.records old (changes_of so_far) now
    amid_at = subst (λ (ps : List Planned). AmidStages g.name (IsDeniedIn so_far) ps g.before.records old (changes_of so_far) now) deeds_are (stages_amid g.name (IsDeniedIn so_far) g.ways amid.stages g.before old so_far now (λ p is. is) amid.running)

    avoided : Avoids is_own (changes_of so_far)
    avoided = own_avoided g.name g.ways amid.stages g.before old so_far now amid.running

    -- records

    abbrev IsNoted : Option Record → Type 0
    IsNoted o = IsWaitingRecord r o ⊎ IsSettledRecord g.ways r o

    abbrev Notes : Deed → Type 0
    Notes = NotesOwn g.name g.before.records IsNoted

    all_noted : AllIn Notes stages_then
    all_noted = stages_all Notes r listed decisions_then amid.plan.plan.stages_are.first.row amid.plan.plan.stages_are.second.row
        (named, inl (inr refl))
        (record { settles = (tt, tt); lists = (tt, tt); notes = (named, inr (IsSettledRecord.settled_half refl)) })
        (named, inr (IsSettledRecord.installed refl))

    records_amid : HasRecordsAmid g r now
    records_amid =
        let standing = stages_good g.name g.before.records IsNoted (IsDeniedIn so_far) stages_then g.before.records old (changes_of so_far) now all_noted (record { own = inl (inl found); others = λ q other. refl }) amid_at in
        record { table = standing.table; records = standing.records; opens = amid.running.opens.opens; own = standing.good.own; others = standing.good.others }

    -- names of conffiles that are settled

    pub no_decided_name : (q : Path) → is_settling_name g.ways r q ≡ false → is_name_of_some decisions_then q ≡ false
    no_decided_name q none = names_of_decided decisions_then q ∙ ap (λ (l : List Path). list_any (λ x. is_conffile_name x q) l) paths_then ∙ none

    paths_amid : (q : Path) → is_below_administration q ≡ false → is_settling_name g.ways r q ≡ false → now q ≡ changed (changes_of so_far) old q
    paths_amid q out none =
        by (stages_set g.name q Never (IsDeniedIn so_far) stages_then g.before.records old (changes_of so_far) now
        (stages_all (Sets g.name q Never) r listed decisions_then amid.plan.plan.stages_are.first.row amid.plan.plan.stages_are.second.row
        (elsewhere_unnoted q out)
        (record {
          settles = no_decided_name q none;
          lists = ((λ e. elsewhere_spare q out g.name e), λ e. elsewhere_list q out g.name e);
          notes = elsewhere_unnoted q out;
        })
        (elsewhere_unnoted q out))
        amid_at)
      where
        by : IsSet g.name q Never (changes_of so_far) old now → now q ≡ changed (changes_of so_far) old q
        by (IsSet.stood is) = is
        by (IsSet.left early late are mid has is) = absurd has

    -- places of the administration that scripts leave alone

    module _ (q : Path) (V : Option Node → Type 0) (below : is_below_administration q ≡ true) (unnoted : is_record_place q ≡ false) (mine : is_own q ≡ true) where
      value_amid : Sets g.name q V (Deed.Lists (listed_without (going_paths r) listed)) → (now q ≡ old q) ⊎ V (now q)
      value_amid lists =
          by (set_kept g.name q V is_own mine (changes_of so_far) old now avoided
          (stages_set g.name q V (IsDeniedIn so_far) stages_then g.before.records old (changes_of so_far) now
          (stages_all (Sets g.name q V) r listed decisions_then amid.plan.plan.stages_are.first.row amid.plan.plan.stages_are.second.row unnoted
          (record { settles = below_none decisions_then q below; lists = lists; notes = unnoted }) unnoted)
          amid_at))
        where
          by : (now q ≡ old q) ⊎ ((mid : World) × V (mid q) × (now q ≡ mid q)) → (now q ≡ old q) ⊎ V (now q)
          by (inl same) = inl same
          by (inr is) = inr (subst V (sym is.2) is.1)

    unchanged : (q : Path) → (now q ≡ old q) ⊎ ⊥ → now q ≡ old q
    unchanged q (inl same) = same
    unchanged q (inr none) = absurd none

    other_list : (q : List ℕ) → q ≢ g.name → now (list_path q) ≡ old (list_path q)
    other_list q other = unchanged (list_path q) (value_amid (list_path q) Never (list_below q) refl refl ((λ e. no_list_temporary q (list_path g.name) e), λ e. other (same_list q g.name e)))

    diversions_amid : now diversions_path ≡ old diversions_path
    diversions_amid = unchanged diversions_path (value_amid diversions_path Never refl refl refl ((λ e. beside_spare g.name e), λ e. beside_list g.name e))

    each_member : (q : List ℕ) (member : Path) → is_member_name member ≡ true → now (stored_member_path q member) ≡ old (stored_member_path q member)
    each_member q member is =
        let off = member_is_no_list q member g.name is in
        unchanged (stored_member_path q member) (value_amid (stored_member_path q member) Never refl refl refl (off.1, λ e. absurd (off.0 e)))

    own_list_amid : IsOwnList g r (old (list_path g.name)) (now (list_path g.name))
    own_list_amid =
        value_amid (list_path g.name) (λ (there : Option Node). there ≡ Some (list_file (listed_without (going_paths r) listed))) (list_below g.name) refl refl
        ((λ e. no_list_temporary g.name (list_path g.name) e), λ e. refl)

  -- at each moment of a unit
  module _ (old now : World) (so_far : List Event) where
    pub configure_records : (d : Recorded) → IsInOrder d g.before.lists old → d.records ≡ g.before.records → IsAmidUnit g old so_far now → HasRecordsAmid g r now
    configure_records d order same (inl looks) = subst (HasRecordsAmid g r) (sym looks.0) (record {
      table = g.before.records;
      records = subst (HasRecords old) same order.kept.holds;
      opens = kept_opens d old order.kept;
      own = inl (inl found);
      others = λ q other. refl;
    })
    configure_records d order same (inr amid) = records_amid old now so_far amid

    pub configure_list : IsAmidUnit g old so_far now → IsOwnList g r (old (list_path g.name)) (now (list_path g.name))
    configure_list (inl looks) = inl (ap (λ (w : World). w (list_path g.name)) looks.0)
    configure_list (inr amid) = own_list_amid old now so_far amid

    pub configure_paths : (q : Path) → is_below_administration q ≡ false → is_settling_name g.ways r q ≡ false → IsAmidUnit g old so_far now → now q ≡ changed (changes_of so_far) old q
    configure_paths q out none (inl looks) = ap (λ (w : World). w q) looks.0 ∙ ap (λ c. changed c old q) (sym (no_change so_far looks.1))
    configure_paths q out none (inr amid) = paths_amid old now so_far amid q out none

-- of packages whatever the record

module _ (g : Given) (old now : World) (so_far : List Event) where
  pub configure_other_list : (q : List ℕ) → q ≢ g.name → IsAmidUnit g old so_far now → now (list_path q) ≡ old (list_path q)
  configure_other_list q other (inl looks) = ap (λ (w : World). w (list_path q)) looks.0
  configure_other_list q other (inr amid) = other_list g amid.plan.entry amid.plan.found old now so_far amid q other

  pub configure_diversions : IsAmidUnit g old so_far now → now diversions_path ≡ old diversions_path
  configure_diversions (inl looks) = ap (λ (w : World). w diversions_path) looks.0
  configure_diversions (inr amid) = diversions_amid g amid.plan.entry amid.plan.found old now so_far amid

  pub configure_member : (q : List ℕ) (member : Path) → is_member_name member ≡ true → IsAmidUnit g old so_far now → now (stored_member_path q member) ≡ old (stored_member_path q member)
  configure_member q member is (inl looks) = ap (λ (w : World). w (stored_member_path q member)) looks.0
  configure_member q member is (inr amid) = each_member g amid.plan.entry amid.plan.found old now so_far amid q member is

module _ (g : Given) (r : Record) (found : record_in g.before.records g.name ≡ Some r) (q : Path) (owned : has_other_owner g.ways g.before.lists g.name q ≡ true) where
  -- neither the unit nor a script call changes what stands at a place of another package
  pub configure_keeps : is_below_administration q ≡ false → is_settling_name g.ways r q ≡ false → (old now : World) (so_far : List Event) → IsAmidUnit g old so_far now → now q ≡ old q
  configure_keeps out none old now so_far (inl looks) = ap (λ (w : World). w q) looks.0
  configure_keeps out none old now so_far (inr amid) =
      configure_paths g r found old now so_far q out none (inr amid)
      ∙ changed_kept (has_other_owner g.ways g.before.lists g.name) (changes_of so_far) old (others_avoided g.name g.ways amid.stages g.before old so_far now amid.running) q owned
