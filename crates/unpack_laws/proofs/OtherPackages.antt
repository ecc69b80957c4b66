-- What packages and paths keep that a unit doesn't have in hand.
use Rattle.std.proofs.Common.{◌≡◌, ◌≢◌, inl, inr, ℕ, true, List, get_or, refl, sym, ap, ◌∙◌, arith}
use Rattle.host_core.specs.Paths.{Path}
use Rattle.host_core.specs.World.{World, changed, is_kept}
use Rattle.host_core.specs.Events.{Event, changes_of}
use Rattle.host_core.proofs.Scripts.{changed_kept, no_change}
use Rattle.administration.specs.Places.{diversions_path, list_path, temporary}
use Rattle.control_members.specs.Names.{is_member_name}
use Rattle.control_members.specs.Stored.{stored_member_path}
use Rattle.control_members.proofs.Apart.{no_list_temporary, no_temporary, same_stored}
use Rattle.unpack_commit.proofs.Left.{list_within, member_within, no_other, same_list}
use Rattle.unpack_commit.proofs.Ready.{list_is_no_member, member_is_no_list}
use Rattle.unpack_commit.proofs.Stays.{no_leaving_place}
use Rattle.listed_files.proofs.Listings.{all_miss}
use Rattle.unpack_engine.specs.Units.{Given, IsAmid, IsAmidUnit, ground_of, package_name}
use Rattle.unpack_laws.specs.InHand.{IsPassedBy, KeepsPlaces, unit_name}
use Rattle.unpack_laws.proofs.Alone.{IsAlone, stage_avoids, stage_there}
use Rattle.unpack_laws.proofs.Passing.{no_loser, passed_alone, unnamed}

-- the diversions stand beside `info`

pub no_list_there : (name : List ℕ) → (diversions_path ≢ list_path name) × (diversions_path ≢ temporary (list_path name))
no_list_there name = (apart (list_path name) refl, apart (temporary (list_path name)) refl)
  where
    apart : (q : Path) → get_or q 14 0 ≡ 105 → diversions_path ≢ q
    apart q at e = let same : ◌≡◌ {A = ℕ} 100 105 = ap (λ (l : Path). get_or l 14 0) e ∙ at in absurd (omega arith)

pub no_member_there : (owner member : Path) → (diversions_path ≢ stored_member_path owner member) × (diversions_path ≢ temporary (stored_member_path owner member))
no_member_there owner member = (apart (stored_member_path owner member) refl, apart (temporary (stored_member_path owner member)) refl)
  where
    apart : (q : Path) → get_or q 14 0 ≡ 105 → diversions_path ≢ q
    apart q at e = let same : ◌≡◌ {A = ℕ} 100 105 = ap (λ (l : Path). get_or l 14 0) e ∙ at in absurd (omega arith)

module _ (g : Given) (places : List Path) (old now : World) (so_far : List Event) where
  -- at each moment of a planned unit
  module _ (amid : IsAmid g places old so_far now) where
    there : (q : Path) → IsAlone (ground_of g places) amid.plan q → now q ≡ changed (changes_of so_far) old q
    there q alone = stage_there (ground_of g places) amid.plan amid.plan_for.planned.works_are.named q alone old so_far now amid.under_way.stage

    kept : (q : Path) → is_kept places q ≡ true → changed (changes_of so_far) old q ≡ old q
    kept q is = changed_kept (is_kept places) (changes_of so_far) old (stage_avoids (ground_of g places) amid.plan old so_far now amid.under_way.stage) q is

    list_alone : (q : List ℕ) → q ≢ unit_name g → KeepsPlaces g q → IsAlone (ground_of g places) amid.plan (list_path q)
    list_alone q other keeps =
        let plan = amid.plan_for.planned in
        let own = package_name (ground_of g places) amid.plan in
        record {
          aside = record {
            unnoted = refl;
            tmp = refl;
            list = (λ e. unnamed g amid.plan_for.stored amid.plan plan places q other (same_list q own e), λ e. no_list_temporary q (list_path own) e);
            no_member = list_is_no_member own q;
            stays = no_leaving_place amid.plan.leaving (list_path q) plan.lists_are.spares (list_within q);
            uncleared = plan.names_are.elsewhere (list_path q) (list_within q);
            unlost = λ works begun stage moved. no_other _ q (no_loser g amid.plan_for.stored amid.plan plan places q other keeps works begun stage moved);
          };
          missed = all_miss amid.plan.works (list_path q) plan.works_are.named refl;
        }

    member_alone : (q : List ℕ) (member : Path) → q ≢ unit_name g → is_member_name member ≡ true → IsAlone (ground_of g places) amid.plan (stored_member_path q member)
    member_alone q member other is =
        let plan = amid.plan_for.planned in
        let own = package_name (ground_of g places) amid.plan in
        record {
          aside = record {
            unnoted = refl;
            tmp = refl;
            list = member_is_no_list q member own is;
            no_member = λ name m. ((λ e. unnamed g amid.plan_for.stored amid.plan plan places q other (same_stored q own member name is m e).0), no_temporary q member (stored_member_path own name) is);
            stays = no_leaving_place amid.plan.leaving (stored_member_path q member) plan.lists_are.spares (member_within q member);
            uncleared = plan.names_are.elsewhere (stored_member_path q member) (member_within q member);
            unlost = λ works begun stage moved n has. member_is_no_list q member n is;
          };
          missed = all_miss amid.plan.works (stored_member_path q member) plan.works_are.named refl;
        }

    diversions_alone : IsAlone (ground_of g places) amid.plan diversions_path
    diversions_alone =
        let plan = amid.plan_for.planned in
        let own = package_name (ground_of g places) amid.plan in
        record {
          aside = record {
            unnoted = refl;
            tmp = refl;
            list = no_list_there own;
            no_member = λ name m. no_member_there own name;
            stays = no_leaving_place amid.plan.leaving diversions_path plan.lists_are.spares refl;
            uncleared = plan.names_are.elsewhere diversions_path refl;
            unlost = λ works begun stage moved n has. no_list_there n;
          };
          missed = all_miss amid.plan.works diversions_path plan.works_are.named refl;
        }

    diversions_amid : now diversions_path ≡ old diversions_path
    diversions_amid = there diversions_path diversions_alone ∙ kept diversions_path refl

    list_amid : (q : List ℕ) → q ≢ unit_name g → KeepsPlaces g q → now (list_path q) ≡ old (list_path q)
    list_amid q other keeps = there (list_path q) (list_alone q other keeps) ∙ kept (list_path q) refl

    member_amid : (q : List ℕ) (member : Path) → q ≢ unit_name g → is_member_name member ≡ true → now (stored_member_path q member) ≡ old (stored_member_path q member)
    member_amid q member other is = there (stored_member_path q member) (member_alone q member other is) ∙ kept (stored_member_path q member) refl

    passed_amid : (q : Path) → IsPassedBy g q → now q ≡ changed (changes_of so_far) old q
    passed_amid q passed = there q (passed_alone g amid.plan_for.stored amid.plan amid.plan_for.planned places q passed)

    kept_amid : (q : Path) → IsPassedBy g q → is_kept places q ≡ true → now q ≡ old q
    kept_amid q passed is = passed_amid q passed ∙ kept q is

  -- at each moment of a unit

  pub list_kept : (q : List ℕ) → q ≢ unit_name g → KeepsPlaces g q → IsAmidUnit g places old so_far now → now (list_path q) ≡ old (list_path q)
  list_kept q other keeps (inl looks) = ap (λ (w : World). w (list_path q)) looks.0
  list_kept q other keeps (inr amid) = list_amid amid q other keeps

  pub member_kept : (q : List ℕ) (member : Path) → q ≢ unit_name g → is_member_name member ≡ true → IsAmidUnit g places old so_far now → now (stored_member_path q member) ≡ old (stored_member_path q member)
  member_kept q member other is (inl looks) = ap (λ (w : World). w (stored_member_path q member)) looks.0
  member_kept q member other is (inr amid) = member_amid amid q member other is

  pub diversions_kept : IsAmidUnit g places old so_far now → now diversions_path ≡ old diversions_path
  diversions_kept (inl looks) = ap (λ (w : World). w diversions_path) looks.0
  diversions_kept (inr amid) = diversions_amid amid

  pub passed_by_scripts : (q : Path) → IsPassedBy g q → IsAmidUnit g places old so_far now → now q ≡ changed (changes_of so_far) old q
  passed_by_scripts q passed (inl looks) = ap (λ (w : World). w q) looks.0 ∙ ap (λ c. changed c old q) (sym (no_change so_far looks.1))
  passed_by_scripts q passed (inr amid) = passed_amid amid q passed

  pub passed_kept : (q : Path) → IsPassedBy g q → is_kept places q ≡ true → IsAmidUnit g places old so_far now → now q ≡ old q
  passed_kept q passed is (inl looks) = ap (λ (w : World). w q) looks.0
  passed_kept q passed is (inr amid) = kept_amid amid q passed is
