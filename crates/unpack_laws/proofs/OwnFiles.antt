-- What stands at the targets of the works at each moment of a unit.
use Rattle.std.proofs.Common.{◌≡◌, ◌≢◌, ◌⊎◌, inl, inr, ℕ, true, false, List, [], ◌∷◌, ◌++◌, Option, Some, None, refl, sym, ap, subst, ◌∙◌, arith}
use Rattle.std.specs.Str.{bytes_eq}
use Rattle.std.proofs.lemmas.Bool.{false_from_ne_true, or_from}
use Rattle.std.proofs.lemmas.List.{append-nil}
use Rattle.std.proofs.lemmas.Slice.Eq.{bytes_eq-Decides}
use Rattle.host_core.specs.Paths.{Path, is_below_administration}
use Rattle.host_core.specs.World.{World, Change, changed}
use Rattle.host_core.specs.Events.{Event, changes_of}
use Rattle.host_core.proofs.Scripts.{changed_at, no_change}
use Rattle.host_core.specs.Suffixes.{suffix_text}
use Rattle.host_core.specs.declared.node.Node.{Node}
use Rattle.host_core.specs.declared.suffix.Suffix.{Suffix}
use Rattle.host_core.specs.declared.suffix.Suffix.TheVariants.{New, Old, Dist, Tmp, Inst}
use Rattle.administration.specs.Places.{list_path, temporary, tmp_path, is_within}
use Rattle.control_members.specs.Stored.{stored_member_path}
use Rattle.file_removal.specs.Clearing.{is_among}
use Rattle.package_files.specs.declared.work.Work.{Work}
use Rattle.package_files.specs.Files.{Each, IsShown}
use Rattle.package_files.specs.Names.{IsNamed}
use Rattle.package_files.proofs.WorkLists.{each_map, each_of}
use Rattle.package_files.proofs.WorkNames.{same_place}
use Rattle.listed_files.proofs.Apart.{apart, list_below, spare_below}
use Rattle.unpack_plan.specs.Names.{backups}
use Rattle.unpack_plan.specs.Planned.{IsPlanned, Planned}
use Rattle.unpack_rows.specs.Kinds.{kinds_of}
use Rattle.unpack_rows.specs.Stages.{stage_of}
use Rattle.unpack_rows.specs.declared.rows.Present.{Present}
use Rattle.unpack_engine.specs.Units.{Given, Ground, IsAmidUnit, IsRunning, IsStage, ground_of, job_of, last_place, package_name, table_after, task_from}
use Rattle.unpack_engine.proofs.Apart.{tmp_beside}
use Rattle.unpack_laws.specs.InHand.{unit_works}
use Rattle.unpack_laws.specs.Whole.{IsLasting, IsTargetAmid, IsTargetBack, IsTargetSet, IsWorkAmid, IsWorkSet}
use Rattle.unpack_steps.specs.Task.{state_on}
use Rattle.unpack_laws.proofs.Alone.{IsAside, are_moved, based_amid, begun_same, beginning_same, calls_since, leave_same}
use Rattle.unpack_laws.proofs.Passing.{no_cleared, no_leaving, works_are}
use Rattle.unpack_laws.proofs.Targets.{hits_target, name_apart, name_unnoted, targets_amid, targets_come}

-- a target is no backup

abbrev number : Option Suffix → ℕ
number None = 0
number (Some New) = 1
number (Some Old) = 2
number (Some Dist) = 3
number (Some Tmp) = 4
number (Some Inst) = 5

no_backup_name : (x y : Work) → IsNamed x → IsNamed y → x.target ≢ y.backup
no_backup_name x y named other e = by named.target
  where
    by : (x.target ≡ x.place) ⊎ (x.target ≡ x.place ++ suffix_text New) → ⊥
    by (inl is) =
        let k = (same_place x.place y.place None (Some Tmp) named.place other.place (append-nil x.place ∙ sym is ∙ e ∙ other.backup)).1 in
        let d : ◌≡◌ {A = ℕ} 0 4 = ap number k in
        absurd (omega arith)
    by (inr is) =
        let k = (same_place x.place y.place (Some New) (Some Tmp) named.place other.place (sym is ∙ e ∙ other.backup)).1 in
        let d : ◌≡◌ {A = ℕ} 1 4 = ap number k in
        absurd (omega arith)

no_backups : (x : Work) → IsNamed x → (works : List Work) → Each IsNamed works → is_among (backups works) x.target ≡ false
no_backups x named [] others = refl
no_backups x named (y ∷ works) others =
    or_from (bytes_eq x.target y.backup) (is_among (backups works) x.target) (false_from_ne_true (bytes_eq x.target y.backup) (λ e. no_backup_name x y named others.0 ((bytes_eq-Decides x.target y.backup).0 e)))
    (no_backups x named works others.1)

-- what stood at a target, in a world where the same did

pub rebased_back : (target : Path) (node : Node) (old begun now : World) (c : Change) → begun target ≡ old target → IsTargetBack target node begun now c → IsTargetBack target node old now c
rebased_back target node old begun now c same (IsTargetBack.stood is) = IsTargetBack.stood (is ∙ changed_at c begun old target same)
rebased_back target node old begun now c same (IsTargetBack.stayed access early late made dir are was is) = IsTargetBack.stayed access early late made dir are was is

rebased_set : (target : Path) (node : Node) (old begun now : World) (c : Change) → begun target ≡ old target → IsTargetSet target node begun now c → IsTargetSet target node old now c
rebased_set target node old begun now c same (IsTargetSet.before is) = IsTargetSet.before (rebased_back target node old begun now c same is)
rebased_set target node old begun now c same (IsTargetSet.shown is) = IsTargetSet.shown is

rebased : (target backup : Path) (node : Node) (old begun now : World) (c : Change) → begun target ≡ old target → IsTargetAmid target backup node begun now c → IsTargetAmid target backup node old now c
rebased target backup node old begun now c same (IsTargetAmid.whole set) = IsTargetAmid.whole (rebased_set target node old begun now c same set)
rebased target backup node old begun now c same (IsTargetAmid.between access dir none kept) = IsTargetAmid.between access dir none (kept ∙ changed_at c begun old target same)

-- in a later world where the same stands there

pub back_then : (target : Path) (node : Node) (old last now : World) (c : Change) → now target ≡ last target → IsTargetBack target node old last c → IsTargetBack target node old now c
back_then target node old last now c same (IsTargetBack.stood is) = IsTargetBack.stood (same ∙ is)
back_then target node old last now c same (IsTargetBack.stayed access early late made dir are was is) = IsTargetBack.stayed access early late made dir are was (same ∙ is)

set_then : (target : Path) (node : Node) (old last now : World) (c : Change) → now target ≡ last target → IsTargetSet target node old last c → IsTargetSet target node old now c
set_then target node old last now c same (IsTargetSet.before is) = IsTargetSet.before (back_then target node old last now c same is)
set_then target node old last now c same (IsTargetSet.shown is) = IsTargetSet.shown (subst (IsShown node) (sym same) is)

module _ (g : Given) (stored : Present) (p : Planned) (plan : IsPlanned (job_of g stored) p) (places : List Path) where
  abbrev here : Ground
  here = ground_of g places

  abbrev own : List ℕ
  own = package_name here p

  pub target_aside : (x : Work) → IsNamed x → IsLasting g x.target → IsAside here p x.target
  target_aside x named lasting = record {
    unnoted = name_unnoted x named x.target (hits_target x);
    tmp = false_from_ne_true (is_within tmp_path x.target) (λ within. hits_target x (apart x x.target named (tmp_beside [] x.target within).below));
    list = (off (list_path own) (list_below own), off (temporary (list_path own)) (spare_below own));
    no_member = λ member is. (off (stored_member_path own member) refl, off (temporary (stored_member_path own member)) refl);
    stays = no_leaving g stored p plan places x.target lasting.stays;
    uncleared = no_cleared g stored p plan places x.target (no_backups x named p.works plan.works_are.named) lasting.uncleared lasting.uncut;
    unlost = λ works begun stage moved n has. (off (list_path n) (list_below n), off (temporary (list_path n)) (spare_below n));
  }
    where
      off : (q : Path) → is_below_administration q ≡ true → x.target ≢ q
      off = name_apart x named x.target (hits_target x)

  abbrev Lasts : World → World → Change → Work → Type 0
  Lasts old now c x = IsLasting g x.target → IsWorkAmid old now c x

  stage_targets : (old : World) (so_far : List Event) (now : World) → IsStage here p old so_far now → Each (Lasts old now (changes_of so_far)) p.works
  stage_targets old so_far now (IsStage.running (IsRunning.beginning none may)) =
      each_of IsNamed (Lasts old now (changes_of so_far))
      (λ x named lasting. IsTargetAmid.whole (IsTargetSet.before (IsTargetBack.stood (beginning_same here p x.target (target_aside x named lasting) old now may ∙ ap (λ c. changed c old x.target) (sym (no_change so_far none))))))
      p.works plan.works_are.named
  stage_targets old so_far now (IsStage.running (IsRunning.running begun before more is none begins stops)) =
      each_map IsNamed (IsWorkAmid stops.base now (changes_of so_far)) (Lasts old now (changes_of so_far))
      (λ x named amid lasting. rebased x.target x.backup x.node old stops.base now (changes_of so_far) (begun_same here p x.target (target_aside x named lasting) old stops.base (based_amid here p old begun _ now begins stops)) amid)
      p.works plan.works_are.named
      (subst (λ c. Each (IsWorkAmid stops.base now c) p.works) (calls_since begun.events so_far before more stops.since is none stops.events)
      (targets_amid (task_from here p (state_on begun stops.base)) plan.works_are.named _ (changes_of stops.since) now stops.files))
  stage_targets old so_far now (IsStage.leaving ended works begun last begins are come may) =
      each_map IsNamed (IsWorkSet begun.world last (changes_of so_far)) (Lasts old now (changes_of so_far))
      (λ x named set lasting.
      let aside = target_aside x named lasting in
      IsTargetAmid.whole (set_then x.target x.node old last now (changes_of so_far)
      (leave_same here p x.target aside works begun (stage_of (kinds_of p.found p.others) (last_place here p ended)) (table_after here p (last_place here p ended)) ended (are_moved here p begun ended _ works are) last now may)
      (rebased_set x.target x.node old begun.world last (changes_of so_far) (begun_same here p x.target aside old begun.world (last_place here p ended, begins)) set)))
      p.works plan.works_are.named
      (targets_come (task_from here p begun) plan.works_are.named (last_place here p ended) _ works are (changes_of so_far) last come)

  pub targets_planned : (old : World) (so_far : List Event) (now : World) → IsStage here p old so_far now → Each (Lasts old now (changes_of so_far)) (unit_works g)
  targets_planned old so_far now stage = subst (Each (Lasts old now (changes_of so_far))) (works_are g stored p plan places) (stage_targets old so_far now stage)

-- of a unit that only looks yet nothing was written
looking : (g : Given) (w : World) (works : List Work) → Each (λ x. IsLasting g x.target → IsWorkAmid w w [] x) works
looking g w [] = tt
looking g w (x ∷ works) = ((λ lasting. IsTargetAmid.whole (IsTargetSet.before (IsTargetBack.stood refl))), looking g w works)

pub targets_unit : (g : Given) (places : List Path) (old now : World) (so_far : List Event) → IsAmidUnit g places old so_far now → Each (λ x. IsLasting g x.target → IsWorkAmid old now (changes_of so_far) x) (unit_works g)
targets_unit g places old now so_far (inl looks) =
    subst (λ c. Each (λ x. IsLasting g x.target → IsWorkAmid old now c x) (unit_works g)) (sym (no_change so_far looks.1))
    (subst (λ (w : World). Each (λ x. IsLasting g x.target → IsWorkAmid old w [] x) (unit_works g)) (sym looks.0) (looking g old (unit_works g)))
targets_unit g places old now so_far (inr amid) = targets_planned g amid.plan_for.stored amid.plan amid.plan_for.planned places old so_far now amid.under_way.stage
