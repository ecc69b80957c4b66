-- What stands at each moment while a package disappears.
use Rattle.std.proofs.Common.{◌≡◌, ◌≢◌, ◌⊎◌, inl, inr, ℕ, Bool, true, false, List, [], ◌∷◌, Option, None, map, refl, sym, ap, subst, ◌∙◌}
use Rattle.std.proofs.lemmas.Bool.{true≢false}
use Rattle.std.proofs.lemmas.List.{append_cancel_left}
use Rattle.host_core.specs.Paths.{Path, is_below_administration, is_own}
use Rattle.host_core.specs.World.{World, Avoids, Change, changed}
use Rattle.host_core.specs.Events.{Event, IsDeniedIn, changes_of}
use Rattle.host_core.specs.Host.{State}
use Rattle.host_core.proofs.Scripts.{Avoids-append, changed-append, changed_at, changed_kept, changes_of-append, no_change}
use Rattle.administration.specs.Places.{diversions_path, list_path}
use Rattle.control_members.specs.Names.{is_member_name}
use Rattle.control_members.specs.Stored.{stored_member_path}
use Rattle.control_members.proofs.Apart.{no_list_temporary, same_stored}
use Rattle.diversions.specs.Ways.{Ways}
use Rattle.status_db.specs.Held.{HasRecords}
use Rattle.status_records.specs.Records.{record_in}
use Rattle.status_records.specs.declared.record.Record.{Record}
use Rattle.unit_stages.specs.Holding.{Holding}
use Rattle.unit_stages.specs.Running.{AreRunning}
use Rattle.unit_stages.specs.Runs.{HaveRun, kept_by}
use Rattle.unit_stages.specs.declared.stage.Stage.{Stage}
use Rattle.unpack_commit.proofs.Left.{same_list}
use Rattle.unpack_commit.proofs.Ready.{list_is_no_member, member_is_no_list}
use Rattle.undo_rows.specs.declared.rows.Row.{Row}
use Rattle.removal_engine.specs.Stages.{Planned, gone_stage, planned, stage_of}
use Rattle.disappearance.specs.Stages.{ArePlanned, disappear_row}
use Rattle.disappearance.specs.Units.{IsAmidOne, IsAmidUnit, IsBehindCall, IsInOrderWith, IsRunningBoth}
use Rattle.disappearance.specs.declared.losing.Losing.{Losing}
use Rattle.file_lists.specs.Owners.{has_other_owner}
use Rattle.stop_laws.specs.Disappearing.{HasRecordsAmid}
use Rattle.stop_laws.proofs.Avoiding.{own_avoided, own_kept}
use Rattle.stop_laws.proofs.Configures.{Never, elsewhere_list, elsewhere_spare, elsewhere_unnoted}
use Rattle.stop_laws.proofs.Moments.{All, AmidStages, stages_amid}
use Rattle.stop_laws.proofs.Noted.{IsGood, StandGood, stages_good}
use Rattle.stop_laws.proofs.Others.{others_avoided, owner_kept}
use Rattle.stop_laws.proofs.Places.{beside_list, beside_member, beside_spare}
use Rattle.stop_laws.proofs.QuietRuns.{RanScripts, no_deeds, quiet_ran}
use Rattle.stop_laws.proofs.Taken.{IsSet, Sets, stages_set}

module _ (ways : Ways) (name : List ℕ) (h : Holding) (row : Row) (call gone : List Stage) (plan : ArePlanned name h row call gone) (s : State) (so_far : List Event) (now : World) where
  abbrev before : Planned
  before = stage_of [] row

  abbrev behind : Planned
  behind = gone_stage plan.entry

  -- the call has been made by a run of one stage without parts
  call_ran : (kept : Path → Bool) → ((q : Path) → kept q ≡ true → kept_by ways h q ≡ true) → (is : IsBehindCall name ways call gone h s so_far now) → RanScripts kept s is.mid
  call_ran kept keeps is = by call plan.calls is.called
    where
      not_none : {X : Type 0} → [] ≡ before ∷ [] → X
      not_none e = absurd (let same : ◌≡◌ {A = List Planned} [] (before ∷ []) = e in cc)

      not_two : {X : Type 0} (a b : Planned) (more : List Planned) → a ∷ b ∷ more ≡ before ∷ [] → X
      not_two a b more e = absurd (let same : ◌≡◌ {A = List Planned} (a ∷ b ∷ more) (before ∷ []) = e in cc)

      first_of_two : Planned → List Planned → Planned
      first_of_two d [] = d
      first_of_two d (p ∷ ps) = p

      by : (stages : List Stage) → map planned stages ≡ before ∷ [] → HaveRun name ways stages is.failed h h s is.mid is.told is.more → RanScripts kept s is.mid
      by [] are run = not_none are
      by (stage ∷ []) are run =
          let one : planned stage ≡ before = ap (first_of_two before) are in
          quiet_ran name ways kept h keeps stage (no_deeds stage.parts.items (ap (λ (p : Planned). p.parts) one)) (no_deeds stage.restore.items (ap (λ (p : Planned). p.restore) one)) is.failed h s is.mid is.told is.more run is.honest
      by (stage ∷ other ∷ more) are run = not_two (planned stage) (planned other) (map planned more) are

  calling_at : AreRunning name ways call h s.world so_far now → AmidStages name (IsDeniedIn so_far) (before ∷ []) h.records s.world (changes_of so_far) now
  calling_at running = subst (λ (ps : List Planned). AmidStages name (IsDeniedIn so_far) ps h.records s.world (changes_of so_far) now) plan.calls (stages_amid name (IsDeniedIn so_far) ways call h s.world so_far now (λ p is. is) running)

  behind_at : (is : IsBehindCall name ways call gone h s so_far now) → AmidStages name (IsDeniedIn is.rest) (behind ∷ []) h.records is.mid.world (changes_of is.rest) now
  behind_at is = subst (λ (ps : List Planned). AmidStages name (IsDeniedIn is.rest) ps h.records is.mid.world (changes_of is.rest) now) plan.goes (stages_amid name (IsDeniedIn is.rest) ways gone h is.mid.world is.rest now (λ p has. has) is.running)

  front_is : (kept : Path → Bool) (is : IsBehindCall name ways call gone h s so_far now) (ran : RanScripts kept s is.mid) → ran.added ≡ is.front
  front_is kept is ran = append_cancel_left s.events ran.added is.front (sym ran.events ∙ is.events)

  -- a path at which nothing but the package's own list and control files is written
  module _ (q : Path) (sets : All (Sets name q Never) behind.parts) where
    scripted : IsSet name q Never (changes_of so_far) s.world now → now q ≡ changed (changes_of so_far) s.world q
    scripted (IsSet.stood is) = is
    scripted (IsSet.left early late are mid has is) = absurd has

    scripted_rest : (mid : World) (change : Change) → IsSet name q Never change mid now → now q ≡ changed change mid q
    scripted_rest mid change (IsSet.stood is) = is
    scripted_rest mid change (IsSet.left early late are m has is) = absurd has

    path_amid : IsRunningBoth name ways call gone h s so_far now → now q ≡ changed (changes_of so_far) s.world q
    path_amid (IsRunningBoth.calling running) = scripted (stages_set name q Never (IsDeniedIn so_far) (before ∷ []) h.records s.world (changes_of so_far) now ((tt, tt), tt) (calling_at running))
    path_amid (IsRunningBoth.behind is) =
        let ran = call_ran is_own (λ p own. own_kept ways h.lists p own) is in
        let first : is.mid.world q ≡ changed (changes_of is.front) s.world q = ap (λ (w : World). w q) ran.world ∙ ap (λ (l : List Event). changed (changes_of l) s.world q) (front_is is_own is ran) in
        scripted_rest is.mid.world (changes_of is.rest) (stages_set name q Never (IsDeniedIn is.rest) (behind ∷ []) h.records is.mid.world (changes_of is.rest) now ((sets, tt), tt) (behind_at is))
        ∙ changed_at (changes_of is.rest) is.mid.world (changed (changes_of is.front) s.world) q first
        ∙ ap (λ (w : World). w q) (sym (changed-append (changes_of is.front) (changes_of is.rest) s.world))
        ∙ ap (λ (c : Change). changed c s.world q) (sym (ap changes_of is.split ∙ changes_of-append is.front is.rest))

    -- that the calls leave alone
    module _ (kept : Path → Bool) (mine : kept q ≡ true) (keeps : (p : Path) → kept p ≡ true → kept_by ways h p ≡ true)
        (avoids : (stages : List Stage) (old : World) (events : List Event) (world : World) → AreRunning name ways stages h old events world → Avoids kept (changes_of events)) where
      avoided : IsRunningBoth name ways call gone h s so_far now → Avoids kept (changes_of so_far)
      avoided (IsRunningBoth.calling running) = avoids call s.world so_far now running
      avoided (IsRunningBoth.behind is) =
          let ran = call_ran kept keeps is in
          subst (Avoids kept) (sym (ap changes_of is.split ∙ changes_of-append is.front is.rest))
          (Avoids-append kept (changes_of is.front) (changes_of is.rest) (subst (λ (l : List Event). Avoids kept (changes_of l)) (front_is kept is ran) ran.avoids) (avoids gone is.mid.world is.rest now is.running))

      kept_amid : IsRunningBoth name ways call gone h s so_far now → now q ≡ s.world q
      kept_amid running = path_amid running ∙ changed_kept kept (changes_of so_far) s.world (avoided running) q mine

  own_amid : (q : Path) → All (Sets name q Never) behind.parts → is_own q ≡ true → IsRunningBoth name ways call gone h s so_far now → now q ≡ s.world q
  own_amid q sets mine running =
      kept_amid q sets is_own mine (λ p own. own_kept ways h.lists p own) (λ stages old events world are. own_avoided name ways stages h old events world are) running

  owned_amid : (q : Path) → All (Sets name q Never) behind.parts → has_other_owner ways h.lists name q ≡ true → IsRunningBoth name ways call gone h s so_far now → now q ≡ s.world q
  owned_amid q sets mine running =
      kept_amid q sets (has_other_owner ways h.lists name) mine (λ p owned. owner_kept ways name p h.lists owned) (λ stages old events world are. others_avoided name ways stages h old events world are) running

  -- what the deeds do where

  list_sets : (q : List ℕ) → q ≢ name → All (Sets name (list_path q) Never) behind.parts
  list_sets q other = (
    inl (λ member is. (list_is_no_member name q member is).0),
    (
      ((λ e. no_list_temporary q (list_path name) e), λ e. other (same_list q name e)),
      ((λ e. other (same_list q name e)), (refl, tt)),
    ),
  )

  member_sets : (q : List ℕ) (member : Path) → q ≢ name → is_member_name member ≡ true → All (Sets name (stored_member_path q member) Never) behind.parts
  member_sets q member other is =
      let off = member_is_no_list q member name is in (
        inl (λ word known e. other (same_stored q name member word is known e).0),
        ((off.1, λ e. absurd (off.0 e)), ((λ e. absurd (off.0 e)), (refl, tt))),
      )

  diversions_sets : All (Sets name diversions_path Never) behind.parts
  diversions_sets = (inl (λ member is. beside_member name member), (((λ e. beside_spare name e), λ e. beside_list name e), ((λ e. beside_list name e), (refl, tt))))

  elsewhere_sets : (q : Path) → is_below_administration q ≡ false → All (Sets name q Never) behind.parts
  elsewhere_sets q out = (
    inl (λ member is e. true≢false (sym (ap is_below_administration e) ∙ out)),
    (((λ e. elsewhere_spare q out name e), λ e. elsewhere_list q out name e), ((λ e. elsewhere_list q out name e), (elsewhere_unnoted q out, tt))),
  )

  -- records

  abbrev Own : Option Record → Type 0
  Own o = (o ≡ record_in h.records name) ⊎ (o ≡ None)

  good_first : IsGood name h.records Own h.records
  good_first = record { own = inl refl; others = λ q other. refl }

  standing : IsRunningBoth name ways call gone h s so_far now → StandGood name h.records Own now
  standing (IsRunningBoth.calling running) = stages_good name h.records Own (IsDeniedIn so_far) (before ∷ []) h.records s.world (changes_of so_far) now ((tt, tt), tt) good_first (calling_at running)
  standing (IsRunningBoth.behind is) =
      stages_good name h.records Own (IsDeniedIn is.rest) (behind ∷ []) h.records is.mid.world (changes_of is.rest) now ((((tt, tt), ((tt, tt), ((tt, tt), ((tt, inr refl), tt)))), tt), tt) good_first (behind_at is)

-- at each moment of one package

module _ (incoming version : List ℕ) (ways : Ways) (l : Losing) (h : Holding) (s : State) (so_far : List Event) (now : World) where
  pub records_then : IsInOrderWith h s.world → IsAmidUnit incoming version ways l h s so_far now → HasRecordsAmid l.name h.records now
  records_then order amid = by amid.unit
    where
      by : IsAmidOne incoming version ways l h s so_far now → HasRecordsAmid l.name h.records now
      by (IsAmidOne.looking same none) = record {
        table = h.records;
        records = subst (λ (w : World). HasRecords w h.records) (sym same) (subst (HasRecords s.world) order.are order.order.kept.holds);
        opens = amid.opens.1.opens;
        own = inl refl;
        others = λ q other. refl;
      }
      by (IsAmidOne.going going) =
          let stands = standing ways l.name h (disappear_row l.name incoming version going.plan.stored) going.call going.gone going.plan.stages s so_far now going.running in
          record { table = stands.table; records = stands.records; opens = amid.opens.1.opens; own = stands.good.own; others = stands.good.others }

  pub list_then : (q : List ℕ) → q ≢ l.name → IsAmidOne incoming version ways l h s so_far now → now (list_path q) ≡ s.world (list_path q)
  list_then q other (IsAmidOne.looking same none) = ap (λ (w : World). w (list_path q)) same
  list_then q other (IsAmidOne.going going) =
      let row = disappear_row l.name incoming version going.plan.stored in
      own_amid ways l.name h row going.call going.gone going.plan.stages s so_far now (list_path q) (list_sets ways l.name h row going.call going.gone going.plan.stages s so_far now q other) refl going.running

  pub member_then : (q : List ℕ) (member : Path) → q ≢ l.name → is_member_name member ≡ true → IsAmidOne incoming version ways l h s so_far now → now (stored_member_path q member) ≡ s.world (stored_member_path q member)
  member_then q member other is (IsAmidOne.looking same none) = ap (λ (w : World). w (stored_member_path q member)) same
  member_then q member other is (IsAmidOne.going going) =
      let row = disappear_row l.name incoming version going.plan.stored in
      own_amid ways l.name h row going.call going.gone going.plan.stages s so_far now (stored_member_path q member) (member_sets ways l.name h row going.call going.gone going.plan.stages s so_far now q member other is) refl going.running

  pub diversions_then : IsAmidOne incoming version ways l h s so_far now → now diversions_path ≡ s.world diversions_path
  diversions_then (IsAmidOne.looking same none) = ap (λ (w : World). w diversions_path) same
  diversions_then (IsAmidOne.going going) =
      let row = disappear_row l.name incoming version going.plan.stored in
      own_amid ways l.name h row going.call going.gone going.plan.stages s so_far now diversions_path (diversions_sets ways l.name h row going.call going.gone going.plan.stages s so_far now) refl going.running

  pub path_then : (q : Path) → is_below_administration q ≡ false → IsAmidOne incoming version ways l h s so_far now → now q ≡ changed (changes_of so_far) s.world q
  path_then q out (IsAmidOne.looking same none) = ap (λ (w : World). w q) same ∙ ap (λ (c : Change). changed c s.world q) (sym (no_change so_far none))
  path_then q out (IsAmidOne.going going) =
      let row = disappear_row l.name incoming version going.plan.stored in
      path_amid ways l.name h row going.call going.gone going.plan.stages s so_far now q (elsewhere_sets ways l.name h row going.call going.gone going.plan.stages s so_far now q out) going.running

  pub owned_then : (q : Path) → is_below_administration q ≡ false → has_other_owner ways h.lists l.name q ≡ true → IsAmidOne incoming version ways l h s so_far now → now q ≡ s.world q
  owned_then q out owned (IsAmidOne.looking same none) = ap (λ (w : World). w q) same
  owned_then q out owned (IsAmidOne.going going) =
      let row = disappear_row l.name incoming version going.plan.stored in
      owned_amid ways l.name h row going.call going.gone going.plan.stages s so_far now q (elsewhere_sets ways l.name h row going.call going.gone going.plan.stages s so_far now q out) owned going.running
