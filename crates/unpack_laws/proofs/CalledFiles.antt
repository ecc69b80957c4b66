-- What stands at the files that the calls of an unpack name, while its rows run.
use Rattle.std.proofs.Common.{◌≡◌, ◌≢◌, inl, inr, ℕ, true, false, List, [], ◌∷◌, ◌++◌, Option, Some, None, IsSome, length, refl, sym, ap, subst, ◌∙◌}
use Rattle.std.proofs.lemmas.Bool.{true≢false}
use Rattle.host_core.specs.Paths.{Path}
use Rattle.host_core.specs.World.{World}
use Rattle.host_core.specs.Events.{Event, scripts_of}
use Rattle.host_core.specs.Host.{State}
use Rattle.host_core.specs.Outcome.{script_name}
use Rattle.host_core.specs.Tree.{has_slash}
use Rattle.host_core.specs.declared.call.Call.{Call}
use Rattle.host_core.specs.declared.call.Script.{Script}
use Rattle.host_core.specs.declared.call.Script.TheVariants.{Preinst, Postinst, Prerm, Postrm}
use Rattle.administration.specs.Places.{list_path, script_path, tmp_script_path}
use Rattle.administration.specs.Scripts.{file_of, script_of}
use Rattle.administration.specs.declared.scripts.Scripts.{Scripts}
use Rattle.undo_rows.specs.Place.{Place}
use Rattle.control_members.specs.LaidOut.{IsLaying}
use Rattle.control_members.proofs.MemberNames.{script_is_member}
use Rattle.status_records.specs.Records.{record_in}
use Rattle.status_records.specs.declared.record.Record.{Record}
use Rattle.undo_rows.specs.declared.rows.Row.{Row}
use Rattle.unpack_commit.proofs.Ready.{member_is_no_list}
use Rattle.unpack_engine.proofs.Apart.{entry_beside, tmp_beside}
use Rattle.unpack_engine.proofs.Cleared.{begun_laid}
use Rattle.unpack_engine.proofs.Frames.{IsBeside, amid_same}
use Rattle.unpack_engine.specs.Units.{Begins, Given, Ground, IsAmid, IsRunning, IsSeen, ground_of, package_name, task_from}
use Rattle.unpack_plan.specs.Members.{scripts_in}
use Rattle.unpack_plan.specs.Planned.{Planned}
use Rattle.unpack_rows.specs.ForwardRows.{is_present, others_rows}
use Rattle.unpack_rows.specs.Kinds.{own_of, state_of}
use Rattle.unpack_rows.specs.declared.rows.Present.{Present}
use Rattle.unpack_steps.specs.At.{Stops}
use Rattle.unpack_steps.specs.Clearing.{MayClear, is_gone, next_ready}
use Rattle.unpack_steps.specs.Task.{state_on}
use Rattle.unpack_laws.specs.Called.{AreCalling, CallsStored, HasScript, IsCallAmong, OthersCallStored}
use Rattle.unpack_laws.specs.InHand.{unit_name}
use Rattle.unpack_laws.proofs.Alone.{Based, based_amid}
use Rattle.unpack_laws.proofs.CalledRows.{IsOwnCall, own_or_other}
use Rattle.unpack_laws.proofs.OtherPackages.{member_kept}

no_slash : (s : Script) → has_slash (script_name s) ≡ false
no_slash Preinst = refl
no_slash Postinst = refl
no_slash Prerm = refl
no_slash Postrm = refl

ships : (tree : Scripts) (s : Script) → is_present (scripts_in tree) s ≡ true → IsSome (script_of tree s)
ships tree Preinst there = there
ships tree Postinst there = there
ships tree Prerm there = there
ships tree Postrm there = there

-- a script that is seen stands, and stays where a name has a record
stays : (found : Option Record) (others : ℕ) (place : Place) (name : List ℕ) (old begun base : World) (stored : Present)
    → MayClear (is_gone found others place) (is_gone found others (next_ready place)) name begun base → IsSeen found name old stored → (s : Script) → is_present stored s ≡ true
    → (base (script_path name s) ≡ begun (script_path name s)) × IsSome (old (script_path name s))
stays None others place name old begun base stored clears seen s there = absurd (true≢false (sym there ∙ seen s))
stays (Some r) others place name old begun base stored same seen s there = (ap (λ (w : World). w (script_path name s)) same, sym (seen s) ∙ there)

module _ (g : Given) (places : List Path) (old now : World) (so_far : List Event) (amid : IsAmid g places old so_far now) where
  abbrev here : Ground
  here = ground_of g places

  abbrev p : Planned
  p = amid.plan

  abbrev own : List ℕ
  own = package_name here p

  abbrev seen_scripts : Present
  seen_scripts = amid.plan_for.stored

  abbrev tree : Scripts
  tree = g.«package».scripts

  seen : IsSeen p.found own old seen_scripts
  seen =
      let plan = amid.plan_for.planned in
      subst (λ (f : Option Record). IsSeen f own old seen_scripts) (sym plan.records_are.found_is)
      (subst (λ (n : List ℕ). IsSeen (record_in g.records g.«package».name) n old seen_scripts) (sym plan.records_are.own) (amid.plan_for.seen refl))

  module _ (begun : State) (begins : Begins here p old begun.world) (es : List Event) (stops : Stops (task_from here p begun) es now) where
    based : Based here p old stops.base
    based = based_amid here p old begun es now begins stops

    same : (q : Path) → IsBeside (list_path own) q → now q ≡ stops.base q
    same q beside = amid_same (task_from here p (state_on begun stops.base)) q beside amid.plan_for.planned.works_are.named _ _ now stops.files

    laid : (s : Script) → now (tmp_script_path s) ≡ file_of (script_of tree s)
    laid s =
        same (tmp_script_path s) (tmp_beside own (tmp_script_path s) refl)
        ∙ (begun_laid here p based.0 old stops.base based.1).files (script_name s) (no_slash s)
        ∙ amid.plan_for.planned.members_are.scripts_are s

    own_stays : (s : Script) → is_present seen_scripts s ≡ true → (now (script_path own s) ≡ old (script_path own s)) × IsSome (old (script_path own s))
    own_stays s there =
        let apart = member_is_no_list own (script_name s) own (script_is_member s) in
        let both = stays p.found (length p.others) stops.place own old begun.world stops.base seen_scripts stops.cleared seen s there in
        (same (script_path own s) (entry_beside own (own ++ 46 ∷ script_name s) apart.0 apart.1) ∙ both.0 ∙ begins.lays (script_path own s) refl, both.1)

    own_holds : (call : Call) → IsOwnCall own seen_scripts (scripts_in tree) call → HasScript tree old now call
    own_holds call (IsOwnCall.of_stored side of at there) =
        let both = own_stays call.script there in
        HasScript.stored
        (record { side = side; at = at ∙ ap (λ (n : List ℕ). script_path n call.script) (sym of); stood = subst (λ (q : Path). IsSome (old q)) (sym at) both.1 })
        (subst (λ (q : Path). now q ≡ old q) (sym at) both.0)
    own_holds call (IsOwnCall.of_tree side at there) =
        HasScript.incoming (record { side = side; at = at; shipped = ships tree call.script there }) (ap now at ∙ laid call.script)

    other_holds : (call : Call) → CallsStored old call → call.«package» ≢ unit_name g → HasScript tree old now call
    other_holds call is other =
        HasScript.stored is
        (subst (λ (q : Path). now q ≡ old q) (sym is.at) (member_kept g places old now so_far call.«package» (script_name call.script) other (script_is_member call.script) (inr amid)))

    holds : OthersCallStored g old → (call : Call) → IsCallAmong p.rows call → HasScript tree old now call
    holds others call is =
        elim (own_or_other own (own_of p.found p.incoming).version p.incoming.version seen_scripts (scripts_in tree) (state_of p.found) (others_rows g.others) call
        (subst (λ (rows : List Row). IsCallAmong rows call) amid.plan_for.planned.rows_are.rows_are is)) [
          | inl mine ↦ own_holds call mine
          | inr other ↦ other_holds call (others call other).0 (others call other).1
        ]

  running_holds : OthersCallStored g old → (call : Call) → (scripts_of so_far ≢ []) → IsRunning (Begins here p) IsLaying (task_from here p) old so_far now → IsCallAmong p.rows call → HasScript tree old now call
  running_holds others call started (IsRunning.beginning none may) is = absurd (started none)
  running_holds others call started (IsRunning.running begun before more are none begins stops) is = holds begun begins (begun.events ++ more) stops others call is

  pub calling_holds : OthersCallStored g old → AreCalling here p old so_far now → (call : Call) → IsCallAmong p.rows call → HasScript tree old now call
  calling_holds others calling call is = running_holds others call calling.started calling.running is
