-- A file of a package that yields to none of those that are unpacked, through a run of units.
use Rattle.std.proofs.Common.{◌≡◌, ℕ, List, [], ◌∷◌, Result, Ok, Err, IsTrue, sym, ap, subst, ◌∙◌}
use Rattle.host_core.specs.Paths.{Path}
use Rattle.host_core.specs.World.{IsLoose}
use Rattle.host_core.specs.Host.{State}
use Rattle.file_lists.specs.declared.paths.Listed.{Listed}
use Rattle.package_tree.specs.declared.fault.TreeFault.{TreeFault}
use Rattle.package_tree.specs.declared.package.Package.{Package}
use Rattle.unit_reports.specs.Held.{Held}
use Rattle.unit_reports.specs.Units.{IsRefused}
use Rattle.unit_reports.specs.declared.refusal.Rule.{Rule}
use Rattle.unit_reports.specs.declared.report.Unit.{Unit as AUnit}
use Rattle.unpack_relations.specs.declared.beside.Beside.{Beside}
use Rattle.unpack_relations.specs.declared.checking.Checked.TheVariants.{Planned, Refused}
use Rattle.unpack_relations.specs.declared.options.UnpackOptions.{UnpackOptions}
use Rattle.dpkg_session.specs.Overriding.{taken_with}
use Rattle.dpkg_session.specs.Rereading.{with_ways}
use Rattle.dpkg_session.specs.Run.{IsRun}
use Rattle.dpkg_session.specs.Units.{IsTakenUnit, IsUnitOf, all_yielding, given_by}
use Rattle.dpkg_session.specs.declared.report.Candidate.{Candidate}
use Rattle.dpkg_session.proofs.Runs.{falls_run}
use Rattle.kept_files.specs.Kept.{IsHeldPlace, IsPackagePlace}
use Rattle.kept_in_commands.specs.Commands.{Has, IsHeldAgainst, IsHeldAgainstTaken, IsHeldAgainstUnit, IsHeldThrough}
use Rattle.kept_in_commands.proofs.Placed.{owns_by}
use Rattle.kept_in_commands.proofs.Unpacked.{place_stays, unit_keeps}

module _ (owner : Listed) (q : Path) (packaged : IsPackagePlace q) where
  -- what a unit leaves: the package has the place, and what stands there is as before
  pub record Leaves (after : Held) (s t : State) : Type 0 where
    pub has : Has after q owner
    pub keeps : IsTrue t.honest → IsLoose (s.world q) → t.world q ≡ s.world q

  refused : (rule : Rule) (name : List ℕ) (h after : Held) (u : AUnit) (s t : State) → IsRefused rule name h after u s t → Has h q owner → Leaves after s t
  refused rule name h after u s t is has = record {
    has = subst (λ (x : Held). Has x q owner) (sym is.held) has;
    keeps = λ honest stands. ap (λ w. w q) (is.world honest);
  }

  abbrev at_place : (p : Package) (beside : Beside) (h after : Held) → IsHeldAgainst owner p beside h after → Has h q owner → IsHeldPlace (given_by p h h.ways [] (all_yielding p beside h)) q
  at_place p beside h after against has = record { held = record { owner = owner; lies = has; other = against.other }; stays = against.stays }

  taken : (allowed : UnpackOptions) (name : List ℕ) (made : Result Package Rule) (h after : Held) (u : AUnit) (s t : State) → (unit : IsTakenUnit allowed name made h after u s t)
      → IsHeldAgainstTaken owner allowed name made h after u s t unit → Has h q owner → Leaves after s t
  taken allowed name (Err rule) h after u s t unit against has = refused rule name h after u s t unit has
  taken allowed name (Ok p) h after u s t (Refused rule, decided, unit) against has = refused rule p.name h after u s t unit has
  taken allowed name (Ok p) h after u s t (Planned beside, decided, unit) against has =
      let place = at_place p beside h after against has in
      record {
        has = place_stays p beside h q after u s t unit against.left packaged place;
        keeps = λ honest stands. unit_keeps p beside h q after u s t unit against.left honest (record { place = place; packaged = packaged; stands = stands });
      }

  one_unit : (allowed : UnpackOptions) (label : List ℕ) (tree : Result Package TreeFault) (before after : Held) (u : AUnit) (s t : State) → (unit : IsUnitOf allowed label tree before after u s t)
      → IsHeldAgainstUnit owner allowed label tree before after u s t unit → Has before q owner → Leaves after s t
  one_unit allowed label (Err fault) before after u s t unit against has = refused _ label before after u s t unit has
  one_unit allowed label (Ok p) before after u s t (ways, read, (overrides, are, unit)) against has =
      taken allowed p.name (taken_with overrides p) (with_ways before ways) after u s t unit against.1 (owns_by before.ways ways q owner against.0 before.lists has)

  pub run_leaves : (allowed : UnpackOptions) (cs : List Candidate) (us : List AUnit) (before after : Held) (s t : State) → (run : IsRun allowed cs us before after s t)
      → IsHeldThrough owner allowed cs us before after s t run → Has before q owner → Leaves after s t
  run_leaves allowed [] [] before after s t run through has = record {
    has = subst (λ (x : Held). Has x q owner) (sym run.1) has;
    keeps = λ honest stands. ap (λ (x : State). x.world q) run.0;
  }
  run_leaves allowed [] (u ∷ us) before after s t run through has = absurd run
  run_leaves allowed (c ∷ cs) [] before after s t run through has = absurd run
  run_leaves allowed (c ∷ cs) (u ∷ us) before after s t (m, mid, unit, rest) through has =
      let first = one_unit allowed c.label c.tree before mid u s m unit.is through.0 has in
      let further = run_leaves allowed cs us mid after m t rest through.1 first.has in
      record {
        has = further.has;
        keeps = λ honest stands.
            let same = first.keeps (falls_run allowed cs us mid after m t rest honest) stands in
            further.keeps honest (subst IsLoose (sym same) stands) ∙ same;
      }
