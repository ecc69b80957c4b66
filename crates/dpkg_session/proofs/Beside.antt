-- What units leave as it is: the diversions, and the file that holds them.
use Rattle.std.proofs.Common.{◌≡◌, ℕ, List, [], ◌∷◌, ◌++◌, Option, Result, Ok, Err, IsTrue, codes, ap, subst, sym, ◌∙◌}
use Rattle.administration.specs.Places.{diversions_path, list_name, temporary}
use Rattle.host_core.specs.Paths.{Path}
use Rattle.host_core.specs.World.{World}
use Rattle.host_core.specs.Host.{State}
use Rattle.host_core.specs.declared.node.Node.{Node}
use Rattle.dpkg_session.proofs.TableRead.{table_of}
use Rattle.unpack_steps.specs.Task.{name}
use Rattle.diversions.specs.Lines.{HasDiversions, HasEntries}
use Rattle.diversions.specs.Ways.{Ways}
use Rattle.diversions.specs.declared.entry.Diversion.{Diversion}
use Rattle.package_tree.specs.declared.package.Package.{Package}
use Rattle.package_tree.specs.declared.fault.TreeFault.{TreeFault}
use Rattle.unpack_relations.specs.declared.checking.Checked.{Checked}
use Rattle.unpack_relations.specs.declared.checking.Checked.TheVariants.{Planned, Refused}
use Rattle.unpack_relations.specs.declared.options.UnpackOptions.{UnpackOptions}
use Rattle.dpkg_session.specs.declared.report.Candidate.{Candidate}
use Rattle.unit_reports.specs.declared.report.Unit.{Unit as AUnit}
use Rattle.unit_reports.specs.Held.{Held}
use Rattle.dpkg_session.specs.Rereading.{with_ways}
use Rattle.dpkg_session.specs.Run.{IsRun}
use Rattle.dpkg_session.specs.Units.{IsUnitBy, IsUnitOf, displacing_by, held_with}
use Rattle.dpkg_session.proofs.Displaced.{behind_leaves}
use Rattle.dpkg_session.proofs.Far.{IsFar, diversions_far, diversions_spare_far, unpacked_stays}
use Rattle.dpkg_session.proofs.Keeping.{IsUnnamed}
use Rattle.dpkg_session.proofs.Overridden.{unit_alike}
use Rattle.dpkg_session.proofs.Reread.{read_entries}
use Rattle.dpkg_session.proofs.Runs.{falls_run}

far_unnamed : (q : Path) → IsFar q → IsUnnamed q
far_unnamed q far name named = record {
  inside = record { own = far.own; below = far.below; unnoted = far.unnoted };
  list = (far.info (list_name name), far.info (list_name name ++ codes ".dpkg-inst"));
  members = λ member is. far.info (name ++ 46 ∷ member);
}

stays_by : (q : Path) → IsFar q → (p : Package) (decision : Checked) (before after : Held) (u : AUnit) (s t : State) → IsUnitBy p decision before after u s t → IsTrue t.honest → t.world q ≡ s.world q
stays_by q far p (Refused rule) before after u s t is h = ap (λ w. w q) (is.world h)
stays_by q far p (Planned beside) before after u s t is h =
    let whole = is.unpacked in
    let leaves = behind_leaves [] is.unwinding (displacing_by p beside before.lists) is.displaced is.failed (held_with after.ways whole.records whole.lists) after whole.m t whole.between u.calls.items whole.behind in
    (leaves.keeps h).stays q (far_unnamed q far) ∙ unpacked_stays q far _ _ _ _ _ s whole.m _ _ whole.unpacked.unpacked (leaves.falls h)

stays_unit : (auto : UnpackOptions) (q : Path) → IsFar q → (label : List ℕ) (tree : Result Package TreeFault) (before after : Held) (u : AUnit) (s t : State) → IsUnitOf auto label tree before after u s t → IsTrue t.honest → t.world q ≡ s.world q
stays_unit auto q far label (Err fault) before after u s t is h = ap (λ w. w q) (is.world h)
stays_unit auto q far label (Ok p) before after u s t (added, read, is) h =
    let one = unit_alike auto p (with_ways before added) after u s t is in stays_by q far one.alike one.decision (with_ways before added) after u s t one.unit h

stays_run : (auto : UnpackOptions) (q : Path) → IsFar q → (cs : List Candidate) (us : List AUnit) (before after : Held) (s t : State) → IsRun auto cs us before after s t → IsTrue t.honest → t.world q ≡ s.world q
stays_run auto q far [] [] before after s t run h = ap (λ (x : State). x.world q) run.0
stays_run auto q far [] (u ∷ us) before after s t run h = absurd run
stays_run auto q far (c ∷ cs) [] before after s t run h = absurd run
stays_run auto q far (c ∷ cs) (u ∷ us) before after s t run h =
    stays_run auto q far cs us run.1 after run.0 t run.3 h ∙ stays_unit auto q far c.label c.tree before run.1 u s run.0 run.2.is (falls_run auto cs us run.1 after run.0 t run.3 h)

pub diverted_run : (auto : UnpackOptions) (cs : List Candidate) (us : List AUnit) (before after : Held) (s t : State) → IsRun auto cs us before after s t → IsTrue t.honest → t.world diversions_path ≡ s.world diversions_path
diverted_run auto cs us before after s t run h = stays_run auto diversions_path diversions_far cs us before after s t run h

pub diverted_spare_run : (auto : UnpackOptions) (cs : List Candidate) (us : List AUnit) (before after : Held) (s t : State) → IsRun auto cs us before after s t → IsTrue t.honest → t.world (temporary diversions_path) ≡ s.world (temporary diversions_path)
diverted_spare_run auto cs us before after s t run h = stays_run auto (temporary diversions_path) diversions_spare_far cs us before after s t run h

-- the entries that are held are those of the file

table_by : (p : Package) (decision : Checked) (before after : Held) (u : AUnit) (s t : State) → IsUnitBy p decision before after u s t → IsTrue t.honest → HasDiversions s.world before.ways.entries → HasDiversions s.world after.ways.entries
table_by p (Refused rule) before after u s t is h has = subst (λ (x : Held). HasDiversions s.world x.ways.entries) (sym is.held) has
table_by p (Planned beside) before after u s t is h has =
    let whole = is.unpacked in
    let leaves = behind_leaves [] is.unwinding (displacing_by p beside before.lists) is.displaced is.failed (held_with after.ways whole.records whole.lists) after whole.m t whole.between u.calls.items whole.behind in
    table_of s.world before.ways after.ways (whole.unpacked.file (leaves.falls h)) has

table_unit : (auto : UnpackOptions) (label : List ℕ) (tree : Result Package TreeFault) (before after : Held) (u : AUnit) (s t : State) → IsUnitOf auto label tree before after u s t → IsTrue t.honest → HasDiversions s.world before.ways.entries → HasDiversions t.world after.ways.entries
table_unit auto label (Err fault) before after u s t is h has =
    subst (λ (l : List Diversion). HasDiversions t.world l) (sym (ap (λ (x : Held). x.ways.entries) is.held)) (subst (λ (w : World). HasDiversions w before.ways.entries) (sym (is.world h)) has)
table_unit auto label (Ok p) before after u s t (ways, read, is) h has =
    let one = unit_alike auto p (with_ways before ways) after u s t is in
    subst (λ (n : Option Node). HasEntries n after.ways.entries) (sym (stays_by diversions_path diversions_far one.alike one.decision (with_ways before ways) after u s t one.unit h))
    (table_by one.alike one.decision (with_ways before ways) after u s t one.unit h (read_entries p before ways s.world (read h)))

pub table_run : (auto : UnpackOptions) (cs : List Candidate) (us : List AUnit) (before after : Held) (s t : State) → IsRun auto cs us before after s t → IsTrue t.honest → HasDiversions s.world before.ways.entries → HasDiversions t.world after.ways.entries
table_run auto [] [] before after s t run h has =
    subst (λ (x : Held). HasDiversions t.world x.ways.entries) (sym run.1) (subst (λ (x : State). HasDiversions x.world before.ways.entries) (sym run.0) has)
table_run auto [] (u ∷ us) before after s t run h has = absurd run
table_run auto (c ∷ cs) [] before after s t run h has = absurd run
table_run auto (c ∷ cs) (u ∷ us) before after s t run h has =
    table_run auto cs us run.1 after run.0 t run.3 h (table_unit auto c.label c.tree before run.1 u s run.0 run.2.is (falls_run auto cs us run.1 after run.0 t run.3 h) has)
