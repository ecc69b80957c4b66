use Rattle.std.proofs.Common.{◌≡◌, ◌<◌, false, List, Option, ◌++◌, ap, arith, refl, rules, subst, sym, ◌∙◌}
use Rattle.std.proofs.lemmas.Bool.{true≢false}
use Rattle.std.specs.Prelude.{IfSome}
use Rattle.host_core.specs.Paths.{Path}
use Rattle.host_core.specs.World.{World}
use Rattle.host_core.specs.Host.{denials}
use Rattle.administration.specs.Places.{list_path}
use Rattle.file_check.proofs.WorkLists.{named_still}
use Rattle.file_lists.specs.Writing.{list_file}
use Rattle.file_check.proofs.Permuting.{each_permuted, none_told, rearranged}
use Rattle.package_files.specs.Names.{IsNamed}
use Rattle.listed_files.specs.Listing.{HasListed, HasTurnedBack}
use Rattle.unpack_rows.specs.EndStates.{own_name}
use Rattle.undo_rows.specs.Place.{is_declined}
use Rattle.undo_rows.specs.declared.fall.StepFault.{StepFault}
use Rattle.file_check.specs.Clashes.{owning}
use Rattle.unpack_steps.specs.FileMoves.{IsPathOf}
use Rattle.unpack_steps.proofs.Answering.{looking_moments, row_written, step_fault, stopped_by, where_none, where_some, writing_moments}
use Rattle.unpack_steps.proofs.Declining.{looked_only}
use Rattle.unpack_steps.proofs.Rearranged.{path_rearranged, places_same}
use Rattle.unpack_steps.proofs.file_moves.check_and_write.Goals as goal

pub returns-in_err-found-clause-named : goal.returns-in_err-found-clause-named
returns-in_err-found-clause-named g c =
    named_still c.args.works.now.items c.check_works.new.works.items c.check_works.ensures.same_works c.requires.named

pub returns-in_err-found-clause-any_moment : goal.returns-in_err-found-clause-any_moment
returns-in_err-found-clause-any_moment g c =
    looking_moments (list_path (own_name c.args.rows.now.found c.args.rows.now.incoming)) (list_file c.args.rows.now.union) (list_file c.args.rows.now.listed) c.args.works.now.items (g.H.Host.state c.args.host.now) (g.H.Host.state c.check_works.new.host) c.check_works.ensures.looks.reads

pub returns-in-Some-clause-named : goal.returns-in-Some-clause-named
returns-in-Some-clause-named g c =
    named_still c.args.works.now.items c.check_works.new.works.items c.check_works.ensures.same_works c.requires.named

pub returns-in-Some-clause-any_moment : goal.returns-in-Some-clause-any_moment
returns-in-Some-clause-any_moment g c =
    looking_moments (list_path (own_name c.args.rows.now.found c.args.rows.now.incoming)) (list_file c.args.rows.now.union) (list_file c.args.rows.now.listed) c.args.works.now.items (g.H.Host.state c.args.host.now) (g.H.Host.state c.check_works.new.host) c.check_works.ensures.looks.reads

pub returns-in-Some-clause-judged : goal.returns-in-Some-clause-judged
returns-in-Some-clause-judged g c =
    λ h.
    let found = subst (λ (o : Option StepFault). is_declined o ≡ false) c.in-Some.is c.in_ok-found.ensures.undeclined in
    let o = owning c.args.diversions.now.ways c.args.lists.now.lists c.args.rows.now.yields (own_name c.args.rows.now.found c.args.rows.now.incoming) in
    step_fault o c.args.works.now.items (g.H.Host.state c.args.host.now).world c.in-Some.fault found (where_some _ _ _ c.in-Some.fault c.in-Some.is (c.in_ok-found.ensures.looks.found h))

pub returns-in-Some-clause-written : goal.returns-in-Some-clause-written
returns-in-Some-clause-written g c =
    λ h.
    let found = subst (λ (o : Option StepFault). is_declined o ≡ false) c.in-Some.is c.in_ok-found.ensures.undeclined in
    stopped_by _ _ _ c.in-Some.fault found c.check_works.ensures.looks.reads.world

pub returns-in-Some-clause-order : goal.returns-in-Some-clause-order
returns-in-Some-clause-order g c =
    let found = subst (λ (o : Option StepFault). is_declined o ≡ false) c.in-Some.is c.in_ok-found.ensures.undeclined in
    stopped_by _ _ _ c.in-Some.fault found tt

pub returns-in-Some-clause-lists : goal.returns-in-Some-clause-lists
returns-in-Some-clause-lists g c =
    let found = subst (λ (o : Option StepFault). is_declined o ≡ false) c.in-Some.is c.in_ok-found.ensures.undeclined in
    stopped_by _ _ _ c.in-Some.fault found refl

pub returns-in-Some-clause-places : goal.returns-in-Some-clause-places
returns-in-Some-clause-places g c =
    let found = subst (λ (o : Option StepFault). is_declined o ≡ false) c.in-Some.is c.in_ok-found.ensures.undeclined in
    stopped_by _ _ _ c.in-Some.fault found refl

pub returns-in-Some-clause-denied : goal.returns-in-Some-clause-denied
returns-in-Some-clause-denied g c =
    let found = subst (λ (o : Option StepFault). is_declined o ≡ false) c.in-Some.is c.in_ok-found.ensures.undeclined in
    λ is. absurd (true≢false (sym is ∙ found))

pub write_checked-requires-clause-named : goal.write_checked-requires-clause-named
write_checked-requires-clause-named g c =
    named_still c.args.works.now.items c.check_works.new.works.items c.check_works.ensures.same_works c.requires.named

pub returns-in_err-path-clause-works : goal.returns-in_err-path-clause-works
returns-in_err-path-clause-works g c =
    rearranged c.args.works.now.items c.check_works.new.works.items c.write_checked.new.works.items c.check_works.ensures.same_works c.write_checked.ensures.works

pub returns-in_err-path-clause-named : goal.returns-in_err-path-clause-named
returns-in_err-path-clause-named g c =
    each_permuted IsNamed c.check_works.new.works.items c.write_checked.new.works.items c.write_checked.ensures.works
    (named_still c.args.works.now.items c.check_works.new.works.items c.check_works.ensures.same_works c.requires.named)

pub returns-in_err-path-clause-any_moment : goal.returns-in_err-path-clause-any_moment
returns-in_err-path-clause-any_moment g c =
    writing_moments (list_path (own_name c.args.rows.now.found c.args.rows.now.incoming)) (list_file c.args.rows.now.union) (list_file c.args.rows.now.listed) c.args.works.now.items (g.H.Host.state c.args.host.now) (g.H.Host.state c.check_works.new.host) c.check_works.ensures.looks.reads c.write_checked.new.works.items (g.H.Host.state c.write_checked.new.host)
    (rearranged c.args.works.now.items c.check_works.new.works.items c.write_checked.new.works.items c.check_works.ensures.same_works c.write_checked.ensures.works) c.write_checked.ensures.any_moment

pub returns-in_default-2-clause-works : goal.returns-in_default-2-clause-works
returns-in_default-2-clause-works g c =
    rearranged c.args.works.now.items c.check_works.new.works.items c.write_checked.new.works.items c.check_works.ensures.same_works c.write_checked.ensures.works

pub returns-in_default-2-clause-named : goal.returns-in_default-2-clause-named
returns-in_default-2-clause-named g c =
    each_permuted IsNamed c.check_works.new.works.items c.write_checked.new.works.items c.write_checked.ensures.works
    (named_still c.args.works.now.items c.check_works.new.works.items c.check_works.ensures.same_works c.requires.named)

pub returns-in_default-2-clause-any_moment : goal.returns-in_default-2-clause-any_moment
returns-in_default-2-clause-any_moment g c =
    writing_moments (list_path (own_name c.args.rows.now.found c.args.rows.now.incoming)) (list_file c.args.rows.now.union) (list_file c.args.rows.now.listed) c.args.works.now.items (g.H.Host.state c.args.host.now) (g.H.Host.state c.check_works.new.host) c.check_works.ensures.looks.reads c.write_checked.new.works.items (g.H.Host.state c.write_checked.new.host)
    (rearranged c.args.works.now.items c.check_works.new.works.items c.write_checked.new.works.items c.check_works.ensures.same_works c.write_checked.ensures.works) c.write_checked.ensures.any_moment

pub returns-in_default-2-clause-judged : goal.returns-in_default-2-clause-judged
returns-in_default-2-clause-judged g c =
    λ h. where_none _ _ _ c.in_default.is (c.in_ok-found.ensures.looks.found (c.write_checked.ensures.silent.honest h))

pub returns-in_default-2-clause-written : goal.returns-in_default-2-clause-written
returns-in_default-2-clause-written g c =
    λ h.
    let v = (g.H.Host.state c.args.host.now).world in
    let end = (g.H.Host.state c.write_checked.new.host).world in
    let name = own_name c.args.rows.now.found c.args.rows.now.incoming in
    let node = list_file c.args.rows.now.union in
    let h1 = c.write_checked.ensures.silent.honest h in
    row_written name node c.check_works.new.works.items c.write_checked.new.works.items v end
    (named_still c.args.works.now.items c.check_works.new.works.items c.check_works.ensures.same_works c.requires.named) c.write_checked.ensures.works
    (none_told c.in_ok-found.found _ c.in_default.is (c.in_ok-found.ensures.free h1)) (none_told c.in_ok-found.found _ c.in_default.is (c.in_ok-found.ensures.seen h1))
    (subst (λ (w : World). HasListed (list_path name) node c.write_checked.new.works.items w end) c.check_works.ensures.looks.reads.world (where_none _ _ _ c.in_default-2.is (c.in_ok-path.ensures.listed h)))

pub returns-in_default-2-clause-order : goal.returns-in_default-2-clause-order
returns-in_default-2-clause-order g c =
    c.in_ok-path.ensures.order

pub returns-in_default-2-clause-lists : goal.returns-in_default-2-clause-lists
returns-in_default-2-clause-lists g c =
    where_none _ _ _ c.in_default-2.is c.in_ok-path.ensures.lists

pub returns-in_default-2-clause-places : goal.returns-in_default-2-clause-places
returns-in_default-2-clause-places g c =
    where_none _ _ _ c.in_default-2.is c.in_ok-path.ensures.places ∙ ap (λ (l : List Path). c.args.places.now ++ l) (places_same c.args.works.now.items c.check_works.new.works.items c.check_works.ensures.same_works)

pub returns-clause-works : goal.returns-clause-works
returns-clause-works g c =
    rearranged c.args.works.now.items c.check_works.new.works.items c.write_checked.new.works.items c.check_works.ensures.same_works c.write_checked.ensures.works

pub returns-clause-named : goal.returns-clause-named
returns-clause-named g c =
    each_permuted IsNamed c.check_works.new.works.items c.write_checked.new.works.items c.write_checked.ensures.works
    (named_still c.args.works.now.items c.check_works.new.works.items c.check_works.ensures.same_works c.requires.named)

pub returns-clause-any_moment : goal.returns-clause-any_moment
returns-clause-any_moment g c =
    writing_moments (list_path (own_name c.args.rows.now.found c.args.rows.now.incoming)) (list_file c.args.rows.now.union) (list_file c.args.rows.now.listed) c.args.works.now.items (g.H.Host.state c.args.host.now) (g.H.Host.state c.check_works.new.host) c.check_works.ensures.looks.reads c.write_checked.new.works.items (g.H.Host.state c.write_checked.new.host)
    (rearranged c.args.works.now.items c.check_works.new.works.items c.write_checked.new.works.items c.check_works.ensures.same_works c.write_checked.ensures.works) c.write_checked.ensures.any_moment

pub returns-clause-judged : goal.returns-clause-judged
returns-clause-judged g c =
    λ h.
    let moved = rearranged c.args.works.now.items c.check_works.new.works.items c.write_checked.new.works.items c.check_works.ensures.same_works c.write_checked.ensures.works in
    let told = subst (λ (o : Option Path). IfSome o (IsPathOf c.write_checked.new.works.items)) c.in-Some-2.is c.in_ok-path.ensures.path in
    (where_none _ _ _ c.in_default.is (c.in_ok-found.ensures.looks.found (c.write_checked.ensures.silent.honest h)), path_rearranged c.args.works.now.items c.write_checked.new.works.items c.in-Some-2.path moved told)

pub returns-clause-written : goal.returns-clause-written
returns-clause-written g c =
    λ h.
    let end = (g.H.Host.state c.write_checked.new.host).world in
    let name = own_name c.args.rows.now.found c.args.rows.now.incoming in
    subst (λ (w : World). HasTurnedBack (list_path name) (list_file c.args.rows.now.union) (list_file c.args.rows.now.listed) c.write_checked.new.works.items w end) c.check_works.ensures.looks.reads.world
    (where_some _ _ _ c.in-Some-2.path c.in-Some-2.is (c.in_ok-path.ensures.listed h))

pub returns-clause-order : goal.returns-clause-order
returns-clause-order g c =
    c.in_ok-path.ensures.order

pub returns-clause-lists : goal.returns-clause-lists
returns-clause-lists g c =
    where_some _ _ _ c.in-Some-2.path c.in-Some-2.is c.in_ok-path.ensures.lists

pub returns-clause-places : goal.returns-clause-places
returns-clause-places g c =
    where_some _ _ _ c.in-Some-2.path c.in-Some-2.is c.in_ok-path.ensures.places

pub returns-clause-denied : goal.returns-clause-denied
returns-clause-denied g c =
    λ is.
    let same = c.in_ok-found.ensures.looks.counts in
    let told = subst (λ (o : Option Path). IfSome o (λ path. denials (g.H.Host.state c.check_works.new.host) < denials (g.H.Host.state c.write_checked.new.host))) c.in-Some-2.is c.in_ok-path.ensures.denied in
    omega (arith, same.denials, told)

pub returns-in_err-found-clause-twice : goal.returns-in_err-found-clause-twice
returns-in_err-found-clause-twice g c =
    looked_only (list_path (own_name c.args.rows.now.found c.args.rows.now.incoming)) (list_file c.args.rows.now.union) c.from_residual.result (g.H.Host.state c.args.host.now) (g.H.Host.state c.check_works.new.host)
    c.check_works.ensures.looks.reads (search rules)
