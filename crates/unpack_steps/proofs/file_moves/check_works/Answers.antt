use Rattle.std.proofs.Common.{◌≡◌, List, sym, subst, rules}
use Rattle.std.specs.Prelude.{IfOk, IfNone, IfSome, MatchOption}
use Rattle.std.specs.List.{IsDistinct}
use Rattle.host_core.specs.Host.{Tells}
use Rattle.file_check.specs.Clashes.{Owning, owning}
use Rattle.file_check.specs.Ready.{IsSameBut, is_one_place}
use Rattle.file_check.specs.Sound.{AllSound, IsFirstFault}
use Rattle.file_check.proofs.Permuting.{written_back}
use Rattle.package_files.specs.declared.work.Work.{Work}
use Rattle.package_files.specs.Files.{Each}
use Rattle.package_files.specs.Free.{IsFreeIn, IsSeen}
use Rattle.package_files.specs.Names.{IsHomed}
use Rattle.unpack_rows.specs.EndStates.{own_name}
use Rattle.unpack_steps.proofs.Answering.{judged_by}
use Rattle.unpack_steps.proofs.file_moves.check_works.Goals as goal

pub returns-clause-same_works : goal.returns-clause-same_works
returns-clause-same_works g c =
    let same = subst (λ (xs : List Work). IsSameBut xs c.check.new.works) c.as_mut_slice.ensures.value c.check.ensures.same_works in
    let back = written_back c.args.works.now.len c.args.works.now.items c.check.new.works (search rules) same in
    subst (IsSameBut c.args.works.now.items) (sym back) same

pub returns-clause-seen : goal.returns-clause-seen
returns-clause-seen g c =
    let same = subst (λ (xs : List Work). IsSameBut xs c.check.new.works) c.as_mut_slice.ensures.value c.check.ensures.same_works in
    let back = written_back c.args.works.now.len c.args.works.now.items c.check.new.works (search rules) same in
    subst (λ (l : List Work). Tells c.check.result (λ found w. IfNone found (Each (IsSeen w) l)) (g.H.Host.state c.args.host.now) (g.H.Host.state c.check.new.host)) (sym back) c.check.ensures.seen

pub returns-clause-free : goal.returns-clause-free
returns-clause-free g c =
    let same = subst (λ (xs : List Work). IsSameBut xs c.check.new.works) c.as_mut_slice.ensures.value c.check.ensures.same_works in
    let back = written_back c.args.works.now.len c.args.works.now.items c.check.new.works (search rules) same in
    subst (λ (l : List Work). Tells c.check.result (λ found w. IfNone found (Each (IsFreeIn w) l)) (g.H.Host.state c.args.host.now) (g.H.Host.state c.check.new.host)) (sym back) c.check.ensures.free

pub returns-clause-homed : goal.returns-clause-homed
returns-clause-homed g c =
    let same = subst (λ (xs : List Work). IsSameBut xs c.check.new.works) c.as_mut_slice.ensures.value c.check.ensures.same_works in
    let back = written_back c.args.works.now.len c.args.works.now.items c.check.new.works (search rules) same in
    subst (λ (l : List Work). Tells c.check.result (λ found w. IfNone found (Each (IsHomed l w) l)) (g.H.Host.state c.args.host.now) (g.H.Host.state c.check.new.host)) (sym back) c.check.ensures.homed

pub returns-clause-distinct : goal.returns-clause-distinct
returns-clause-distinct g c =
    let same = subst (λ (xs : List Work). IsSameBut xs c.check.new.works) c.as_mut_slice.ensures.value c.check.ensures.same_works in
    let back = written_back c.args.works.now.len c.args.works.now.items c.check.new.works (search rules) same in
    subst (λ (l : List Work). IfOk c.check.result (λ found. IfNone found (IsDistinct is_one_place l))) (sym back) c.check.ensures.distinct

pub returns-clause-looks : goal.returns-clause-looks
returns-clause-looks g c = record {
  found = λ h.
      let entries = c.args.diversions.now.ways in
      let lists = c.args.lists.now.lists in
      let w = (g.H.Host.state c.args.host.now).world in
      let xs = c.args.works.now.items in
      let same = subst (λ (ys : List Work). IsSameBut ys c.check.new.works) c.as_mut_slice.ensures.value c.check.ensures.same_works in
      let is : owning entries lists c.as_slice.result.now c.name.result.now ≡ owning entries lists c.args.rows.now.yields (own_name c.args.rows.now.found c.args.rows.now.incoming) = λ i. owning entries lists (c.as_slice.ensures i) (c.name.ensures i) in
      subst (λ (o : Owning). IfOk c.check.result (λ found. MatchOption found (AllSound o xs w) (IsFirstFault o xs w))) is
      (judged_by (owning entries lists c.as_slice.result.now c.name.result.now) w xs c.check.new.works c.check.result same (c.check.ensures.sound h)
      (subst (λ (ys : List Work). IfOk c.check.result (λ found. IfSome found (IsFirstFault (owning entries lists c.as_slice.result.now c.name.result.now) ys w))) c.as_mut_slice.ensures.value (c.check.ensures.looks.found h)));
  reads = search rules;
  silent = search rules;
  counts = search rules;
}
