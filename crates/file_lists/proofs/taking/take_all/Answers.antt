use Rattle.std.proofs.Common.{◌≡◌, ◌∙◌, ℕ, List, Some, refl, sym, ap, subst, take, arith, Contains, rules}
use Rattle.std.specs.List.{fold}
use Rattle.std.proofs.lemmas.List.{take_all}
use Rattle.host_core.specs.Paths.{Path}
use Rattle.host_core.proofs.Moments.{silent_then, since_now}
use Rattle.administration.specs.Files.{IsReplaced}
use Rattle.administration.specs.Places.{list_path}
use Rattle.administration.proofs.Within.{taken_more}
use Rattle.file_lists.specs.declared.paths.PackageList.{PackageList}
use Rattle.file_lists.specs.Taking.{left_file, IsTaking}
use Rattle.file_lists.specs.Writing.{list_file, without_places}
use Rattle.file_lists.proofs.Indexes.{each_more}
use Rattle.file_lists.proofs.TakingAll.{fold_last, lefts_step, ready_now, since_more, since_start_if, taken_step, taking_start}
use Rattle.file_lists.proofs.taking.take_all.Goals as goal

pub loop-name-init : goal.loop-name-init
loop-name-init g c =
    let s = g.H.Host.state c.args.host.now in
    record {
      silent = search rules;
      counts = search rules;
      since = since_start_if (IsTaking c.args.diversions.now.ways c.args.places.now c.args.from.now c.args.table.now s.world) s (λ h. taking_start c.args.diversions.now.ways c.args.places.now c.args.from.now c.args.table.now s.world (c.requires.ready h));
      taken = λ h name has. absurd (omega (arith, has.1));
      table = refl;
      indexed = c.requires.indexed;
      lefts = λ name. refl;
    }

pub take_paths-requires-clause-ready : goal.take_paths-requires-clause-ready
take_paths-requires-clause-ready g c = λ h.
    let inv = c.loop-name.invariant in
    let a = g.H.Host.state c.args.host.now in
    let b = g.H.Host.state c.loop-name.host in
    let has : Contains c.args.from.now c.name-item.result = (c.loop-name.name-index, c.loop-name-test.true, sym c.name-item.is) in
    ready_now c.args.diversions.now.ways c.args.places.now c.args.from.now c.args.table.now a.world b.world c.name-item.result has (c.requires.ready (inv.silent.honest h) c.name-item.result has) (since_now _ a b inv.since h)

pub returns-in_err-take_paths-clause-any_moment : goal.returns-in_err-take_paths-clause-any_moment
returns-in_err-take_paths-clause-any_moment g c =
    let inv = c.loop-name.invariant in
    let has : Contains c.args.from.now c.name-item.result = (c.loop-name.name-index, c.loop-name-test.true, sym c.name-item.is) in
    since_more c.args.diversions.now.ways c.args.places.now c.args.from.now c.args.table.now c.loop-name.table (g.H.Host.state c.args.host.now) (g.H.Host.state c.loop-name.host) (g.H.Host.state c.take_paths.new.host) c.name-item.result has (inv.lefts c.name-item.result) inv.since c.take_paths.ensures.any_moment

pub loop-name-preserved : goal.loop-name-preserved
loop-name-preserved g c =
    let inv = c.loop-name.invariant in
    let entries = c.args.diversions.now.ways in
    let places = c.args.places.now in
    let had = c.args.table.now in
    let from = c.args.from.now in
    let i = c.loop-name.name-index in
    let name = c.name-item.result in
    let mid = g.H.Host.state c.loop-name.host in
    let new = g.H.Host.state c.take_paths.new.host in
    let has : Contains from name = (i, c.loop-name-test.true, sym c.name-item.is) in
    record {
      silent = silent_then _ _ _ inv.silent c.take_paths.ensures.silent;
      counts = search rules;
      since = since_more entries places from had c.loop-name.table (g.H.Host.state c.args.host.now) mid new name has (inv.lefts name) inv.since c.take_paths.ensures.any_moment;
      taken = λ h.
          (let replaced : IsReplaced (list_path name) (left_file entries places had name) mid.world new.world = subst (λ (ps : List Path). IsReplaced (list_path name) (list_file ps) mid.world new.world) (inv.lefts name) (c.in_ok-take_paths.ensures.replaced h) in
          each_more (λ (n : List ℕ). new.world (list_path n) ≡ Some (left_file entries places had n)) from i name c.loop-name-test.true c.name-item.is
          (λ n there. taken_step entries places had mid.world new.world name n (inv.taken (c.take_paths.ensures.silent.honest h) n there) replaced) replaced.target);
      table = c.in_ok-take_paths.ensures.table ∙ ap (without_places entries places name) inv.table
          ∙ sym (fold_last (λ (ls : List PackageList) (n : List ℕ). without_places entries places n ls) had (take i from) name) ∙ ap (fold (λ (ls : List PackageList) (n : List ℕ). without_places entries places n ls) had) (sym (taken_more from i name c.loop-name-test.true c.name-item.is));
      indexed = c.take_paths.ensures.indexed;
      lefts = lefts_step entries places had c.loop-name.table c.take_paths.new.table name inv.lefts c.in_ok-take_paths.ensures.table;
    }

pub returns-clause-taken : goal.returns-clause-taken
returns-clause-taken g c = λ h.
    let inv = c.loop-name.invariant in
    record {
      lists = λ name has. inv.taken h name (subst (λ (l : List Path). Contains l name) (sym (take_all c.loop-name.name-index c.args.from.now (omega (arith, c.loop-name-test.false)))) has);
      rest = (since_now _ (g.H.Host.state c.args.host.now) (g.H.Host.state c.loop-name.host) inv.since h).rest;
    }
