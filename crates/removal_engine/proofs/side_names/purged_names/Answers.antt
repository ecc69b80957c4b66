use Rattle.std.proofs.Common.{sym, subst, ap, [], List, ◌<◌, ◌≤◌, ◌≡◌, length, get_or, ◌∙◌}
use Rattle.std.specs.List.{flat_map}
use Rattle.std.proofs.lemmas.List.{take_all}
use Rattle.diversions.specs.Ways.{place}
use Rattle.status_records.specs.declared.entries.ConffileEntry.{ConffileEntry}
use Rattle.listed_files.specs.Concluding.{AreElsewhere}
use Rattle.removal_engine.specs.Names.{side_names_at}
use Rattle.removal_engine.proofs.Chosen.{flat_more}
use Rattle.removal_engine.proofs.Elsewhere.{purged_elsewhere}
use Rattle.removal_engine.proofs.side_names.purged_names.Goals as goal

pub loop-conffile-preserved : goal.loop-conffile-preserved
loop-conffile-preserved c =
    let r = c.args.entry.now in
    let i = c.loop-conffile.conffile-index in
    let e = c.conffile-item.result in
    let value = c.as_slice-conffile-items.ensures in
    let lt : i < length r.conffiles = subst (λ (l : List ConffileEntry). i < length l) value c.loop-conffile-test.true in
    let at : e ≡ get_or r.conffiles i e = c.conffile-item.is ∙ ap (λ (l : List ConffileEntry). get_or l i e) value in
    flat_more (λ (x : ConffileEntry). side_names_at c.args.diversions.now.ways c.args.lists.now.lists r.name (place c.args.diversions.now.ways r.name x.path)) r.conffiles i e [] _ _ lt at c.loop-conffile.invariant c.in_ok-push_side_names.ensures

pub returns-clause-elsewhere : goal.returns-clause-elsewhere
returns-clause-elsewhere c =
    let r = c.args.entry.now in
    let i = c.loop-conffile.conffile-index in
    let f = λ (x : ConffileEntry). side_names_at c.args.diversions.now.ways c.args.lists.now.lists r.name (place c.args.diversions.now.ways r.name x.path) in
    let whole = take_all i r.conffiles (subst (λ (l : List ConffileEntry). length l ≤ i) c.as_slice-conffile-items.ensures c.loop-conffile-test.false) in
    subst AreElsewhere (sym (c.loop-conffile.invariant ∙ ap (flat_map f) whole)) (purged_elsewhere c.args.diversions.now.ways c.args.lists.now.lists r)
