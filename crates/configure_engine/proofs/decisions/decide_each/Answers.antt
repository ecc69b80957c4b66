use Rattle.std.proofs.Common.{rules, ◌≡◌, ◌<◌, ◌+◌, ◌++◌, ◌∷◌, [], List, length, map, take, sym, ap, subst, ◌∙◌}
use Rattle.std.specs.List.{AllZip}
use Rattle.std.proofs.lemmas.List.{map-append, take_more}
use Rattle.host_core.specs.Paths.{Path}
use Rattle.host_core.specs.World.{World}
use Rattle.host_core.proofs.Moments.{reads_then, silent_then}
use Rattle.conffiles.specs.declared.entries.Settled.{Settled}
use Rattle.configure_engine.specs.Decided.{decided_paths, IsDecidedOf}
use Rattle.configure_engine.specs.Waiting.{place_of}
use Rattle.configure_engine.proofs.Deciding.{zip_more}
use Rattle.configure_engine.proofs.decisions.decide_each.Goals as goal

pub returns-in_err-decide_one-clause-looks : goal.returns-in_err-decide_one-clause-looks
returns-in_err-decide_one-clause-looks g c = record {
  found = search rules;
  reads = reads_then _ _ _ c.loop-path.invariant.reads c.decide_one.ensures.looks.reads;
  silent = search rules;
  counts = search rules;
}

pub returns-in_err-push-clause-looks : goal.returns-in_err-push-clause-looks
returns-in_err-push-clause-looks g c = record {
  found = search rules;
  reads = reads_then _ _ _ c.loop-path.invariant.reads c.decide_one.ensures.looks.reads;
  silent = search rules;
  counts = search rules;
}

pub loop-path-preserved : goal.loop-path-preserved
loop-path-preserved g c =
    let before = c.loop-path.invariant in
    let r = c.args.entry.now in
    let policy = c.args.policy in
    let ways = c.args.diversions.now.ways in
    let w = (g.H.Host.state c.args.host.now).world in
    let e = c.in_ok-decide_one.field-0 in
    let i = c.loop-path.path-index in
    let paths = c.args.paths.now in
    let x = c.path-item.result in
    let lt : i < length paths = c.loop-path-test.true in
    let front : take (i + 1) paths ≡ take i paths ++ x ∷ [] = take_more paths i x lt ∙ ap (λ (p : Path). take i paths ++ p ∷ []) (sym c.path-item.is) in
    record {
      places = ap decided_paths c.in_ok-push.ensures.items ∙ map-append (λ (s : Settled). s.path) c.loop-path.list.items (e ∷ [])
          ∙ ap (λ (l : List Path). l ++ e.path ∷ []) before.places ∙ ap (λ (p : Path). map (place_of ways) (take i paths) ++ p ∷ []) c.in_ok-decide_one.ensures.place
          ∙ sym (map-append (place_of ways) (take i paths) (x ∷ [])) ∙ ap (map (place_of ways)) (sym front);
      each = λ h. subst (AllZip (IsDecidedOf r policy ways w) (take (i + 1) paths)) (sym c.in_ok-push.ensures.items)
          (subst (λ (l : List Path). AllZip (IsDecidedOf r policy ways w) l (c.loop-path.list.items ++ e ∷ [])) (sym front)
          (zip_more (IsDecidedOf r policy ways w) (take i paths) c.loop-path.list.items x e (before.each (c.decide_one.ensures.looks.silent.honest h))
          (subst (λ (v : World). IsDecidedOf r policy ways v x e) before.reads.world (c.in_ok-decide_one.ensures.looks.found h))));
      reads = reads_then _ _ _ before.reads c.decide_one.ensures.looks.reads;
      silent = silent_then _ _ _ before.silent c.decide_one.ensures.looks.silent;
      counts = search rules;
    }
