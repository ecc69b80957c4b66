use Rattle.std.proofs.Common.{◌≡◌, ◌∙◌, ◌<◌, ◌+◌, ℕ, List, [], ◌∷◌, Bor, length, map, take, get_or, sym, ap}
use Rattle.std.proofs.lemmas.List.{map-append, take_all, take_more}
use Rattle.record_changes.specs.Activated.{with_name, with_names}
use Rattle.record_changes.proofs.Names.{with_more}
use Rattle.record_changes.proofs.changed.with_names.Goals as goal

abbrev texts : List (Bor (List ℕ)) → List (List ℕ)
texts items = map (λ w. w.now) items

-- those before it, and it
one_more : (text : List ℕ) (items : List (Bor (List ℕ))) (i : ℕ) (d : Bor (List ℕ)) (old new : List ℕ) → i < length items → old ≡ with_names text (texts (take i items)) → new ≡ with_name old (get_or items i d).now → new ≡ with_names text (texts (take (i + 1) items))
one_more text items i d old new lt before is =
    is ∙ ap (λ (l : List ℕ). with_name l (get_or items i d).now) before ∙ sym (with_more (texts (take i items)) text (get_or items i d).now)
    ∙ ap (with_names text) (sym (ap texts (take_more items i d lt) ∙ map-append (λ (w : Bor (List ℕ)). w.now) (take i items) (get_or items i d ∷ [])))

pub loop-word-init : goal.loop-word-init
loop-word-init c = c.in_ok-all.ensures.items

pub loop-word-preserved : goal.loop-word-preserved
loop-word-preserved c = one_more c.args.text.now c.deref-word-items.result.now c.loop-word.word-index _ c.loop-word.all.items c.add_name.new.text.items c.loop-word-test.true c.loop-word.invariant c.in_ok-add_name.ensures

pub returns : goal.returns
returns c =
    c.loop-word.invariant ∙ ap (λ l. with_names c.args.text.now (texts l)) (take_all c.loop-word.word-index c.deref-word-items.result.now c.loop-word-test.false ∙ c.deref-word-items.ensures.value)
    ∙ ap (with_names c.args.text.now) c.in_ok-words.ensures
