-- One of a list more.
use Rattle.std.proofs.Common.{◌≡◌, ◌<◌, ◌+◌, ◌∙◌, ℕ, Bool, true, false, cond, List, [], ◌∷◌, ◌++◌, filter, length, take, get_or, sym, ap, append_assoc}
use Rattle.std.proofs.lemmas.List.{append-nil, take_more}
use Rattle.std.proofs.lemmas.List.Elements.{filter_more}

module _ {X : Type 0} (xs : List X) (i : ℕ) (x : X) (lt : i < length xs) (at : x ≡ get_or xs i x) where
  pub appended_more : (old now new : List X) (y : X) → y ≡ x → now ≡ old ++ take i xs → new ≡ now ++ y ∷ [] → new ≡ old ++ take (i + 1) xs
  appended_more old now new y same amid pushed =
      pushed ∙ ap (λ (l : List X). l ++ y ∷ []) amid ∙ append_assoc old (take i xs) (y ∷ []) ∙ ap (λ (z : X). old ++ (take i xs ++ z ∷ [])) (same ∙ at) ∙ ap (λ (l : List X). old ++ l) (sym (take_more xs i x lt))

  pub kept_more : (test : X → Bool) (now new : List X) (y : X) → test x ≡ true → y ≡ x → now ≡ filter test (take i xs) → new ≡ now ++ y ∷ [] → new ≡ filter test (take (i + 1) xs)
  kept_more test now new y is same amid pushed =
      pushed ∙ ap (λ (l : List X). l ++ y ∷ []) amid ∙ ap (λ (z : X). filter test (take i xs) ++ z ∷ []) same
      ∙ sym (filter_more test xs i x lt ∙ ap (λ (y : X). filter test (take i xs) ++ cond (test y) (y ∷ []) []) (sym at) ∙ ap (λ (b : Bool). filter test (take i xs) ++ cond b (x ∷ []) []) is)

  pub gone_more : (test : X → Bool) (now : List X) → test x ≡ false → now ≡ filter test (take i xs) → now ≡ filter test (take (i + 1) xs)
  gone_more test now is amid =
      amid ∙ sym (append-nil (filter test (take i xs))) ∙ sym (filter_more test xs i x lt ∙ ap (λ (y : X). filter test (take i xs) ++ cond (test y) (y ∷ []) []) (sym at) ∙ ap (λ (b : Bool). filter test (take i xs) ++ cond b (x ∷ []) []) is)
