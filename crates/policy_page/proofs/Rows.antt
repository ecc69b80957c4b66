-- The calls of a row on the way forward, and what came of them.
use Rattle.std.proofs.Common.{◌≡◌, ◌≢◌, ℕ, Bool, true, false, List, [], ◌∷◌, ◌++◌, Some, None, map, refl, sym, ap, subst, ◌∙◌}
use Rattle.std.proofs.lemmas.List.{map-append}
use Rattle.host_core.specs.Events.{Ran}
use Rattle.host_core.specs.Outcome.{is_success}
use Rattle.host_core.specs.declared.call.Call.{Call}
use Rattle.undo_rows.specs.declared.rows.Row.{Row}
use Rattle.undo_rows.specs.declared.rows.Owner.TheVariants.{Package as OfPackage, Files}
use Rattle.undo_rows.specs.declared.fall.StepFault.{StepFault}
use Rattle.undo_rows.specs.declared.fall.Fall.{Fall}
use Rattle.undo_rows.specs.Transcript.{Goes, Tries}
use Rattle.undo_rows.specs.Transcripts.{Anyhow}
use Rattle.policy_page.specs.Answers.{Answer, Way, Outright, InItsPlace, answer_of, fails, goes, works}

-- these are the answers of calls that were made
abbrev pub Are : List Ran → List Answer → Type 0
Are ts answers = map answer_of ts ≡ answers

pub joined : (ts us : List Ran) (l r : List Answer) → Are ts l → Are us r → Are (ts ++ us) (l ++ r)
joined ts us l r p q = map-append answer_of ts us ∙ (λ i. p i ++ q i)

-- in two parts the calls are too
pub parted : (l r : List Answer) (ts : List Ran) → Are ts (l ++ r) → (front back : List Ran) × (ts ≡ front ++ back) × Are front l × Are back r
parted [] r ts are = ([], ts, refl, refl, are)
parted (a ∷ l) r [] are = cc
parted (a ∷ l) r (t ∷ ts) are =
    let first : answer_of t ≡ a = cc in
    let later : map answer_of ts ≡ l ++ r = cc in
    let rest = parted l r ts later in
    (t ∷ rest.0, rest.1, ap (λ x. t ∷ x) rest.2, (λ i. first i ∷ rest.3 i), rest.4)

pub of_none : (ts : List Ran) → Are ts [] → ts ≡ []
of_none [] are = refl
of_none (t ∷ ts) are = cc

-- one call that ended so
pub one : (t : Ran) (call : Call) (ok : Bool) → t.call ≡ call → is_success t.outcome ≡ ok → Are (t ∷ []) (record { call = call; succeeds = ok } ∷ [])
one t call ok c s = λ i. record { call = c i; succeeds = s i } ∷ []

pub of_one : (a : Answer) (ts : List Ran) → Are ts (a ∷ []) → (t : Ran) × (ts ≡ t ∷ []) × (t.call ≡ a.call) × (is_success t.outcome ≡ a.succeeds)
of_one a [] are = cc
of_one a (t ∷ []) are = let first : answer_of t ≡ a = cc in (t, refl, ap (λ x. x.call) first, ap (λ x. x.succeeds) first)
of_one a (t ∷ u ∷ ts) are = cc

-- a row of this package's, with another call in the place of one that fails
abbrev pub row_with : List ℕ → Call → Call → Call → Row
row_with name call other undo = record { owner = OfPackage name; forward = Some call; fallback = Some other; undo = Some undo }

-- and with none
abbrev pub row_alone : List ℕ → Call → Call → Row
row_alone name call undo = record { owner = OfPackage name; forward = Some call; fallback = None; undo = Some undo }

same : {a b : Call} → Some a ≡ Some b → b ≡ a
same e = cc

module _ (name : List ℕ) (call other undo : Call) where
  abbrev two : Row
  two = row_with name call other undo

  two_calls : two.owner ≢ Files
  two_calls = λ e. cc

  tried_with : (ts : List Ran) → Tries two ts true → (way : Way) × Are ts (goes call other way)
  tried_with ts (Tries.absent none) = cc
  tried_with ts (Tries.done t is good) = (Outright, one t call true (same is) good)
  tried_with ts (Tries.fell_back t u ok is bad in_place good) =
      (InItsPlace, joined (t ∷ []) (u ∷ []) _ _ (one t call false (same is) bad) (one u other true (same in_place) (sym good)))

  failed_with : (ts : List Ran) → Tries two ts false → Are ts (fails call ∷ fails other ∷ [])
  failed_with ts (Tries.failed t is bad none) = cc
  failed_with ts (Tries.fell_back t u ok is bad in_place worse) =
      joined (t ∷ []) (u ∷ []) _ _ (one t call false (same is) bad) (one u other false (same in_place) (sym worse))

  tries_with : (way : Way) (ts : List Ran) → Are ts (goes call other way) → Tries two ts true
  tries_with Outright ts are =
      let t = of_one (works call) ts are in
      subst (λ l. Tries two l true) (sym t.1) (Tries.done t.0 (ap Some (sym t.2)) t.3)
  tries_with InItsPlace ts are =
      let parts = parted (fails call ∷ []) (works other ∷ []) ts are in
      let t = of_one (fails call) parts.0 parts.3 in
      let u = of_one (works other) parts.1 parts.4 in
      subst (λ l. Tries two l true) (sym (parts.2 ∙ (λ i. t.1 i ++ u.1 i)))
      (Tries.fell_back t.0 u.0 true (ap Some (sym t.2)) t.3 (ap Some (sym u.2)) (sym u.3))

  pub went_with : (past ts : List Ran) → Goes Anyhow past two ts None → (way : Way) × Are ts (goes call other way)
  went_with past ts (Goes.wrote files none) = cc
  went_with past ts (Goes.succeeded t own tries) = tried_with ts tries

  pub fell_with : (past ts : List Ran) (fall : Fall) → Goes Anyhow past two ts (Some fall) → Are ts (fails call ∷ fails other ∷ []) × (fall.fault ≡ None)
  fell_with past ts fall (Goes.clashed fault f files is why) = cc
  fell_with past ts fall (Goes.failed t f own tries none) = (failed_with ts tries, none)

  pub goes_with : (past : List Ran) (way : Way) (ts : List Ran) → Are ts (goes call other way) → Goes Anyhow past two ts None
  goes_with past way ts are = Goes.succeeded ts two_calls (tries_with way ts are)

  pub falls_with : (past ts : List Ran) (n : ℕ) → Are ts (fails call ∷ fails other ∷ []) → Goes Anyhow past two ts (Some (record { row = n; fault = None }))
  falls_with past ts n are =
      let parts = parted (fails call ∷ []) (fails other ∷ []) ts are in
      let t = of_one (fails call) parts.0 parts.3 in
      let u = of_one (fails other) parts.1 parts.4 in
      subst (λ l. Goes Anyhow past two l (Some (record { row = n; fault = None }))) (sym (parts.2 ∙ (λ i. t.1 i ++ u.1 i)))
      (Goes.failed _ _ two_calls (Tries.fell_back t.0 u.0 false (ap Some (sym t.2)) t.3 (ap Some (sym u.2)) (sym u.3)) refl)

module _ (name : List ℕ) (call undo : Call) where
  abbrev alone : Row
  alone = row_alone name call undo

  alone_calls : alone.owner ≢ Files
  alone_calls = λ e. cc

  tried_alone : (ts : List Ran) → Tries alone ts true → Are ts (works call ∷ [])
  tried_alone ts (Tries.absent none) = cc
  tried_alone ts (Tries.done t is good) = one t call true (same is) good
  tried_alone ts (Tries.fell_back t u ok is bad in_place good) = cc

  failed_alone : (ts : List Ran) → Tries alone ts false → Are ts (fails call ∷ [])
  failed_alone ts (Tries.failed t is bad none) = one t call false (same is) bad
  failed_alone ts (Tries.fell_back t u ok is bad in_place worse) = cc

  pub went_alone : (past ts : List Ran) → Goes Anyhow past alone ts None → Are ts (works call ∷ [])
  went_alone past ts (Goes.wrote files none) = cc
  went_alone past ts (Goes.succeeded t own tries) = tried_alone ts tries

  pub fell_alone : (past ts : List Ran) (fall : Fall) → Goes Anyhow past alone ts (Some fall) → Are ts (fails call ∷ []) × (fall.fault ≡ None)
  fell_alone past ts fall (Goes.clashed fault f files is why) = cc
  fell_alone past ts fall (Goes.failed t f own tries none) = (failed_alone ts tries, none)

  pub goes_alone : (past ts : List Ran) → Are ts (works call ∷ []) → Goes Anyhow past alone ts None
  goes_alone past ts are =
      let t = of_one (works call) ts are in
      subst (λ l. Goes Anyhow past alone l None) (sym t.1) (Goes.succeeded _ alone_calls (Tries.done t.0 (ap Some (sym t.2)) t.3))

  pub falls_alone : (past ts : List Ran) (n : ℕ) → Are ts (fails call ∷ []) → Goes Anyhow past alone ts (Some (record { row = n; fault = None }))
  falls_alone past ts n are =
      let t = of_one (fails call) ts are in
      subst (λ l. Goes Anyhow past alone l (Some (record { row = n; fault = None }))) (sym t.1) (Goes.failed _ _ alone_calls (Tries.failed t.0 (ap Some (sym t.2)) t.3 refl) refl)

-- the files have no call
abbrev pub row_of_files : Row
row_of_files = record { owner = Files; forward = None; fallback = None; undo = None }

pub went_files : (past ts : List Ran) → Goes Anyhow past row_of_files ts None → ts ≡ []
went_files past ts (Goes.wrote files none) = refl
went_files past ts (Goes.succeeded t own tries) = absurd (own refl)

pub fell_files : (past ts : List Ran) (fall : Fall) → Goes Anyhow past row_of_files ts (Some fall) → (fault : StepFault) × (ts ≡ []) × (fall.fault ≡ Some fault)
fell_files past ts fall (Goes.clashed fault f files is why) = (fault, refl, why)
fell_files past ts fall (Goes.failed t f own tries none) = absurd (own refl)

pub goes_files : (past ts : List Ran) → Are ts [] → Goes Anyhow past row_of_files ts None
goes_files past ts are = subst (λ l. Goes Anyhow past row_of_files l None) (sym (of_none ts are)) (Goes.wrote refl tt)

pub falls_files : (past ts : List Ran) (n : ℕ) (fault : StepFault) → Are ts [] → Goes Anyhow past row_of_files ts (Some (record { row = n; fault = Some fault }))
falls_files past ts n fault are = subst (λ l. Goes Anyhow past row_of_files l (Some (record { row = n; fault = Some fault }))) (sym (of_none ts are)) (Goes.clashed fault _ refl tt refl)
