-- What filling an unsynced file does.
use Rattle.std.proofs.Common.{◌≡◌, ℕ, ◌+◌, ◌<◌, ◌≤◌, add-one, get_or, take, Bool, true, false, ◌||◌, ◌&&◌, ◌⊎◌, cond, List, [], ◌∷◌, ◌++◌, Option, Some, None, map, length, replicate, refl, sym, ap, subst, ◌∙◌, inl, inr}
use Rattle.std.specs.Prelude.{IsSome, Result, Ok, Err, OnOk}
use Rattle.std.specs.Str.{bytes_eq}
use Rattle.std.proofs.lemmas.Bool.{false≢true}
use Rattle.std.proofs.lemmas.List.{length-replicate, map-append, take_all}
use Rattle.std.proofs.Math.Seq.{take-suc}
use Rattle.std.proofs.lemmas.List.Folds.{list_any-append}
use Rattle.std.proofs.lemmas.Slice.Eq.{bytes_eq-Decides}
use Rattle.host_core.specs.Paths.{Path}
use Rattle.host_core.specs.World.{World, put, IsDirectory, Step, Write, Move, Take, MakeDir, RemoveDir, HardLink, MakeLink, Sync, Barrier, SyncAll, SyncRoot, Lower}
use Rattle.host_core.specs.Events.{Event, Did, Finished, Cut, Failed, Denied}
use Rattle.host_core.specs.Tree.{IsTree}
use Rattle.host_core.specs.Unsynced.{unsynced, unsynced_all, unsynced_after, unsynced_step, marked}
use Rattle.host_core.proofs.Losses.{unsynced_more}
use Rattle.host_core.specs.declared.node.Node.{Node}
use Rattle.host_core.specs.declared.node.Node.TheVariants.{File, Dir, Link}
use Rattle.host_memory.specs.declared.done.Done.{Done}
use Rattle.host_memory.specs.Doings.{event_of}
use Rattle.host_memory.specs.Losing.{filled, left_of}
use Rattle.host_memory.specs.Traces.{event_target, is_at, is_target, is_targeted}
use Rattle.host_memory.specs.Trees.{Fits}
use Rattle.host_memory.proofs.TreeLemmas.{bare_unless_directory, there_above}

filled_directory : (fill : ℕ) (o : Option Node) → IsDirectory o → IsDirectory (filled fill o)
filled_directory fill o dir = (dir.0, ap (filled fill) dir.1)

-- it fits where it stood
pub Fits-filled : (fill : ℕ) (w : World) (path : Path) (n m : Node) → IsTree w → w path ≡ Some n → Some m ≡ filled fill (Some n) → Fits w path (Some m)
Fits-filled fill w path n m tree is full = record {
  above = λ some top below. there_above w top path tree below (subst (λ (o : Option Node). IsSome o) (sym is) refl);
  below = λ no_dir. bare_unless_directory w path tree (λ dir. no_dir (subst (λ (o : Option Node). IsDirectory o) (sym full) (filled_directory fill (Some n) (subst (λ (o : Option Node). IsDirectory o) is dir))));
}

filled_twice : (fill : ℕ) (o : Option Node) → filled fill (filled fill o) ≡ filled fill o
filled_twice fill None = refl
filled_twice fill (Some (File b a)) = ap (λ (n : ℕ). Some (File (replicate n fill) a)) (length-replicate (length b) fill)
filled_twice fill (Some (Dir a)) = refl
filled_twice fill (Some (Link t)) = refl

pub left_twice : (fill : ℕ) (a b u : Bool) (o : Option Node) → left_of fill (b && u) (left_of fill (a && u) o) ≡ left_of fill ((a || b) && u) o
left_twice fill true true true o = filled_twice fill o
left_twice fill true false true o = refl
left_twice fill false true true o = refl
left_twice fill false false true o = refl
left_twice fill true true false o = refl
left_twice fill true false false o = refl
left_twice fill false true false o = refl
left_twice fill false false false o = refl

-- one target

module _ (fill : ℕ) (w : World) (u : Path → Bool) (e : Event) where
  pub fill_none : event_target e ≡ None → (q : Path) → w q ≡ left_of fill (is_target e q && u q) (w q)
  fill_none none q = ap (λ (b : Bool). left_of fill (b && u q) (w q)) (sym (nowhere (event_target e) none))
    where
      nowhere : (o : Option Path) → o ≡ None → is_at o q ≡ false
      nowhere o is = ap (λ (x : Option Path). is_at x q) is

  at_target : (p q : Path) → event_target e ≡ Some p → is_target e q ≡ bytes_eq p q
  at_target p q is = ap (λ (x : Option Path). is_at x q) is

  pub fill_clean : (p : Path) → event_target e ≡ Some p → u p ≡ false → (q : Path) → w q ≡ left_of fill (is_target e q && u q) (w q)
  fill_clean p is clean q = ap (λ (b : Bool). left_of fill b (w q)) (sym (ap (λ (b : Bool). b && u q) (at_target p q is) ∙ here (bytes_eq p q) refl))
    where
      here : (b : Bool) → bytes_eq p q ≡ b → b && u q ≡ false
      here true same = ap u (sym ((bytes_eq-Decides p q).0 same)) ∙ clean
      here false other = refl

  pub fill_put : (v : World) (p : Path) → event_target e ≡ Some p → u p ≡ true → v ≡ put w p (filled fill (w p)) → (q : Path) → v q ≡ left_of fill (is_target e q && u q) (w q)
  fill_put v p is lost goes q = ap (λ (x : World). x q) goes ∙ here (bytes_eq p q) refl ∙ ap (λ (b : Bool). left_of fill (b && u q) (w q)) (sym (at_target p q is))
    where
      here : (b : Bool) → bytes_eq p q ≡ b → cond b (filled fill (w p)) (w q) ≡ left_of fill (b && u q) (w q)
      here true same =
          let at : p ≡ q = (bytes_eq-Decides p q).0 same in
          ap (λ (x : Path). filled fill (w x)) at ∙ ap (λ (b : Bool). left_of fill b (w q)) (sym (ap u (sym at) ∙ lost))
      here false other = refl

-- each unsynced file stands where an event put it

either_side : (b x y : Bool) → cond b x y ≡ true → (b ≡ true) ⊎ (y ≡ true)
either_side true x y is = inl refl
either_side false x y is = inr is

not_first : (b y : Bool) → cond b false y ≡ true → y ≡ true
not_first true y is = absurd (false≢true is)
not_first false y is = is

put_by_step : (s : Step) (u : Path → Bool) (q : Path) → unsynced_step s u q ≡ true → (is_target (Did s) q ≡ true) ⊎ (u q ≡ true)
put_by_step (Write p n) u q is = either_side (bytes_eq p q) true (u q) is
put_by_step (Move a b) u q is = elim (either_side (bytes_eq b q) (u a) (marked u a false q) is) [
  | inl here ↦ inl here
  | inr rest ↦ inr (not_first (bytes_eq a q) (u q) rest)
]
put_by_step (Take p) u q is = inr (not_first (bytes_eq p q) (u q) is)
put_by_step (MakeDir p m) u q is = inr (not_first (bytes_eq p q) (u q) is)
put_by_step (RemoveDir p) u q is = inr is
put_by_step (HardLink a b) u q is = either_side (bytes_eq b q) (u a) (u q) is
put_by_step (MakeLink p t) u q is = inr (not_first (bytes_eq p q) (u q) is)
put_by_step (Sync p) u q is = inr (not_first (bytes_eq p q) (u q) is)
put_by_step Barrier u q is = inr is
put_by_step SyncAll u q is = absurd (false≢true is)
put_by_step SyncRoot u q is = inr is
put_by_step (Lower p) u q is = inr is

put_by_event : (e : Event) (u : Path → Bool) (q : Path) → unsynced_after e u q ≡ true → (is_target e q ≡ true) ⊎ (u q ≡ true)
put_by_event (Did s) u q is = put_by_step s u q is
put_by_event (Finished ran) u q is = inr is
put_by_event (Cut call change) u q is = inr is
put_by_event Failed u q is = inr is
put_by_event (Denied path) u q is = inr is

or_left : (a b : Bool) → a ≡ true → a || b ≡ true
or_left true b is = refl
or_left false b is = absurd (false≢true is)

or_right : (a b : Bool) → b ≡ true → a || b ≡ true
or_right true b is = refl
or_right false b is = is

put_by_one : (es : List Event) (u : Path → Bool) (q : Path) → unsynced_all es u q ≡ true → (is_targeted es q ≡ true) ⊎ (u q ≡ true)
put_by_one [] u q is = inr is
put_by_one (e ∷ es) u q is = elim (put_by_one es (unsynced_after e u) q is) [
  | inl later ↦ inl (or_right (is_target e q) (is_targeted es q) later)
  | inr now ↦ elim (put_by_event e u q now) [
    | inl here ↦ inl (or_left (is_target e q) (is_targeted es q) here)
    | inr before ↦ inr before
  ]
]

pub all_targeted : (es : List Event) (q : Path) → is_targeted es q && unsynced es q ≡ unsynced es q
all_targeted es q = at (unsynced es q) refl
  where
    both : (a : Bool) → a ≡ true → a && true ≡ true
    both true is = refl
    both false is = absurd (false≢true is)

    no : (a : Bool) → a && false ≡ false
    no true = refl
    no false = refl

    at : (b : Bool) → unsynced es q ≡ b → is_targeted es q && b ≡ b
    at true is = elim (put_by_one es (λ p. false) q is) [
      | inl there ↦ both (is_targeted es q) there
      | inr never ↦ absurd (false≢true never)
    ]
    at false is = no (is_targeted es q)

-- one event more
pub targeted_more : (es : List Event) (e : Event) (q : Path) → is_targeted (es ++ e ∷ []) q ≡ is_targeted es q || is_target e q
targeted_more es e q = list_any-append (λ (x : Event). is_target x q) es (e ∷ []) ∙ ap (λ (b : Bool). is_targeted es q || b) (right (is_target e q))
  where
    right : (b : Bool) → b || false ≡ b
    right true = refl
    right false = refl

-- whether a file is unsynced behind the last of some events
pub unsynced_last : (all before : List Done) (last : Done) → all ≡ before ++ last ∷ [] → (q : Path) → unsynced (map event_of all) q ≡ unsynced_after (event_of last) (unsynced (map event_of before)) q
unsynced_last all before last is q =
    ap (λ (l : List Done). unsynced (map event_of l) q) is ∙ ap (λ (l : List Event). unsynced l q) (map-append event_of before (last ∷ []))
    ∙ ap (λ (f : Path → Bool). f q) (unsynced_more (map event_of before) (event_of last))

pub on_ok : {T E : Type 0} (r : Result T E) (P Q : Type 0) → (P → Q) → OnOk r P → OnOk r Q
on_ok (Ok x) P Q so p = so p
on_ok (Err e) P Q so p = p

-- one event more was looked at
pub fill_more : (fill : ℕ) (all : List Done) (i : ℕ) (item : Done) (w₀ w v : World) (u : Path → Bool) → i < length all → item ≡ get_or all i item
    → ((q : Path) → w q ≡ left_of fill (is_targeted (map event_of (take i all)) q && u q) (w₀ q)) → ((q : Path) → v q ≡ left_of fill (is_target (event_of item) q && u q) (w q))
    → (q : Path) → v q ≡ left_of fill (is_targeted (map event_of (take (i + 1) all)) q && u q) (w₀ q)
fill_more fill all i item w₀ w v u within is before now q =
    let e = event_of item in
    let seen : List Event = map event_of (take i all) in
    let taken : take (i + 1) all ≡ take i all ++ item ∷ [] = ap (λ (n : ℕ). take n all) (add-one i) ∙ take-suc all i item within ∙ ap (λ (x : Done). take i all ++ x ∷ []) (sym is) in
    let front : map event_of (take (i + 1) all) ≡ seen ++ e ∷ [] = ap (map event_of) taken ∙ map-append event_of (take i all) (item ∷ []) in
    now q ∙ ap (left_of fill (is_target e q && u q)) (before q) ∙ left_twice fill (is_targeted seen q) (is_target e q) (u q) (w₀ q)
    ∙ ap (λ (b : Bool). left_of fill (b && u q) (w₀ q)) (sym (ap (λ (l : List Event). is_targeted l q) front ∙ targeted_more seen e q))

pub fill_all : (fill : ℕ) (all : List Done) (i : ℕ) (w₀ w : World) → length all ≤ i
    → ((q : Path) → w q ≡ left_of fill (is_targeted (map event_of (take i all)) q && unsynced (map event_of all) q) (w₀ q)) → (q : Path) → w q ≡ left_of fill (unsynced (map event_of all) q) (w₀ q)
fill_all fill all i w₀ w done is q =
    is q ∙ ap (λ (l : List Done). left_of fill (is_targeted (map event_of l) q && unsynced (map event_of all) q) (w₀ q)) (take_all i all done)
    ∙ ap (λ (b : Bool). left_of fill b (w₀ q)) (all_targeted (map event_of all) q)
