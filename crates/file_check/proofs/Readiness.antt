-- What has no step fault can be written.
use Rattle.std.proofs.Common.{◌≡◌, ◌⊎◌, inl, inr, ℕ, Bool, true, false, List, [], ◌∷◌, ◌++◌, Contains, Option, Some, None, is_some, Result, Ok, Err, IsTrue, refl, sym, ap, subst, ◌∙◌, arith}
use Rattle.std.specs.Prelude.{◌||◌, ◌&&◌, cond, nat_eq, IfOk, IfNone, MatchOption}
use Rattle.std.specs.Str.{bytes_eq}
use Rattle.std.specs.List.{IsDistinct, AllByRecursion, list_all}
use Rattle.std.specs.Ordering.{is_lt, nat_cmp}
use Rattle.std.specs.Cmp.Lexicographic.{slice_cmp}
use Rattle.std.proofs.lemmas.Bool.{true≢false, false≢true, eqb-true, and_parts}
use Rattle.std.proofs.lemmas.List.Elements.{Contains-append_cases, Contains-push_cases}
use Rattle.std.proofs.lemmas.Slice.Eq.{bytes_eq-Decides}
use Rattle.host_core.specs.Paths.{Path, is_rooted, is_component, components}
use Rattle.host_core.specs.World.{World, is_file, kind_of}
use Rattle.host_core.specs.declared.fault.HostFault.{HostFault}
use Rattle.host_core.specs.declared.node.Access.{Access}
use Rattle.host_core.specs.declared.node.Node.{Node}
use Rattle.host_core.specs.declared.node.Node.TheVariants.{File, Dir, Link}
use Rattle.host_core.proofs.ShipNames.{ships}
use Rattle.diversions.specs.Sights.{is_directory_kind}
use Rattle.diversions.specs.declared.entry.Diversion.{Diversion}
use Rattle.host_core.specs.declared.node.Kind.{Kind}
use Rattle.undo_rows.specs.declared.fall.StepFault.{StepFault}
use Rattle.undo_rows.specs.declared.fall.StepFault.TheVariants.{LinkParent, NoParent, DirInWay, Clash}
use Rattle.file_check.specs.declared.above.Above.{Above}
use Rattle.file_check.specs.declared.above.Above.TheVariants as kind_above
use Rattle.package_files.specs.declared.work.Work.{Work}
use Rattle.package_files.specs.Files.{cleared, Each, is_written}
use Rattle.package_files.specs.Free.{IsFree, IsFreeIn, IsSeen}
use Rattle.package_files.specs.Names.{IsNamed, IsHomed, HasMaker}
use Rattle.file_check.specs.InWay.{in_way, at_names, is_diverted}
use Rattle.file_check.specs.Clashes.{Owning, first_clash, some_if, claims, rival, clash_by}
use Rattle.file_check.specs.Index.{makes_directory, is_made, is_made_by, is_place, is_twice, AllOutside}
use Rattle.file_check.specs.Ships.{is_astray}
use Rattle.file_check.specs.Sound.{IsSound, AreSound, AllSound, IsFirstFault, fault_by}
use Rattle.file_check.specs.Ready.{IsFitting, is_one_place}

or_left : (a b : Bool) → (a || b) ≡ false → a ≡ false
or_left true b e = e
or_left false b e = refl

or_rest : (a b : Bool) → (a || b) ≡ false → b ≡ false
or_rest true b e = absurd (true≢false e)
or_rest false b e = e

none_left : (o : Option Node) → is_directory_kind (kind_of o) ≡ false → cleared o ≡ None
none_left None e = refl
none_left (Some (File b m)) e = refl
none_left (Some (Dir m)) e = absurd (true≢false e)
none_left (Some (Link t)) e = refl

names_left : (t b f : Option Node) → at_names (kind_of t) (kind_of b) (kind_of f) ≡ false → (cleared b ≡ None) × (cleared f ≡ None)
names_left t b f e =
    let rest = or_rest (is_directory_kind (kind_of t)) (is_directory_kind (kind_of b) || is_directory_kind (kind_of f)) e in
    (none_left b (or_left (is_directory_kind (kind_of b)) (is_directory_kind (kind_of f)) rest), none_left f (or_rest (is_directory_kind (kind_of b)) (is_directory_kind (kind_of f)) rest))

file_free : (c : List ℕ) (m : Access) (t b f : Option Node) → at_names (kind_of t) (kind_of b) (kind_of f) ≡ false → IsFree (File c m) t b f
file_free c m None b f e = names_left None b f e
file_free c m (Some (File d k)) b f e = names_left (Some (File d k)) b f e
file_free c m (Some (Dir k)) b f e = absurd (true≢false e)
file_free c m (Some (Link l)) b f e = names_left (Some (Link l)) b f e

link_free : (l : List ℕ) (t b f : Option Node) → at_names (kind_of t) (kind_of b) (kind_of f) ≡ false → IsFree (Link l) t b f
link_free l None b f e = names_left None b f e
link_free l (Some (File d k)) b f e = names_left (Some (File d k)) b f e
link_free l (Some (Dir k)) b f e = tt
link_free l (Some (Link j)) b f e = names_left (Some (Link j)) b f e

-- where no directory is in the way the names are free
way_free : (d : Bool) (n : Node) (p t b f : Option Node) → in_way d n (kind_of p) (kind_of t) (kind_of b) (kind_of f) ≡ false → (is_file n ≡ false → t ≡ p) → IsFree n t b f
way_free d (File c m) None t b f e fit = file_free c m t b f e
way_free d (File c m) (Some (File g k)) t b f e fit = file_free c m t b f e
way_free d (File c m) (Some (Dir k)) t b f e fit = absurd (true≢false e)
way_free d (File c m) (Some (Link l)) t b f e fit = file_free c m t b f e
way_free d (Dir m) None t b f e fit = subst (λ o. IsFree (Dir m) o b f) (sym (fit refl)) tt
way_free d (Dir m) (Some (File g k)) t b f e fit = subst (λ o. IsFree (Dir m) o b f) (sym (fit refl)) (none_left b (or_rest d (is_directory_kind (kind_of b)) e))
way_free d (Dir m) (Some (Dir k)) t b f e fit = subst (λ o. IsFree (Dir m) o b f) (sym (fit refl)) tt
way_free d (Dir m) (Some (Link l)) t b f e fit = subst (λ o. IsFree (Dir m) o b f) (sym (fit refl)) tt
way_free d (Link l) None t b f e fit = link_free l t b f e
way_free d (Link l) (Some (File g k)) t b f e fit = link_free l t b f e
way_free d (Link l) (Some (Dir k)) t b f e fit = subst (λ o. IsFree (Link l) o b f) (sym (fit refl)) tt
way_free d (Link l) (Some (Link j)) t b f e fit = link_free l t b f e

makes_from : (node : Node) (n : Option Node) → makes_directory node (kind_of n) ≡ true → ((access : Access) × (node ≡ Dir access)) × IsTrue (is_written node n)
makes_from (Dir m) None is = ((m, refl), refl)
makes_from (Dir m) (Some (File b k)) is = ((m, refl), refl)
makes_from (Dir m) (Some (Dir k)) is = absurd (true≢false (sym is))
makes_from (Dir m) (Some (Link t)) is = absurd (true≢false (sym is))
makes_from (File c m) n is = absurd (true≢false (sym is))
makes_from (Link l) n is = absurd (true≢false (sym is))

both_true : (a b : Bool) → IsTrue (a && b) → IsTrue a × IsTrue b
both_true true true e = (refl, refl)
both_true true false e = absurd (true≢false (sym e))
both_true false b e = absurd (true≢false (sym e))

-- what is made has a maker
maker_of : (shipped : List Work) (w : World) (p : Path) → IsTrue (is_made shipped w p) → HasMaker shipped w p
maker_of [] w p e = absurd (true≢false (sym e))
maker_of (s ∷ ss) w p e = by (bytes_eq p s.target && makes_directory s.node (kind_of (w s.target))) refl e (maker_of ss w p) where
  by : (t : Bool) → (bytes_eq p s.target && makes_directory s.node (kind_of (w s.target))) ≡ t → IsTrue (t || is_made ss w p) → (IsTrue (is_made ss w p) → HasMaker ss w p) → HasMaker (s ∷ ss) w p
  by true is e more =
      let two = both_true (bytes_eq p s.target) (makes_directory s.node (kind_of (w s.target))) is in
      let m = makes_from s.node (w s.target) two.1 in
      inl (sym ((bytes_eq-Decides p s.target).0 two.0), m.0, m.1)
  by false is e more = inr (more e)

-- the last slash of a place

record LastSlash (p : Path) : Type 0 where
  front : Path
  name : Path
  is : p ≡ front ++ 47 ∷ name
  plain : Contains name 47 → ⊥

further : (c : ℕ) (p : Path) → LastSlash p → LastSlash (c ∷ p)
further c p last = record { front = c ∷ last.front; name = last.name; is = ap (λ (l : Path). c ∷ l) last.is; plain = last.plain }

look_on : (p : Path) → LastSlash p ⊎ (Contains p 47 → ⊥)
look_on [] = inr (λ has. omega (arith, has.1))
look_on (c ∷ p) = elim (look_on p) [
  | inl last ↦ inl (further c p last)
  | inr plain ↦ here (nat_eq c 47) refl plain
] where
  here : (b : Bool) → nat_eq c 47 ≡ b → (Contains p 47 → ⊥) → LastSlash (c ∷ p) ⊎ (Contains (c ∷ p) 47 → ⊥)
  here true e plain = inl record { front = []; name = p; is = ap (λ (x : ℕ). x ∷ p) (eqb-true c 47 e); plain = plain }
  here false e plain = inr (λ has. elim (Contains-append_cases (c ∷ []) p 47 has) [
    | inl first ↦ elim (Contains-push_cases [] c 47 first) [ inl none ↦ omega (arith, none.1) | inr is ↦ true≢false (ap (λ (k : ℕ). nat_eq k 47) (sym is) ∙ e) ]
    | inr later ↦ plain later
  ])

last_slash : (p : Path) → is_rooted p ≡ true → LastSlash p
last_slash [] is = absurd (false≢true is)
last_slash (c ∷ p) is = elim (look_on p) [
  | inl last ↦ further c p last
  | inr plain ↦ record { front = []; name = p; is = ap (λ (x : ℕ). x ∷ p) (eqb-true c 47 (and_parts (nat_eq c 47) (list_all is_component (components p)) is).0); plain = plain }
]

module _ (o : Owning) (made twice : Path → Bool) (w : World) where
  free_one : (s : Work) → IsFitting s → IsSound o made twice w s → IsFreeIn w s
  free_one s fit sound = way_free (is_diverted o s) s.node (w s.place) (w s.target) (w s.backup) (w s.fresh) (or_rest (is_astray o.ways s) (in_way (is_diverted o s) s.node (kind_of (w s.place)) (kind_of (w s.target)) (kind_of (w s.backup)) (kind_of (w s.fresh))) sound.way) (λ e. ap w (fit e))

  free_all : (ss : List Work) → Each IsFitting ss → AreSound o made twice w ss → Each (IsFreeIn w) ss
  free_all [] fit sound = tt
  free_all (s ∷ ss) fit sound = (free_one s fit.0 sound.0, free_all ss fit.1 sound.1)

  homed_one : (all : List Work) (s : Work) → ((p : Path) → IsTrue (made p) → HasMaker all w p) → IsNamed s → IsSound o made twice w s → IsHomed all w s
  homed_one all s makers named sound =
      let last : LastSlash s.place = last_slash s.place (ships s.place named.place).rooted in
      (last.front, last.name, last.is, last.plain, elim (sound.above last.front last.name last.is).0 [ inl dir ↦ inl dir | inr is ↦ inr (makers last.front is) ])

  homed_all : (all : List Work) (ss : List Work) → ((p : Path) → IsTrue (made p) → HasMaker all w p) → Each IsNamed ss → AreSound o made twice w ss → Each (IsHomed all w) ss
  homed_all all [] makers named sound = tt
  homed_all all (s ∷ ss) makers named sound = (homed_one all s makers named.0 sound.0, homed_all all ss makers named.1 sound.1)

no_twice : (r : Option (List ℕ)) (t : Bool) (incoming : List ℕ) → first_clash r (some_if t (Some incoming)) ≡ None → t ≡ false
no_twice r false incoming e = refl
no_twice None true incoming e = absurd (some_none incoming e) where
  some_none : (o : List ℕ) → Some o ≡ None → ⊥
  some_none o e = true≢false (ap is_there e) where
    is_there : Option (List ℕ) → Bool
    is_there None = false
    is_there (Some x) = true
no_twice (Some r) true incoming e = absurd (by (is_lt (slice_cmp nat_cmp r incoming)) e) where
  is_there : Option (List ℕ) → Bool
  is_there None = false
  is_there (Some x) = true

  by : (b : Bool) → cond b (Some r) (Some incoming) ≡ None → ⊥
  by true e = true≢false (ap is_there e)
  by false e = true≢false (ap is_there e)

-- a place that is shipped again later is shipped twice
here_once : (s : Work) (ss : List Work) → is_twice (s ∷ ss) s.place ≡ false → is_place ss s.place ≡ false
here_once s ss e = by (bytes_eq s.place s.place) ((bytes_eq-Decides s.place s.place).1 refl) (or_left _ (is_twice ss s.place) e) where
  by : (b : Bool) → b ≡ true → (b && is_place ss s.place) ≡ false → is_place ss s.place ≡ false
  by true is e = e
  by false is e = absurd (true≢false (sym is))

none_there : (p : Path) (ss : List Work) → is_place ss p ≡ false → AllByRecursion (λ y. bytes_eq p y.place ≡ false) ss
none_there p [] e = tt
none_there p (s ∷ ss) e = (or_left (bytes_eq p s.place) (is_place ss p) e, none_there p ss (or_rest (bytes_eq p s.place) (is_place ss p) e))

once_all : (P : Path → Bool) (ss : List Work) → ((q : Path) → P q ≡ false → is_twice ss q ≡ false) → AllOutside P ss → IsDistinct is_one_place ss
unfolding IsDistinct
once_all P [] so all = tt
once_all P (s ∷ ss) so all = (none_there s.place ss (here_once s ss (so s.place all.0)), once_all P ss (λ q e. or_rest _ (is_twice ss q) (so q e)) all.1)

distinct_all : (ss : List Work) → AllOutside (is_twice ss) ss → IsDistinct is_one_place ss
distinct_all ss outside = once_all (is_twice ss) ss (λ q e. e) outside

-- what doesn't clash is shipped once
once_by : (o : Owning) (twice : Path → Bool) (s : Work) (place : Option Kind) → clash_by o twice s place ≡ None → twice s.place ≡ false
once_by o twice s place none = no_twice (some_if (claims s.node place) (rival o s.place)) (twice s.place) o.incoming none

some_fault : (fault : StepFault) → Some fault ≡ None → ⊥
some_fault fault e = true≢false (ap is_some e)

none_by : (p : Path) (above : Above) (way : Bool) (clash : Option (List ℕ)) (diversion : Option Diversion) → fault_by p above way clash diversion ≡ None → clash ≡ None
none_by p kind_above.Link way clash diversion e = absurd (some_fault (LinkParent p) e)
none_by p kind_above.Lacking way clash diversion e = absurd (some_fault (NoParent p) e)
none_by p kind_above.Directories true clash diversion e = absurd (some_fault (DirInWay p) e)
none_by p kind_above.Directories false (Some owner) diversion e = absurd (some_fault (Clash p owner) e)
none_by p kind_above.Directories false None diversion e = refl

pub once_told : (o : Owning) (twice : Path → Bool) (s : Work) (place : Option Kind) (above : Above) (way : Bool) (diversion : Option Diversion) (found : Option StepFault) → found ≡ fault_by s.path above way (clash_by o twice s place) diversion → IfNone found (twice s.place ≡ false)
once_told o twice s place above way diversion None told = once_by o twice s place (none_by s.path above way (clash_by o twice s place) diversion (sym told))
once_told o twice s place above way diversion (Some fault) told = tt

-- of an answer

abbrev Answer : Type 0
Answer = Result (Option StepFault) HostFault

abbrev pub IsTold : Owning → List Work → World → Option StepFault → Type 0
IsTold o works w found = MatchOption found (AllSound o works w) (IsFirstFault o works w)

pub told_distinct : (ss : List Work) (result : Answer) → IfOk result (λ found. IfNone found (AllOutside (is_twice ss) ss)) → IfOk result (λ found. IfNone found (IsDistinct is_one_place ss))
told_distinct ss (Ok None) outside = distinct_all ss outside
told_distinct ss (Ok (Some x)) outside = tt
told_distinct ss (Err x) outside = tt

module _ (o : Owning) (w : World) (ss : List Work) where
  pub told_free : (result : Answer) → Each IsFitting ss → IfOk result (IsTold o ss w) → IfOk result (λ found. IfNone found (Each (IsFreeIn w) ss))
  told_free (Ok None) fit sound = free_all o (is_made ss w) (is_twice ss) w ss fit sound
  told_free (Ok (Some x)) fit sound = tt
  told_free (Err x) fit sound = tt

  pub told_homed : (result : Answer) → Each IsNamed ss → IfOk result (IsTold o ss w) → IfOk result (λ found. IfNone found (Each (IsHomed ss w) ss))
  told_homed (Ok None) named sound = homed_all o (is_made ss w) (is_twice ss) w ss ss (maker_of ss w) named sound
  told_homed (Ok (Some x)) named sound = tt
  told_homed (Err x) named sound = tt

  pub told_sound : (result : Answer) → IfOk result (IsTold o ss w) → IfOk result (λ found. IfNone found (AllSound o ss w))
  told_sound (Ok None) sound = sound
  told_sound (Ok (Some x)) sound = tt
  told_sound (Err x) sound = tt

pub told_in : (o : Owning) (ss : List Work) (v w : World) (result : Answer) → v ≡ w → IfOk result (IsTold o ss v) → IfOk result (IsTold o ss w)
told_in o ss v w result same told = subst (λ (u : World). IfOk result (IsTold o ss u)) same told

pub told_always : (P : Type 0) (result : Answer) → P → IfOk result (λ found. IfNone found P)
told_always P (Ok None) is = is
told_always P (Ok (Some x)) is = tt
told_always P (Err x) is = tt

-- what was seen at the targets tells which directories are made
pub made_seen : (ss : List Work) (w : World) (q : Path) → Each (IsSeen w) ss → is_made_by ss q ≡ is_made ss w q
made_seen [] w q seen = refl
made_seen (s ∷ ss) w q seen = λ i. (bytes_eq q s.target && makes_directory s.node (seen.0 i)) || made_seen ss w q seen.1 i
