-- What putting one file after another leaves.
use Rattle.std.proofs.Common.{◌≡◌, ◌≢◌, ◌⊎◌, ◌+◌, ◌<◌, ◌==◌, ◌&&◌, ◌||◌, inl, inr, not, ℕ, Bool, true, false, List, [], ◌∷◌, ◌++◌, length, take, drop, get_or, Option, Some, None, Result, Ok, Err, codes, refl, sym, ap, subst, ◌∙◌, arith}
use Rattle.std.specs.Prelude.{IfOk, MatchBool}
use Rattle.std.specs.List.{list_any}
use Rattle.std.specs.Str.{bytes_eq}
use Rattle.std.proofs.lemmas.Bool.{eqb-true, or_parts, true≢false}
use Rattle.std.proofs.lemmas.List.{take-append-drop}
use Rattle.std.proofs.lemmas.List.Folds.{list_any-append}
use Rattle.host_core.specs.Host.{Since, State}
use Rattle.host_core.specs.Paths.{Path}
use Rattle.host_core.proofs.Moments.{since_weaker}
use Rattle.host_core.specs.World.{World, IsDirectory, is_directory, kind_of}
use Rattle.host_core.specs.declared.node.Kind.{Kind}
use Rattle.host_core.specs.declared.node.Node.{Node}
use Rattle.host_core.specs.declared.node.Node.TheVariants.{File, Dir, Link}
use Rattle.host_core.proofs.Nodes.{directory_is}
use Rattle.administration.specs.Files.{IsDropped, IsDropping, IsReplaced, IsReplacing, NoDirectory}
use Rattle.administration.specs.Places.{temporary}
use Rattle.administration.proofs.WholeFiles.{no_directory_at, no_directory_none, temporary_other}
use Rattle.trigger_interests.specs.declared.interests.Interest.{Interest}
use Rattle.trigger_journal.specs.Places.{triggers_directory}
use Rattle.trigger_watch.specs.Names.{is_among}
use Rattle.trigger_files.specs.Lines.{file_of, lines_file, lines_for}
use Rattle.trigger_files.specs.Places.{is_register, place}
use Rattle.trigger_files.specs.Registered.{KeepsBesideRegisters, is_hindered, is_in_way}
use Rattle.trigger_files.specs.Steps.{AreBeingWritten, AreOpen, AreRegisters, AreWritten, IsPut, IsPutting}
use Rattle.trigger_files.proofs.Names.{among_push, is_same, same_name}
use Rattle.trigger_files.proofs.Apart.{directory_beside, place_no_spare, place_same, spare_same}

-- of directories

pub no_directory_of : (n : Option Node) → is_directory n ≡ false → NoDirectory n
no_directory_of n e is = true≢false (sym (directory_is n is) ∙ e)

pub directory_isnt : (n : Option Node) → NoDirectory n → is_directory n ≡ false
directory_isnt None none = refl
directory_isnt (Some (File bytes access)) none = refl
directory_isnt (Some (Dir access)) none = absurd (none (access, refl))
directory_isnt (Some (Link target)) none = refl

no_directory_in_way : (n : Option Node) → is_in_way (kind_of n) ≡ false → NoDirectory n
no_directory_in_way None e = no_directory_none
no_directory_in_way (Some (File bytes access)) e = no_directory_of (Some (File bytes access)) refl
no_directory_in_way (Some (Dir access)) e = absurd (true≢false e)
no_directory_in_way (Some (Link target)) e = absurd (true≢false e)

pub target_free : (w : World) (path : Path) → is_hindered w path ≡ false → NoDirectory (w path)
target_free w path e = no_directory_in_way (w path) (or_parts (is_in_way (kind_of (w path))) (is_directory (w (temporary path))) e).0

pub spare_free : (w : World) (path : Path) → is_hindered w path ≡ false → NoDirectory (w (temporary path))
spare_free w path e = no_directory_of (w (temporary path)) (or_parts (is_in_way (kind_of (w path))) (is_directory (w (temporary path))) e).1

file_free : (lines : List (List ℕ)) → is_in_way (kind_of (file_of lines)) ≡ false
file_free [] = refl
file_free (line ∷ lines) = refl

-- one is put

pub put_dropped : (path : Path) (old new : World) → NoDirectory (old (temporary path)) → IsDropped path old new → IsPut path None old new
put_dropped path old new spare is = record {
  target = is.target;
  spare = no_directory_at (new (temporary path)) (old (temporary path)) (is.rest (temporary path) (temporary_other path)) spare;
  rest = λ q np ns. is.rest q np;
}

pub put_replaced : (path : Path) (node : Node) (old new : World) → IsReplaced path node old new → IsPut path (Some node) old new
put_replaced path node old new is = record { target = is.target; spare = no_directory_at (new (temporary path)) None is.spare no_directory_none; rest = is.rest }

pub putting_dropping : (path : Path) (old now : World) → IsDropping path old now → IsPutting path None old now
putting_dropping path old now is = record { target = is.target; rest = λ q np ns. is.rest q np }

pub putting_replacing : (path : Path) (node : Node) (old now : World) → IsReplacing path node old now → IsPutting path (Some node) old now
putting_replacing path node old now is = record { target = is.target; rest = is.rest }

pub file_some : (lines : List (List ℕ)) → 0 < length lines → Some (lines_file lines) ≡ file_of lines
file_some [] some = absurd (omega (arith, some))
file_some (line ∷ lines) some = refl

some_lines : (lines : List (List ℕ)) → (length lines == 0) ≡ false → 0 < length lines
some_lines [] e = absurd (true≢false e)
some_lines (line ∷ lines) e = omega arith

pub file_none : (lines : List (List ℕ)) → length lines ≡ 0 → None ≡ file_of lines
file_none [] none = refl
file_none (line ∷ lines) none = absurd (omega (arith, none))

-- whether a directory stands there, as a call tells it
told_directory : (is : Bool) (n : Option Node) → MatchBool is (IsDirectory n) (NoDirectory n) → is ≡ is_directory n
told_directory true n there = sym (directory_is n there)
told_directory false n none = sym (directory_isnt n none)

-- no file can be written
pub hindered_by : {E : Type 0} (result : Result Bool E) (w v : World) (path spare : Path) (kind : Option Kind) (in_way : Bool) → v ≡ w → spare ≡ temporary path → in_way ≡ false → in_way ≡ is_in_way kind → kind ≡ kind_of (w path)
    → IfOk result (λ is. MatchBool is (IsDirectory (v spare)) (NoDirectory (v spare))) → IfOk result (λ is. is ≡ is_hindered w path)
hindered_by (Ok is) w v path spare kind in_way same beside free by at e =
    told_directory is (v spare) e ∙ ap (λ (u : World). is_directory (u spare)) same ∙ ap (λ (q : Path). is_directory (w q)) beside
    ∙ sym (ap (λ (t : Bool). t || is_directory (w (temporary path))) (ap is_in_way (sym at) ∙ sym by ∙ free))
hindered_by (Err e) w v path spare kind in_way same beside free by at is = tt

-- of the lines there are none, or some

abbrev has_none : List (List ℕ) → Bool
has_none lines = length lines == 0

pub going : (path : Path) (lines : List (List ℕ)) (s t : State) → has_none lines ≡ true → Since (λ so_far. IsDropping path s.world) s t → Since (λ so_far. IsPutting path (file_of lines) s.world) s t
going path lines s t none since =
    since_weaker (λ so_far. IsDropping path s.world) (λ so_far. IsPutting path (file_of lines) s.world) s t
    (λ so_far w is. subst (λ (n : Option Node). IsPutting path n s.world w) (file_none lines (eqb-true (length lines) 0 none)) (putting_dropping path s.world w is)) since

pub writing : (path : Path) (lines : List (List ℕ)) (node : Node) (s t : State) → has_none lines ≡ false → node ≡ lines_file lines → Since (λ so_far. IsReplacing path node s.world) s t → Since (λ so_far. IsPutting path (file_of lines) s.world) s t
writing path lines node s t some same since =
    since_weaker (λ so_far. IsReplacing path node s.world) (λ so_far. IsPutting path (file_of lines) s.world) s t
    (λ so_far w is. subst (λ (n : Option Node). IsPutting path n s.world w) (ap (λ (n : Node). Some n) same ∙ file_some lines (some_lines lines some)) (putting_replacing path node s.world w is)) since

pub putting_at : (path p : Path) (lines l : List (List ℕ)) (s t : State) → path ≡ p → lines ≡ l → Since (λ so_far. IsPutting path (file_of lines) s.world) s t → Since (λ so_far. IsPutting p (file_of l) s.world) s t
putting_at path p lines l s t same these is =
    subst (λ (x : List (List ℕ)). Since (λ so_far. IsPutting p (file_of x) s.world) s t) these (subst (λ (q : Path). Since (λ so_far. IsPutting q (file_of lines) s.world) s t) same is)

-- of names

or_false : (b : Bool) → b || false ≡ b
or_false true = refl
or_false false = refl

pub taken_among : (names : List (List ℕ)) (i : ℕ) (name : List ℕ) → is_among (take i names) name ≡ true → is_among names name ≡ true
taken_among names i name e =
    ap (λ (l : List (List ℕ)). is_among l name) (sym (take-append-drop i names)) ∙ list_any-append (bytes_eq name) (take i names) (drop i names)
    ∙ ap (λ (t : Bool). t || is_among (drop i names) name) e

other_than : (x name : List ℕ) → bytes_eq name x ≡ false → name ≢ x
other_than x name e same = true≢false (sym (is_same name x same) ∙ e)

module _ (entries : List Interest) (old : World) where
  abbrev wanted : List ℕ → Option Node
  wanted name = file_of (lines_for entries name)

  pub written_start : AreWritten entries [] old old
  written_start = record { each = λ name reg is. absurd (true≢false (sym is)); others = λ name reg isnt. refl; rest = λ q beside. refl }

  -- what stands at the place of another name is as before
  elsewhere : (x name : List ℕ) (w v : World) → is_register name ≡ true → bytes_eq name x ≡ false → IsPut (place x) (wanted x) w v → v (place name) ≡ w (place name)
  elsewhere x name w v reg apart put = put.rest (place name) (λ e. other_than x name apart (place_same name x e)) (place_no_spare name x reg)

  elsewhere_putting : (x name : List ℕ) (w v : World) → is_register name ≡ true → bytes_eq name x ≡ false → IsPutting (place x) (wanted x) w v → v (place name) ≡ w (place name)
  elsewhere_putting x name w v reg apart put = put.rest (place name) (λ e. other_than x name apart (place_same name x e)) (place_no_spare name x reg)

  pub written_more : (names : List (List ℕ)) (x : List ℕ) (w v : World) → is_register x ≡ true → AreWritten entries names old w → IsPut (place x) (wanted x) w v → AreWritten entries (names ++ x ∷ []) old v
  written_more names x w v register is put = record {
    each = λ name reg among. at name reg among (bytes_eq name x) refl;
    others = λ name reg among.
        let apart = or_parts (is_among names name) (bytes_eq name x || false) (sym (among_push names x name) ∙ among) in
        elsewhere x name w v reg (sym (or_false (bytes_eq name x)) ∙ apart.1) put ∙ is.others name reg apart.0;
    rest = λ q beside. put.rest q (beside x register).0 (beside x register).1 ∙ is.rest q beside;
  }
    where
      at : (name : List ℕ) → is_register name ≡ true → is_among (names ++ x ∷ []) name ≡ true → (b : Bool) → bytes_eq name x ≡ b → v (place name) ≡ wanted name
      at name reg among true e = subst (λ (n : List ℕ). v (place n) ≡ wanted n) (sym (same_name name x e)) put.target
      at name reg among false e =
          elsewhere x name w v reg e put
          ∙ is.each name reg (sym (or_false (is_among names name)) ∙ ap (λ (t : Bool). is_among names name || (t || false)) (sym e) ∙ sym (among_push names x name) ∙ among)

  -- what stands at the place of a name, once some of the names are written
  part_written : (names some : List (List ℕ)) (w : World) → AreWritten entries some old w → (name : List ℕ) → is_register name ≡ true → (w (place name) ≡ old (place name)) ⊎ (w (place name) ≡ wanted name)
  part_written names some w is name reg = at (is_among some name) refl
    where
      at : (b : Bool) → is_among some name ≡ b → (w (place name) ≡ old (place name)) ⊎ (w (place name) ≡ wanted name)
      at true e = inr (is.each name reg e)
      at false e = inl (is.others name reg e)

  pub being_written : (names some : List (List ℕ)) (w : World) → ((name : List ℕ) → is_among some name ≡ true → is_among names name ≡ true) → AreWritten entries some old w → AreBeingWritten entries names old w
  being_written names some w within is = record {
    each = λ name reg among. part_written names some w is name reg;
    others = λ name reg among. is.others name reg (outside name among (is_among some name) refl);
    rest = is.rest;
  }
    where
      outside : (name : List ℕ) → is_among names name ≡ false → (b : Bool) → is_among some name ≡ b → is_among some name ≡ false
      outside name among true e = absurd (true≢false (sym (within name e) ∙ among))
      outside name among false e = e

  -- while one more is put
  pub being_more : (names some : List (List ℕ)) (x : List ℕ) (w v : World) → is_register x ≡ true → is_among names x ≡ true → ((name : List ℕ) → is_among some name ≡ true → is_among names name ≡ true)
      → AreWritten entries some old w → IsPutting (place x) (wanted x) w v → AreBeingWritten entries names old v
  being_more names some x w v register has within is put = record {
    each = λ name reg among. at name reg (bytes_eq name x) refl;
    others = λ name reg among. elsewhere_putting x name w v reg (apart name among (bytes_eq name x) refl) put ∙ before.others name reg among;
    rest = λ q beside. put.rest q (beside x register).0 (beside x register).1 ∙ is.rest q beside;
  }
    where
      before : AreBeingWritten entries names old w
      before = being_written names some w within is

      apart : (name : List ℕ) → is_among names name ≡ false → (b : Bool) → bytes_eq name x ≡ b → bytes_eq name x ≡ false
      apart name among true e = absurd (true≢false (sym has ∙ ap (is_among names) (sym (same_name name x e)) ∙ among))
      apart name among false e = e

      then : (n m o f : Option Node) → (n ≡ m) ⊎ (n ≡ f) → (m ≡ o) ⊎ (m ≡ f) → (n ≡ o) ⊎ (n ≡ f)
      then n m o f (inr e) earlier = inr e
      then n m o f (inl e) (inl h) = inl (e ∙ h)
      then n m o f (inl e) (inr h) = inr (e ∙ h)

      at : (name : List ℕ) → is_register name ≡ true → (b : Bool) → bytes_eq name x ≡ b → (v (place name) ≡ old (place name)) ⊎ (v (place name) ≡ wanted name)
      at name reg true e =
          subst (λ (n : List ℕ). (v (place n) ≡ old (place n)) ⊎ (v (place n) ≡ wanted n)) (sym (same_name name x e))
          (then (v (place x)) (w (place x)) (old (place x)) (wanted x) put.target (part_written names some w is x register))
      at name reg false e =
          then (v (place name)) (w (place name)) (old (place name)) (wanted name) (inl (elsewhere_putting x name w v reg e put)) (part_written names some w is name reg)

  -- what could be written can be still
  pub open_more : (names : List (List ℕ)) (x : List ℕ) (w v : World) → AreRegisters names → is_register x ≡ true → AreOpen w names → IsPut (place x) (wanted x) w v → AreOpen v names
  open_more names x w v registers register is put name among = at (bytes_eq name x) refl
    where
      reg : is_register name ≡ true
      reg = registers name among

      at : (b : Bool) → bytes_eq name x ≡ b → is_hindered v (place name) ≡ false
      at true e =
          subst (λ (n : List ℕ). is_hindered v (place n) ≡ false) (sym (same_name name x e))
          (ap (λ (t : Bool). t || is_directory (v (temporary (place x)))) (ap (λ (n : Option Node). is_in_way (kind_of n)) put.target ∙ file_free (lines_for entries x))
          ∙ directory_isnt (v (temporary (place x))) put.spare)
      at false e =
          ap (λ (n : Option Node). is_in_way (kind_of n) || is_directory (v (temporary (place name)))) (elsewhere x name w v reg e put)
          ∙ ap (λ (n : Option Node). is_in_way (kind_of (w (place name))) || is_directory n)
          (put.rest (temporary (place name)) (λ same. place_no_spare x name register (sym same)) (λ same. other_than x name e (spare_same name x same)))
          ∙ is name among

pub still_there : (entries : List Interest) (names : List (List ℕ)) (old w : World) → AreWritten entries names old w → IsDirectory (old triggers_directory) → IsDirectory (w triggers_directory)
still_there entries names old w is there = subst IsDirectory (sym (is.rest triggers_directory directory_beside)) there
