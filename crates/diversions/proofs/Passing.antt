-- What holds where no condition of a refusal does.
use Rattle.std.proofs.Common.{◌≡◌, ◌≢◌, ◌||◌, ◌&&◌, ◌+◌, ℕ, cond, IsTrue, append_assoc, Bool, true, false, not, is_some, List, [], ◌∷◌, ◌++◌, Option, Some, None, Result, Ok, Err, refl, sym, ap, subst, ◌∙◌}
use Rattle.std.specs.Prelude.{IfOk, MatchResult}
use Rattle.std.specs.Str.{bytes_eq}
use Rattle.std.proofs.lemmas.Bool.{and_from, and_parts, and_right, or_parts, true≢false, false≢true, not-false}
use Rattle.std.proofs.lemmas.Slice.Eq.{bytes_eq-Decides}
use Rattle.host_core.specs.Nodes.{same_access}
use Rattle.host_core.specs.Paths.{Path, is_ship_text}
use Rattle.host_core.specs.World.{World, kind_of, IsDirectory, IsLoose, SyncRoot}
use Rattle.host_core.specs.Events.{Event, Did}
use Rattle.host_core.specs.Host.{Reads, State}
use Rattle.host_core.specs.Looks.{Looks}
use Rattle.host_core.specs.declared.fault.HostFault.{HostFault}
use Rattle.host_core.specs.declared.node.Kind.{Kind}
use Rattle.host_core.proofs.LooksBehind.{looked_behind}
use Rattle.host_core.proofs.Moments.{faults_then, grown}
use Rattle.host_core.proofs.Nodes.{same_access_is}
use Rattle.host_core.specs.declared.node.Access.{Access}
use Rattle.host_core.specs.declared.node.Node.{Node}
use Rattle.host_core.specs.declared.node.Node.TheVariants.{File, Dir, Link}
use Rattle.administration.proofs.WholeFiles.{no_directory_file}
use Rattle.aliases.specs.Aliases.{resolved}
use Rattle.diversions.specs.Changes.{BeginsOnDisk, CanMove, IsBroughtFirst, OnDone, diversion_of, doubled_if, moved_if, restored, restored_twice}
use Rattle.diversions.specs.Entries.{is_diverted, is_target, IsTable, IsWellFormed}
use Rattle.diversions.specs.Names.{front_of}
use Rattle.std.specs.List.{list_any}
use Rattle.diversions.specs.Refusals.{has_same, first_holding, move_conditions, add_conditions, back_conditions, owner_conditions, is_name_taken, is_one_place, is_path_taken, is_place_taken, is_rival, is_target_taken, answer_of, remove_answer}
use Rattle.diversions.specs.Routes.{route_of}
use Rattle.diversions.specs.Sights.{brings_first, sight_of, is_directory_kind, is_loose_kind, moves_back, moves_node, same_loose, same_node}
use Rattle.diversions.specs.Ways.{Ways, truename}
use Rattle.diversions.specs.declared.entry.Diversion.{Diversion}
use Rattle.diversions.specs.declared.entry.Owner.{Owner}
use Rattle.diversions.specs.declared.refusal.Answer.{Answer}
use Rattle.diversions.specs.declared.refusal.Refusal.TheVariants.{SamePath, Directory, AlreadyDiverted, TargetDiverted, Conffile, NoParent, TargetExists}
use Rattle.diversions.specs.declared.refusal.Seen.{Seen}
use Rattle.diversions.specs.declared.route.Route.{Route}
use Rattle.diversions.specs.declared.sight.Sight.{Sight}
use Rattle.diversions.proofs.Fronts.{parent_at_front}
use Rattle.diversions.proofs.Tables.{apart, table_more}

pub none_holds : {T : Type 0} (x : T) (b : Bool) (cs : List (T × Bool)) → first_holding ((x, b) ∷ cs) ≡ None → (b ≡ false) × (first_holding cs ≡ None)
none_holds x true cs is = absurd (let e : Some x ≡ None = is in cc)
none_holds x false cs is = (refl, is)

-- what is there, by its kind

kind_loose : (n : Option Node) → is_loose_kind (kind_of n) ≡ true → IsLoose n
kind_loose None is = absurd (false≢true is)
kind_loose (Some (File bytes access)) is = (refl, no_directory_file (File bytes access) (bytes, access, refl))
kind_loose (Some (Dir access)) is = absurd (false≢true is)
kind_loose (Some (Link target)) is = (refl, λ e. absurd (let same : Some (Link target) ≡ Some (Dir e.0) = e.1 in cc))

kind_none : (n : Option Node) → is_some (kind_of n) ≡ false → n ≡ None
kind_none None is = refl
kind_none (Some (File bytes access)) is = absurd (true≢false is)
kind_none (Some (Dir access)) is = absurd (true≢false is)
kind_none (Some (Link target)) is = absurd (true≢false is)

pub kind_directory : (n : Option Node) → is_directory_kind (kind_of n) ≡ true → IsDirectory n
kind_directory None is = absurd (false≢true is)
kind_directory (Some (File bytes access)) is = absurd (false≢true is)
kind_directory (Some (Dir access)) is = (access, refl)
kind_directory (Some (Link target)) is = absurd (false≢true is)

-- a node that is to be moved can be

not-true : (b : Bool) → not b ≡ true → b ≡ false
not-true true is = absurd (false≢true is)
not-true false is = refl

pub way_free : (sight : Sight) → first_holding (move_conditions true sight) ≡ None → (is_directory_kind sight.above ≡ true) × (is_some sight.to && not sight.same ≡ false)
way_free sight is =
    let first = none_holds NoParent (not (is_directory_kind sight.above)) ((TargetExists, is_some sight.to && not sight.same) ∷ []) is in
    (not-false (is_directory_kind sight.above) first.0, (none_holds TargetExists (is_some sight.to && not sight.same) [] first.1).0)

-- two nodes that are the same

same_loose_is : (n m : Node) → same_loose n m ≡ true → (n ≡ m) × (is_loose_kind (kind_of (Some m)) ≡ true)
same_loose_is (File bytes access) (File others other) is =
    let both = and_parts (bytes_eq bytes others) (same_access access other) is in
    (ap (λ (b : List ℕ). File b access) ((bytes_eq-Decides bytes others).0 both.0) ∙ ap (λ (a : Access). File others a) (same_access_is access other both.1), refl)
same_loose_is (File bytes access) (Dir other) is = absurd (false≢true is)
same_loose_is (File bytes access) (Link target) is = absurd (false≢true is)
same_loose_is (Dir access) m is = absurd (false≢true is)
same_loose_is (Link target) (File bytes access) is = absurd (false≢true is)
same_loose_is (Link target) (Dir access) is = absurd (false≢true is)
same_loose_is (Link target) (Link other) is = (ap (λ (t : List ℕ). Link t) ((bytes_eq-Decides target other).0 is), refl)

pub same_is : (n m : Option Node) → same_node n m ≡ true → (n ≡ m) × (is_loose_kind (kind_of m) ≡ true)
same_is None m is = absurd (false≢true is)
same_is (Some n) None is = absurd (false≢true is)
same_is (Some n) (Some m) is = let both = same_loose_is n m is in (ap (λ (x : Node). Some x) both.0, both.1)

-- what stands at the target is the node itself, or nothing
pub target_is : (n m : Option Node) (rename listed : Bool) → rename ≡ true → listed ≡ false → is_some (kind_of m) && not (rename && same_node n m) ≡ false → m ≡ cond (rename && (not listed && is_loose_kind (kind_of m))) n None
target_is n None true false is_asked is_free none = refl
target_is n (Some m) true false is_asked is_free none = at (same_node n (Some m)) refl none
  where
    at : (same : Bool) → same_node n (Some m) ≡ same → is_some (kind_of (Some m)) && not same ≡ false → Some m ≡ cond (is_loose_kind (kind_of (Some m))) n None
    at true same found = let both = same_is n (Some m) same in sym both.0 ∙ ap (λ b. cond b n None) (sym both.1)
    at false same found = absurd (true≢false (sym (there m) ∙ found))
      where
        there : (m : Node) → is_some (kind_of (Some m)) && true ≡ true
        there (File bytes access) = refl
        there (Dir access) = refl
        there (Link target) = refl
target_is n m false listed is_asked is_free none = absurd (false≢true is_asked)
target_is n m true true is_asked is_free none = absurd (true≢false is_free)

pub can_move : (moves brings rename listed : Bool) (sight : Sight) (w : World) (from to : Path) → moves ≡ moves_node rename listed sight → brings ≡ brings_first rename listed sight → sight ≡ sight_of rename w from to → from ≢ to → is_ship_text to ≡ true
    → first_holding (move_conditions moves sight) ≡ None → moves ≡ true → CanMove brings from to w
can_move moves brings rename listed sight w from to moved brought seen other ship none is =
    let way = way_free sight (subst (λ b. first_holding (move_conditions b sight) ≡ None) is none) in
    let asked = and_parts rename (not listed && is_loose_kind sight.from) (sym moved ∙ is) in
    let loose = and_parts (not listed) (is_loose_kind sight.from) asked.1 in
    record {
      other = other;
      there = kind_loose (w from) (ap (λ (s : Sight). is_loose_kind s.from) (sym seen) ∙ loose.1);
      target = target_is (w from) (w to) rename listed asked.0 (not-true listed loose.0) (ap (λ (s : Sight). is_some s.to && not s.same) (sym seen) ∙ way.1)
          ∙ ap (λ b. cond b (w from) None) (sym (brought ∙ ap (brings_first rename listed) seen));
      above = parent_at_front w to ship (kind_directory (w (front_of to)) (ap (λ (s : Sight). is_directory_kind s.above) (sym seen) ∙ way.0));
    }

-- a node that goes back
pub can_move_back : (moves brings rename : Bool) (sight : Sight) (w : World) (from to : Path) → moves ≡ not (bytes_eq from to) && moves_node rename false sight → brings ≡ brings_first rename false sight → sight ≡ sight_of rename w from to → is_ship_text to ≡ true
    → first_holding (move_conditions moves sight) ≡ None → moves ≡ true → CanMove brings from to w
can_move_back moves brings rename sight w from to moved brought seen ship none is =
    let both = and_parts (not (bytes_eq from to)) (moves_node rename false sight) (sym moved ∙ is) in
    can_move true brings rename false sight w from to (sym both.1) brought seen (apart from to (not-true (bytes_eq from to) both.0)) ship (subst (λ b. first_holding (move_conditions b sight) ≡ None) is none) refl

pub moved_back : (moves rename : Bool) (sight : Sight) (v w : World) (from to : Path) → moves ≡ not (bytes_eq from to) && moves_node rename false sight → sight ≡ sight_of rename w from to → v ≡ w → moved_if moves from to v ≡ restored to from rename w
moved_back moves rename sight v w from to moved seen same = ap (λ b. moved_if b from to v) (moved ∙ ap (λ s. not (bytes_eq from to) && moves_node rename false s) seen) ∙ ap (moved_if (moves_back rename w from to) from to) same

pub doubled_back : (moves rename : Bool) (sight : Sight) (v w : World) (from to : Path) → moves ≡ not (bytes_eq from to) && moves_node rename false sight → sight ≡ sight_of rename w from to → v ≡ w → doubled_if moves from to v ≡ restored_twice to from rename w
doubled_back moves rename sight v w from to moved seen same = ap (λ b. doubled_if b from to v) (moved ∙ ap (λ s. not (bytes_eq from to) && moves_node rename false s) seen) ∙ ap (doubled_if (moves_back rename w from to) from to) same

-- what is asked of a move back
pub back_asked : (moves rename : Bool) (sight : Sight) (w : World) (from to : Path) → moves ≡ not (bytes_eq from to) && moves_node rename false sight → sight ≡ sight_of rename w from to → first_holding (move_conditions moves sight) ≡ first_holding (back_conditions w from to rename)
back_asked moves rename sight w from to moved seen = ap (λ b. first_holding (move_conditions b sight)) moved ∙ ap (λ s. first_holding (move_conditions (not (bytes_eq from to) && moves_node rename false s) s)) seen

pub moved_same : (moves rename listed : Bool) (sight : Sight) (v w : World) (from to : Path) → moves ≡ moves_node rename listed sight → sight ≡ sight_of rename w from to → v ≡ w → moved_if moves from to v ≡ moved_if (moves_node rename listed (sight_of rename w from to)) from to w
moved_same moves rename listed sight v w from to moved seen same = ap (λ b. moved_if b from to v) (moved ∙ ap (moves_node rename listed) seen) ∙ ap (moved_if (moves_node rename listed (sight_of rename w from to)) from to) same

pub doubled_same : (moves rename listed : Bool) (sight : Sight) (v w : World) (from to : Path) → moves ≡ moves_node rename listed sight → sight ≡ sight_of rename w from to → v ≡ w → doubled_if moves from to v ≡ doubled_if (moves_node rename listed (sight_of rename w from to)) from to w
doubled_same moves rename listed sight v w from to moved seen same = ap (λ b. doubled_if b from to v) (moved ∙ ap (moves_node rename listed) seen) ∙ ap (doubled_if (moves_node rename listed (sight_of rename w from to)) from to) same

-- what is brought to the disk, behind what was looked at
pub brought_behind : (rename listed : Bool) (sight : Sight) (brings : Bool) (a b c : State) (from to : Path) → brings ≡ brings_first rename listed sight → (IsTrue c.honest → sight ≡ sight_of rename a.world from to) → Reads a b → (brings ≡ true → BeginsOnDisk b c)
    → IsBroughtFirst rename listed from to a c
brought_behind rename listed sight brings a b c from to is seen reads begins h there =
    let x = begins (is ∙ ap (brings_first rename listed) (seen h) ∙ there) in
    (reads.added ++ x.0, x.1, faults_then reads.added x.0 reads.failed x.2, grown a.events b.events c.events reads.added (x.0 ++ Did SyncRoot ∷ x.1) reads.events x.3 ∙ ap (λ (l : List Event). a.events ++ l) (sym (append_assoc reads.added x.0 (Did SyncRoot ∷ x.1))))

-- an entry that isn't refused

record Passes (sight : Sight) (ways : Ways) (d : Diversion) (rename : Bool) (seen : Seen) : Type 0 where
  other : is_one_place ways.aliases d.target d.path ≡ false
  path : is_path_taken ways d ≡ false
  taken : is_target_taken ways d ≡ false
  way : first_holding (move_conditions (moves_node rename seen.listed sight) sight) ≡ None

passes : (sight : Sight) (ways : Ways) (d : Diversion) (rename : Bool) (seen : Seen) → first_holding (add_conditions sight ways d rename seen) ≡ None → Passes sight ways d rename seen
passes sight ways d rename seen none =
    let way = move_conditions (moves_node rename seen.listed sight) sight in
    let late = (Conffile, seen.conffile) ∷ way in
    let middle = (TargetDiverted, is_target_taken ways d) ∷ late in
    let early = (AlreadyDiverted, is_path_taken ways d) ∷ middle in
    let directory = is_directory_kind sight.from || is_directory_kind sight.to in
    let same = none_holds SamePath (is_one_place ways.aliases d.target d.path) ((Directory, directory) ∷ early) none in
    let first = none_holds Directory directory early same.1 in
    let second = none_holds AlreadyDiverted (is_path_taken ways d) middle first.1 in
    let third = none_holds TargetDiverted (is_target_taken ways d) late second.1 in
    record { other = same.0; path = second.0; taken = third.0; way = (none_holds Conffile seen.conffile way third.1).1 }

pub other_added : (sight : Sight) (ways : Ways) (d : Diversion) (rename : Bool) (seen : Seen) → first_holding (add_conditions sight ways d rename seen) ≡ None → resolved ways.aliases d.path ≢ resolved ways.aliases d.target
other_added sight ways d rename seen none e = apart (resolved ways.aliases d.target) (resolved ways.aliases d.path) (passes sight ways d rename seen none).other (sym e)

pub other_along : (sight : Sight) (ways : Ways) (d : Diversion) (route : Route) (rename : Bool) (seen : Seen) → route ≡ route_of ways.aliases d.path d.target → first_holding (add_conditions sight ways d rename seen) ≡ None → route.from ≢ route.to
other_along sight ways d route rename seen is none e = other_added sight ways d rename seen none (subst (λ (r : Route). r.from ≡ r.to) is e)

pub way_of_added : (sight : Sight) (ways : Ways) (d : Diversion) (rename : Bool) (seen : Seen) → first_holding (add_conditions sight ways d rename seen) ≡ None → first_holding (move_conditions (moves_node rename seen.listed sight) sight) ≡ None
way_of_added sight ways d rename seen none = (passes sight ways d rename seen none).way

pub table_with_added : (sight : Sight) (ways : Ways) (d : Diversion) (rename : Bool) (seen : Seen) → first_holding (add_conditions sight ways d rename seen) ≡ None → IsWellFormed d → IsTable ways.entries → IsTable (ways.entries ++ d ∷ [])
table_with_added sight ways d rename seen none formed table =
    let entries = ways.entries in
    let all = passes sight ways d rename seen none in
    let path = or_parts (is_diverted entries d.path) (list_any (is_rival ways.aliases d) entries) all.path in
    let names = or_parts (is_name_taken entries d) (list_any (is_place_taken ways.aliases d) entries) all.taken in
    let two = or_parts (is_diverted entries d.target) (is_target entries d.target || is_target entries d.path) names.0 in
    let three = or_parts (is_target entries d.target) (is_target entries d.path) two.1 in
    table_more entries d table
    record { path = formed.path; target = formed.target; owner = formed.owner; other = λ same. apart (resolved ways.aliases d.target) (resolved ways.aliases d.path) all.other (ap (resolved ways.aliases) same) }
    record { not_diverted = path.0; no_target = three.1 } record { not_diverted = two.0; no_target = three.0 }

-- taking away

pub first_after : {T : Type 0} (a b : List (T × Bool)) → first_holding a ≡ None → first_holding (a ++ b) ≡ first_holding b
first_after [] b none = refl
first_after ((x, true) ∷ a) b none = absurd (let e : Some x ≡ None = none in cc)
first_after ((x, false) ∷ a) b none = first_after a b none

pub remove_answered : (w : World) (ways : Ways) (path from to : Path) (owner : Owner) (rename : Bool) (x : Answer) → first_holding (owner_conditions ways.entries path owner) ≡ None → from ≡ truename ways path → to ≡ resolved ways.aliases path
    → x ≡ answer_of (first_holding (back_conditions w from to rename)) → x ≡ remove_answer w ways path owner rename
remove_answered w ways path from to owner rename x none is_from is_to answered =
    answered ∙ ap (λ (p : Path). answer_of (first_holding (back_conditions w p to rename))) is_from
    ∙ ap (λ (p : Path). answer_of (first_holding (back_conditions w (truename ways path) p rename))) is_to
    ∙ ap answer_of (sym (first_after (owner_conditions ways.entries path owner) (back_conditions w (truename ways path) (resolved ways.aliases path) rename) none))

pub if_ok : {T E : Type 0} {P Q : T → Type 0} (result : Result T E) → ((x : T) → P x → Q x) → IfOk result P → IfOk result Q
if_ok (Ok x) so there = so x there
if_ok (Err e) so there = tt

pub ok_at : {T E : Type 0} (r : Result T E) (x : T) (P : T → Type 0) (Q : E → Type 0) → r ≡ Ok x → MatchResult r P Q → P x
ok_at (Ok y) x P Q is holds = let same : y ≡ x = cc is in subst P same holds
ok_at (Err e) x P Q is holds = absurd (let same : Err e ≡ Ok x = is in cc)

-- what is seen, by what was looked at

-- where either is no file or link they aren't the same
same_asked : (rename : Bool) (n m : Option Node) → (rename && (is_loose_kind (kind_of n) && is_loose_kind (kind_of m))) && same_node n m ≡ rename && same_node n m
same_asked false n m = refl
same_asked true n m = at (same_node n m) refl
  where
    at : (same : Bool) → same_node n m ≡ same → (is_loose_kind (kind_of n) && is_loose_kind (kind_of m)) && same ≡ same
    at true is =
        let both = same_is n m is in
        and_from (is_loose_kind (kind_of n) && is_loose_kind (kind_of m)) true (and_from (is_loose_kind (kind_of n)) (is_loose_kind (kind_of m)) (ap (λ x. is_loose_kind (kind_of x)) both.0 ∙ both.1) both.1) refl
    at false is = and_right (is_loose_kind (kind_of n) && is_loose_kind (kind_of m)) false refl

abbrev seen_of : Option Kind → Option Kind → Option Kind → Bool → Sight
seen_of there taken above same = record { from = there; to = taken; above = above; same = same }

sight_seen : (rename : Bool) (from to : Path) (there taken above : Option Kind) (w : World) → there ≡ kind_of (w from) → taken ≡ kind_of (w to) → above ≡ kind_of (w (front_of to))
    → seen_of there taken above ((rename && (is_loose_kind there && is_loose_kind taken)) && same_node (w from) (w to)) ≡ sight_of rename w from to
sight_seen rename from to there taken above w at_from at_to at_above =
    ap (λ k. seen_of k taken above ((rename && (is_loose_kind k && is_loose_kind taken)) && same_node (w from) (w to))) at_from
    ∙ ap (λ k. seen_of (kind_of (w from)) k above ((rename && (is_loose_kind (kind_of (w from)) && is_loose_kind k)) && same_node (w from) (w to))) at_to
    ∙ ap (λ k. seen_of (kind_of (w from)) (kind_of (w to)) k ((rename && (is_loose_kind (kind_of (w from)) && is_loose_kind (kind_of (w to)))) && same_node (w from) (w to))) at_above
    ∙ ap (seen_of (kind_of (w from)) (kind_of (w to)) (kind_of (w (front_of to)))) (same_asked rename (w from) (w to))

-- three kinds, and then whether both are one node
pub looked_around : (rename : Bool) (from to : Path) (there taken above : Option Kind) (result : Result Sight HostFault) (a b c d e : State)
    → Looks {T = Option Kind} (Ok there) (λ kind w. kind ≡ kind_of (w from)) a b → Looks {T = Option Kind} (Ok taken) (λ kind w. kind ≡ kind_of (w to)) b c → Looks {T = Option Kind} (Ok above) (λ kind w. kind ≡ kind_of (w (front_of to))) c d
    → Looks result (λ sight w. sight ≡ record { from = there; to = taken; above = above; same = (rename && (is_loose_kind there && is_loose_kind taken)) && same_node (w from) (w to) }) d e
    → Looks result (λ sight w. sight ≡ sight_of rename w from to) a e
looked_around rename from to there taken above result a b c d e first second third last =
    looked_behind there result (λ kind w. kind ≡ kind_of (w from)) with_both (λ sight w. sight ≡ sight_of rename w from to) a b e
    (λ sight w at more. more.1.1 ∙ sight_seen rename from to there taken above w at more.0 more.1.0) first
    (looked_behind taken result (λ kind w. kind ≡ kind_of (w to)) with_above with_both b c e (λ sight w at more. (at, more)) second
    (looked_behind above result (λ kind w. kind ≡ kind_of (w (front_of to))) seen with_above c d e (λ sight w at is. (at, is)) third last))
  where
    seen : Sight → World → Type 0
    seen sight w = sight ≡ seen_of there taken above ((rename && (is_loose_kind there && is_loose_kind taken)) && same_node (w from) (w to))

    with_above : Sight → World → Type 0
    with_above sight w = (above ≡ kind_of (w (front_of to))) × seen sight w

    with_both : Sight → World → Type 0
    with_both sight w = (taken ≡ kind_of (w to)) × with_above sight w

-- whether the same stands at both, where that was asked
pub seen_same : (asked : Bool) (from to : Path) (there taken : Option Node) (result : Result Bool HostFault) (a b c d : State) → asked ≡ true
    → Looks {T = Option Node} (Ok there) (λ node w. node ≡ w from) a b → Looks {T = Option Node} (Ok taken) (λ node w. node ≡ w to) b c
    → Looks result (λ same w. same ≡ same_node there taken) c d → Looks result (λ same w. same ≡ (asked && same_node (w from) (w to))) a d
seen_same asked from to there taken result a b c d is_asked first second last =
    looked_behind there result (λ node w. node ≡ w from) (λ same w. same ≡ same_node there (w to)) (λ same w. same ≡ (asked && same_node (w from) (w to))) a b d
    (λ same w at is. is ∙ ap (λ n. same_node n (w to)) at ∙ ap (λ y. y && same_node (w from) (w to)) (sym is_asked)) first
    (looked_behind taken result (λ node w. node ≡ w to) (λ same w. same ≡ same_node there taken) (λ same w. same ≡ same_node there (w to)) b c d (λ same w at is. is ∙ ap (same_node there) at) second last)

-- the entry that is asked for
pub brought_of : (ways : Ways) (rename listed : Bool) (result : Result Answer HostFault) (a b : State) (p p2 t t2 : Path) (o o2 : Owner) → p ≡ p2 → t ≡ t2 → o ≡ o2
    → (has_same ways.entries (diversion_of p t o) ≡ false → OnDone result (IsBroughtFirst rename listed (resolved ways.aliases p) (resolved ways.aliases t) a b))
    → has_same ways.entries (diversion_of p2 t2 o2) ≡ false → OnDone result (IsBroughtFirst rename listed (resolved ways.aliases p2) (resolved ways.aliases t2) a b)
brought_of ways rename listed result a b p p2 t t2 o o2 e f g goes =
    subst (λ x. has_same ways.entries (diversion_of p2 t2 x) ≡ false → OnDone result (IsBroughtFirst rename listed (resolved ways.aliases p2) (resolved ways.aliases t2) a b)) g
    (subst (λ x. has_same ways.entries (diversion_of p2 x o) ≡ false → OnDone result (IsBroughtFirst rename listed (resolved ways.aliases p2) (resolved ways.aliases x) a b)) f
    (subst (λ x. has_same ways.entries (diversion_of x t o) ≡ false → OnDone result (IsBroughtFirst rename listed (resolved ways.aliases x) (resolved ways.aliases t) a b)) e goes))
