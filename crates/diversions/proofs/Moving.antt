-- What moving a node and writing the file leave.
use Rattle.std.proofs.Common.{◌≡◌, ◌≢◌, ◌⊎◌, inl, inr, ℕ, Bool, true, false, List, length, codes, Option, Some, None, Result, Ok, Err, OnOk, IsTrue, refl, sym, ap, subst, ◌∙◌, arith}
use Rattle.std.proofs.lemmas.Bool.{true≢false}
use Rattle.host_core.specs.Paths.{Path, is_ship_text}
use Rattle.host_core.specs.World.{World, put, moved, IsDirectory, IsFile, HasParent}
use Rattle.host_core.specs.Host.{State, Reads, Since}
use Rattle.host_core.proofs.WorldLaws.{put_same, put_other}
use Rattle.host_core.proofs.Moments.{since_reads, since_then, since_weaker_if}
use Rattle.host_core.specs.Nodes.{own_access}
use Rattle.host_core.specs.declared.node.Node.{Node}
use Rattle.host_core.specs.declared.node.Node.TheVariants.{File}
use Rattle.administration.specs.Files.{KeepsBesideFile, IsReplaced, IsReplacing}
use Rattle.administration.specs.Places.{home_path, diversions_path, temporary}
use Rattle.administration.proofs.WholeFiles.{no_slash, no_directory_at, no_directory_file, no_directory_none}
use Rattle.diversions.specs.Changes.{CanMove, IsCarrying, IsMovedWhole, IsMoving, IsSame, IsTableReady, IsRecorded, IsRecording, IsUnderWay, doubled_if, moved_if}
use Rattle.diversions.specs.Entries.{IsTable}
use Rattle.diversions.specs.Lines.{HasEntries}
use Rattle.diversions.specs.Writing.{table_file, table_text}
use Rattle.diversions.specs.declared.entry.Diversion.{Diversion}
use Rattle.diversions.proofs.WrittenTables.{written_read}

-- the node that is moved

pub moved_none : (moves : Bool) (from to : Path) (w : World) → moves ≡ false → w ≡ moved_if moves from to w
moved_none true from to w is = absurd (true≢false is)
moved_none false from to w is = refl

pub moved_away : (moves : Bool) (from to : Path) (w : World) (q : Path) → (moves ≡ true → q ≢ from) → (moves ≡ true → q ≢ to) → moved_if moves from to w q ≡ w q
moved_away true from to w q no_from no_to = put_other (put w from None) to q (w from) (no_to refl) ∙ put_other w from q None (no_from refl)
moved_away false from to w q no_from no_to = refl

-- the program's own files are at no shipped path

pub own_other : (q p : Path) → is_ship_text p ≡ true → is_ship_text q ≡ false → q ≢ p
own_other q p is own e = true≢false (sym is ∙ ap is_ship_text (sym e) ∙ own)

home_from : (w : World) (twice : Bool) (from to : Path) → IsTableReady w → CanMove twice from to w → home_path ≢ from
home_from w twice from to ready can e = can.there.1 (subst (λ p. IsDirectory (w p)) e ready.home)

-- no directory stands at the target
pub no_directory_to : (w : World) (twice : Bool) (from to : Path) → CanMove twice from to w → IsDirectory (w to) → ⊥
no_directory_to w true from to can there = can.there.1 (subst IsDirectory can.target there)
no_directory_to w false from to can there = no_directory_none (subst IsDirectory can.target there)

home_to : (w : World) (twice : Bool) (from to : Path) → IsTableReady w → CanMove twice from to w → home_path ≢ to
home_to w twice from to ready can e = no_directory_to w twice from to can (subst (λ p. IsDirectory (w p)) e ready.home)

pub ready_moved : (moves twice : Bool) (from to : Path) (w : World) → is_ship_text from ≡ true → is_ship_text to ≡ true → IsTableReady w → (moves ≡ true → CanMove twice from to w) → IsTableReady (moved_if moves from to w)
ready_moved moves twice from to w ship_from ship_to ready can = record {
  home = subst IsDirectory (sym (moved_away moves from to w home_path (λ t. home_from w twice from to ready (can t)) (λ t. home_to w twice from to ready (can t)))) ready.home;
  target = no_directory_at (moved_if moves from to w diversions_path) (w diversions_path)
      (moved_away moves from to w diversions_path (λ t. own_other diversions_path from ship_from refl) (λ t. own_other diversions_path to ship_to refl)) ready.target;
  spare = no_directory_at (moved_if moves from to w (temporary diversions_path)) (w (temporary diversions_path))
      (moved_away moves from to w (temporary diversions_path) (λ t. own_other (temporary diversions_path) from ship_from refl) (λ t. own_other (temporary diversions_path) to ship_to refl)) ready.spare;
}

doubled_away : (moves : Bool) (from to : Path) (w : World) (q : Path) → (moves ≡ true → q ≢ to) → doubled_if moves from to w q ≡ w q
doubled_away true from to w q no_to = put_other w to q (w from) (no_to refl)
doubled_away false from to w q no_to = refl

pub ready_doubled : (moves twice : Bool) (from to : Path) (w : World) → is_ship_text to ≡ true → IsTableReady w → (moves ≡ true → CanMove twice from to w) → IsTableReady (doubled_if moves from to w)
ready_doubled moves twice from to w ship ready can = record {
  home = subst IsDirectory (sym (doubled_away moves from to w home_path (λ t. home_to w twice from to ready (can t)))) ready.home;
  target = no_directory_at (doubled_if moves from to w diversions_path) (w diversions_path) (doubled_away moves from to w diversions_path (λ t. own_other diversions_path to ship refl)) ready.target;
  spare = no_directory_at (doubled_if moves from to w (temporary diversions_path)) (w (temporary diversions_path)) (doubled_away moves from to w (temporary diversions_path) (λ t. own_other (temporary diversions_path) to ship refl)) ready.spare;
}

pub ready_same : (w now : World) → IsSame w now → IsTableReady w → IsTableReady now
ready_same w now same ready = record {
  home = subst IsDirectory (sym (same home_path)) ready.home;
  target = no_directory_at (now diversions_path) (w diversions_path) (same diversions_path) ready.target;
  spare = no_directory_at (now (temporary diversions_path)) (w (temporary diversions_path)) (same (temporary diversions_path)) ready.spare;
}

-- the file that is written

pub table_parent : (w : World) → IsTableReady w → HasParent w diversions_path
table_parent w ready = (home_path, codes "diversions", refl, no_slash (codes "diversions") refl, ready.home)

replacing_start : (node : Node) (w now : World) → IsTableReady w → IsSame w now → IsReplacing diversions_path node w now
replacing_start node w now ready same = record { target = inl (same diversions_path); spare = (ready_same w now same ready).spare; rest = λ q no_file no_spare. same q }

pub replaced_same : (node : Node) (w mid now : World) → IsSame w mid → IsReplaced diversions_path node mid now → IsReplaced diversions_path node w now
replaced_same node w mid now same is = record { target = is.target; spare = is.spare; rest = λ q no_file no_spare. is.rest q no_file no_spare ∙ same q }

pub replacing_same : (node : Node) (w mid now : World) → IsSame w mid → IsReplacing diversions_path node mid now → IsReplacing diversions_path node w now
replacing_same node w mid now same is = record {
  target = elim is.target [ inl before ↦ inl (before ∙ same diversions_path) | inr new ↦ inr new ];
  spare = is.spare;
  rest = λ q no_file no_spare. is.rest q no_file no_spare ∙ same q;
}

-- the node is being moved, from a world that was looked at before
pub carrying_moved : (node : Node) (moves : Bool) (from to : Path) (old mid now : World) → mid ≡ old → IsTableReady (moved_if moves from to old) → IsMoving moves from to mid now → IsCarrying node moves from to old now
carrying_moved node moves from to old mid now is ready (inl same) = inl (same ∙ is)
carrying_moved node moves from to old mid now is ready (inr (inl both)) = inr (inl (both ∙ ap (doubled_if moves from to) is))
carrying_moved node moves from to old mid now is ready (inr (inr moved)) =
    inr (inr (replacing_start node (moved_if moves from to old) now ready (subst (λ v. IsSame (moved_if moves from to v) now) is moved)))

home_target : home_path ≢ diversions_path
home_target e = absurd (omega (arith, ap length e))

home_spare : home_path ≢ temporary diversions_path
home_spare e = absurd (omega (arith, ap length e))

file_read : (entries : List Diversion) (node : Node) (n : Option Node) → node ≡ table_file entries → IsTable entries → n ≡ Some node → HasEntries n entries
file_read entries node n is table there = subst (λ m. HasEntries m entries) (sym (there ∙ ap (λ m. Some m) is)) (written_read entries table)

pub file_is : (entries : List Diversion) (node : Node) (text : List ℕ) → node ≡ File text (own_access 0o644) → text ≡ table_text entries → node ≡ table_file entries
file_is entries node text is same = is ∙ ap (λ (t : List ℕ). File t (own_access 0o644)) same

table_is_file : (entries : List Diversion) (node : Node) → node ≡ table_file entries → IsFile node
table_is_file entries node is = (table_text entries, _, is)

pub recorded_by : (entries : List Diversion) (node : Node) (old new : World) → node ≡ table_file entries → IsTable entries → IsTableReady old → IsReplaced diversions_path node old new → IsRecorded entries old new
recorded_by entries node old new is table ready replaced = record {
  table = file_read entries node (new diversions_path) is table replaced.target;
  file = replaced.target ∙ ap (λ m. Some m) is;
  ready = record {
    home = subst IsDirectory (sym (replaced.rest home_path home_target home_spare)) ready.home;
    target = no_directory_at (new diversions_path) (Some node) replaced.target (no_directory_file node (table_is_file entries node is));
    spare = no_directory_at (new (temporary diversions_path)) None replaced.spare no_directory_none;
  };
  rest = replaced.rest;
}

pub recording_by : (moves : World → World) (entries : List Diversion) (node : Node) (old now : World) → node ≡ table_file entries → IsTable entries → moves old diversions_path ≡ old diversions_path → IsTableReady (moves old)
    → IsReplacing diversions_path node (moves old) now → IsRecording entries moves old now
recording_by moves entries node old now is table home ready replacing = record {
  table = elim replacing.target [ inl same ↦ inl (same ∙ home) | inr new ↦ inr (file_read entries node (now diversions_path) is table new) ];
  ready = record {
    home = subst IsDirectory (sym (replacing.rest home_path home_target home_spare)) ready.home;
    target = elim replacing.target [
      | inl same ↦ no_directory_at (now diversions_path) (moves old diversions_path) same ready.target
      | inr new ↦ no_directory_at (now diversions_path) (Some node) new (no_directory_file node (table_is_file entries node is))
    ];
    spare = replacing.spare;
  };
  rest = replacing.rest;
}

-- the file of the table stays where it is
pub home_stays : (moves : Bool) (from to : Path) (w : World) → is_ship_text from ≡ true → is_ship_text to ≡ true → moved_if moves from to w diversions_path ≡ w diversions_path
home_stays moves from to w ship_from ship_to = moved_away moves from to w diversions_path (λ t. own_other diversions_path from ship_from refl) (λ t. own_other diversions_path to ship_to refl)

pub under_way_by : (moves : Bool) (from to : Path) (entries : List Diversion) (node : Node) (old now : World) → node ≡ table_file entries → IsTable entries → moved_if moves from to old diversions_path ≡ old diversions_path → IsTableReady (moved_if moves from to old)
    → IsTableReady (doubled_if moves from to old) → IsCarrying node moves from to old now → IsUnderWay (doubled_if moves from to) (moved_if moves from to) entries old now
under_way_by moves from to entries node old now is table home ready twice (inl same) = inl same
under_way_by moves from to entries node old now is table home ready twice (inr (inl both)) = inr (inl (both, subst IsTableReady (sym both) twice))
under_way_by moves from to entries node old now is table home ready twice (inr (inr replacing)) = inr (inr (recording_by (moved_if moves from to) entries node old now is table home ready replacing))

pub on_ok : {T E : Type 0} {P Q : Type 0} (result : Result T E) → (P → Q) → OnOk result P → OnOk result Q
on_ok (Ok x) so there = so there
on_ok (Err e) so there = tt

pub under_way_same : (doubles twice moves over : World → World) (entries : List Diversion) (v w now : World) → v ≡ w → doubles v ≡ twice w → moves v ≡ over w → IsUnderWay doubles moves entries v now → IsUnderWay twice over entries w now
under_way_same doubles twice moves over entries v w now same both goes (inl start) = inl (start ∙ same)
under_way_same doubles twice moves over entries v w now same both goes (inr (inl amid)) = inr (inl (amid.0 ∙ both, amid.1))
under_way_same doubles twice moves over entries v w now same both goes (inr (inr recording)) = inr (inr record {
  table = elim recording.table [ inl before ↦ inl (before ∙ ap (λ u. u diversions_path) same) | inr after ↦ inr after ];
  ready = recording.ready;
  rest = subst (λ u. KeepsBesideFile diversions_path u now) goes recording.rest;
})

-- the same where it was looked at before
pub since_sight : (doubles twice moves over : World → World) (entries : List Diversion) (a b c : State) → Reads a b → (IsTrue c.honest → doubles b.world ≡ twice a.world) → (IsTrue c.honest → moves b.world ≡ over a.world)
    → Since (λ so_far. IsUnderWay doubles moves entries b.world) b c → Since (λ so_far. IsUnderWay twice over entries a.world) a c
since_sight doubles twice moves over entries a b c reads both goes since =
    since_then (λ so_far. IsUnderWay twice over entries a.world) a b c (since_reads (λ so_far. IsUnderWay twice over entries a.world) a b reads (λ fs all. inl refl))
    (since_weaker_if _ _ b c (λ h so_far w is. under_way_same doubles twice moves over entries b.world a.world w reads.world (both h) (goes h) is) since)

-- a node is moved whole
pub moved_whole : (moves : Bool) (from to : Path) (w : World) → from ≢ to → IsMovedWhole from to w (moved_if moves from to w)
moved_whole true from to w other = record {
  whole = inr (put_other (put w from None) to from (w from) other ∙ put_same w from from None refl, put_same (put w from None) to to (w from) refl);
  rest = λ q no_from no_to. put_other (put w from None) to q (w from) no_to ∙ put_other w from q None no_from;
}
moved_whole false from to w other = record { whole = inl (refl, inl refl); rest = λ q no_from no_to. refl }

-- or has both names
pub doubled_whole : (moves : Bool) (from to : Path) (w : World) → from ≢ to → IsMovedWhole from to w (doubled_if moves from to w)
doubled_whole true from to w other = record {
  whole = inl (put_other w to from (w from) other, inr (put_same w to to (w from) refl));
  rest = λ q no_from no_to. put_other w to q (w from) no_to;
}
doubled_whole false from to w other = record { whole = inl (refl, inl refl); rest = λ q no_from no_to. refl }
