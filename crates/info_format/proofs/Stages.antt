-- Names are brought to format 0 before all else.
use Rattle.std.proofs.Common.{◌≡◌, ◌⊎◌, ◌||◌, ◌<◌, arith, zero, suc, length, get_or, inl, inr, IsTrue, ℕ, Bool, true, false, nat_eq, List, [], ◌∷◌, ◌++◌, Option, Some, None, Result, Ok, Err, IfErr, codes, refl, sym, ap, subst, ◌∙◌, Contains}
use Rattle.std.specs.Prelude.{IsSome, MatchBool, OnOk, not}
use Rattle.std.specs.List.{list_all, list_any}
use Rattle.std.specs.Str.{bytes_eq}
use Rattle.std.proofs.lemmas.Bool.{and_parts, false≢true, or_parts, true≢false}
use Rattle.std.proofs.lemmas.List.Folds.{list_any-append}
use Rattle.std.proofs.lemmas.Slice.Eq.{bytes_eq-Decides}
use Rattle.host_core.specs.Paths.{Path}
use Rattle.host_core.specs.Host.{State, Reads, Since}
use Rattle.host_core.specs.Tree.{IsListing, has_slash}
use Rattle.host_core.specs.World.{World, IsDirectory, IsLoose}
use Rattle.host_core.specs.declared.node.Node.{Node}
use Rattle.host_core.proofs.Moments.{since_reads, since_then, since_weaker_if}
use Rattle.administration.specs.Directories.{HasBadName}
use Rattle.administration.specs.Files.{NoDirectory}
use Rattle.administration.specs.Places.{info_path}
use Rattle.administration.specs.declared.fault.AdministrationFault.{AdministrationFault}
use Rattle.administration.specs.declared.fault.AdministrationFault.TheVariants.{Damaged, Device, NoMemory, Declined}
use Rattle.file_lists.specs.Info.{entry_path}
use Rattle.status_db.specs.Held.{HasRecords}
use Rattle.status_db.specs.NoteDamage.{IsRecordsDamage}
use Rattle.status_records.specs.declared.record.Record.{Record}
use Rattle.info_format.specs.Converting.{IsConverted, IsConverting, IsNamesDamage}
use Rattle.info_format.specs.Format.{format_path, says_one}
use Rattle.info_format.specs.Names.{Architectures, AreTwo, architectures, long_front}
use Rattle.info_format.specs.Stage.{AreDamaged, AreDone, IsIdle, IsNaming, IsPlain, is_named, is_plain_name, is_format}
use Rattle.info_format.proofs.Conversion.{converting_start, entry_there}
use Rattle.info_format.proofs.Copies.{aside_start}
use Rattle.info_format.proofs.Two.{has_colon, long_plain}

each_plain : (names : List Path) (k : ℕ) (entry : Path) → list_all is_plain_name names ≡ true → k < length names → get_or names k entry ≡ entry → is_plain_name entry ≡ true
each_plain [] k entry all lt e = absurd (omega (arith, lt))
each_plain (n ∷ names) zero entry all lt e = ap is_plain_name (sym e) ∙ (and_parts (is_plain_name n) (list_all is_plain_name names) all).0
each_plain (n ∷ names) (suc k) entry all lt e = each_plain names k entry (and_parts (is_plain_name n) (list_all is_plain_name names) all).1 (omega (arith, lt)) e

none_named : (names : List Path) (entry : Path) → list_all is_plain_name names ≡ true → Contains names entry → is_named entry ≡ true → ⊥
none_named names entry all has is = false≢true (sym (ap not is) ∙ each_plain names has.0 entry all has.1 has.2)

some_or_none : (node : Option Node) → (IsSome node → ⊥) → node ≡ None
some_or_none None not = refl
some_or_none (Some n) not = absurd (not refl)

or_left : (a b : Bool) → a ≡ true → (a || b) ≡ true
or_left true b is = refl
or_left false b is = absurd (false≢true is)

long_named : (arches : Architectures) (long short : Path) (two : AreTwo arches long short) → is_named (long_front two.name two.architecture ++ 46 ∷ two.ending) ≡ true
long_named arches long short two =
    let entry = long_front two.name two.architecture ++ 46 ∷ two.ending in
    or_left (list_any (λ b. nat_eq b 58) entry) (is_format entry)
    (list_any-append (λ b. nat_eq b 58) (long_front two.name two.architecture) (46 ∷ two.ending) ∙ or_left (list_any (λ b. nat_eq b 58) (long_front two.name two.architecture)) (list_any (λ b. nat_eq b 58) (46 ∷ two.ending)) (has_colon two.name two.architecture))

no_format : (w : World) (names : List Path) → IsListing w info_path names false → list_all is_plain_name names ≡ true → IsSome (w format_path) → ⊥
no_format w names listing none some = none_named names (codes "format") none (entry_there w names false refl listing (codes "format") refl some) refl

-- where no entry has such a name nothing is to be done
pub plain_done : (w : World) → IsPlain w → (arches : Architectures) → IsConverted arches w w
plain_done w (names, listing, none) arches = record {
  converting = converting_start arches w;
  aside = aside_start w;
  plain = ap says_one (some_or_none (w format_path) (no_format w names listing none));
  known = λ told stands. no_format w names listing none told;
  gone = λ long short two there stands.
      let entry = long_front two.name two.architecture ++ 46 ∷ two.ending in
      none_named names entry none (entry_there w names false refl listing entry (long_plain arches long short two) (subst (λ (q : Path). IsSome (w q)) two.long_is stands.0)) (long_named arches long short two);
}

not_false : (b : Bool) → not b ≡ false → b ≡ true
not_false true e = refl
not_false false e = absurd (true≢false e)

-- the listing told it
pub plain_by : (w : World) (path : Path) (names : List Path) (bad plain named : Bool) → path ≡ info_path → IsListing w path names bad → plain ≡ list_all is_plain_name names → named ≡ (bad || not plain) → named ≡ false → IsPlain w
plain_by w path names bad plain named is listing told both none =
    let parts = or_parts bad (not plain) (sym both ∙ none) in
    (names, subst (λ (b : Bool). IsListing w info_path names b) parts.0 (subst (λ (p : Path). IsListing w p names bad) is listing), sym told ∙ not_false plain parts.1)

pub not_there : (w : World) (path : Path) (b : Bool) → path ≡ info_path → b ≡ false → MatchBool b (IsDirectory (w path)) (NoDirectory (w path)) → NoDirectory (w info_path)
not_there w path true is wrong told = absurd (true≢false wrong)
not_there w path false is wrong told = subst (λ (p : Path). NoDirectory (w p)) is told

pub there : (w : World) (path : Path) (b : Bool) → path ≡ info_path → b ≡ true → MatchBool b (IsDirectory (w path)) (NoDirectory (w path)) → IsDirectory (w info_path)
there w path true is right told = subst (λ (p : Path). IsDirectory (w p)) is told
there w path false is right told = absurd (false≢true right)

-- by the records

pub done_by : {T : Type 0} (result : Result T AdministrationFault) (table : List Record) (old v new : World) → v ≡ old → HasRecords old table → OnOk result (((new ≡ v) × HasBadName v info_path) ⊎ IsConverted (architectures table) v new) → OnOk result (AreDone old new)
done_by (Ok x) table old v new same has is = elim is [
  | inl bad ↦ inl (bad.0 ∙ same, inr (inr (inl (subst (λ (w : World). HasBadName w info_path) same bad.1))))
  | inr converted ↦ inr (table, has, subst (λ (w : World). IsConverted (architectures table) w new) same converted)
]
done_by (Err e) table old v new same has is = tt

damaged_at : (table : List Record) (old v : World) (fault : AdministrationFault) → v ≡ old → HasRecords old table → IsNamesDamage (architectures table) v fault → AreDamaged old fault
damaged_at table old v (Damaged file line) same has is = (table, has, subst (λ (w : World). IsNamesDamage (architectures table) w (Damaged file line)) same is)
damaged_at table old v Device same has is = tt
damaged_at table old v NoMemory same has is = tt
damaged_at table old v Declined same has is = tt

pub damaged_by : {T : Type 0} (result : Result T AdministrationFault) (table : List Record) (old v : World) → v ≡ old → HasRecords old table → IfErr result (IsNamesDamage (architectures table) v) → IfErr result (AreDamaged old)
damaged_by (Ok x) table old v same has is = tt
damaged_by (Err fault) table old v same has is = damaged_at table old v fault same has is

-- where the records can't be read nothing is done
pub unreadable : (w : World) (fault : AdministrationFault) (file : Path) (line : ℕ) → fault ≡ Damaged file line → IsRecordsDamage w fault → IsIdle w
unreadable w fault file line is damage = inr (inr (inr (file, line, subst (IsRecordsDamage w) is damage)))

pub moments_read : (a b : State) → Reads a b → Since (λ so_far. IsNaming a.world) a b
moments_read a b reads = since_reads (λ so_far. IsNaming a.world) a b reads (λ fs all. inl refl)

pub moments_converted : (table : List Record) (a b c : State) → Reads a b → (IsTrue c.honest → HasRecords a.world table) → Since (λ so_far. IsConverting (architectures table) b.world) b c → Since (λ so_far. IsNaming a.world) a c
moments_converted table a b c reads has since =
    since_then (λ so_far. IsNaming a.world) a b c (moments_read a b reads)
    (since_weaker_if (λ so_far. IsConverting (architectures table) b.world) (λ so_far. IsNaming a.world) b c (λ h so_far w is. inr (table, has h, subst (λ (v : World). IsConverting (architectures table) v w) reads.world is)) since)

pub moments_behind : (a b c : State) → Reads a b → Since (λ so_far. IsNaming b.world) b c → Since (λ so_far. IsNaming a.world) a c
moments_behind a b c reads since = since_then (λ so_far. IsNaming a.world) a b c (moments_read a b reads) (subst (λ (v : World). Since (λ so_far. IsNaming v) b c) reads.world since)
