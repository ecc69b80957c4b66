-- What is shown, by the format that is told.
use Rattle.std.proofs.Common.{◌≡◌, Result, Ok, Err, IfOk, inl, inr, sym, ap, subst, ◌∙◌, true, List}
use Rattle.std.specs.Prelude.{None}
use Rattle.host_core.specs.Paths.{Path}
use Rattle.host_core.specs.Tree.{IsTree}
use Rattle.host_core.specs.World.{World, IsLoose, Take, put}
use Rattle.host_overlay.specs.Seen.{AreSources, seen, seen_by}
use Rattle.host_overlay.specs.Standings.{Becomes}
use Rattle.host_overlay.specs.declared.seen_names.SeenNames.{SeenNames}
use Rattle.host_overlay.proofs.SeenThrough.{seen_none, sources_none, sources_then}
use Rattle.status_db.specs.Held.{HasRecords}
use Rattle.status_records.specs.declared.record.Record.{Record}
use Rattle.info_format.specs.Converting.{IsConverted}
use Rattle.info_format.specs.Format.{format_path, is_one}
use Rattle.info_format.specs.Names.{Architectures, architectures}
use Rattle.info_format.specs.Seeing.{IsSeenThrough, Shows}
use Rattle.info_format.specs.Stage.{IsIdle}
use Rattle.info_format.specs.Steps.{AreApart, AreGiven, AreTaken, IsBrought}
use Rattle.info_format.specs.declared.pairs.Pair.{Pair}
use Rattle.info_format.proofs.Conversion.{one_loose}
use Rattle.info_format.proofs.Formats.{format_loose}

-- through no names, where nothing is to be done
pub none_shows : (P : World → World → Type 0) (names : SeenNames) (w : World) → seen_by names ≡ (λ _. None) → IsTree w → P w w → Shows P w names
none_shows P names w none tree is = record { shows = subst (P w) (sym (seen_none names w none)) is; sources = sources_none names w none tree }

pub none_idle : (names : SeenNames) (w : World) → seen_by names ≡ (λ _. None) → IsTree w → IsIdle w → IsSeenThrough w names
none_idle names w none tree idle = record { shows = inl (seen_none names w none, idle); sources = sources_none names w none tree }

-- in format 0
pub taken_shows : (pairs : List Pair) (none names : SeenNames) (w : World) → seen_by none ≡ (λ _. None) → IsTree w → AreTaken pairs (seen none w) (seen names w) → (AreSources none w → AreSources names w) → Shows (AreTaken pairs) w names
taken_shows pairs none names w is tree taken there = record { shows = subst (λ (v : World). AreTaken pairs v (seen names w)) (seen_none none w is) taken; sources = there (sources_none none w is tree) }

-- from format 1
module _ (pairs : List Pair) (apart : AreApart pairs) (none given told names : SeenNames) (w : World) where
  pub brought_shows : (format : Path) → format ≡ format_path → seen_by none ≡ (λ _. None) → IsTree w → is_one w ≡ true → AreGiven pairs (seen none w) (seen given w) → Becomes (Take format) (seen_by given) (seen_by told) → AreTaken pairs (seen told w) (seen names w)
      → (AreSources none w → AreSources given w) → (AreSources told w → AreSources names w) → Shows (IsBrought pairs) w names
  brought_shows format place is tree one gives becomes takes first last =
      let start : AreGiven pairs w (seen given w) = subst (λ (v : World). AreGiven pairs v (seen given w)) (seen_none none w is) gives in
      let gone : seen told w ≡ put (seen given w) format_path None = becomes.world w ∙ ap (λ (p : Path). put (seen given w) p None) place in
      record {
        shows = (seen given w, start, subst (λ (v : World). AreTaken pairs v (seen names w)) gone takes);
        sources = last (sources_then (Take format) given told w becomes (subst (λ (p : Path). IsLoose (seen given w p)) (sym place) (format_loose pairs w (seen given w) apart start.giving (one_loose w one))) (first (sources_none none w is tree)));
      }

pub shows_by : (P Q : World → World → Type 0) (w : World) (names : SeenNames) → ((v : World) → P w v → Q w v) → Shows P w names → Shows Q w names
shows_by P Q w names so is = record { shows = so (seen names w) is.shows; sources = is.sources }

-- of an answer
pub ok_shows : {E : Type 0} (result : Result SeenNames E) (P Q : SeenNames → Type 0) → ((names : SeenNames) → P names → Q names) → IfOk result P → IfOk result Q
ok_shows (Ok names) P Q so is = so names is
ok_shows (Err e) P Q so is = tt

pub seen_through : (table : List Record) (w : World) (names : SeenNames) → HasRecords w table → Shows (IsConverted (architectures table)) w names → IsSeenThrough w names
seen_through table w names has is = record { shows = inr (table, has, is.shows); sources = is.sources }
