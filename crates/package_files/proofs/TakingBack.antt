-- One path is taken back, however far it has come.
use Rattle.std.proofs.Common.{◌≡◌, Bool, true, false, List, [], ◌∷◌, Option, Some, None, inl, inr, refl, sym, ap, subst, ◌∙◌}
use Rattle.std.specs.Prelude.{IsSome}
use Rattle.std.proofs.lemmas.Bool.{true≢false}
use Rattle.host_core.specs.Paths.{Path}
use Rattle.host_core.specs.World.{World, IsDirectory, IsLoose, is_directory}
use Rattle.host_core.proofs.Nodes.{none_stands}
use Rattle.host_core.specs.declared.node.Node.{Node}
use Rattle.host_core.specs.declared.node.Node.TheVariants.{File, Dir, Link}
use Rattle.package_files.specs.declared.work.Work.{Work}
use Rattle.package_files.specs.Files.{cleared, HasWritten, PutBack, before, IsAmid}
use Rattle.package_files.specs.Free.{IsWrittenFrom}
use Rattle.package_files.specs.Back.{CanGoBack, GoesBack, IsGoingBack}
use Rattle.package_files.specs.Laid.{is_exchanged, IsLaid, HasPrepared, IsPreparedAs, IsUnderWay, IsUnderWayFrom, CanUndo, Undoes, IsUndoing}
use Rattle.package_files.specs.Names.{IsNamed}
use Rattle.package_files.specs.Apart.{IsApart}
use Rattle.package_files.specs.Steps.{AreCleared, KeepsBesideSpares}
use Rattle.package_files.proofs.WorkNames.{named_apart}
use Rattle.package_files.proofs.WorkLists.{each_of}
use Rattle.package_files.proofs.Written.{loose_at, cleared_loose, cleared_saved}
use Rattle.package_files.proofs.Laid.{directory_stands_out, exchanged_there, exchanged_free, prepared_written, under_way_whole}

other : {p q : Path} → (p ≡ q → ⊥) → q ≡ p → ⊥
other ne e = ne (sym e)

-- what stands at the temporary name tells how far it has come

cleared_stays : (o : Option Node) → IsLoose (cleared o) → ⊥
cleared_stays None loose = true≢false (sym loose.0)
cleared_stays (Some (File b m)) loose = true≢false (sym loose.0)
cleared_stays (Some (Dir m)) loose = loose.1 (m, refl)
cleared_stays (Some (Link t)) loose = true≢false (sym loose.0)

module _ (x : Work) (was v : World) (from : IsUnderWayFrom (x ∷ []) was v) where
  as_written : HasWritten was v x → IsWrittenFrom (x ∷ []) was v
  as_written has = record { free = from.free; seen = from.seen; has = (has, tt) }

  -- a directory is written
  pub directory_written : is_directory (Some x.node) ≡ true → IsWrittenFrom (x ∷ []) was v
  directory_written is = by from.has.0 where
    by : IsUnderWay was v x → IsWrittenFrom (x ∷ []) was v
    by (inl has) = as_written has
    by (inr has) = as_written (prepared_written was v x (directory_stands_out x.node x.had is) has)

  module _ (loose : is_directory (Some x.node) ≡ false) where
    -- nothing is there
    pub gone_written : (IsLoose (v x.fresh) → ⊥) → IsWrittenFrom (x ∷ []) was v
    gone_written none = by from.has.0 where
      here : (b : Bool) → IsPreparedAs b was v x → HasWritten was v x
      here true laid = absurd (none (loose_at (v x.fresh) x.node laid.fresh loose))
      here false has = has

      by : IsUnderWay was v x → IsWrittenFrom (x ∷ []) was v
      by (inl has) = as_written has
      by (inr has) = as_written (here (is_exchanged x.node x.had) has)

    -- the new node is
    pub there_laid : IsLoose (v x.fresh) → (is_exchanged x.node x.had ≡ true) × IsLaid was v x
    there_laid there = by from.has.0 where
      never : {T : Type 0} → HasWritten was v x → T
      never has = absurd (cleared_stays (was x.fresh) (subst IsLoose has.fresh there))

      here : (b : Bool) → is_exchanged x.node x.had ≡ b → IsPreparedAs b was v x → (is_exchanged x.node x.had ≡ true) × IsLaid was v x
      here true is laid = (is, laid)
      here false is has = never has

      by : IsUnderWay was v x → (is_exchanged x.node x.had ≡ true) × IsLaid was v x
      by (inl has) = never has
      by (inr has) = here (is_exchanged x.node x.had) refl has

    -- both go
    module _ (named : IsNamed x) (there : IsLoose (v x.fresh)) where
      names : IsApart x
      names = named_apart x named

      pub laid_back : (u : World) → AreCleared x v u → PutBack (x ∷ []) was v u
      laid_back u clear =
          let at = there_laid there in
          let nodes = exchanged_there was x from.seen.0 at.0 in
          let free = exchanged_free was x from.seen.0 at.0 from.free.0 in
          record {
            each = (
              record {
                is = inl record {
                  target = clear.rest x.target (other names.backup) (other names.fresh) ∙ at.1.target;
                  backup = clear.backup ∙ ap cleared at.1.backup ∙ cleared_saved (was x.target) (was x.backup) nodes.1 free.0 ∙ sym free.0;
                };
                fresh = clear.fresh ∙ ap cleared at.1.fresh ∙ cleared_loose x.node loose ∙ sym free.1;
              },
              tt,
            );
            rest = λ q misses. clear.rest q misses.0.backup misses.0.fresh;
          }

      pub laid_going : (c : World) → KeepsBesideSpares x v c → IsAmid (x ∷ []) was v c
      laid_going c keeps = record {
        each = (before (keeps x.target (other names.backup) (other names.fresh) ∙ (there_laid there).1.target), tt);
        rest = λ q misses. keeps q misses.0.backup misses.0.fresh;
      }

  pub under_way_amid : IsAmid (x ∷ []) was v v
  under_way_amid = record { each = (under_way_whole was v x from.has.0, tt); rest = λ q misses. refl }

-- whichever world it has come from

module _ (x : Work) (v : World) where
  pub undoing_same : (w : World) → w ≡ v → IsUndoing (x ∷ []) v w
  undoing_same w same was from = subst (IsAmid (x ∷ []) was v) (sym same) (under_way_amid x was v from)

  module _ (so : (was : World) → IsUnderWayFrom (x ∷ []) was v → IsWrittenFrom (x ∷ []) was v) where
    pub can_by : CanUndo (x ∷ []) v → CanGoBack (x ∷ []) v
    can_by can = (can.0, so can.0 can.1)

    pub undoes_by : (w : World) → GoesBack (x ∷ []) v w → Undoes (x ∷ []) v w
    undoes_by w back was from = back was (so was from)

    pub undoing_by : (w : World) → IsGoingBack (x ∷ []) v w → IsUndoing (x ∷ []) v w
    undoing_by w going was from = going was (so was from)

  module _ (named : IsNamed x) (loose : is_directory (Some x.node) ≡ false) (there : IsLoose (v x.fresh)) where
    pub undoes_laid : (u : World) → AreCleared x v u → Undoes (x ∷ []) v u
    undoes_laid u clear was from = laid_back x was v from loose named there u clear

    pub undoing_laid : (c : World) → KeepsBesideSpares x v c → IsUndoing (x ∷ []) v c
    undoing_laid c keeps was from = laid_going x was v from loose named there c keeps

pub no_loose_none : (o : Option Node) → o ≡ None → IsLoose o → ⊥
no_loose_none o is loose = none_stands o is loose.0

pub no_loose_directory : (o : Option Node) → IsDirectory o → IsLoose o → ⊥
no_loose_directory o is loose = loose.1 is

-- what is written has come all the way

module _ (works : List Work) (v : World) where
  all_under_way : (was : World) → IsWrittenFrom works was v → IsUnderWayFrom works was v
  all_under_way was from = record { free = from.free; seen = from.seen; has = each_of (HasWritten was v) (IsUnderWay was v) (λ y has. inl has) works from.has }

  pub can_all : CanGoBack works v → CanUndo works v
  can_all can = (can.0, all_under_way can.0 can.1)

  pub goes_all : (w : World) → Undoes works v w → GoesBack works v w
  goes_all w undoes was from = undoes was (all_under_way was from)

  pub going_all : (w : World) → IsUndoing works v w → IsGoingBack works v w
  going_all w undoing was from = undoing was (all_under_way was from)
