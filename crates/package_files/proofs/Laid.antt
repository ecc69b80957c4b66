-- Files and links at their temporary names: by what was seen, and what stays of them.
use Rattle.std.proofs.Common.{◌≡◌, Bool, true, false, Option, Some, None, inl, inr, refl, sym, ap, subst, ◌∙◌}
use Rattle.std.proofs.lemmas.Bool.{true≢false}
use Rattle.host_core.specs.World.{World, IsDirectory, is_directory, kind_of}
use Rattle.host_core.specs.declared.node.Kind.{Kind}
use Rattle.host_core.specs.declared.node.Node.{Node}
use Rattle.host_core.specs.declared.node.Node.TheVariants.{File, Dir, Link}
use Rattle.package_files.specs.declared.work.Work.{Work}
use Rattle.package_files.specs.Files.{cleared, saved, HasWritten, IsWhole, before}
use Rattle.package_files.specs.Free.{IsFreeIn, IsSeen}
use Rattle.package_files.specs.Laid.{is_exchanged, IsLaid, IsPreparedAs, HasPrepared, IsUnderWay}
use Rattle.package_files.proofs.WorkLists.{Agree, old_agree, new_agree}
use Rattle.package_files.proofs.Written.{free_loose, written_whole}

-- which take a place

pub exchanged_nodes : (n : Node) (o : Option Node) → is_exchanged n (kind_of o) ≡ true → (is_directory (Some n) ≡ false) × (is_directory o ≡ false)
exchanged_nodes (File b m) None is = (refl, refl)
exchanged_nodes (File b m) (Some (File c k)) is = (refl, refl)
exchanged_nodes (File b m) (Some (Dir k)) is = absurd (true≢false (sym is))
exchanged_nodes (File b m) (Some (Link l)) is = (refl, refl)
exchanged_nodes (Dir m) o is = absurd (true≢false (sym is))
exchanged_nodes (Link t) None is = (refl, refl)
exchanged_nodes (Link t) (Some (File c k)) is = (refl, refl)
exchanged_nodes (Link t) (Some (Dir k)) is = absurd (true≢false (sym is))
exchanged_nodes (Link t) (Some (Link l)) is = (refl, refl)

left_nodes : (n : Node) (o : Option Node) → is_directory (Some n) ≡ false → is_exchanged n (kind_of o) ≡ false → IsDirectory o
left_nodes (File b m) None loose is = absurd (true≢false is)
left_nodes (File b m) (Some (File c k)) loose is = absurd (true≢false is)
left_nodes (File b m) (Some (Dir k)) loose is = (k, refl)
left_nodes (File b m) (Some (Link l)) loose is = absurd (true≢false is)
left_nodes (Dir m) o loose is = absurd (true≢false loose)
left_nodes (Link t) None loose is = absurd (true≢false is)
left_nodes (Link t) (Some (File c k)) loose is = absurd (true≢false is)
left_nodes (Link t) (Some (Dir k)) loose is = (k, refl)
left_nodes (Link t) (Some (Link l)) loose is = absurd (true≢false is)

pub directory_stands_out : (n : Node) (had : Option Kind) → is_directory (Some n) ≡ true → is_exchanged n had ≡ false
directory_stands_out (File b m) had is = absurd (true≢false (sym is))
directory_stands_out (Dir m) had is = refl
directory_stands_out (Link t) had is = absurd (true≢false (sym is))

module _ (w : World) (x : Work) (seen : IsSeen w x) where
  pub left_there : is_directory (Some x.node) ≡ false → is_exchanged x.node x.had ≡ false → IsDirectory (w x.target)
  left_there loose is = left_nodes x.node (w x.target) loose (sym (ap (is_exchanged x.node) seen) ∙ is)

  module _ (is : is_exchanged x.node x.had ≡ true) where
    pub exchanged_there : (is_directory (Some x.node) ≡ false) × (is_directory (w x.target) ≡ false)
    exchanged_there = exchanged_nodes x.node (w x.target) (sym (ap (is_exchanged x.node) seen) ∙ is)

    pub exchanged_free : IsFreeIn w x → (cleared (w x.backup) ≡ None) × (cleared (w x.fresh) ≡ None)
    exchanged_free free = free_loose x.node (w x.target) (w x.backup) (w x.fresh) exchanged_there.0 exchanged_there.1 free

-- what is laid is prepared, and what is written where nothing takes a place

module _ (old now : World) (x : Work) where
  pub laid_prepared : is_exchanged x.node x.had ≡ true → IsLaid old now x → HasPrepared old now x
  laid_prepared is laid = subst (λ b. IsPreparedAs b old now x) (sym is) laid

  pub written_prepared : is_exchanged x.node x.had ≡ false → HasWritten old now x → HasPrepared old now x
  written_prepared is has = subst (λ b. IsPreparedAs b old now x) (sym is) has

  pub prepared_laid : is_exchanged x.node x.had ≡ true → HasPrepared old now x → IsLaid old now x
  prepared_laid is has = subst (λ b. IsPreparedAs b old now x) is has

  pub prepared_written : is_exchanged x.node x.had ≡ false → HasPrepared old now x → HasWritten old now x
  prepared_written is has = subst (λ b. IsPreparedAs b old now x) is has

  pub prepared_whole : HasPrepared old now x → IsWhole old now x
  prepared_whole has = by (is_exchanged x.node x.had) has where
    by : (b : Bool) → IsPreparedAs b old now x → IsWhole old now x
    by true laid = before laid.target
    by false written = written_whole old now x written

  pub under_way_whole : IsUnderWay old now x → IsWhole old now x
  under_way_whole (inl has) = written_whole old now x has
  under_way_whole (inr has) = prepared_whole has

-- worlds that agree at its names

as_old : (b : Bool) (old was new : World) (x : Work) → Agree old was x → IsPreparedAs b old new x → IsPreparedAs b was new x
as_old true old was new x same laid = record { target = laid.target ∙ same.target; backup = laid.backup ∙ (λ i. saved true (same.target i) (same.backup i)); fresh = laid.fresh }
as_old false old was new x same has = old_agree old was new x same has

as_new : (b : Bool) (old new later : World) (x : Work) → Agree later new x → IsPreparedAs b old new x → IsPreparedAs b old later x
as_new true old new later x same laid = record { target = same.target ∙ laid.target; backup = same.backup ∙ laid.backup; fresh = same.fresh ∙ laid.fresh }
as_new false old new later x same has = new_agree old new later x same has

pub prepared_old : (old was new : World) (x : Work) → Agree old was x → HasPrepared old new x → HasPrepared was new x
prepared_old old was new x same has = as_old (is_exchanged x.node x.had) old was new x same has

pub prepared_new : (old new later : World) (x : Work) → Agree later new x → HasPrepared old new x → HasPrepared old later x
prepared_new old new later x same has = as_new (is_exchanged x.node x.had) old new later x same has

pub under_way_new : (old new later : World) (x : Work) → Agree later new x → IsUnderWay old new x → IsUnderWay old later x
under_way_new old new later x same (inl has) = inl (new_agree old new later x same has)
under_way_new old new later x same (inr has) = inr (prepared_new old new later x same has)
