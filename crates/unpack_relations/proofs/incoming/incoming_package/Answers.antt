use Rattle.std.proofs.Common.{refl, subst, sym}
use Rattle.std.proofs.Math.Logic.{∥∥₁_map}
use Rattle.stated_relations.specs.Stated.{States}
use Rattle.stated_relations.specs.declared.stated.StatedRelations.{StatedRelations}
use Rattle.unpack_relations.proofs.incoming.incoming_package.Goals as goal

pub returns : goal.returns
returns c =
    let tree = c.args.tree.now in
    let stated = subst (λ (relations : StatedRelations). ∥ States tree.control relations ∥₁) (sym c.in_ok-provides.ensures) tree.stated in
    record {
      name = c.in_ok-copy.ensures;
      architecture = c.in_ok-counted_as.ensures;
      version = c.in_ok-copy-2.ensures;
      state = refl;
      awaits = refl;
      reinstreq = refl;
      essential = c.is_essential.ensures;
      configured = refl;
      removed_since = refl;
      provides = ∥∥₁_map stated (λ known. known.provides);
      pre_depends = ∥∥₁_map stated (λ known. known.pre_depends);
      depends = ∥∥₁_map stated (λ known. known.depends);
      breaks = ∥∥₁_map stated (λ known. known.breaks);
      conflicts = ∥∥₁_map stated (λ known. known.conflicts);
      replaces = ∥∥₁_map stated (λ known. known.replaces);
    }
