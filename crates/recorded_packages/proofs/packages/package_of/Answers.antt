use Rattle.std.proofs.Common.{refl}
use Rattle.relation_fields.specs.declared.relation_field.RelationField.TheVariants.{PreDepends, Depends, Breaks, Conflicts, Provides, Replaces}
use Rattle.recorded_packages.proofs.Readable.{readable}
use Rattle.recorded_packages.proofs.packages.package_of.Goals as goal

pub provides_of-requires : goal.provides_of-requires
provides_of-requires c = readable c.args.entry.now Provides

pub relations_of-requires-clause-readable : goal.relations_of-requires-clause-readable
relations_of-requires-clause-readable c = readable c.args.entry.now PreDepends

pub relations_of-requires-2-clause-readable : goal.relations_of-requires-2-clause-readable
relations_of-requires-2-clause-readable c = readable c.args.entry.now Depends

pub relations_of-requires-3-clause-readable : goal.relations_of-requires-3-clause-readable
relations_of-requires-3-clause-readable c = readable c.args.entry.now Breaks

pub relations_of-requires-4-clause-readable : goal.relations_of-requires-4-clause-readable
relations_of-requires-4-clause-readable c = readable c.args.entry.now Conflicts

pub relations_of-requires-5-clause-readable : goal.relations_of-requires-5-clause-readable
relations_of-requires-5-clause-readable c = readable c.args.entry.now Replaces

pub returns : goal.returns
returns c = record {
  name = c.in_ok-copy.ensures;
  architecture = c.in_ok-counted_as.ensures;
  version = c.in_ok-copy-2.ensures;
  state = c.package_state.ensures;
  awaits = c.is_some.ensures;
  reinstreq = c.is_reinstreq.ensures;
  essential = c.is_essential.ensures;
  configured = c.in_ok-configured_of.ensures;
  removed_since = refl;
  provides = ∣ c.in_ok-provides_of.ensures ∣₁;
  pre_depends = ∣ c.in_ok-relations_of.ensures ∣₁;
  depends = ∣ c.in_ok-relations_of-2.ensures ∣₁;
  breaks = ∣ c.in_ok-relations_of-3.ensures ∣₁;
  conflicts = ∣ c.in_ok-relations_of-4.ensures ∣₁;
  replaces = ∣ c.in_ok-relations_of-5.ensures ∣₁;
}
