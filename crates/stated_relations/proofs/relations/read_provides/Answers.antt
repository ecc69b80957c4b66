use Rattle.relation_fields.specs.declared.relation_field.RelationField.TheVariants.{Provides}
use Rattle.stated_relations.proofs.Readings.{memory_alone}
use Rattle.stated_relations.proofs.relations.read_provides.Goals as goal

pub want_of_memory-requires : goal.want_of_memory-requires
want_of_memory-requires c = memory_alone Provides c.args.value.now c.in-Err.fault c.reading_is_exact.ensures.none c.requires c.in-Err.ensures.fault
