use Rattle.std.proofs.Common.{subst, sym}
use Rattle.relation_fields.specs.Faults.{IsFaultOf}
use Rattle.stated_relations.proofs.Readings.{memory_alone}
use Rattle.stated_relations.proofs.relations.read_relations.Goals as goal

pub want_of_memory-requires : goal.want_of_memory-requires
want_of_memory-requires c =
    memory_alone c.args.field c.args.value.now c.in-Err.fault c.reading_is_exact.ensures.none c.requires.readable
    (subst (λ rules. IsFaultOf rules c.args.value.now c.in-Err.fault) (sym c.requires.form) c.in-Err.ensures.fault)
