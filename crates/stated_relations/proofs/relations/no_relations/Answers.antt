use Rattle.std.proofs.Common.{List, ℕ, subst}
use Rattle.relation_fields.specs.Faults.{IsFaultOf}
use Rattle.relation_fields.specs.Words.{rules_of}
use Rattle.relation_fields.specs.declared.relations.Form.TheVariants.{Plain}
use Rattle.stated_relations.proofs.Readings.{reads_nothing}
use Rattle.stated_relations.proofs.relations.no_relations.Goals as goal

pub want_of_memory-requires : goal.want_of_memory-requires
want_of_memory-requires c =
    let fault = subst (λ (bytes : List ℕ). IsFaultOf (rules_of Plain) bytes c.in-Err.fault) c.as_slice.ensures c.in-Err.ensures.fault in
    λ other. other (c.reading_is_exact.ensures.none (rules_of Plain) _ _ c.in-Err.fault (reads_nothing (rules_of Plain)) fault)
