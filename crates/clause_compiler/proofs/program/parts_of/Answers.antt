use Rattle.clause_compiler.proofs.program.parts_of.Goals as goal

pub predicates_of-requires : goal.predicates_of-requires
predicates_of-requires c = c.known.ensures.codable
