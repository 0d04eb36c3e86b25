-- A goal `T in R` on the cells of its target and of the range's variables.
pub use Rattle.branch_lemmas.specs.CellRanges.{slot_terms, target_offence, cells_offence, filled, cells_range, Names, AreNumbers, IsTermsLinked}
