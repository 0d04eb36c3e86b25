-- The lemmas that other crates may cite, by their subjects. All else in proofs/ is this crate's own.
-- The atoms of a heap stay among the first of a pool.
pub use Rattle.heap_cells.proofs.Atoms.{bound_below, compound_below, linked_below, new_below, same_below, seen_atom}
-- A variable bound to a cell that it doesn't occur in.
pub use Rattle.heap_cells.proofs.Bindings.{apply-terms_by, bind_terms, bind_valid, bound_more, of_same, slot_elsewhere, slot_there}
-- Facts of each element of a list.
pub use Rattle.heap_cells.proofs.Elements.{all_front, all_push, all_reverse, both_of, head_of, last_of, none_at_all, tail_of}
-- A heap with one more variable, with one more compound term, or with a variable of the store.
pub use Rattle.heap_cells.proofs.HeapGrowth.{link_kept, link_valid, new_slot_at, of_wider, var_kept, var_valid}
-- The term of a cell, by its equations: the bound on the depth means nothing once it is above the cell's rank.
pub use Rattle.heap_cells.proofs.Ranks.{slot_agrees, term-Atom, term-Int, term-Ref, term-Struct, terms_agree, unbound_term}
-- What substitutions do to terms.
pub use Rattle.fd_language.proofs.Lemmas.{after_is, join_both, occurs_check, split_both}
pub use Rattle.heap_cells.proofs.Substitutions.{one_other, one_self, same_apply, size_one, through_all, through_one}
-- What one look at a cell shows.
pub use Rattle.heap_cells.proofs.SeenCells.{number_of}
-- The heaps at the marks stay as they are while the current one changes.
pub use Rattle.heap_cells.proofs.Marks.{map_same}
-- The term that a cell is seen as, by its end.
pub use Rattle.heap_cells.proofs.SeenTerms.{shown_atom, shown_compound, shown_free, shown_int, shown_linked}
