-- The lemmas that other crates may cite, by their subjects. All else in proofs/ is this crate's own.
-- Laws of the terms that ids stand for.
pub use Rattle.term_pool.proofs.Laws.{term_is_storable, term_of_shape, shape_within, name_kept, extends_refl, extends_trans, place_kept, term_of_entry}
pub use Rattle.term_pool.proofs.Laws.{terms_by_same}
-- Names by their numbers.
pub use Rattle.term_pool.proofs.Names.{slice_get-append, pushed_at, name_in-append, same_text, slice_get_found, slice_get_seam}
-- The parts of a compound, where there are one or two.
pub use Rattle.term_pool.proofs.Parts.{one_part, two_parts}
-- The placed term of an id is that of its entry.
pub use Rattle.term_pool.proofs.PlacedShapes.{entry_of, parts_by_same, numbered_seam, front_kept, placed_of_shape}
-- Why a walk over the terms of a pool ends. It keeps a list of the ids that it has still to look at, and replaces an id by those of its parts.
pub use Rattle.term_pool.proofs.Walks.{rest_is_smaller, parts_are_smaller, total_size-nil, total_size-cons, total_size-append, size_of_shape, size_above_zero}
-- Names and their numbers.
pub use Rattle.term_pool.proofs.NameNumbers.{atom_other, atom_same, other_name, same_id, same_names}
