-- The lemmas that other crates may cite, by their subjects. All else in proofs/ is this crate's own.
-- What is equated and posted, one member after another.
pub use Rattle.product_bool.proofs.Gates.{equated_more, pairs_append, posted_list}
