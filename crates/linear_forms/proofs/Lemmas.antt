-- The lemmas that other crates may cite, by their subjects. All else in proofs/ is this crate's own.
-- Integers of the language, negated and passed on.
pub use Rattle.linear_forms.proofs.Signs.{neg_one, one_inside, neg_inside}
pub use Rattle.linear_forms.proofs.Words.{integer_fits, passed, passed_negation}
-- Sums that are negated, and normal forms.
pub use Rattle.linear_forms.proofs.NegatedSums.{integer_at, scaled_integers, turned_inside, normal_inside}
-- What is collected has integers of the language.
pub use Rattle.linear_forms.proofs.CollectedSums.{collected_inside}
