-- The lemmas that other crates may cite, by their subjects. All else in proofs/ is this crate's own.
-- The loop of the quotient of a list of intervals.
-- A set and its ends.
pub use Rattle.domain_ranges.proofs.Ends.{own_ends}
-- A set without a number.
pub use Rattle.domain_ranges.proofs.ExcludedNumbers.{fewer_left, keeps_all, wider}
-- What the loops make, as the sets that it is.
pub use Rattle.domain_ranges.proofs.Images.{has_set, set_is, set_rising, set_same, some_has, int_same, same_int, pos_same, times_zero}
-- Whether the numbers of a list of intervals are all in another one.
pub use Rattle.domain_ranges.proofs.Inclusion.{loses}
-- A member of a set, and the others.
pub use Rattle.domain_ranges.proofs.OtherMembers.{none_but}
-- The loop of the intersection of two lists of intervals.
pub use Rattle.domain_ranges.proofs.Intersection.{below_first}
-- The numbers of a list of intervals.
pub use Rattle.domain_ranges.proofs.Members.{filter_inside, has_within, least_is, members_rising, has_append, up_append, length_up}
-- The loop of a list of intervals that are moved by an integer.
-- The only member of a set, and the term of a variable that has it.
pub use Rattle.domain_ranges.proofs.SingleValues.{one_value, no_value}
-- The numbers of a rising list from one on.
pub use Rattle.domain_ranges.proofs.RisingLists.{filter_from_low, rising_length, values_step}
