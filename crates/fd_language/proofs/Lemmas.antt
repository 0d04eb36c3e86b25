-- The lemmas that other crates may cite, by their subjects. All else in proofs/ is this crate's own.

-- Sets of numbers as lists, and the greatest family that passes a test.
pub use Rattle.fd_language.proofs.Sets.{eq_sym, has_kept, has-filter, has-filter_back, has_once, has_distinct, has_low, has_high, rising_same, universe_rising, in_count_up}
pub use Rattle.fd_language.proofs.Sets.{in_universe, rising_inside, has_either, in_left, in_right, alone_in, in_flat, first_member, only_member, map_has}
pub use Rattle.fd_language.proofs.Sets.{has_map, any_from, some_from, any_to, later_in}
pub use Rattle.fd_language.proofs.Monotone.{least_low, least_in, greatest_in, greatest_high, not_empty}
pub use Rattle.fd_language.proofs.GreatestFamily.{IsGreatest, greatest_there, rising-filter, shorter_or_same, rising_later}
-- What holds of each element of a list, and of an option.
pub use Rattle.fd_language.proofs.Lists.{each_map, each_both, each_before, each_after, each_either, is_none}
-- Walks over ranges: what is collected of their leaves, their nodes, and what becomes of them with other leaves.
pub use Rattle.fd_language.proofs.Leaves.{range_leaves, whole_nodes, expr_append, range_append, count_nodes, from_new, new_leaves, same_leaves, renamed_leaves}
pub use Rattle.fd_language.proofs.Leaves.{filled_leaves, Agree, occurrences_agree, renamed_agree, filled_agree, both_new, new_twice, renamed_twice}
pub use Rattle.fd_language.proofs.Leaves.{filled_renamed, renamed_as_is, filled_as_is, two, first_nil, second_nil}
pub use Rattle.fd_language.proofs.LeafCollection.{collected_by, variables_collected, reads_of_features, same_feature, vals_of, vals_of_features, all_nodes}
pub use Rattle.fd_language.proofs.RangeOccurrences.{OfParameter, reads_occur, params_occur, none_parameter, free_occurrences_read, renamed_occurrences}
pub use Rattle.fd_language.proofs.SpelledNodes.{spells_back}
-- The set of a range under other variables, and of one that the table accepts.
pub use Rattle.fd_language.proofs.RangeRenaming.{reads_map, set_same, set_agree, monotone_renamed}
pub use Rattle.fd_language.proofs.DirectionRenaming.{range_fits_same}
pub use Rattle.fd_language.proofs.Monotone.{accepted_is_monotone}
pub use Rattle.fd_language.proofs.Directions.{literal_is, int_le_true}
-- Needs, the limits of values, and the verdict.
pub use Rattle.fd_language.proofs.AskedParameters.{of_asks, range_asked, Asked, asked_params, nothing_asked}
pub use Rattle.fd_language.proofs.PartNeeds.{expr_meets, over_meets, range_meets, needs_met}
pub use Rattle.fd_language.proofs.Limits.{least_small, abs_add, abs_sub, abs_mul, sums, products, not_over, bounded_values, within_left, within_right}
pub use Rattle.fd_language.proofs.Limits.{within_here}
pub use Rattle.fd_language.proofs.NoOffences.{nil-first, nil-range}
pub use Rattle.fd_language.proofs.FirstOffence.{first-append, first_two, first_three, earlier_assoc}
pub use Rattle.fd_language.proofs.VerdictLaw.{verdict_agrees, all_three}
-- Tokens, the operators of the table, and readings.
pub use Rattle.fd_language.proofs.TokenLaws.{front_empty, gap_grows, token_grows, one_list, one_fault, not_both, one_verdict}
pub use Rattle.fd_language.proofs.TokenSlices.{tokens_are_slices}
pub use Rattle.fd_language.proofs.QuotedAtoms.{size, size-append, front_past, front_broken, spells_past, spells_broken, quoted_atoms, ends_here, quote_front}
pub use Rattle.fd_language.proofs.OperatorLaws.{within_infix}
pub use Rattle.fd_language.proofs.ReadingCompleteness.{accepts, append-with_last}
pub use Rattle.fd_language.proofs.ReadingLaws.{one_verdict_of_reading}
pub use Rattle.fd_language.proofs.SentenceVariables.{each_below, as_many, position_within}
-- Substitutions and most general unifiers.
unfoldable pub use Rattle.fd_language.proofs.Substitutions.{number_for}
pub use Rattle.fd_language.proofs.Substitutions.{after_is, after_are, identity, through_term, still_unifies, number_at, number_back, apply_vars}
pub use Rattle.fd_language.proofs.Unifier.{Solved, solved, bound_at, join_both, split_both, decide_name, decide_int, occurs_check}
-- The least of some places.
pub use Rattle.fd_language.proofs.LeastPlaces.{lower, lower-none, lower-assoc, lower-comm, least_append, least_cons}
-- Quotients of integers, by the division that the machine has.
pub use Rattle.fd_language.proofs.Divisions.{up_is, above_zero}
