-- The lemmas that other crates may cite, by their subjects. All else in proofs/ is this crate's own.

-- Closed families: their numbers, sets, orders and constants.
pub use Rattle.fd_model.proofs.ClosedFamilies.{closed_either, greatest_for, var_from, not_in_empty}
pub use Rattle.fd_model.proofs.Constants.{from_span, in_span}
pub use Rattle.fd_model.proofs.Orders.{all_keep, closed_without, whole}
pub use Rattle.fd_model.proofs.DeterminedValues.{single_from, below_test, test_below}
pub use Rattle.fd_model.proofs.UnreadVariables.{unread}
-- What is posted, named and renamed, and the variables below a number.
pub use Rattle.fd_model.proofs.ListNames.{named_left, named_right, posted_left, posted_right}
pub use Rattle.fd_model.proofs.RowNames.{AllVars, collect_vars, collected_vars, normal_vars, vars_product, vars_scaled}
pub use Rattle.fd_model.proofs.RowScopes.{all_vars}
pub use Rattle.fd_model.proofs.SplitScopes.{scoped_rows}
pub use Rattle.fd_model.proofs.PostRows.{has_map, map_has}
pub use Rattle.fd_model.proofs.Slots.{slot_high, slot_low, slot_out}
pub use Rattle.fd_model.proofs.BranchScopes.{below_under, each_marked, term_renamed, body_renamed, each_wider, each_both_below, equations_wider, listed_below, look_below, unifier_below}
pub use Rattle.fd_model.proofs.GoalRows.{EquationsBelow}
pub use Rattle.fd_model.proofs.SeenTerms.{wider}
pub use Rattle.fd_model.proofs.ProgramScopes.{either, not_accepted, queries_scoped, clauses_scoped}
-- Branches: what is seen of them, their models, and one run of a program.
pub use Rattle.fd_model.proofs.ConsistentBranches.{has_view}
pub use Rattle.fd_model.proofs.Existence.{AllSound, all_marked, offer_sound, one_run}
pub use Rattle.fd_language.proofs.Lemmas.{join_both, split_both}
pub use Rattle.fd_model.proofs.AddedRanges.{constrained_either, posted_both}
pub use Rattle.fd_model.proofs.ModelSubstitutions.{first_member, only_member}
pub use Rattle.fd_model.proofs.Models.{consistent_from, has_general, not_empty, one_term, weaker}
pub use Rattle.fd_model.proofs.OneView.{kept_once, one_view}
pub use Rattle.fd_model.proofs.OneLeaf.{sought_once}
pub use Rattle.fd_model.proofs.Leaves.{sought_each}
pub use Rattle.fd_model.proofs.UniqueRuns.{queries_once, run_once}
pub use Rattle.fd_model.proofs.RunnablePrograms.{accepted_runnable, first_none, later_none, unoffended}
-- Constraints and built-in goals: what each gives, with values and weights in range.
pub use Rattle.fd_model.proofs.CollectedSums.{both_ok, one_ok, test_ok}
pub use Rattle.fd_model.proofs.CompareWidths.{Within, compare_within, form_within, integer_size}
pub use Rattle.fd_model.proofs.RowWidths.{AreNarrow, under, weight}
pub use Rattle.fd_model.proofs.RowDirections.{Fitting, IsFitting, element_fitting, basic_fitting}
pub use Rattle.fd_model.proofs.SplitDirections.{expand_fitting, split_fitting}
pub use Rattle.fd_model.proofs.SplitWidths.{split_within}
-- Products and Boolean constraints: how they are split.
pub use Rattle.fd_model.proofs.LinearForms.{NoneZero, nonzero_scaled}
pub use Rattle.fd_model.proofs.ComparisonRows.{collect_nonzero, normal_nonzero}
pub use Rattle.fd_model.proofs.Splits.{IsAgain, IsComparison, three_ok, two_ok, product_ok, reified_ok, of_some, rows_joined}
pub use Rattle.fd_model.proofs.SplitSums.{AllSums, IsTeller, sums_each}
pub use Rattle.fd_model.proofs.SplitValues.{none_dropped}
pub use Rattle.fd_model.proofs.ElementRows.{element_ok}
pub use Rattle.fd_model.proofs.Counters.{atmost_ok, units_nonzero}
pub use Rattle.fd_model.proofs.Findings.{IsFindingBelow, SameFinding, first_below, found_below, found_renamed, second_below}
-- Texts: the lines and values of a query.
pub use Rattle.fd_model.proofs.Texts.{after, after_back, after_is, line_same, number, one_for_all, place_same, same_test, says_by, seen_other}
pub use Rattle.fd_model.proofs.Texts.{seen_variables, spelled_same, variables_apply_all, written_same}
-- The rows of the constraints on lists keep the limit of width.
pub use Rattle.fd_model.proofs.ListWidths.{AllSmall, all_accepted, element_within, members_count, sum_within}
-- Each solvable list of equations has the most general unifier that takes equal variables to the least of them.
pub use Rattle.fd_model.proofs.CanonicalUnifiers.{is_variable_true}
-- Products of integers, and quotients that are exact.
pub use Rattle.fd_model.proofs.Integers.{mul_none}
-- Leaves of posted lists: the sets that ranges leave, that there are leaves and no others, and the first best of them.
pub use Rattle.fd_model.proofs.PostedSets.{AllMonotone, monotone_more, left_once, inconsistent_by, consistent_by, left_exactly, left_some, left_narrower}
pub use Rattle.fd_model.proofs.PostedLeaves.{opens, leaves_there, leaves_once, AreParted, parted, each_kept, fewer_open, some_only, none_picked}
pub use Rattle.fd_model.proofs.PickedMembers.{among_picked}
pub use Rattle.fd_model.proofs.BestPosted.{first_alone, first_more, first_new, IsAmong, end_only, end_costs, end_values, leaves_within, children_within}
-- The set of a bound.
pub use Rattle.fd_model.proofs.Bounds.{bound_in, bound_low}
-- What a goal posts, and the arguments that it pairs, are below the next fresh number.
pub use Rattle.fd_model.proofs.Ways.{IsPostBelow, arguments_below, post_below}
