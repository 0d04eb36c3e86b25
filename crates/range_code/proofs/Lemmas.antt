-- The lemmas that other crates may cite, by their subjects. All else in proofs/ is this crate's own.
-- Each node of a range finds its argument.
pub use Rattle.range_code.proofs.Frames.{all_readable, no_parameter}
-- Lists with each element once, as they grow.
pub use Rattle.range_code.proofs.DistinctLists.{any_has, keys_more, once_more}
-- Given on from the language: what is in a filter, and in a list with each number once.
pub use Rattle.fd_language.proofs.Lemmas.{has_kept, has_once}
-- The range that is posted, where its arguments fit.
pub use Rattle.range_code.proofs.PostedRanges.{one_use, posted_below, posted_monotone}
-- How the variables of a range stand, told from what it reads.
pub use Rattle.range_code.proofs.Standings.{all_once, features_seen, reads_filled, universe_some}
-- How the members of a target that are chosen are gathered.
pub use Rattle.range_code.proofs.ChosenMembers.{keeps_none}
-- The variables of nodes, and the nodes of a range with other variables.
pub use Rattle.range_code.proofs.Variables.{node_variables_of, one_more, renamed_nodes}
