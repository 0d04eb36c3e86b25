-- The lemmas that other crates may cite, by their subjects. All else in proofs/ is this crate's own.
-- The code of a text's program may run its queries, and stands for it.
pub use Rattle.text_output.proofs.ProgramCode.{may_run, has_query, runs_program}
-- The events of a machine, one after another.
pub use Rattle.text_output.proofs.Events.{final_names, goes_on, no_ending, queries_from}
-- How the writing of an output ends, from what its last call says.
pub use Rattle.text_output.proofs.Endings.{no_memory, no_pieces, without_memory}
-- An output's pieces, and that joined they are the output.
pub use Rattle.text_output.proofs.Events.{query_pieces}
