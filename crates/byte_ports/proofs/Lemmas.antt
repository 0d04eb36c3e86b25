-- The lemmas that other crates may cite, by their subjects. All else in proofs/ is this crate's own.
-- One piece after another: what several calls of a source or of a sink come to.
pub use Rattle.byte_ports.proofs.Pieces.{all_front, all_then, front_then, longer_front, longer_part, part_then, put_none, stays, took_more, took_none}
pub use Rattle.byte_ports.proofs.Pieces.{wrote_no_part, wrote_nothing}
-- What calls of a sink that write them are handed.
pub use Rattle.byte_ports.proofs.HandedPieces.{front_before, front_behind, handed_front, handed_none, handed_then}
-- The first line of a text, the others behind it, and all of them joined.
pub use Rattle.byte_ports.proofs.FirstLines.{joined_lines, line_and_rest, line_within, lines_step, some_line}
-- The text that calls of a source have read.
pub use Rattle.byte_ports.proofs.ReadTexts.{front_text, just_front, none_took, whole_text, within_front}
