use Rattle.std.proofs.Common.{◌≡◌, ◌++◌, ℕ, List, map}
use Rattle.term_pool.specs.Contents.{atom_name}
use Rattle.answer_check.specs.Rows.{answer_in}
use Rattle.answer_check.proofs.RowReading.{put_before, from_name}
use Rattle.answer_check.proofs.answers.read_answer.Given as goal

abbrev pub invariant-loop-name : goal.invariant-loop-name
invariant-loop-name l = (front : List ℕ) × (l.values.items ≡ l.fn.values.items ++ front)
    × (answer_in (map (atom_name l.pool) l.names) l.fn.line ≡ put_before front (from_name (atom_name l.pool) l.between l.names l.name-index l.rest))
