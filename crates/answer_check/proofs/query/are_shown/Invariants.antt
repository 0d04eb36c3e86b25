use Rattle.std.proofs.Common.{◌≡◌, true, map, take}
use Rattle.std.specs.List.{list_all}
use Rattle.fd_model.specs.Queries.{is_shown}
use Rattle.term_pool.specs.Contents.{atom_name}
use Rattle.answer_check.proofs.query.are_shown.Given as goal

abbrev pub invariant-loop-name : goal.invariant-loop-name
invariant-loop-name l = list_all is_shown (map (atom_name l.pool) (take l.name-index l.names)) ≡ true
