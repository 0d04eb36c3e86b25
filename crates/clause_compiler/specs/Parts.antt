-- A program's code as it is put together.
use Rattle.std.specs.Prelude.{ℕ, List, map, Vec}
use Rattle.std.specs.Global.{Global}
use Rattle.wam_code.specs.declared.instruction.Key.{Key}
use Rattle.term_pool.specs.Contents.{Contents}
use Rattle.wam_code.specs.declared.instruction.Code.{Code}
use Rattle.wam_code.specs.Area.{Area, Span, Table, span_of}
use Rattle.wam_code.specs.declared.parts.Entry.{Entry}
use Rattle.clause_check.specs.Programs.{FlatProgram}
use Rattle.clause_compiler.specs.declared.program.Parts.{Parts}

abbrev pub tables_in : Vec (Vec (Key × ℕ) Global) Global → List Table
tables_in v = map (λ t. t.items) v.items

-- the area of the parts, over a pool
abbrev pub area_with : Contents → Parts → Area
area_with c x = record { pool = c; code = x.code.items; tables = tables_in x.tables; ranges = map (λ r. r.value) x.ranges.items; entries = x.entries.items; queries = map span_of x.queries.items }

-- the area of this code for a program, over the program's pool
abbrev pub area_laid : FlatProgram → List Code → List Table → List Entry → List Span → Area
area_laid p code tables entries spans = record { pool = p.pool; code = code; tables = tables; ranges = p.ranges; entries = entries; queries = spans }
