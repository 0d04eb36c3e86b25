use Rattle.std.proofs.Common.{◌≡◌, ◌++◌, take, map}
use Rattle.wam_code.specs.Area.{span_of}
use Rattle.code_listing.specs.Words.{line_bytes}
use Rattle.code_listing.specs.Texts.{span_text}
use Rattle.code_listing.proofs.write.put_queries.Given as goal

abbrev pub invariant-loop-index : goal.invariant-loop-index
invariant-loop-index l = l.text.items ≡ l.initial.text.items ++ line_bytes (map (λ q. span_text (span_of q)) (take l.index l.queries))
