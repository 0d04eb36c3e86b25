-- The ranges by which touches and bounds are posted.
use Rattle.std.specs.Prelude.{pos}
use Rattle.fd_language.specs.Range.{Range, Span, Dom, Number, Param}
-- a variable gets the integer of the parameter
pub use Rattle.bound_search.specs.Posting.{exact_range}

-- a variable gets the values of another one
abbrev pub same_range : Range
same_range = Dom 0

-- a variable gets the integer of the parameter as its greatest number
abbrev pub bound_range : Range
bound_range = Span (Number (pos 0)) (Param 0)
