-- Texts, as contracts see them.
use Rattle.std.specs.Prelude.{ℕ, List}

-- a text with the name of its file
pub record TextParts : Type 0 where
  pub name : List ℕ
  pub bytes : List ℕ

-- a text with the places of its queries; without them no fault is placed
pub record QueriedParts : Type 0 where
  pub text : TextParts
  pub queries : List ℕ

abbrev pub with_queries : TextParts → List ℕ → QueriedParts
with_queries text queries = record { text = text; queries = queries }
