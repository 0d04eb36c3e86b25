-- What is still to be written of a term.
use Rattle.std.specs.Prelude.{◌≡◌, ℕ, true, false, ◌+◌, ◌<◌, List, [], ◌∷◌, ◌++◌, length, Some, All, codes, if◌then◌else◌}
use Rattle.std.specs.Str.{bytes_eq}
use Rattle.fd_language.specs.Term.{Name, Term, Terms, Var, Int, Atom, Comp, no_terms, term}
use Rattle.fd_language.specs.Operators.{infix_of}
use Rattle.fd_language.specs.TermTexts.{Mode, is_letter_word, gap_between, spelled, spelled_each, spelled_alone, spelled_compound, call_text, arguments_text}
use Rattle.term_pool.specs.declared.TermId.{TermId}
use Rattle.term_pool.specs.Contents.{Contents}
use Rattle.term_pool.specs.Terms.{terms_by, term_of}
use Rattle.term_writer.specs.declared.pieces.Piece.{Piece}
use Rattle.term_writer.specs.declared.pieces.Piece.TheVariants as piece
use Rattle.term_writer.specs.declared.pieces.CompoundForm.{CompoundForm}
use Rattle.term_writer.specs.declared.pieces.CompoundForm.TheVariants as form
use Rattle.term_writer.specs.declared.pieces.Rest.{Rest}
use Rattle.term_writer.specs.declared.pieces.Rest.TheVariants as rest
use Rattle.name_syntax.specs.Operators.{operator_of}

-- two texts with a space between them where two symbol characters would touch
abbrev pub joined : List ℕ → List ℕ → List ℕ
joined l r = l ++ (gap_between l r ++ r)

-- an operator, with its spaces if it is a word of letters
abbrev pub operator_text : Name → List ℕ
operator_text o = if is_letter_word o then codes " " ++ (o ++ codes " ") else o

unfoldable pub piece_text : Contents → Mode → (ℕ → List ℕ) → Piece → List ℕ
piece_text c mode vars (piece.Term t limit) = (spelled mode vars (term_of c t)).at limit
piece_text c mode vars (piece.Rest t) = (spelled mode vars (term_of c t)).rest
piece_text c mode vars (piece.Arguments ts) = arguments_text (spelled_each mode vars (terms_by (term_of c) ts.now))
piece_text c mode vars (piece.Operator o) = operator_text o.now
piece_text c mode vars (piece.Text s) = s.now

-- the text with the pieces behind it, the last of them first
unfoldable pub finished : Contents → Mode → (ℕ → List ℕ) → List ℕ → List Piece → List ℕ
finished c mode vars text [] = text
finished c mode vars text (p ∷ ps) = joined (finished c mode vars text ps) (piece_text c mode vars p)

abbrev mutual
  -- how much of a term is to be written
  pub weight : Term → ℕ
  weight (Var x) = 1
  weight (Int z) = 1
  weight (Atom a) = 1
  weight (Comp f ts) = 8 + weights ts

  pub weights : Terms → ℕ
  weights no_terms = 0
  weights (term t ts) = weight t + 2 + weights ts

unfoldable pub piece_weight : Contents → Piece → ℕ
piece_weight c (piece.Term t limit) = weight (term_of c t)
piece_weight c (piece.Rest t) = weight (term_of c t) + 2
piece_weight c (piece.Arguments ts) = weights (terms_by (term_of c) ts.now) + 1
piece_weight c (piece.Operator o) = 1
piece_weight c (piece.Text s) = 1

unfoldable pub load : Contents → List Piece → ℕ
load c [] = 0
load c (p ∷ ps) = piece_weight c p + load c ps

-- the piece speaks of terms of the pool alone
abbrev pub IsOf : Contents → Piece → Type 0
IsOf c (piece.Term t limit) = t.number < length c.entries
IsOf c (piece.Rest t) = t.number < length c.entries
IsOf c (piece.Arguments ts) = All (λ t. t.number < length c.entries) ts.now
IsOf c (piece.Operator o) = Unit {0}
IsOf c (piece.Text s) = Unit {0}

-- What is wanted, behind the old text, is partly written and partly left to pieces that weigh less.
pub record Replaces (c : Contents) (mode : Mode) (vars : ℕ → List ℕ) (wanted : List ℕ) (heavy : ℕ) (old_text : List ℕ) (old : List Piece) (new_text : List ℕ) (new : List Piece) : Type 0 where
  pub more : List Piece
  pub pushed : new ≡ old ++ more
  pub whole : finished c mode vars new_text more ≡ joined old_text wanted
  pub lighter : load c more < heavy
  pub within : All (IsOf c) more

-- the form in which a compound is written
abbrev pub IsCompoundForm : Name → List TermId → CompoundForm → Type 0
IsCompoundForm f ts (form.Curly t) = (ts ≡ t ∷ []) × (bytes_eq f (codes "{}") ≡ true)
IsCompoundForm f ts (form.Cell t u) = (ts ≡ t ∷ u ∷ []) × (bytes_eq f (codes ".") ≡ true)
IsCompoundForm f ts (form.Infix o t u) = (ts ≡ t ∷ u ∷ []) × (bytes_eq f (codes ".") ≡ false) × (infix_of f ≡ Some (operator_of f o))
IsCompoundForm f ts form.Call =
    (mode : Mode) (vars : ℕ → List ℕ) (part : TermId → Term)
    → spelled_compound mode f (spelled_each mode vars (terms_by part ts)) ≡ spelled_alone (call_text mode f (spelled_each mode vars (terms_by part ts)))

-- what a cell of a list is behind an element
pub record IsCell (c : Contents) (t first more : TermId) : Type 0 where
  pub first_within : first.number < length c.entries
  pub more_within : more.number < length c.entries
  pub text : (mode : Mode) (vars : ℕ → List ℕ) → (spelled mode vars (term_of c t)).rest ≡ codes "," ++ ((spelled mode vars (term_of c first)).at 999 ++ (spelled mode vars (term_of c more)).rest)
  pub lighter : weight (term_of c first) + weight (term_of c more) + 4 < weight (term_of c t) + 2

-- what a term is behind an element
abbrev pub IsRest : Contents → TermId → Rest → Type 0
IsRest c t rest.Nothing = (mode : Mode) (vars : ℕ → List ℕ) → (spelled mode vars (term_of c t)).rest ≡ []
IsRest c t (rest.Cell first more) = IsCell c t first more
IsRest c t rest.Tail = (mode : Mode) (vars : ℕ → List ℕ) → (spelled mode vars (term_of c t)).rest ≡ codes "|" ++ (spelled mode vars (term_of c t)).at 999
