-- Reading. What a text is by its tokens and the grammar: sentences with the names of their variables, or its first fault.
use Rattle.std.specs.Prelude.{◌≡◌, ℕ, zero, suc, ◌==◌, List, [], ◌∷◌, ◌++◌, Bool, map, reverse, length, codes, if◌then◌else◌}
use Rattle.std.specs.List.{position_or_len, list_any}
use Rattle.std.specs.Str.{bytes_eq}
use Rattle.fd_language.specs.Term.{Name}
use Rattle.fd_language.specs.PlacedTerm.{PlacedTerm}
use Rattle.fd_language.specs.Operators.{is_operator}
use Rattle.fd_language.specs.Tokens.{Kind, Word, Quoted, Variable, Integer, Punct, Stop, Cause, Lexeme, TokensOf, FaultOf, unquoted}
use Rattle.fd_language.specs.Terminals.{Terminal, name, operator_word, variable, integer, opens, closes, open_list, close_list, open_curly, close_curly, comma}
use Rattle.fd_language.specs.Terminals.{bar, stop}
use Rattle.fd_language.specs.GrammarFaults.{IsRead, IsSyntaxFault, IsTooDeep}

-- ---- variables

-- the name of variables of which each occurrence is one of its own
unfoldable pub is_anonymous : Name → Bool
is_anonymous v = bytes_eq v (codes "_")

-- the number of a variable in a sentence whose variables so far have these names
unfoldable pub variable_number : List Name → Name → ℕ
variable_number names v = if is_anonymous v then length names else position_or_len (bytes_eq v) names

-- the names of the sentence's variables once it is read
unfoldable pub with_variable : List Name → Name → List Name
with_variable names v = if is_anonymous v then names ++ v ∷ [] else if list_any (bytes_eq v) names then names else names ++ v ∷ []

-- ---- from the tokens of a text to those of the grammar

abbrev pub word_terminal : ℕ → Name → Terminal
word_terminal p o = if is_operator o then operator_word p o else name p o

abbrev pub punct_terminal : ℕ → Bool → List ℕ → Terminal
punct_terminal p tight [] = bar
punct_terminal p tight (c ∷ cs) =
    if c == 40 then opens p tight
    else if c == 41 then closes
    else if c == 91 then open_list p
    else if c == 93 then close_list
    else if c == 123 then open_curly p
    else if c == 125 then close_curly
    else if c == 44 then comma p
    else bar

abbrev pub terminal_by : Kind → List Name → Lexeme → Terminal
terminal_by Word names l = word_terminal l.place l.text
terminal_by Quoted names l = name l.place (unquoted l.text)
terminal_by Variable names l = variable l.place (variable_number names l.text)
terminal_by (Integer z) names l = integer l.place l.tight z
terminal_by Punct names l = punct_terminal l.place l.tight l.text
terminal_by Stop names l = stop

-- a token of a sentence whose variables so far have these names
abbrev pub terminal_of : List Name → Lexeme → Terminal
terminal_of names l = terminal_by l.kind names l

-- the names once a token is read; the next sentence has variables of its own
abbrev pub names_by : Kind → List Name → List ℕ → List Name
names_by Word names text = names
names_by Quoted names text = names
names_by Variable names text = with_variable names text
names_by (Integer z) names text = names
names_by Punct names text = names
names_by Stop names text = []

abbrev pub names_behind : List Name → Lexeme → List Name
names_behind names l = names_by l.kind names l.text

-- the tokens of the grammar, where the first sentence's variables so far have these names
abbrev pub terminals : List Name → List Lexeme → List Terminal
terminals names [] = []
terminals names (l ∷ ls) = terminal_of names l ∷ terminals (names_behind names l) ls

abbrev pub ended_by : Kind → List Name → List (List Name) → List (List Name)
ended_by Stop names later = names ∷ later
ended_by _ names later = later

-- the names of each sentence that ends in these tokens, by the numbers of its variables
abbrev pub sentence_names : List Name → List Lexeme → List (List Name)
sentence_names names [] = []
sentence_names names (l ∷ ls) = ended_by l.kind names (sentence_names (names_behind names l) ls)

-- ---- the reading of a text

-- a sentence's term, and the names of its variables by their numbers
pub record Sentence : Type 0 where
  pub term : PlacedTerm
  pub names : List Name

-- the place of the k-th token, or the size of the text where there is none
abbrev pub lexeme_place : List Lexeme → ℕ → ℕ → ℕ
lexeme_place [] size k = size
lexeme_place (l ∷ ls) size zero = l.place
lexeme_place (l ∷ ls) size (suc k) = lexeme_place ls size k

-- the text is these sentences
pub record IsSentences (text : List ℕ) (sentences : List Sentence) : Type 0 where
  pub lexemes : List Lexeme
  pub tokens : TokensOf text lexemes
  pub terms : IsRead (terminals [] lexemes) (reverse (map (λ s. s.term) sentences))
  pub names : map (λ s. s.names) sentences ≡ sentence_names [] lexemes

-- The text has tokens. The place is that of the first one with which they begin no accepted list, or the size of a text whose last sentence isn't ended.
pub record IsSyntaxPlace (text : List ℕ) (place : ℕ) : Type 0 where
  pub lexemes : List Lexeme
  pub tokens : TokensOf text lexemes
  pub number : ℕ
  pub fault : IsSyntaxFault (terminals [] lexemes) number
  pub at : place ≡ lexeme_place lexemes (length text) number

-- The text has tokens, and the place is that of the first bracket at which too many are open.
pub record IsDeepPlace (text : List ℕ) (place : ℕ) : Type 0 where
  pub lexemes : List Lexeme
  pub tokens : TokensOf text lexemes
  pub number : ℕ
  pub fault : IsTooDeep (terminals [] lexemes) number
  pub at : place ≡ lexeme_place lexemes (length text) number

-- what a text is
pub data Reading : Type 0 where
  sentences : List Sentence → Reading
  token_fault : Cause → ℕ → Reading
  syntax_fault : ℕ → Reading
  too_deep : ℕ → Reading

abbrev pub IsReading : List ℕ → Reading → Type 0
IsReading text (sentences ss) = IsSentences text ss
IsReading text (token_fault cause place) = FaultOf text cause place
IsReading text (syntax_fault place) = IsSyntaxPlace text place
IsReading text (too_deep place) = IsDeepPlace text place
