-- What the reader has read.
use Rattle.std.specs.Prelude.{◌≡◌, ℕ, ◌<◌, List, [], ◌∷◌, ◌++◌, length, map, reverse, Some, None, Bool, true, false, All}
use Rattle.fd_language.specs.Term.{Name}
use Rattle.fd_language.specs.PlacedTerm.{PlacedTerm}
use Rattle.fd_language.specs.Tokens.{Lexeme, Stop, FaultOf, TokensOf}
use Rattle.fd_language.specs.Reading as model
use Rattle.fd_language.specs.Reading.{terminals, names_behind, sentence_names, IsSyntaxPlace, IsDeepPlace, Reading, token_fault, syntax_fault, too_deep}
use Rattle.fd_language.specs.GrammarFaults.{IsShallow}
use Rattle.fd_language.specs.ReadingSteps.{want, top, run}
use Rattle.char_tokens.specs.Views.{cause_of}
use Rattle.char_tokens.specs.declared.token.TokenFault.{TokenFault}
use Rattle.char_tokens.specs.declared.token.TokenFault.TheVariants as faults
use Rattle.term_pool.specs.Contents.{Contents, atom_name}
use Rattle.term_pool.specs.PoolInvariant.{IsPool}
use Rattle.term_pool.specs.PlacedTerms.{placed_of}
use Rattle.term_reader.specs.View.{IsWhole, state}
use Rattle.term_reader.specs.GrammarTokens.{AreVariables, names_of}
use Rattle.term_reader.specs.declared.reader.Sentence.{Sentence}
use Rattle.term_reader.specs.declared.reader.Sentences.{Sentences}
use Rattle.term_reader.specs.declared.reader.ReaderFault.{ReaderFault}
use Rattle.term_reader.specs.declared.reader.ReaderFault.TheVariants.{Token, Syntax, TooDeep, NoMemory}
use Rattle.term_reader.specs.declared.reader.Reader.{Reader}

-- a sentence with its placed term and the names of its variables
abbrev pub sentence_of : Contents → Sentence → model.Sentence
sentence_of c s = record { term = placed_of c s.term; names = map (atom_name c) s.names.items }

-- the sentences, in the order of the text
abbrev pub sentences_of : Sentences → List model.Sentence
sentences_of s = map (sentence_of s.pool) s.list.items

-- term and names are of the pool
pub record IsSentence (c : Contents) (s : Sentence) : Type 0 where
  pub term : s.term.number < length c.entries
  pub names : All (λ a. a.number < length c.names) s.names.items

-- what holds between two calls
pub record IsReader (r : Reader) : Type 0 where
  pub parser : IsWhole r.parser
  pub variables : AreVariables r.parser.pool r.variables
  pub list : All (IsSentence r.parser.pool) r.list.items

-- the names of the sentence's variables behind these tokens
abbrev pub names_after : List Name → List Lexeme → List Name
names_after names [] = names
names_after names (l ∷ ls) = names_after (names_behind names l) ls

abbrev pub read_of : Reader → List model.Sentence
read_of r = map (sentence_of r.parser.pool) r.list.items

abbrev pub done_of : List model.Sentence → List PlacedTerm
done_of ss = reverse (map (λ s. s.term) ss)

-- these tokens are read
pub record HasRead (ls : List Lexeme) (r : Reader) : Type 0 where
  pub run : run (terminals [] ls) (want (top [])) ≡ Some (state r.parser (done_of (read_of r)))
  pub names : map (λ s. s.names) (read_of r) ≡ sentence_names [] ls
  pub current : names_of r.parser.pool r.variables ≡ names_after [] ls

-- all tokens of the text are read, and nowhere are more than 1,000 brackets open
pub record HasReadText (text : List ℕ) (r : Reader) : Type 0 where
  pub whole : IsReader r
  pub lexemes : List Lexeme
  pub tokens : TokensOf text lexemes
  pub read : HasRead lexemes r
  pub shallow : IsShallow (terminals [] lexemes) (length lexemes)

abbrev pub IsStop : Lexeme → Type 0
IsStop l = l.kind ≡ Stop

-- the token behind those read is read too, or can't stand there
abbrev pub Took : Bool → List Lexeme → Lexeme → Reader → Type 0
Took true ls l r = HasRead (ls ++ l ∷ []) r
Took false ls l r = run (terminals [] (ls ++ l ∷ [])) (want (top [])) ≡ None

-- the terms and names of the sentences are of their pool
pub record AreOwn (s : Sentences) : Type 0 where
  pub pool : IsPool s.pool
  pub list : All (IsSentence s.pool) s.list.items

-- the fault is the text's, or want of memory
abbrev pub IsFaultOf : List ℕ → ReaderFault → Type 0
IsFaultOf text (Token (faults.At place cause)) = FaultOf text (cause_of cause) place
IsFaultOf text (Token faults.NoMemory) = ⊥
IsFaultOf text (Syntax place) = IsSyntaxPlace text place
IsFaultOf text (TooDeep place) = IsDeepPlace text place
IsFaultOf text NoMemory = Unit {0}

-- the fault is this one, or want of memory
abbrev pub IsFaultFor : Reading → ReaderFault → Type 0
IsFaultFor v (Token (faults.At place cause)) = v ≡ token_fault (cause_of cause) place
IsFaultFor v (Token faults.NoMemory) = ⊥
IsFaultFor v (Syntax place) = v ≡ syntax_fault place
IsFaultFor v (TooDeep place) = v ≡ too_deep place
IsFaultFor v NoMemory = Unit {0}

-- what a fault of the tokens is to the reader
abbrev pub fault_of : TokenFault → ReaderFault
fault_of (faults.At place cause) = Token (faults.At place cause)
fault_of faults.NoMemory = NoMemory
