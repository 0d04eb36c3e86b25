-- How the tokens of a text are seen by the grammar.
use Rattle.std.specs.Prelude.{◌≡◌, ℕ, ◌<◌, List, length, map, Option, Some, None, All, codes}
use Rattle.fd_language.specs.Term.{Name}
use Rattle.fd_language.specs.Terminals as model
use Rattle.fd_language.specs.Tokens.{Kind, Integer, Stop, Lexeme}
use Rattle.fd_language.specs.Reading.{terminal_of, names_behind}
use Rattle.term_pool.specs.Contents.{Contents, atom_name}
use Rattle.term_pool.specs.PoolInvariant.{IsPool}
use Rattle.term_pool.specs.Terms.{Extends}
use Rattle.term_reader.specs.VariableNumbers.{IsIndexed}
use Rattle.term_reader.specs.View.{IsNatural, IsTerminal, terminal_at}
use Rattle.term_reader.specs.declared.parser.Terminal.{Terminal}
use Rattle.term_reader.specs.declared.variables.Variables.{Variables}

-- the variables' names and the anonymous one are of the pool
pub record AreVariables (c : Contents) (v : Variables) : Type 0 where
  pub indexed : IsIndexed v.anonymous v.names.items v.numbers.items
  pub names : All (λ a. a.number < length c.names) v.names.items
  pub anonymous : v.anonymous.number < length c.names
  pub spelled : atom_name c v.anonymous ≡ codes "_"

-- an integer has no sign
abbrev pub KindIsNatural : Kind → Type 0
KindIsNatural (Integer z) = IsNatural z
KindIsNatural _ = Unit {0}

abbrev pub HasNatural : Lexeme → Type 0
HasNatural l = KindIsNatural l.kind

-- the names of the sentence's variables
abbrev pub names_of : Contents → Variables → List Name
names_of c v = map (atom_name c) v.names.items

-- the pool has grown, and x is this token of the grammar at each place
pub record Knows (old new : Contents) (at : ℕ → model.Terminal) (x : Terminal) : Type 0 where
  pub grows : Extends old new
  pub valid : IsPool new
  pub terminal : IsTerminal new x
  pub is : (p : ℕ) → terminal_at new p x ≡ at p

abbrev pub SeesAs : Contents → List Name → Lexeme → Option Terminal → Type 0
SeesAs c names l None = l.kind ≡ Stop
SeesAs c names l (Some x) = IsTerminal c x × (terminal_at c l.place x ≡ terminal_of names l)

-- the names of a sentence behind a token that isn't its stop
abbrev pub names_on : Kind → List Name → Lexeme → List Name
names_on Stop names l = names
names_on _ names l = names_behind names l

-- the token of the text is this one to the grammar, and the names of variables are those behind it
pub record Sees (old new : Contents) (v w : Variables) (l : Lexeme) (o : Option Terminal) : Type 0 where
  pub grows : Extends old new
  pub valid : IsPool new
  pub variables : AreVariables new w
  pub token : SeesAs new (names_of old v) l o
  pub names : names_of new w ≡ names_on l.kind (names_of old v) l
