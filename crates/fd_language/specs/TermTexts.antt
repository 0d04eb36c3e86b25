-- The text of terms: lists and operators as they are read, names quoted where they must be, so that what was written reads back.
use Rattle.std.specs.Prelude.{ℕ, Bool, true, false, ◌||◌, ◌&&◌, not, ◌==◌, if◌then◌else◌, nat_le, nat_lt, List, [], ◌∷◌, ◌++◌, Option, Some, None, codes}
use Rattle.std.specs.Fmt.{digits, signed_decimal}
use Rattle.std.specs.Str.{bytes_eq, chars}
use Rattle.std.specs.List.{list_all}
use Rattle.unicode_ident.specs.Ident.{is_xid_start, is_xid_continue}
use Rattle.std.specs.Char.{is_ascii_uppercase}
use Rattle.fd_language.specs.Characters.{is_symbol}
use Rattle.fd_language.specs.Term.{Name, Term, Terms, Var, Int, Atom, Comp, no_terms, term}
use Rattle.fd_language.specs.Operators.{Operator, infix_of, is_operator, left_limit, right_limit}

-- Quoted reads back, Plain quotes nothing
pub data Mode : Type 0 where
  Quoted Plain : Mode

abbrev pub is_letter_word_of : List ℕ → Bool
is_letter_word_of [] = false
is_letter_word_of (c ∷ cs) = (is_xid_start c && not (is_ascii_uppercase c)) && list_all is_xid_continue cs

-- a word of letters
abbrev pub is_letter_word : Name → Bool
is_letter_word a = is_letter_word_of (chars a)

-- the text begins a comment
abbrev pub is_comment_start : List ℕ → Bool
is_comment_start (c ∷ d ∷ cs) = (c == 47) && (d == 42)
is_comment_start _ = false

abbrev pub is_empty_name : Name → Bool
is_empty_name [] = true
is_empty_name (c ∷ cs) = false

-- a word of symbols that can stand bare
abbrev pub is_symbol_word : Name → Bool
is_symbol_word a = not (is_empty_name a) && (list_all is_symbol a && not (bytes_eq a (codes ".") || is_comment_start a))

abbrev pub is_bare : Name → Bool
is_bare a =
    ((is_letter_word a || is_symbol_word a) && not (is_operator a))
    || (bytes_eq a (codes "[]") || (bytes_eq a (codes "{}") || bytes_eq a (codes "!")))

-- a byte inside quotes; those of longer characters stand as they are
abbrev pub quoted_byte : ℕ → List ℕ
quoted_byte c =
    if c == 92 then codes "\\\\" else
    if c == 39 then codes "\\'" else
    if c == 10 then codes "\\n" else
    if c == 9 then codes "\\t" else
    if c == 13 then codes "\\r" else
    if nat_lt c 32 || (c == 127) then codes "\\x" ++ (digits 16 false c ++ codes "\\") else c ∷ []

abbrev pub quoted_bytes : List ℕ → List ℕ
quoted_bytes [] = []
quoted_bytes (c ∷ cs) = quoted_byte c ++ quoted_bytes cs

abbrev pub quoted_name : Name → List ℕ
quoted_name a = codes "'" ++ (quoted_bytes a ++ codes "'")

abbrev pub atom_text : Mode → Name → List ℕ
atom_text Quoted a = if is_bare a then a else quoted_name a
atom_text Plain a = a

-- the name before `(`
abbrev pub functor_text : Mode → Name → List ℕ
functor_text Quoted f = if is_bare f || (is_operator f && not (bytes_eq f (codes ","))) then f else quoted_name f
functor_text Plain f = f

abbrev pub ends_with_symbol : List ℕ → Bool
ends_with_symbol [] = false
ends_with_symbol (c ∷ []) = is_symbol c
ends_with_symbol (c ∷ d ∷ cs) = ends_with_symbol (d ∷ cs)

abbrev pub starts_with_symbol : List ℕ → Bool
starts_with_symbol [] = false
starts_with_symbol (c ∷ cs) = is_symbol c

-- one space where two symbol characters would touch
abbrev pub gap_between : List ℕ → List ℕ → List ℕ
gap_between l r = if ends_with_symbol l && starts_with_symbol r then codes " " else []

-- an operator between its operands
abbrev pub between : List ℕ → Name → List ℕ → List ℕ
between l o r =
    if is_letter_word o then l ++ (codes " " ++ (o ++ (codes " " ++ r))) else
    l ++ (gap_between l o ++ (o ++ (gap_between o r ++ r)))

abbrev pub in_parentheses : List ℕ → List ℕ
in_parentheses t = codes "(" ++ (t ++ codes ")")

-- A term's text at a limit, the greatest priority that stands without parentheses; and its text as what follows an element of a list.
pub record TermText : Type 0 where
  pub at : ℕ → List ℕ
  pub rest : List ℕ

abbrev pub spelled_alone : List ℕ → TermText
spelled_alone t = record { at = λ limit. t; rest = codes "|" ++ t }

abbrev pub spelled_by : (ℕ → List ℕ) → TermText
spelled_by at = record { at = at; rest = codes "|" ++ at 999 }

-- the arguments, each at limit 999, joined by commas
abbrev pub arguments_text : List TermText → List ℕ
arguments_text [] = []
arguments_text (x ∷ []) = x.at 999
arguments_text (x ∷ y ∷ ys) = x.at 999 ++ (codes "," ++ arguments_text (y ∷ ys))

abbrev pub call_text : Mode → Name → List TermText → List ℕ
call_text mode f xs = functor_text mode f ++ in_parentheses (arguments_text xs)

abbrev pub infix_text : Operator → TermText → TermText → ℕ → List ℕ
infix_text o a b limit =
    if nat_le o.priority limit then between (a.at (left_limit o)) o.name (b.at (right_limit o)) else
    in_parentheses (between (a.at (left_limit o)) o.name (b.at (right_limit o)))

abbrev pub spelled_infix : Mode → Name → Option Operator → TermText → TermText → TermText
spelled_infix mode f (Some o) a b = spelled_by (infix_text o a b)
spelled_infix mode f None a b = spelled_alone (call_text mode f (a ∷ b ∷ []))

-- a cell of a list; or an infix operator; or a call
abbrev pub spelled_two : Mode → Name → TermText → TermText → TermText
spelled_two mode f a b =
    if bytes_eq f (codes ".")
    then record { at = λ limit. codes "[" ++ (a.at 999 ++ (b.rest ++ codes "]")); rest = codes "," ++ (a.at 999 ++ b.rest) }
    else spelled_infix mode f (infix_of f) a b

abbrev pub spelled_one : Mode → Name → TermText → TermText
spelled_one mode f a =
    if bytes_eq f (codes "{}") then spelled_alone (codes "{" ++ (a.at 1200 ++ codes "}")) else spelled_alone (call_text mode f (a ∷ []))

abbrev pub spelled_compound : Mode → Name → List TermText → TermText
spelled_compound mode f (a ∷ []) = spelled_one mode f a
spelled_compound mode f (a ∷ b ∷ []) = spelled_two mode f a b
spelled_compound mode f xs = spelled_alone (call_text mode f xs)

-- nothing follows the last element of a list that ends with `[]`
abbrev pub spelled_atom : Mode → Name → TermText
spelled_atom mode a = record { at = λ limit. atom_text mode a; rest = if bytes_eq a (codes "[]") then [] else codes "|" ++ atom_text mode a }

abbrev mutual
  pub spelled : Mode → (ℕ → List ℕ) → Term → TermText
  spelled mode vars (Var x) = spelled_alone (vars x)
  spelled mode vars (Int z) = spelled_alone (signed_decimal z)
  spelled mode vars (Atom a) = spelled_atom mode a
  spelled mode vars (Comp f ts) = spelled_compound mode f (spelled_each mode vars ts)

  pub spelled_each : Mode → (ℕ → List ℕ) → Terms → List TermText
  spelled_each mode vars no_terms = []
  spelled_each mode vars (term t ts) = spelled mode vars t ∷ spelled_each mode vars ts

-- the text of a term at a limit, where vars gives each variable's text
abbrev pub term_text : Mode → (ℕ → List ℕ) → ℕ → Term → List ℕ
term_text mode vars limit t = (spelled mode vars t).at limit
