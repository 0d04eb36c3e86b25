-- What the crate's types stand for.
use Rattle.std.specs.Prelude.{◌≡◌, ◌==◌, ◌&&◌, ℕ, ◌+◌, ◌*◌, ◌^◌, ◌<◌, ◌≤◌, List, [], ◌∷◌, Bool, true, map, Option, Some, None, nat_le, if◌then◌else◌, length}
use Rattle.std.specs.Prelude.{drop}
use Rattle.std.specs.Str.{chars, IsUtf8}
use Rattle.unicode_ident.specs.Ident.{is_xid_start, is_xid_continue}
use Rattle.fd_language.specs.Characters.{is_layout, is_symbol, is_solo, is_punct, begins_variable, not_newline, is_digit_of, starts_with, tail}
use Rattle.fd_language.specs.Tokens as model
use Rattle.char_tokens.specs.declared.characters.Class.{Class}
use Rattle.char_tokens.specs.declared.characters.Class.TheVariants as classes
use Rattle.char_tokens.specs.declared.token.Kind.{Kind}
use Rattle.char_tokens.specs.declared.token.Kind.TheVariants as kinds
use Rattle.char_tokens.specs.declared.token.TokenCause.{TokenCause}
use Rattle.char_tokens.specs.declared.token.TokenCause.TheVariants as causes
use Rattle.char_tokens.specs.declared.token.Token.{Token}
use Rattle.char_tokens.specs.declared.token.TokenFault.{TokenFault}
use Rattle.char_tokens.specs.declared.token.TokenFault.TheVariants as faults
use Rattle.char_tokens.specs.declared.front.Front.{Front}
use Rattle.char_tokens.specs.declared.front.Front.TheVariants as fronts
use Rattle.char_tokens.specs.declared.front.Lead.{Lead}
use Rattle.char_tokens.specs.declared.front.Lead.TheVariants as leads
use Rattle.char_tokens.specs.declared.quotation.Inside.{Inside}
use Rattle.char_tokens.specs.declared.quotation.Inside.TheVariants as places
use Rattle.char_tokens.specs.declared.quotation.Step.{Step}
use Rattle.char_tokens.specs.declared.quotation.Step.TheVariants as steps

-- the runs that a token or a comment is made of
abbrev pub passes : Class → ℕ → Bool
passes classes.Continue c = is_xid_continue c
passes classes.Symbol c = is_symbol c
passes classes.Line c = not_newline c

abbrev pub kind_of : Kind → model.Kind
kind_of kinds.Word = model.Word
kind_of kinds.Quoted = model.Quoted
kind_of kinds.Variable = model.Variable
kind_of (kinds.Integer n) = model.Integer n
kind_of kinds.Punct = model.Punct
kind_of kinds.Stop = model.Stop

abbrev pub cause_of : TokenCause → model.Cause
cause_of causes.BadCharacter = model.BadCharacter
cause_of causes.OpenQuote = model.OpenQuote
cause_of causes.OpenComment = model.OpenComment
cause_of causes.BadEscape = model.BadEscape
cause_of causes.IntegerTooWide = model.IntegerTooWide
cause_of causes.FloatOut = model.FloatOut
cause_of causes.StringOut = model.StringOut

abbrev pub lexeme_of : Token → model.Lexeme
lexeme_of t = record { kind = kind_of t.kind; text = t.text.now; place = t.place; tight = t.tight }

abbrev pub lexemes : List Token → List model.Lexeme
lexemes ts = map lexeme_of ts

-- the fault is the text's first, or memory was wanting
abbrev pub IsFaultIn : List ℕ → TokenFault → Type 0
IsFaultIn text (faults.At place cause) = model.FaultOf text (cause_of cause) place
IsFaultIn text faults.NoMemory = Unit {0}

-- the fault is this one, or memory was wanting
abbrev pub IsFaultAt : model.Cause → ℕ → TokenFault → Type 0
IsFaultAt c p (faults.At place cause) = (cause_of cause ≡ c) × (place ≡ p)
IsFaultAt c p faults.NoMemory = Unit {0}

-- ---- the scanner's own types

abbrev pub front_is : Front → model.Front
front_is fronts.Ends = model.Ends
front_is (fronts.Gap n) = model.Gap n
front_is (fronts.Token k n) = model.Token (kind_of k) n
front_is (fronts.Offends cause n) = model.Offends (cause_of cause) n

-- rest is what stands behind the front
abbrev pub IsBehind : List ℕ → Front → List ℕ → Type 0
IsBehind text fronts.Ends rest = Unit {0}
IsBehind text (fronts.Gap n) rest = (n ≤ length text) × (rest ≡ drop n text)
IsBehind text (fronts.Token k n) rest = (n ≤ length text) × (rest ≡ drop n text)
IsBehind text (fronts.Offends cause n) rest = n ≤ length text

-- how a text of this first character, with these behind it, is read
abbrev pub lead_of : ℕ → List ℕ → Lead
lead_of c cs =
    if is_layout c then leads.Layout
    else if c == 37 then leads.Line
    else if is_digit_of 10 c then leads.Digit
    else if begins_variable c then leads.Run kinds.Variable classes.Continue
    else if is_xid_start c then leads.Run kinds.Word classes.Continue
    else if c == 47 && starts_with 42 cs then leads.Comment
    else if c == 46 && model.ends_stop cs then leads.Alone kinds.Stop
    else if is_symbol c then leads.Run kinds.Word classes.Symbol
    else if is_solo c then leads.Alone kinds.Word
    else if is_punct c then leads.Alone kinds.Punct
    else if c == 39 then leads.Quote
    else if c == 34 then leads.Offends causes.StringOut
    else leads.Offends causes.BadCharacter

abbrev pub inside_of : Inside → model.Inside
inside_of places.Between = model.Between
inside_of places.AfterQuote = model.AfterQuote
inside_of (places.AfterBackslash n) = model.AfterBackslash n
inside_of (places.AfterDigits from count value) = model.AfterDigits from count value

abbrev pub step_is : ℕ → Step → model.Inside
step_is n (steps.Stays place) = inside_of place
step_is n steps.Ends = model.Past n
step_is n (steps.Offends cause at) = model.Broken (cause_of cause) at

-- the number, where it is an integer
abbrev pub integer_of : ℕ → Option ℕ
integer_of v = if nat_le v model.greatest_integer then Some v else None

-- one more digit
abbrev pub next_integer : ℕ → Option ℕ → ℕ → Option ℕ
next_integer base None digit = None
next_integer base (Some v) digit = integer_of (v * base + digit)

-- The text begins with a letter that names the base, and rest, behind it, with a digit of that base.
pub record IsBased (text : List ℕ) (base : ℕ) (rest : List ℕ) : Type 0 where
  pub has_base : model.has_base (chars text) ≡ true
  pub base_at : model.base_at (chars text) ≡ base
  pub low : 2 ≤ base
  pub high : base ≤ 16
  pub behind : rest ≡ drop 1 text
  pub within : 1 ≤ length text
  pub digits : tail (chars text) ≡ chars rest
  pub utf8 : IsUtf8 rest

-- What a reader inside a quoted atom keeps: the digits of \x stay within their type.
-- a backslash that is remembered stands before n
abbrev pub IsHeld : ℕ → Inside → Type 0
IsHeld n places.Between = Unit {0}
IsHeld n places.AfterQuote = Unit {0}
IsHeld n (places.AfterBackslash from) = from ≤ n
IsHeld n (places.AfterDigits from count value) = (from ≤ n) × (count ≤ 6) × (value < 16 ^ count)

abbrev pub IsBounded : ℕ → Step → Type 0
IsBounded n (steps.Stays place) = IsHeld n place
IsBounded n steps.Ends = Unit {0}
IsBounded n (steps.Offends cause at) = at ≤ n

abbrev pub characters : Option ℕ → List ℕ
characters None = []
characters (Some c) = c ∷ []
