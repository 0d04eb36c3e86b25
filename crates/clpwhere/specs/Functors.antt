-- Names with a number of arguments, as they stand behind `unknown` and `redefines`.
use Rattle.std.specs.Prelude.{◌==◌, ◌&&◌, ℕ, suc, ◌-◌, Bool, true, false, List, length, take, is_some}
use Rattle.std.specs.List.{after_last}
use Rattle.std.specs.Str.{is_utf8}
use Rattle.fd_language.specs.Tokens.{Kind, Word, Quoted, Variable, Integer, Punct, Stop, Front, Ends, Gap, Token, Offends, front_of}
use Rattle.clpwhere.specs.Numbers.{place_in}

-- a token that is a name, perhaps in quotes
abbrev pub is_name_kind : Kind → Bool
is_name_kind Word = true
is_name_kind Quoted = true
is_name_kind Variable = false
is_name_kind (Integer v) = false
is_name_kind Punct = false
is_name_kind Stop = false

-- a front that is a name of so many bytes
abbrev pub is_name_front : ℕ → Front → Bool
is_name_front size Ends = false
is_name_front size (Gap n) = false
is_name_front size (Token k n) = n == size && is_name_kind k
is_name_front size (Offends cause n) = false

-- the bytes are one name
abbrev pub is_name : List ℕ → Bool
is_name bytes = is_utf8 bytes && is_name_front (length bytes) (front_of bytes)

-- what stands behind the last slash, and before it
abbrev pub arity_part : List ℕ → List ℕ
arity_part bytes = after_last (λ b. b == 47) bytes

abbrev pub name_part : List ℕ → List ℕ
name_part bytes = take (length bytes - suc (length (arity_part bytes))) bytes

-- a name, a slash and a number
abbrev pub is_functor : List ℕ → Bool
is_functor bytes = is_name (name_part bytes) && is_some (place_in (arity_part bytes))
