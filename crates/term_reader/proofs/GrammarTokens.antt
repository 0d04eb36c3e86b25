-- Tokens as the grammar sees them, over a pool that grows.
use Rattle.std.proofs.Common.{◌≡◌, ℕ, ◌<◌, List, [], ◌∷◌, ◌++◌, length, map, Option, Some, Bool, true, false, cond, refl, sym, ap, subst, ◌∙◌, arith}
use Rattle.std.specs.Prelude.{All, ◌==◌, option_map}
use Rattle.std.specs.List.{list_any}
use Rattle.std.proofs.lemmas.List.Elements.{All-head, All-tail, All-push}
use Rattle.fd_language.specs.Term.{Name}
use Rattle.fd_language.specs.Operators.{infix_of, prefix_of, is_operator}
use Rattle.name_syntax.specs.declared.operators.Operator.{Operator}
use Rattle.name_syntax.specs.Operators.{operator_of}
use Rattle.fd_language.specs.Terminals as model
use Rattle.fd_language.specs.Tokens.{Kind, Word, Quoted, Variable, Punct, Lexeme, unquoted}
use Rattle.fd_language.specs.Reading.{terminal_of, terminal_by, names_behind, names_by, word_terminal, punct_terminal, variable_number, with_variable}
use Rattle.term_pool.specs.declared.AtomId.{AtomId}
use Rattle.term_pool.specs.Contents.{Contents, atom_name}
use Rattle.term_pool.specs.Terms.{Extends}
use Rattle.term_pool.specs.PoolInvariant.{IsPool}
use Rattle.term_pool.proofs.Lemmas.{name_kept, extends_refl}
use Rattle.term_reader.specs.declared.parser.Terminal.{Terminal}
use Rattle.term_reader.specs.declared.parser.Terminal.TheVariants as tokens
use Rattle.term_reader.specs.declared.variables.Variables.{Variables}
use Rattle.term_reader.specs.View.{terminal_at, IsTerminal}
use Rattle.term_reader.specs.VariableNumbers.{IsIndexed, id_number, with_id}
use Rattle.term_reader.specs.GrammarTokens.{AreVariables, names_of, names_on, Knows, Sees}
use Rattle.term_reader.proofs.PlacedLaws.{extends_names}
use Rattle.term_reader.proofs.VariableNumbers.{number_named, names_named}

pub ids_more : (c d : Contents) → Extends c d → (ids : List AtomId) → All (λ a. a.number < length c.names) ids → All (λ a. a.number < length d.names) ids
ids_more c d x ids h k e lt = let old = h k e lt in let more = extends_names c d x in omega (arith, old, more)

pub names_kept : (c d : Contents) → Extends c d → (ids : List AtomId) → All (λ a. a.number < length c.names) ids → map (atom_name d) ids ≡ map (atom_name c) ids
names_kept c d x [] h = refl
names_kept c d x (a ∷ ids) h =
    ap (λ (n : Name). n ∷ map (atom_name d) ids) (name_kept c d x a (All-head (λ b. b.number < length c.names) a ids h))
    ∙ ap (λ (ns : List Name). atom_name c a ∷ ns) (names_kept c d x ids (All-tail (λ b. b.number < length c.names) a ids h))

pub variables_more : (c d : Contents) → Extends c d → (v : Variables) → AreVariables c v → AreVariables d v
variables_more c d x v h = record {
  indexed = h.indexed;
  names = ids_more c d x v.names.items h.names;
  anonymous = omega (arith, h.anonymous, extends_names c d x);
  spelled = name_kept c d x v.anonymous h.anonymous ∙ h.spelled;
}

-- a word that is an operator
pub knows_operator : (c d : Contents) (a : AtomId) (f g : Option Operator) (text : Name) → Extends c d → IsPool d → a.number < length d.names → atom_name d a ≡ text
    → option_map (operator_of text) f ≡ infix_of text → option_map (operator_of text) g ≡ prefix_of text → is_operator text ≡ true
    → Knows c d (λ p. word_terminal p text) (tokens.OperatorWord a (record { «infix» = f; prefix = g }))
knows_operator c d a f g text x v own named between before is = record {
  grows = x;
  valid = v;
  terminal = record {
    own = own;
    between = subst (λ (n : Name). option_map (operator_of n) f ≡ infix_of n) (sym named) between;
    before = subst (λ (n : Name). option_map (operator_of n) g ≡ prefix_of n) (sym named) before;
  };
  is = λ p. ap (model.operator_word p) named ∙ ap (λ (b : Bool). cond b (model.operator_word p text) (model.name p text)) (sym is);
}

-- a word that is none
pub knows_name : (c d : Contents) (a : AtomId) (text : Name) → Extends c d → IsPool d → a.number < length d.names → atom_name d a ≡ text
    → is_operator text ≡ false → Knows c d (λ p. word_terminal p text) (tokens.Name a)
knows_name c d a text x v own named is = record {
  grows = x;
  valid = v;
  terminal = own;
  is = λ p. ap (model.name p) named ∙ ap (λ (b : Bool). cond b (model.operator_word p text) (model.name p text)) (sym is);
}

-- a token that changes no variables
pub sees : (c d : Contents) (v : Variables) (l : Lexeme) (at : ℕ → model.Terminal) (x : Terminal) → AreVariables c v → Knows c d at x
    → terminal_of (names_of c v) l ≡ at l.place → names_on l.kind (names_of c v) l ≡ names_of c v → Sees c d v v l (Some x)
sees c d v l at x h k e n = record {
  grows = k.grows;
  valid = k.valid;
  variables = variables_more c d k.grows v h;
  token = (k.terminal, k.is l.place ∙ sym e);
  names = names_kept c d k.grows v.names.items h.names ∙ sym n;
}

-- the kind is this one
kind_terminal : (names : List Name) (l : Lexeme) (k : Kind) → l.kind ≡ k → terminal_of names l ≡ terminal_by k names l
kind_terminal names l k e = ap (λ (x : Kind). terminal_by x names l) e

kind_names : (names : List Name) (l : Lexeme) (k : Kind) → l.kind ≡ k → names_on l.kind names l ≡ names_on k names l
kind_names names l k e = ap (λ (x : Kind). names_on x names l) e

kind_behind : (names : List Name) (l : Lexeme) (k : Kind) → l.kind ≡ k → names_behind names l ≡ names_by k names l.text
kind_behind names l k e = ap (λ (x : Kind). names_by x names l.text) e

pub sees_word : (c d : Contents) (v : Variables) (l : Lexeme) (x : Terminal) → AreVariables c v → l.kind ≡ Word → Knows c d (λ p. word_terminal p l.text) x → Sees c d v v l (Some x)
sees_word c d v l x h e k = sees c d v l (λ p. word_terminal p l.text) x h k (kind_terminal (names_of c v) l Word e) (kind_names (names_of c v) l Word e ∙ kind_behind (names_of c v) l Word e)

pub sees_quoted : (c d : Contents) (v : Variables) (l : Lexeme) (x : Terminal) → AreVariables c v → l.kind ≡ Quoted → Knows c d (λ p. model.name p (unquoted l.text)) x → Sees c d v v l (Some x)
sees_quoted c d v l x h e k = sees c d v l (λ p. model.name p (unquoted l.text)) x h k (kind_terminal (names_of c v) l Quoted e)
    (kind_names (names_of c v) l Quoted e ∙ kind_behind (names_of c v) l Quoted e)

pub sees_punct : (c : Contents) (v : Variables) (l : Lexeme) (x : Terminal) → IsPool c → AreVariables c v → l.kind ≡ Punct → IsTerminal c x
    → ((d : Contents) (p : ℕ) → terminal_at d p x ≡ punct_terminal p l.tight l.text) → Sees c c v v l (Some x)
sees_punct c v l x valid h e t is =
    sees c c v l (λ p. punct_terminal p l.tight l.text) x h (record { grows = extends_refl c; valid = valid; terminal = t; is = is c })
    (kind_terminal (names_of c v) l Punct e) (kind_names (names_of c v) l Punct e ∙ kind_behind (names_of c v) l Punct e)

pick_all : (P : AtomId → Type 0) (b d : Bool) (ids : List AtomId) (a : AtomId) → All P ids → P a → All P (cond b (ids ++ a ∷ []) (cond d ids (ids ++ a ∷ [])))
pick_all P true d ids a h k = All-push P ids a h k
pick_all P false true ids a h k = h
pick_all P false false ids a h k = All-push P ids a h k

pub sees_variable : (c d : Contents) (v w : Variables) (l : Lexeme) (a : AtomId) (n : ℕ) → AreVariables c v → l.kind ≡ Variable → Extends c d → IsPool d
    → a.number < length d.names → atom_name d a ≡ l.text
    → n ≡ id_number v.anonymous v.names.items a → w.names.items ≡ with_id v.anonymous v.names.items a → w.anonymous ≡ v.anonymous
    → IsIndexed w.anonymous w.names.items w.numbers.items → Sees c d v w l (Some (tokens.Variable n))
sees_variable c d v w l a n h e x valid own named number names an indexed =
    let h2 = variables_more c d x v h in
    let old = names_kept c d x v.names.items h.names in
    let number_is : n ≡ variable_number (names_of c v) l.text =
    number ∙ sym (number_named d valid v.anonymous a v.names.items h2.anonymous own h2.names h2.spelled)
    ∙ ap (λ (ns : List Name). variable_number ns (atom_name d a)) old ∙ ap (variable_number (names_of c v)) named in
    let names_are : names_of d w ≡ with_variable (names_of c v) l.text =
    ap (map (atom_name d)) names ∙ sym (names_named d valid v.anonymous a v.names.items h2.anonymous own h2.names h2.spelled)
    ∙ ap (λ (ns : List Name). with_variable ns (atom_name d a)) old ∙ ap (with_variable (names_of c v)) named in
    record {
      grows = x;
      valid = valid;
      variables = record {
        indexed = indexed;
        names = subst (λ (ids : List AtomId). All (λ b. b.number < length d.names) ids) (sym names)
            (pick_all (λ b. b.number < length d.names) (a.number == v.anonymous.number) (list_any (λ b. a.number == b.number) v.names.items) v.names.items a
            h2.names own);
        anonymous = subst (λ (b : AtomId). b.number < length d.names) (sym an) h2.anonymous;
        spelled = ap (atom_name d) an ∙ h2.spelled;
      };
      token = (tt, ap (model.variable l.place) number_is ∙ sym (kind_terminal (names_of c v) l Variable e));
      names = names_are ∙ sym (kind_names (names_of c v) l Variable e ∙ kind_behind (names_of c v) l Variable e);
    }
