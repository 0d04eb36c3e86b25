-- What is read, or refused, of a text.
use Rattle.std.proofs.Common.{◌≡◌, ℕ, zero, suc, ◌+◌, ◌<◌, ◌≤◌, ◌⊎◌, inl, inr, List, [], ◌∷◌, ◌++◌, length, map, take, drop, Some, None, true, false, refl, sym}
use Rattle.std.proofs.Common.{ap, subst, ◌∙◌, arith, length-append, append_assoc, append-nil}
use Rattle.std.specs.Prelude.{All}
use Rattle.std.proofs.lemmas.List.{take-append-drop, take-append-le, take_all}
use Rattle.std.proofs.lemmas.Bool.{cases_lt}
use Rattle.fd_language.specs.PlacedTerm.{PlacedTerm}
use Rattle.fd_language.specs.Term.{Name}
use Rattle.fd_language.specs.Terminals.{Terminal}
use Rattle.fd_language.specs.Tokens.{Lexeme, HasTokens, TokensOf}
use Rattle.fd_language.specs.Reading as model
use Rattle.fd_language.specs.Reading.{terminals, terminal_of, names_behind, lexeme_place, IsSentences, IsSyntaxPlace, IsDeepPlace}
use Rattle.fd_language.specs.Grammar.{IsText, Begins}
use Rattle.fd_language.specs.GrammarFaults.{deepest, open_behind, brackets, IsShallow, IsRead, IsSyntaxFault, IsTooDeep}
use Rattle.fd_language.specs.ReadingSteps.{State, want, top, run}
use Rattle.fd_language.proofs.Lemmas.{accepts}
use Rattle.char_tokens.specs.declared.token.TokenFault.{TokenFault}
use Rattle.char_tokens.specs.declared.token.TokenFault.TheVariants as faults
use Rattle.char_tokens.specs.Views.{cause_of}
use Rattle.char_tokens.specs.UnreadText.{Left}
use Rattle.char_tokens.specs.NextTokens.{IsNext, Refuses, IsFirstFault, AreTokens}
use Rattle.char_tokens.proofs.Lemmas.{Completes, completes_more, next_tokens, next_fault, fault_first}
use Rattle.term_pool.specs.Contents.{Contents}
use Rattle.term_pool.specs.PoolInvariant.{IsPool}
use Rattle.term_reader.specs.declared.reader.Reader.{Reader}
use Rattle.term_reader.specs.declared.reader.Sentence.{Sentence}
use Rattle.term_reader.specs.declared.reader.Sentences.{Sentences}
use Rattle.term_reader.specs.View.{state}
use Rattle.term_reader.specs.Sentences.{sentence_of, sentences_of, AreOwn, IsSentence, names_after, read_of, done_of, HasRead, HasReadText, IsReader, Took}
use Rattle.term_reader.specs.Sentences.{IsFaultOf, fault_of}
use Rattle.term_reader.proofs.Soundness.{sound}
use Rattle.term_reader.proofs.Completeness.{begins, begins_none}
use Rattle.term_reader.proofs.Readers.{start, terminals-append}

-- ---- tokens by their numbers

length-terminals : (names : List Name) (ls : List Lexeme) → length (terminals names ls) ≡ length ls
length-terminals names [] = refl
length-terminals names (l ∷ ls) = ap suc (length-terminals (names_behind names l) ls)

take-terminals : (names : List Name) (ls : List Lexeme) (k : ℕ) → take k (terminals names ls) ≡ terminals names (take k ls)
take-terminals names ls zero = refl
take-terminals names [] (suc k) = refl
take-terminals names (l ∷ ls) (suc k) = ap (λ (ts : List Terminal). terminal_of names l ∷ ts) (take-terminals (names_behind names l) ls k)

-- the place of the token behind those read
place_behind : (ls more : List Lexeme) (l : Lexeme) (size : ℕ) → lexeme_place (ls ++ l ∷ more) size (length ls) ≡ l.place
place_behind [] more l size = refl
place_behind (x ∷ ls) more l size = place_behind ls more l size

place_at_end : (ls : List Lexeme) (size : ℕ) → lexeme_place ls size (length ls) ≡ size
place_at_end [] size = refl
place_at_end (l ∷ ls) size = place_at_end ls size

brackets-append : (n : ℕ) (ts us : List Terminal) → brackets n (ts ++ us) ≡ brackets (brackets n ts) us
brackets-append n [] us = refl
brackets-append n (x ∷ ts) us = brackets-append (open_behind n x) ts us

-- the tokens in front of others
take_front : (ls more : List Lexeme) (k : ℕ) → k ≤ length ls → take k (terminals [] (ls ++ more)) ≡ take k (terminals [] ls)
take_front ls more k h = take-terminals [] (ls ++ more) k ∙ ap (terminals []) (take-append-le k ls more h) ∙ sym (take-terminals [] ls k)

front_is : (ls more : List Lexeme) → take (length ls) (terminals [] (ls ++ more)) ≡ terminals [] ls
front_is ls more = take_front ls more (length ls) (omega arith) ∙ take_all (length ls) (terminals [] ls) (omega (arith, length-terminals [] ls))

-- the tokens in front of others, and the next one
next_is : (ls more : List Lexeme) (l : Lexeme) → take (length ls + 1) (terminals [] (ls ++ l ∷ more)) ≡ terminals [] (ls ++ l ∷ [])
next_is ls more l =
    ap (λ (n : ℕ). take n (terminals [] (ls ++ l ∷ more))) (sym (length-append ls (l ∷ [])))
    ∙ ap (λ (ks : List Lexeme). take (length (ls ++ l ∷ [])) (terminals [] ks)) (sym (append_assoc ls (l ∷ []) more))
    ∙ front_is (ls ++ l ∷ []) more

shallow_front : (ls more : List Lexeme) → IsShallow (terminals [] ls) (length ls) → IsShallow (terminals [] (ls ++ more)) (length ls)
shallow_front ls more h j le = subst (λ (ts : List Terminal). brackets 0 ts ≤ deepest) (sym (take_front ls more j le)) (h j le)

-- ---- the loop

-- These tokens are read, and so many brackets are open behind them.
pub record ReadAll (ls : List Lexeme) (depth : ℕ) (r : Reader) : Type 0 where
  pub whole : IsReader r
  pub read : HasRead ls r
  pub brackets_open : depth ≡ brackets 0 (terminals [] ls)
  pub shallow : IsShallow (terminals [] ls) (length ls)

-- the depth behind one more token
depth_next : (ls : List Lexeme) (l : Lexeme) (depth : ℕ) (r : Reader) → ReadAll ls depth r → brackets 0 (terminals [] (ls ++ l ∷ [])) ≡ open_behind depth (terminal_of (names_after [] ls) l)
depth_next ls l depth r k =
    let x = terminal_of (names_after [] ls) l in
    ap (brackets 0) (terminals-append [] ls (l ∷ [])) ∙ brackets-append 0 (terminals [] ls) (x ∷ []) ∙ ap (λ (n : ℕ). open_behind n x) (sym k.brackets_open)

shallow_next : (ls : List Lexeme) (l : Lexeme) → IsShallow (terminals [] ls) (length ls) → brackets 0 (terminals [] (ls ++ l ∷ [])) ≤ deepest
    → IsShallow (terminals [] (ls ++ l ∷ [])) (length (ls ++ l ∷ []))
shallow_next ls l h k j le = go (cases_lt (length ls) j)
  where
    all : List Terminal
    all = terminals [] (ls ++ l ∷ [])

    go : (length ls < j) ⊎ (j ≤ length ls) → brackets 0 (take j all) ≤ deepest
    go (inl lt) = subst (λ (ts : List Terminal). brackets 0 ts ≤ deepest) (sym (take_all j all (omega (arith, lt, length-terminals [] (ls ++ l ∷ []), length-append ls (l ∷ []))))) k
    go (inr small) = shallow_front ls (l ∷ []) h j small

read_next : (ls : List Lexeme) (l : Lexeme) (depth next : ℕ) (r r2 : Reader) → ReadAll ls depth r → IsReader r2 → HasRead (ls ++ l ∷ []) r2
    → next ≡ open_behind depth (terminal_of (names_after [] ls) l) → next ≤ deepest → ReadAll (ls ++ l ∷ []) next r2
read_next ls l depth next r r2 k w took is le =
    let behind = depth_next ls l depth r k in
    record {
      whole = w;
      read = took;
      brackets_open = is ∙ sym behind;
      shallow = shallow_next ls l k.shallow (omega (arith, le, is, behind));
    }

-- ---- faults

begins_front : (ls more : List Lexeme) (depth : ℕ) (r : Reader) → ReadAll ls depth r → Begins (take (length ls) (terminals [] (ls ++ more)))
begins_front ls more depth r k = subst Begins (sym (front_is ls more)) (begins (terminals [] ls) (state r.parser (done_of (read_of r))) k.read.run)

refused : (ls more : List Lexeme) (l : Lexeme) (depth : ℕ) (r : Reader) → ReadAll ls depth r → run (terminals [] (ls ++ l ∷ [])) start ≡ None
    → IsSyntaxFault (terminals [] (ls ++ l ∷ more)) (length ls)
refused ls more l depth r k dies =
    let ts = terminals [] (ls ++ l ∷ more) in
    let front = take (length ls + 1) ts in
    let dead : run front start ≡ None = ap (λ (us : List Terminal). run us start) (next_is ls more l) ∙ dies in
    record {
      within = omega (arith, length-terminals [] (ls ++ l ∷ more), length-append ls (l ∷ more));
      fits = begins_front ls (l ∷ more) depth r k;
      ends = λ b. absurd (begins_none front dead b);
      whole = λ terms e. begins_none front dead (drop (length ls + 1) ts, terms, subst (λ (us : List Terminal). IsText us terms) (sym (take-append-drop (length ls + 1) ts)) e);
      shallow = shallow_front ls (l ∷ more) k.shallow;
    }

deep : (ls more : List Lexeme) (l : Lexeme) (depth next : ℕ) (r r2 : Reader) → ReadAll ls depth r → HasRead (ls ++ l ∷ []) r2
    → next ≡ open_behind depth (terminal_of (names_after [] ls) l) → deepest < next → IsTooDeep (terminals [] (ls ++ l ∷ more)) (length ls)
deep ls more l depth next r r2 k took is lt =
    let all = next_is ls more l in
    record {
      within = omega (arith, length-terminals [] (ls ++ l ∷ more), length-append ls (l ∷ more));
      fits = subst Begins (sym all) (begins (terminals [] (ls ++ l ∷ [])) (state r2.parser (done_of (read_of r2))) took.run);
      deep = omega (arith, lt, is, depth_next ls l depth r k, ap (brackets 0) all);
      shallow = shallow_front ls (l ∷ more) k.shallow;
    }

-- ---- the end of the tokens

ended : (text : List ℕ) (r : Reader) (k : HasReadText text r) → ((done : List PlacedTerm) → state r.parser done ≡ want (top done)) → IsRead (terminals [] k.lexemes) (done_of (read_of r))
ended text r k b = record {
  text = sound (terminals [] k.lexemes) (done_of (read_of r)) (k.read.run ∙ ap (λ (st : State). Some st) (b (done_of (read_of r))));
  shallow = subst (IsShallow (terminals [] k.lexemes)) (sym (length-terminals [] k.lexemes)) k.shallow;
}

unended : (text : List ℕ) (r : Reader) (k : HasReadText text r) → ((done terms : List PlacedTerm) → state r.parser done ≡ want (top terms) → ⊥)
    → IsSyntaxFault (terminals [] k.lexemes) (length k.lexemes)
unended text r k open_still =
    let ts = terminals [] k.lexemes in
    let done = done_of (read_of r) in
    let n = length-terminals [] k.lexemes in
    record {
      within = omega (arith, n);
      fits = subst Begins (sym (take_all (length k.lexemes) ts (omega (arith, n)))) (begins ts (state r.parser done) k.read.run);
      ends = λ b. sym n;
      whole = λ terms e. open_still done terms (let same : Some (state r.parser done) ≡ Some (want (top terms)) = sym k.read.run ∙ accepts ts terms e in cc);
      shallow = k.shallow;
    }

-- what is read of a text is its sentences, where the reader is between two
pub found : (text : List ℕ) (r : Reader) (s : Sentences) → HasReadText text r → ((done : List PlacedTerm) → state r.parser done ≡ want (top done))
    → s.pool ≡ r.parser.pool → s.list.items ≡ r.list.items → IsSentences text (sentences_of s)
found text r s k b e1 e2 =
    let same : sentences_of s ≡ read_of r = ap (λ (c : Contents). map (sentence_of c) s.list.items) e1 ∙ ap (map (sentence_of r.parser.pool)) e2 in
    record {
      lexemes = k.lexemes;
      tokens = k.tokens;
      terms = subst (λ (ss : List model.Sentence). IsRead (terminals [] k.lexemes) (done_of ss)) (sym same) (ended text r k b);
      names = ap (map (λ y. y.names)) same ∙ k.read.names;
    }

-- a sentence that isn't ended is a fault at the end of the text
pub fault_unended : (text : List ℕ) (r : Reader) → HasReadText text r → ((done terms : List PlacedTerm) → state r.parser done ≡ want (top terms) → ⊥) → IsSyntaxPlace text (length text)
fault_unended text r k b = record {
  lexemes = k.lexemes;
  tokens = k.tokens;
  number = length k.lexemes;
  fault = unended text r k b;
  at = sym (place_at_end k.lexemes (length text));
}

-- what is read is of the reader's pool
pub own : (text : List ℕ) (r : Reader) (s : Sentences) → HasReadText text r → s.pool ≡ r.parser.pool → s.list.items ≡ r.list.items → AreOwn s
own text r s k e1 e2 = record {
  pool = subst IsPool (sym e1) k.whole.parser.pool;
  list = subst (λ (l : List Sentence). All (IsSentence s.pool) l) (sym e2) (subst (λ (c : Contents). All (IsSentence c) r.list.items) (sym e1) k.whole.list);
}

-- ---- by what is left of the text

-- Some tokens are read, and what is left completes them.
pub record ReadUpTo (text : List ℕ) (left : Left) (depth : ℕ) (r : Reader) : Type 0 where
  pub seen : List Lexeme
  pub completes : Completes text left seen
  pub all : ReadAll seen depth r

pub depth_within : (text : List ℕ) (left : Left) (depth : ℕ) (r : Reader) → ReadUpTo text left depth r → depth ≤ deepest
depth_within text left depth r k = let h = k.all.shallow (length k.seen) (omega arith) in
    omega (arith, h, k.all.brackets_open, ap (brackets 0) (take_all (length k.seen) (terminals [] k.seen) (omega (arith, length-terminals [] k.seen))))

pub up_to_next : (text : List ℕ) (old new : Left) (l : Lexeme) (depth next : ℕ) (r r2 : Reader) → IsNext old new l → ReadUpTo text old depth r → IsReader r2
    → ((ls : List Lexeme) → HasRead ls r → Took true ls l r2)
    → ((names : List Name) → next ≡ open_behind depth (terminal_of names l)) → next ≤ deepest → ReadUpTo text new next r2
up_to_next text old new l depth next r r2 i k w m is le = record {
  seen = k.seen ++ l ∷ [];
  completes = completes_more text old new k.seen l i k.completes;
  all = read_next k.seen l depth next r r2 k.all w (m k.seen k.all.read) (is (names_after [] k.seen)) le;
}

-- the tokens of the text, where those behind the next one are given
all_tokens : (text : List ℕ) (old new : Left) (l : Lexeme) (seen more : List Lexeme) → IsNext old new l → Completes text old seen
    → HasTokens new.place true new.bytes more → TokensOf text (seen ++ l ∷ more)
all_tokens text old new l seen more i c h = c.tokens (l ∷ more) (next_tokens old new l more i h)

pub fault_refused : (text : List ℕ) (old new : Left) (l : Lexeme) (depth : ℕ) (r r2 : Reader) → IsNext old new l → ReadUpTo text old depth r
    → ((ls : List Lexeme) → HasRead ls r → Took false ls l r2) → AreTokens new → IsSyntaxPlace text l.place
fault_refused text old new l depth r r2 i k m h = record {
  lexemes = k.seen ++ l ∷ h.0;
  tokens = all_tokens text old new l k.seen h.0 i k.completes h.1;
  number = length k.seen;
  fault = refused k.seen h.0 l depth r k.all (m k.seen k.all.read);
  at = sym (place_behind k.seen h.0 l (length text));
}

pub fault_deep : (text : List ℕ) (old new : Left) (l : Lexeme) (depth next : ℕ) (r r2 : Reader) → IsNext old new l → ReadUpTo text old depth r → ((ls : List Lexeme) → HasRead ls r → Took true ls l r2)
    → ((names : List Name) → next ≡ open_behind depth (terminal_of names l)) → deepest < next → AreTokens new → IsDeepPlace text l.place
fault_deep text old new l depth next r r2 i k m is more h = record {
  lexemes = k.seen ++ l ∷ h.0;
  tokens = all_tokens text old new l k.seen h.0 i k.completes h.1;
  number = length k.seen;
  fault = deep k.seen h.0 l depth next r r2 k.all (m k.seen k.all.read) (is (names_after [] k.seen)) more;
  at = sym (place_behind k.seen h.0 l (length text));
}

-- a fault of the tokens that are left
pub fault_left : (text : List ℕ) (left : Left) (depth : ℕ) (r : Reader) (f : TokenFault) → ReadUpTo text left depth r → IsFirstFault left f → IsFaultOf text (fault_of f)
fault_left text left depth r (faults.At place cause) k h = k.completes.faults (cause_of cause) place h
fault_left text left depth r faults.NoMemory k h = absurd h

pub fault_next : (text : List ℕ) (left : Left) (depth : ℕ) (r : Reader) (f : TokenFault) → ReadUpTo text left depth r → Refuses left f → IsFaultOf text (fault_of f)
fault_next text left depth r f k h = fault_left text left depth r f k (fault_first left f h)

-- a fault of the tokens behind the next one
pub fault_behind : (text : List ℕ) (old new : Left) (l : Lexeme) (depth : ℕ) (r : Reader) (f : TokenFault) → IsNext old new l → ReadUpTo text old depth r
    → IsFirstFault new f → IsFaultOf text (fault_of f)
fault_behind text old new l depth r (faults.At place cause) i k h = k.completes.faults (cause_of cause) place (next_fault old new l (cause_of cause) place i h)
fault_behind text old new l depth r faults.NoMemory i k h = absurd h

-- where no token is left, all are read
pub read_whole : (text : List ℕ) (left : Left) (depth : ℕ) (r : Reader) → ReadUpTo text left depth r → HasTokens left.place true left.bytes [] → HasReadText text r
read_whole text left depth r k h = record {
  whole = k.all.whole;
  lexemes = k.seen;
  tokens = subst (TokensOf text) (append-nil k.seen) (k.completes.tokens [] h);
  read = k.all.read;
  shallow = k.all.shallow;
}
