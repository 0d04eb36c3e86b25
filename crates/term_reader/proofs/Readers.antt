-- What is read, token by token.
use Rattle.std.proofs.Common.{◌≡◌, ℕ, ◌<◌, List, [], ◌∷◌, ◌++◌, length, map, get_or, Option, Some, None, Bool, true, false, refl, sym, ap, subst, ◌∙◌, arith}
use Rattle.std.specs.Prelude.{reverse, option_and_then, All, IsTrue, Result, Ok, Err, IfOk, codes}
use Rattle.std.proofs.lemmas.List.{append-nil, map-append, reverse-append}
use Rattle.std.proofs.lemmas.List.Elements.{All-head, All-tail, All-push, All-nil}
use Rattle.fd_language.specs.Term.{Name}
use Rattle.fd_language.specs.PlacedTerm.{PlacedTerm}
use Rattle.fd_language.specs.Terminals as grammar
use Rattle.fd_language.specs.Tokens.{Kind, Stop, Lexeme}
use Rattle.fd_language.specs.Reading as model
use Rattle.fd_language.specs.Reading.{terminals, terminal_of, terminal_by, names_behind, names_by, sentence_names, ended_by}
use Rattle.fd_language.specs.ReadingSteps.{State, want, top, step, run, is_stop}
use Rattle.term_pool.specs.declared.AtomId.{AtomId}
use Rattle.term_pool.specs.declared.TermId.{TermId}
use Rattle.term_pool.specs.Contents.{Contents, atom_name}
use Rattle.term_pool.specs.Terms.{Extends}
use Rattle.term_pool.specs.PoolInvariant.{IsPool}
use Rattle.term_pool.proofs.Lemmas.{extends_trans}
use Rattle.term_reader.specs.declared.parser.Terminal.{Terminal}
use Rattle.term_reader.specs.declared.parser.Parser.{Parser}
use Rattle.term_reader.specs.declared.variables.Variables.{Variables}
use Rattle.term_reader.specs.declared.reader.Sentence.{Sentence}
use Rattle.term_reader.specs.declared.reader.Reader.{Reader}
use Rattle.term_pool.specs.PlacedTerms.{placed_of}
use Rattle.term_reader.specs.View.{IsWhole, Moves, moved, state, terminal_at, HasEnded}
use Rattle.term_reader.specs.VariableNumbers.{IsIndexed}
use Rattle.term_reader.specs.GrammarTokens.{AreVariables, names_of, names_on, Sees}
use Rattle.term_reader.specs.Sentences.{sentence_of, IsSentence, IsReader, names_after, read_of, done_of, HasRead, IsStop, Took}
use Rattle.term_reader.proofs.PlacedLaws.{placed_kept, extends_length}
use Rattle.term_reader.proofs.Completeness.{run-append}
use Rattle.term_reader.proofs.Closings.{no_stop}
use Rattle.term_reader.proofs.Operands.{whole_grown, state_grown}
use Rattle.term_reader.proofs.GrammarTokens.{ids_more, names_kept, variables_more}

abbrev pub start : State
start = want (top [])

-- ---- one token more

pub terminals-append : (names : List Name) (xs ys : List Lexeme) → terminals names (xs ++ ys) ≡ terminals names xs ++ terminals (names_after names xs) ys
terminals-append names [] ys = refl
terminals-append names (x ∷ xs) ys = ap (λ (l : List grammar.Terminal). terminal_of names x ∷ l) (terminals-append (names_behind names x) xs ys)

names_after-last : (names : List Name) (xs : List Lexeme) (l : Lexeme) → names_after names (xs ++ l ∷ []) ≡ names_behind (names_after names xs) l
names_after-last names [] l = refl
names_after-last names (x ∷ xs) l = names_after-last (names_behind names x) xs l

ended_by-append : (k : Kind) (names : List Name) (a b : List (List Name)) → ended_by k names (a ++ b) ≡ ended_by k names a ++ b
ended_by-append Stop names a b = refl
ended_by-append _ names a b = refl

sentence_names-last : (names : List Name) (xs : List Lexeme) (l : Lexeme) → sentence_names names (xs ++ l ∷ []) ≡ sentence_names names xs ++ ended_by l.kind (names_after names xs) []
sentence_names-last names [] l = refl
sentence_names-last names (x ∷ xs) l =
    ap (ended_by x.kind names) (sentence_names-last (names_behind names x) xs l)
    ∙ ended_by-append x.kind names (sentence_names (names_behind names x) xs) (ended_by l.kind (names_after (names_behind names x) xs) [])

run_one : (x : grammar.Terminal) (o : Option State) → option_and_then (λ s. run (x ∷ []) s) o ≡ option_and_then (λ s. step s x) o
run_one x None = refl
run_one x (Some s) = same (step s x)
  where
    same : (p : Option State) → option_and_then (λ s. run [] s) p ≡ p
    same None = refl
    same (Some t) = refl

-- the run over one more token
pub run_next : (ls : List Lexeme) (l : Lexeme) (st : State) → run (terminals [] ls) start ≡ Some st → run (terminals [] (ls ++ l ∷ [])) start ≡ step st (terminal_of (names_after [] ls) l)
run_next ls l st e =
    let x = terminal_of (names_after [] ls) l in
    ap (λ (ts : List grammar.Terminal). run ts start) (terminals-append [] ls (l ∷ []))
    ∙ run-append (terminals [] ls) (x ∷ []) start ∙ run_one x (run (terminals [] ls) start) ∙ ap (option_and_then (λ s. step s x)) e

-- ---- a pool that grows

pub sentences_more : (c d : Contents) → Extends c d → (list : List Sentence) → All (IsSentence c) list → All (IsSentence d) list
sentences_more c d x list h k e lt =
    let s = get_or list k e in
    let old = h k e lt in
    record { term = omega (arith, old.term, extends_length c d x); names = ids_more c d x s.names.items old.names }

pub read_kept : (c d : Contents) → IsPool c → Extends c d → (list : List Sentence) → All (IsSentence c) list → map (sentence_of d) list ≡ map (sentence_of c) list
read_kept c d v x [] h = refl
read_kept c d v x (s ∷ list) h =
    let here : IsSentence c s = All-head (IsSentence c) s list h in
    let same : sentence_of d s ≡ sentence_of c s = ap (λ (t : PlacedTerm). made t (map (atom_name d) s.names.items)) (placed_kept c d v x s.term here.term)
    ∙ ap (made (placed_of c s.term)) (names_kept c d x s.names.items here.names) in
    ap (λ (y : model.Sentence). y ∷ map (sentence_of d) list) same ∙ ap (λ (ys : List model.Sentence). sentence_of c s ∷ ys) (read_kept c d v x list (All-tail (IsSentence c) s list h))
  where
    made : PlacedTerm → List Name → model.Sentence
    made t names = record { term = t; names = names }

-- the same, over a pool that has grown
pub reader_grown : (r r1 : Reader) → IsReader r → Extends r.parser.pool r1.parser.pool → IsPool r1.parser.pool → r1.parser.arguments ≡ r.parser.arguments
    → r1.parser.items ≡ r.parser.items → r1.parser.expecting ≡ r.parser.expecting → r1.list.items ≡ r.list.items → AreVariables r1.parser.pool r1.variables
    → IsReader r1
reader_grown r r1 w x v e1 e2 e3 e4 vars = record {
  parser = whole_grown r.parser r1.parser w.parser x v e1 e2 e3;
  variables = vars;
  list = subst (λ (l : List Sentence). All (IsSentence r1.parser.pool) l) (sym e4) (sentences_more r.parser.pool r1.parser.pool x r.list.items w.list);
}

-- ---- a token that is no stop

not_stop : (k : Kind) (c : Contents) (p : ℕ) (x : Terminal) (names : List Name) (l : Lexeme) → terminal_at c p x ≡ terminal_by k names l
    → (ended_by k names [] ≡ []) × (names_on k names l ≡ names_behind names l)
not_stop Stop c p x names l e = let no = sym (no_stop c p x) ∙ ap is_stop e in absurd cc
not_stop _ c p x names l e = (refl, refl)

-- From the reader r, the parser with the token's pool has moved to r2.
pub took_step : (b : Bool) (ls : List Lexeme) (l : Lexeme) (x : Terminal) (r r2 : Reader) (mid : Parser) (w : Variables) → IsReader r
    → Sees r.parser.pool mid.pool r.variables w l (Some x) → mid.arguments ≡ r.parser.arguments → mid.items ≡ r.parser.items
    → mid.expecting ≡ r.parser.expecting
    → Moves mid.pool (λ done. step (state mid done) (terminal_at mid.pool l.place x)) r2.parser b → r2.variables ≡ w → r2.list.items ≡ r.list.items → HasRead ls r → Took b ls l r2
took_step b ls l x r r2 mid w k s e1 e2 e3 m e4 e5 h = go b m
  where
    names : List Name
    names = names_after [] ls

    done : List PlacedTerm
    done = done_of (read_of r)

    token_is : terminal_at mid.pool l.place x ≡ terminal_of names l
    token_is = s.token.1 ∙ ap (λ (ns : List Name). terminal_of ns l) h.current

    next : (c : Bool) → Moves mid.pool (λ d. step (state mid d) (terminal_at mid.pool l.place x)) r2.parser c → run (terminals [] (ls ++ l ∷ [])) start ≡ moved c r2.parser done
    next c n =
        run_next ls l (state r.parser done) h.run
        ∙ ap (step (state r.parser done)) (sym token_is)
        ∙ ap (λ (st : State). step st (terminal_at mid.pool l.place x)) (sym (state_grown r.parser mid k.parser s.grows e1 e2 e3 done))
        ∙ n.is done

    kind : (ended_by l.kind names [] ≡ []) × (names_on l.kind names l ≡ names_behind names l)
    kind = not_stop l.kind mid.pool l.place x names l token_is

    go : (c : Bool) → Moves mid.pool (λ d. step (state mid d) (terminal_at mid.pool l.place x)) r2.parser c → Took c ls l r2
    go false n = next false n
    go true n =
        let all = extends_trans r.parser.pool mid.pool r2.parser.pool s.grows (n.grows refl) in
        let same : read_of r2 ≡ read_of r = ap (λ (v : List Sentence). map (sentence_of r2.parser.pool) v) e5 ∙ read_kept r.parser.pool r2.parser.pool k.parser.pool all r.list.items k.list in
        record {
          run = next true n ∙ ap (λ (ss : List model.Sentence). Some (state r2.parser (done_of ss))) (sym same);
          names = ap (map (λ y. y.names)) same ∙ h.names ∙ sym (sentence_names-last [] ls l ∙ ap (λ (a : List (List Name)). sentence_names [] ls ++ a) kind.0 ∙ append-nil (sentence_names [] ls));
          current = ap (names_of r2.parser.pool) e4 ∙ names_kept mid.pool r2.parser.pool (n.grows refl) w.names.items s.variables.names ∙ s.names
              ∙ ap (λ (ns : List Name). names_on l.kind ns l) h.current ∙ kind.1 ∙ sym (names_after-last [] ls l);
        }

pub whole_step : (b : Bool) (l : Lexeme) (x : Terminal) (r r2 : Reader) (mid : Parser) (w : Variables) → IsReader r → Sees r.parser.pool mid.pool r.variables w l (Some x)
    → Moves mid.pool (λ done. step (state mid done) (terminal_at mid.pool l.place x)) r2.parser b → r2.variables ≡ w → r2.list.items ≡ r.list.items → IsTrue b → IsReader r2
whole_step b l x r r2 mid w k s m e4 e5 t =
    let after = m.grows t in
    let all = extends_trans r.parser.pool mid.pool r2.parser.pool s.grows after in
    record {
      parser = m.whole t;
      variables = subst (AreVariables r2.parser.pool) (sym e4) (variables_more mid.pool r2.parser.pool after w s.variables);
      list = subst (λ (v : List Sentence). All (IsSentence r2.parser.pool) v) (sym e5) (sentences_more r.parser.pool r2.parser.pool all r.list.items k.list);
    }

pub if_step : {E : Type 0} (res : Result Bool E) (l : Lexeme) (x : Terminal) (r r2 : Reader) (mid : Parser) (w : Variables) → IsReader r
    → Sees r.parser.pool mid.pool r.variables w l (Some x) → mid.arguments ≡ r.parser.arguments → mid.items ≡ r.parser.items
    → mid.expecting ≡ r.parser.expecting
    → IfOk res (Moves mid.pool (λ done. step (state mid done) (terminal_at mid.pool l.place x)) r2.parser) → r2.variables ≡ w → r2.list.items ≡ r.list.items
    → IfOk res (λ b. (ls : List Lexeme) → HasRead ls r → Took b ls l r2)
if_step (Ok b) l x r r2 mid w k s e1 e2 e3 m e4 e5 = λ ls h. took_step b ls l x r r2 mid w k s e1 e2 e3 m e4 e5 h
if_step (Err f) l x r r2 mid w k s e1 e2 e3 m e4 e5 = tt

pub if_whole : {E : Type 0} (res : Result Bool E) (l : Lexeme) (x : Terminal) (r r2 : Reader) (mid : Parser) (w : Variables) → IsReader r → Sees r.parser.pool mid.pool r.variables w l (Some x)
    → IfOk res (Moves mid.pool (λ done. step (state mid done) (terminal_at mid.pool l.place x)) r2.parser) → r2.variables ≡ w → r2.list.items ≡ r.list.items → IfOk res (λ b. IsTrue b → IsReader r2)
if_whole (Ok b) l x r r2 mid w k s m e4 e5 = λ t. whole_step b l x r r2 mid w k s m e4 e5 t
if_whole (Err f) l x r r2 mid w k s m e4 e5 = tt

-- ---- a stop

-- what is read stays read over a pool that has grown
pub read_grown : (ls : List Lexeme) (l : Lexeme) (r r1 : Reader) → IsReader r → l.kind ≡ Stop
    → Sees r.parser.pool r1.parser.pool r.variables r1.variables l None → r1.parser.arguments ≡ r.parser.arguments → r1.parser.items ≡ r.parser.items
    → r1.parser.expecting ≡ r.parser.expecting → r1.list.items ≡ r.list.items → HasRead ls r → HasRead ls r1
read_grown ls l r r1 k stop s e1 e2 e3 e4 h =
    let same : read_of r1 ≡ read_of r = ap (λ (v : List Sentence). map (sentence_of r1.parser.pool) v) e4 ∙ read_kept r.parser.pool r1.parser.pool k.parser.pool s.grows r.list.items k.list in
    record {
      run = h.run ∙ ap (λ (st : State). Some st) (sym (state_grown r.parser r1.parser k.parser s.grows e1 e2 e3 (done_of (read_of r))))
          ∙ ap (λ (ss : List model.Sentence). Some (state r1.parser (done_of ss))) (sym same);
      names = ap (map (λ y. y.names)) same ∙ h.names;
      current = s.names ∙ ap (λ (x : Kind). names_on x (names_of r.parser.pool r.variables) l) stop ∙ h.current;
    }

pub if_end : {E : Type 0} (res : Result Bool E) (l : Lexeme) (r r1 r2 : Reader) → IsReader r → Sees r.parser.pool r1.parser.pool r.variables r1.variables l None
    → r1.parser.arguments ≡ r.parser.arguments → r1.parser.items ≡ r.parser.items → r1.parser.expecting ≡ r.parser.expecting → r1.list.items ≡ r.list.items
    → IfOk res (λ b. (ls : List Lexeme) (m : Lexeme) → IsStop m → HasRead ls r1 → Took b ls m r2) → IfOk res (λ b. (ls : List Lexeme) → HasRead ls r → Took b ls l r2)
if_end (Ok b) l r r1 r2 k s e1 e2 e3 e4 m = λ ls h. m ls l s.token (read_grown ls l r r1 k s.token s e1 e2 e3 e4 h)
if_end (Err f) l r r1 r2 k s e1 e2 e3 e4 m = tt

stop_token : (names : List Name) (l : Lexeme) → IsStop l → terminal_of names l ≡ grammar.stop
stop_token names l e = ap (λ (x : Kind). terminal_by x names l) e

pub stop_refused : (r : Reader) → ((done : List PlacedTerm) → step (state r.parser done) grammar.stop ≡ None) → (ls : List Lexeme) (l : Lexeme) → IsStop l
    → HasRead ls r → run (terminals [] (ls ++ l ∷ [])) start ≡ None
stop_refused r n ls l e h = run_next ls l (state r.parser (done_of (read_of r))) h.run ∙ ap (step (state r.parser (done_of (read_of r)))) (stop_token (names_after [] ls) l e) ∙ n (done_of (read_of r))

done_last : (ss : List model.Sentence) (s : model.Sentence) → done_of (ss ++ s ∷ []) ≡ s.term ∷ done_of ss
done_last ss s = ap reverse (map-append (λ x. x.term) ss (s ∷ [])) ∙ reverse-append (map (λ x. x.term) ss) (s.term ∷ [])

-- The reader r2 has the new sentence, whose names are those of r's variables.
pub stop_taken : (r r2 : Reader) (t : TermId) (s : Sentence) → IsReader r → HasEnded r.parser r2.parser t → s.term ≡ t → s.names.items ≡ r.variables.names.items
    → r2.list.items ≡ r.list.items ++ s ∷ [] → r2.variables.names.items ≡ []
    → (ls : List Lexeme) (l : Lexeme) → IsStop l → HasRead ls r → HasRead (ls ++ l ∷ []) r2
stop_taken r r2 t s k o e1 e2 e3 e4 ls l e h =
    let c = r.parser.pool in
    let d = r2.parser.pool in
    let done = done_of (read_of r) in
    let all : read_of r2 ≡ read_of r ++ sentence_of d s ∷ [] =
    ap (map (sentence_of d)) e3 ∙ map-append (sentence_of d) r.list.items (s ∷ [])
    ∙ ap (λ (ss : List model.Sentence). ss ++ sentence_of d s ∷ []) (read_kept c d k.parser.pool o.grows r.list.items k.list) in
    let names_are : map (atom_name d) s.names.items ≡ names_after [] ls = ap (map (atom_name d)) e2 ∙ names_kept c d o.grows r.variables.names.items k.variables.names ∙ h.current in
    record {
      run = run_next ls l (state r.parser done) h.run ∙ ap (step (state r.parser done)) (stop_token (names_after [] ls) l e) ∙ o.is done
          ∙ ap (λ (u : TermId). Some (want (top (placed_of d u ∷ done)))) (sym e1)
          ∙ ap (λ (ts : List PlacedTerm). Some (want (top ts))) (sym (ap done_of all ∙ done_last (read_of r) (sentence_of d s)))
          ∙ ap (λ (st : State). Some st) (sym (o.begins (done_of (read_of r2))));
      names = ap (map (λ y. y.names)) all ∙ map-append (λ y. y.names) (read_of r) (sentence_of d s ∷ [])
          ∙ ap (λ (a : List (List Name)). a ++ map (atom_name d) s.names.items ∷ []) h.names
          ∙ ap (λ (ns : List Name). sentence_names [] ls ++ ns ∷ []) names_are
          ∙ sym (sentence_names-last [] ls l ∙ ap (λ (x : Kind). sentence_names [] ls ++ ended_by x (names_after [] ls) []) e);
      current = ap (map (atom_name d)) e4 ∙ sym (names_after-last [] ls l ∙ ap (λ (x : Kind). names_by x (names_after [] ls) l.text) e);
    }

pub stop_whole : (r r2 : Reader) (t : TermId) (s : Sentence) → IsReader r → HasEnded r.parser r2.parser t → s.term ≡ t → s.names.items ≡ r.variables.names.items
    → r2.list.items ≡ r.list.items ++ s ∷ [] → r2.variables.names.items ≡ [] → r2.variables.anonymous ≡ r.variables.anonymous
    → IsIndexed r2.variables.anonymous r2.variables.names.items r2.variables.numbers.items → IsReader r2
stop_whole r r2 t s k o e1 e2 e3 e4 e5 indexed =
    let c = r.parser.pool in
    let d = r2.parser.pool in
    let old = variables_more c d o.grows r.variables k.variables in
    record {
      parser = o.whole;
      variables = record {
        indexed = indexed;
        names = subst (λ (ids : List AtomId). All (λ a. a.number < length d.names) ids) (sym e4) (All-nil (λ a. a.number < length d.names));
        anonymous = subst (λ (a : AtomId). a.number < length d.names) (sym e5) old.anonymous;
        spelled = ap (atom_name d) e5 ∙ old.spelled;
      };
      list = subst (λ (l : List Sentence). All (IsSentence d) l) (sym e3)
          (All-push (IsSentence d) r.list.items s (sentences_more c d o.grows r.list.items k.list)
          (record {
            term = subst (λ (u : TermId). u.number < length d.entries) (sym e1) o.within;
            names = subst (λ (ids : List AtomId). All (λ a. a.number < length d.names) ids) (sym e2) old.names;
          }));
    }

-- ---- the beginning

pub reader_begins : (r : Reader) (p : Parser) → IsWhole p → Extends p.pool r.parser.pool → IsPool r.parser.pool → r.parser.arguments ≡ p.arguments
    → r.parser.items ≡ p.items → r.parser.expecting ≡ p.expecting → r.list.items ≡ [] → r.variables.names.items ≡ []
    → r.variables.anonymous.number < length r.parser.pool.names → atom_name r.parser.pool r.variables.anonymous ≡ codes "_"
    → IsIndexed r.variables.anonymous r.variables.names.items r.variables.numbers.items → IsReader r
reader_begins r p w x v e1 e2 e3 e4 e5 own named indexed = record {
  parser = whole_grown p r.parser w x v e1 e2 e3;
  variables = record {
    indexed = indexed;
    names = subst (λ (ids : List AtomId). All (λ a. a.number < length r.parser.pool.names) ids) (sym e5)
        (All-nil (λ a. a.number < length r.parser.pool.names));
    anonymous = own;
    spelled = named;
  };
  list = subst (λ (l : List Sentence). All (IsSentence r.parser.pool) l) (sym e4) (All-nil (IsSentence r.parser.pool));
}

pub nothing_read : (r : Reader) (p : Parser) → IsWhole p → ((done : List PlacedTerm) → state p done ≡ want (top done)) → Extends p.pool r.parser.pool
    → r.parser.arguments ≡ p.arguments → r.parser.items ≡ p.items → r.parser.expecting ≡ p.expecting → r.list.items ≡ [] → r.variables.names.items ≡ []
    → HasRead [] r
nothing_read r p w b x e1 e2 e3 e4 e5 =
    let none : read_of r ≡ [] = ap (map (sentence_of r.parser.pool)) e4 in
    record {
      run = ap (λ (st : State). Some st) (sym (ap (λ (ss : List model.Sentence). state r.parser (done_of ss)) none ∙ state_grown p r.parser w x e1 e2 e3 [] ∙ b []));
      names = ap (map (λ y. y.names)) none;
      current = ap (map (atom_name r.parser.pool)) e5;
    }
