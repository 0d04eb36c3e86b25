-- A term's text has the tokens that spell the term.
use Rattle.std.proofs.Common.{◌≡◌, ◌∙◌, ℕ, ◌⊎◌, inl, inr, List, [], ◌∷◌, ◌++◌, Bool, true, false, cond, Option, Some, refl, sym, ap, subst, arith, append_assoc}
use Rattle.std.specs.Prelude.{is_some, ◌||◌, ◌&&◌, not, codes}
use Rattle.std.specs.Cmp.{second_so}
use Rattle.std.specs.Str.{bytes_eq, chars}
use Rattle.std.proofs.lemmas.Bool.{true≢false, and_right, false_from_ne_true, cases_Bool}
use Rattle.std.proofs.lemmas.Slice.Eq.{bytes_eq-Decides}
use Rattle.term_writer.proofs.Steps.{plain_close_list, plain_bar}
use Rattle.unicode_ident.proofs.IdentLemmas.{is_xid_start-ascii}
use Rattle.fd_language.specs.Term.{Name}
use Rattle.fd_language.specs.Characters.{is_symbol}
use Rattle.fd_language.specs.Operators.{Operator, infix_of, prefix_of, is_operator, left_limit, right_limit}
use Rattle.fd_language.specs.Tokens.{Word}
use Rattle.fd_language.specs.Terminals.{Terminal, operator_word, close_list, comma}
use Rattle.fd_language.specs.TermTexts.{is_letter_word, is_symbol_word, is_empty_name, starts_with_symbol, ends_with_symbol, gap_between, between, TermText}
use Rattle.fd_language.specs.TermTexts.{spelled_by}
use Rattle.term_writer.specs.SpelledTerms.{InTokens, after_bar, operands, operator_terminal}
use Rattle.term_writer.proofs.Derivations.{infix_stands, text_is}
use Rattle.term_writer.proofs.Joins.{symbol_space}
use Rattle.term_writer.proofs.TextTokens.{Lexes, other_first, space, list_closes, comma_first, bar_first, word_token, word_other, Follows, before_space}
use Rattle.term_writer.proofs.TextTokens.{before_list_end, before_comma, before_bar}
use Rattle.term_writer.proofs.BareWords.{IsWord, letters, symbols, exclamation, semicolon, sign_read, sign_follows, infix_kind}
use Rattle.term_writer.proofs.Leaves.{word_lexes, operator_token}
use Rattle.term_writer.proofs.Beginnings.{Begins, starts_before, some_behind, ends_behind, begins_before, some_name}

-- the flag is that of the first token, unless that is a word of symbols, which shows none
abbrev pub Agrees : List ℕ → Bool → Bool → Type 0
Agrees w tight flag = (flag ≡ tight) ⊎ (starts_with_symbol w ≡ true)

pub agrees_same : (w : List ℕ) (tight flag : Bool) → starts_with_symbol w ≡ false → Agrees w tight flag → tight ≡ flag
agrees_same w tight flag h (inl e) = sym e
agrees_same w tight flag h (inr e) = absurd (true≢false (sym e ∙ h))

abbrev pub Apart : List ℕ → List ℕ → Type 0
Apart w r = (ends_with_symbol w && starts_with_symbol r) ≡ false

pub apart_from : (w r : List ℕ) → starts_with_symbol r ≡ false → Apart w r
apart_from w r h = and_right (ends_with_symbol w) (starts_with_symbol r) h

pub no_symbol : (c : ℕ) → is_symbol c ≡ false → (w r : List ℕ) → Apart w (c ∷ r)
no_symbol c h w r = apart_from w (c ∷ r) h

-- the text r may follow a term, and begins with no symbol
pub record Behind (r : List ℕ) : Type 0 where
  pub follows : Follows r
  pub apart : starts_with_symbol r ≡ false

comma_no_letter : is_letter_word (44 ∷ []) ≡ false
unfolding chars
comma_no_letter = rw (is_xid_start-ascii 44 (omega arith)) refl

module _ (vars : ℕ → List ℕ) (stopped : Bool) where
  -- a term's text has its tokens, alone and as what follows an element of a list
  pub record Lexed (sp : TermText) (tk : InTokens) : Type 0 where
    pub begins : (limit : ℕ) → Begins (sp.at limit)
    pub at : (tight flag : Bool) (limit : ℕ) (r : List ℕ) (ts : List Terminal) → Agrees (sp.at limit) tight flag → Follows r → Apart (sp.at limit) r
        → Lexes vars stopped true r ts → Lexes vars stopped tight (sp.at limit ++ r) (tk.at flag limit ts)
    pub rest : (r : List ℕ) (ts : List Terminal) → Lexes vars stopped true r ts → Lexes vars stopped true (sp.rest ++ 93 ∷ r) (tk.rest ts)
    pub behind : (r : List ℕ) → Behind (sp.rest ++ 93 ∷ r)

  abbrev pub LexedAt : (ℕ → List ℕ) → (Bool → ℕ → List Terminal → List Terminal) → Type 0
  LexedAt text tokens = (tight flag : Bool) (limit : ℕ) (r : List ℕ) (ts : List Terminal) → Agrees (text limit) tight flag → Follows r → Apart (text limit) r
      → Lexes vars stopped true r ts → Lexes vars stopped tight (text limit ++ r) (tokens flag limit ts)

  -- as the tail of a list
  pub barred : (text : ℕ → List ℕ) (tokens : Bool → ℕ → List Terminal → List Terminal) → ((limit : ℕ) → Begins (text limit)) → LexedAt text tokens
      → Lexed (spelled_by text) (record { at = tokens; rest = after_bar tokens })
  barred text tokens b h = record {
    begins = b;
    at = h;
    rest = λ r ts l. bar_first vars stopped true (text 999 ++ 93 ∷ r) (tokens true 999 (close_list ∷ ts))
        (h true true 999 (93 ∷ r) (close_list ∷ ts) (inl refl) (before_list_end r) (no_symbol 93 plain_close_list (text 999) r)
        (list_closes vars stopped true r ts l));
    behind = λ r. record { follows = before_bar (text 999 ++ 93 ∷ r); apart = plain_bar };
  }

  -- the same tokens in other words
  pub relabel : (sp : TermText) (tk us : InTokens) → ((tight : Bool) (limit : ℕ) (ts : List Terminal) → tk.at tight limit ts ≡ us.at tight limit ts)
      → ((ts : List Terminal) → tk.rest ts ≡ us.rest ts) → Lexed sp tk → Lexed sp us
  relabel sp tk us e k l = record {
    begins = l.begins;
    at = λ tight flag limit r ts a f t h. subst (Lexes vars stopped tight (sp.at limit ++ r)) (e flag limit ts) (l.at tight flag limit r ts a f t h);
    rest = λ r ts h. subst (Lexes vars stopped true (sp.rest ++ 93 ∷ r)) (k ts) (l.rest r ts h);
    behind = l.behind;
  }

  -- ---- an operator that is no word of letters

  record Sign (o : Name) (y : Terminal) : Type 0 where
    some : is_empty_name o ≡ false
    follows : (r : List ℕ) → Follows (o ++ r)
    lexes : (tight : Bool) (r : List ℕ) (ts : List Terminal) → starts_with_symbol (chars r) ≡ starts_with_symbol r → Apart o r → Lexes vars stopped true r ts
        → Lexes vars stopped tight (o ++ r) (y ∷ ts)

  comma_sign : Sign (44 ∷ []) (comma 0)
  comma_sign = record { some = refl; follows = λ r. before_comma r; lexes = λ tight r ts e t h. comma_first vars stopped tight r ts h }

  word_some : {o : Name} → IsWord o → is_empty_name o ≡ false
  unfolding chars
  word_some {o = o} (letters u h) = some_name is_letter_word o refl h
  word_some {o = o} (symbols h) = some_name is_symbol_word o refl h
  word_some exclamation = refl
  word_some semicolon = refl

  word_sign : (o : Name) → IsWord o → is_letter_word o ≡ false → Sign o (word_token o)
  word_sign o w n = record {
    some = word_some w;
    follows = λ r. sign_follows r w n;
    lexes = λ tight r ts e t h. other_first vars stopped tight Word o r (word_token o) ts (sign_read r w n e t) (λ p. word_other o p tight) h;
  }

  -- ---- two operands

  module _ (a b : TermText) (ta tb : InTokens) (la : Lexed a ta) (lb : Lexed b tb) (o : Operator) where
    abbrev left : List ℕ
    left = a.at (left_limit o)

    abbrev right : List ℕ
    right = b.at (right_limit o)

    right_some : is_empty_name right ≡ false
    right_some = (lb.begins (right_limit o)).some

    -- the right operand behind a sign
    behind_sign : (y : Terminal) → Sign o.name y → (tight : Bool) (r : List ℕ) (ts : List Terminal) → Follows r → Apart right r → Lexes vars stopped true r ts
        → Lexes vars stopped tight (o.name ++ (gap_between o.name right ++ (right ++ r))) (y ∷ tb.at true (right_limit o) ts)
    behind_sign y s tight r ts f t h = go (ends_with_symbol o.name && starts_with_symbol right) refl
      where
        go : (g : Bool) → (ends_with_symbol o.name && starts_with_symbol right) ≡ g → Lexes vars stopped tight (o.name ++ (cond g (codes " ") [] ++ (right ++ r))) (y ∷ tb.at true (right_limit o) ts)
        go true e =
            let starts : starts_with_symbol right ≡ true = second_so (ends_with_symbol o.name) (starts_with_symbol right) e in
            s.lexes tight (32 ∷ (right ++ r)) (tb.at true (right_limit o) ts) (before_space (right ++ r)).symbols (no_symbol 32 symbol_space o.name (right ++ r))
            (space vars stopped true (right ++ r) (tb.at true (right_limit o) ts) (lb.at false true (right_limit o) r ts (inr starts) f t h))
        go false e =
            let same : starts_with_symbol (right ++ r) ≡ starts_with_symbol right = starts_before right r right_some in
            s.lexes tight (right ++ r) (tb.at true (right_limit o) ts) ((lb.begins (right_limit o)).first r ∙ sym same) (ap (λ (x : Bool). ends_with_symbol o.name && x) same ∙ e)
            (lb.at true true (right_limit o) r ts (inl refl) f t h)

    abbrev others : List ℕ → List ℕ
    others r = gap_between o.name right ++ (right ++ r)

    -- the left operand before a sign
    before_sign : (y : Terminal) → Sign o.name y → (tight flag : Bool) (r : List ℕ) (ts : List Terminal) → Agrees left tight flag → Follows r → Apart right r → Lexes vars stopped true r ts
        → Lexes vars stopped tight (left ++ (gap_between left o.name ++ (o.name ++ (gap_between o.name right ++ (right ++ r))))) (ta.at flag (left_limit o) (y ∷ tb.at true (right_limit o) ts))
    before_sign y s tight flag r ts a f t h = go (ends_with_symbol left && starts_with_symbol o.name) refl
      where
        go : (g : Bool) → (ends_with_symbol left && starts_with_symbol o.name) ≡ g
            → Lexes vars stopped tight (left ++ (cond g (codes " ") [] ++ (o.name ++ (others r))))
            (ta.at flag (left_limit o) (y ∷ tb.at true (right_limit o) ts))
        go true e =
            la.at tight flag (left_limit o) (32 ∷ (o.name ++ (others r))) (y ∷ tb.at true (right_limit o) ts) a (before_space (o.name ++ (others r)))
            (no_symbol 32 symbol_space left (o.name ++ (others r)))
            (space vars stopped true (o.name ++ (others r)) (y ∷ tb.at true (right_limit o) ts) (behind_sign y s false r ts f t h))
        go false e =
            la.at tight flag (left_limit o) (o.name ++ (others r)) (y ∷ tb.at true (right_limit o) ts) a (s.follows (others r))
            (ap (λ (x : Bool). ends_with_symbol left && x) (starts_before o.name (others r) s.some) ∙ e)
            (behind_sign y s true r ts f t h)

    sign_text : (r : List ℕ) → (left ++ (gap_between left o.name ++ (o.name ++ (gap_between o.name right ++ right)))) ++ r ≡ left
        ++ (gap_between left o.name ++ (o.name ++ (gap_between o.name right ++ (right ++ r))))
    sign_text r =
        append_assoc left (gap_between left o.name ++ (o.name ++ (gap_between o.name right ++ right))) r
        ∙ ap (λ (w : List ℕ). left ++ w) (append_assoc (gap_between left o.name) (o.name ++ (gap_between o.name right ++ right)) r)
        ∙ ap (λ (w : List ℕ). left ++ (gap_between left o.name ++ w)) (append_assoc o.name (gap_between o.name right ++ right) r)
        ∙ ap (λ (w : List ℕ). left ++ (gap_between left o.name ++ (o.name ++ w))) (append_assoc (gap_between o.name right) right r)

    -- operands round a word of letters
    round_word : IsWord o.name → (tight flag : Bool) (r : List ℕ) (ts : List Terminal) → Agrees left tight flag → Follows r → Apart right r → Lexes vars stopped true r ts
        → Lexes vars stopped tight (left ++ (32 ∷ (o.name ++ (32 ∷ (right ++ r))))) (ta.at flag (left_limit o) (word_token o.name ∷ tb.at false (right_limit o) ts))
    round_word w tight flag r ts a f t h =
        let behind : Lexes vars stopped true (32 ∷ (right ++ r)) (tb.at false (right_limit o) ts) = space vars stopped true (right ++ r)
        (tb.at false (right_limit o) ts) (lb.at false false (right_limit o) r ts (inl refl) f t h) in
        let word = word_lexes vars stopped false o.name (32 ∷ (right ++ r)) (tb.at false (right_limit o) ts) w (before_space (right ++ r)) (no_symbol 32 symbol_space o.name (right ++ r)) behind in
        la.at tight flag (left_limit o) (32 ∷ (o.name ++ (32 ∷ (right ++ r)))) (word_token o.name ∷ tb.at false (right_limit o) ts) a (before_space (o.name ++ (32 ∷ (right ++ r))))
        (no_symbol 32 symbol_space left (o.name ++ (32 ∷ (right ++ r)))) (space vars stopped true (o.name ++ (32 ∷ (right ++ r))) (word_token o.name ∷ tb.at false (right_limit o) ts) word)

    word_text : (r : List ℕ) → (left ++ (32 ∷ (o.name ++ (32 ∷ right)))) ++ r ≡ left ++ (32 ∷ (o.name ++ (32 ∷ (right ++ r))))
    word_text r = append_assoc left (32 ∷ (o.name ++ (32 ∷ right))) r ∙ ap (λ (w : List ℕ). left ++ (32 ∷ w)) (append_assoc o.name (32 ∷ right) r)

    abbrev pub joint : List ℕ
    joint = between left o.name right

    -- what the whole ends with is what the right operand ends with
    joint_ends : ends_with_symbol joint ≡ ends_with_symbol right
    joint_ends = go (is_letter_word o.name)
      where
        go : (b : Bool) → ends_with_symbol (cond b (left ++ (32 ∷ (o.name ++ (32 ∷ right))))
            (left ++ (gap_between left o.name ++ (o.name ++ (gap_between o.name right ++ right))))) ≡ ends_with_symbol right
        go true = ends_behind left (32 ∷ (o.name ++ (32 ∷ right))) refl ∙ ends_behind (32 ∷ o.name) (32 ∷ right) refl ∙ ends_behind (32 ∷ []) right right_some
        go false =
            let one = some_behind (gap_between o.name right) right right_some in
            let two = some_behind o.name (gap_between o.name right ++ right) one in
            let three = some_behind (gap_between left o.name) (o.name ++ (gap_between o.name right ++ right)) two in
            ends_behind left (gap_between left o.name ++ (o.name ++ (gap_between o.name right ++ right))) three
            ∙ ends_behind (gap_between left o.name) (o.name ++ (gap_between o.name right ++ right)) two
            ∙ ends_behind o.name (gap_between o.name right ++ right) one ∙ ends_behind (gap_between o.name right) right right_some

    pub joint_begins : Begins joint
    joint_begins = go (is_letter_word o.name)
      where
        go : (b : Bool) → Begins (cond b (left ++ (32 ∷ (o.name ++ (32 ∷ right)))) (left ++ (gap_between left o.name ++ (o.name ++ (gap_between o.name right ++ right)))))
        go true = begins_before left (32 ∷ (o.name ++ (32 ∷ right))) (la.begins (left_limit o))
        go false = begins_before left (gap_between left o.name ++ (o.name ++ (gap_between o.name right ++ right))) (la.begins (left_limit o))

    pub joint_starts : starts_with_symbol joint ≡ starts_with_symbol left
    joint_starts = go (is_letter_word o.name)
      where
        go : (b : Bool) → starts_with_symbol (cond b (left ++ (32 ∷ (o.name ++ (32 ∷ right))))
            (left ++ (gap_between left o.name ++ (o.name ++ (gap_between o.name right ++ right))))) ≡ starts_with_symbol left
        go true = starts_before left (32 ∷ (o.name ++ (32 ∷ right))) (la.begins (left_limit o)).some
        go false = starts_before left (gap_between left o.name ++ (o.name ++ (gap_between o.name right ++ right))) (la.begins (left_limit o)).some

    agrees_left : (tight flag : Bool) → Agrees joint tight flag → Agrees left tight flag
    agrees_left tight flag (inl e) = inl e
    agrees_left tight flag (inr e) = inr (sym joint_starts ∙ e)

    module _ (f : Name) (e : infix_of f ≡ Some o) where
      is_named : o.name ≡ f
      is_named = (infix_stands f o e).named

      is_one : is_operator o.name ≡ true
      unfolding is_operator
      is_one = ap is_operator is_named ∙ ap (λ (u : Option Operator). is_some u || is_some (prefix_of f)) e

      no_comma : bytes_eq f (codes ",") ≡ false → o.name ≡ codes "," → ⊥
      no_comma k c = true≢false (sym ((bytes_eq-Decides f (codes ",")).1 (sym is_named ∙ c)) ∙ k)

      word_is : bytes_eq f (codes ",") ≡ false → IsWord o.name
      word_is k = elim (infix_kind f o e) [ inl w ↦ w | inr c ↦ absurd (no_comma k c) ]

      token_is : bytes_eq f (codes ",") ≡ false → word_token o.name ≡ operator_terminal f
      unfolding operator_terminal
      token_is k = operator_token o.name is_one ∙ ap (operator_word 0) is_named ∙ sym (ap (λ (b : Bool). cond b (comma 0) (operator_word 0 f)) k)

      comma_is : bytes_eq f (codes ",") ≡ true → Sign o.name (operator_terminal f)
      unfolding operator_terminal
      comma_is k = subst (λ (x : Name). Sign x (operator_terminal f)) (sym (is_named ∙ text_is f (codes ",") k))
          (subst (Sign (44 ∷ [])) (sym (ap (λ (b : Bool). cond b (comma 0) (operator_word 0 f)) k)) comma_sign)

      sign_is : is_letter_word o.name ≡ false → Sign o.name (operator_terminal f)
      sign_is n = elim (cases_Bool (bytes_eq f (codes ","))) [
        | inl k ↦ comma_is k
        | inr k ↦ subst (Sign o.name) (token_is k) (word_sign o.name (word_is k) n)
      ]

      letter_no_comma : is_letter_word o.name ≡ true → bytes_eq f (codes ",") ≡ false
      letter_no_comma n = false_from_ne_true (bytes_eq f (codes ",")) (λ k. true≢false (sym n ∙ ap is_letter_word (is_named ∙ text_is f (codes ",") k) ∙ comma_no_letter))

      pub joint_lexes : (tight flag : Bool) (r : List ℕ) (ts : List Terminal) → Agrees joint tight flag → Follows r → Apart joint r
          → Lexes vars stopped true r ts → Lexes vars stopped tight (joint ++ r) (operands f o ta tb flag ts)
      joint_lexes tight flag r ts a f2 t h = go (is_letter_word o.name) refl
        where
          apart : Apart right r
          apart = ap (λ (x : Bool). x && starts_with_symbol r) (sym joint_ends) ∙ t

          go : (b : Bool) → is_letter_word o.name ≡ b
              → Lexes vars stopped tight (cond b (left ++ (32 ∷ (o.name ++ (32 ∷ right)))) (left ++ (gap_between left o.name ++ (o.name ++ (gap_between o.name right ++ right)))) ++ r)
              (ta.at flag (left_limit o) (operator_terminal f ∷ tb.at (not b) (right_limit o) ts))
          go true n =
              let k = letter_no_comma n in
              subst (λ (w : List ℕ). Lexes vars stopped tight w (ta.at flag (left_limit o) (operator_terminal f ∷ tb.at false (right_limit o) ts))) (sym (word_text r))
              (subst (λ (y : Terminal). Lexes vars stopped tight (left ++ (32 ∷ (o.name ++ (32 ∷ (right ++ r))))) (ta.at flag (left_limit o) (y ∷ tb.at false (right_limit o) ts))) (token_is k)
              (round_word (word_is k) tight flag r ts (agrees_left tight flag a) f2 apart h))
          go false n =
              subst (λ (w : List ℕ). Lexes vars stopped tight w (ta.at flag (left_limit o) (operator_terminal f ∷ tb.at true (right_limit o) ts))) (sym (sign_text r))
              (before_sign (operator_terminal f) (sign_is n) tight flag r ts (agrees_left tight flag a) f2 apart h)
