-- Texts joined, with a space where two symbol characters would touch, are a monoid.
use Rattle.std.proofs.Common.{◌≡◌, ◌∙◌, ℕ, List, [], ◌∷◌, ◌++◌, Bool, true, false, cond, refl, sym, ap, append_assoc}
use Rattle.std.specs.Prelude.{◌&&◌, codes}
use Rattle.std.proofs.lemmas.List.{append-nil}
use Rattle.fd_language.specs.Characters.{is_symbol}
use Rattle.fd_language.specs.Term.{Name}
use Rattle.fd_language.specs.TermTexts.{ends_with_symbol, starts_with_symbol, gap_between, is_letter_word, is_empty_name, between, quoted_name}
use Rattle.std.proofs.Math.Bool.{and-false}
use Rattle.term_writer.specs.Pieces.{joined, operator_text}

pub symbol_space : is_symbol 32 ≡ false
unfolding is_symbol
symbol_space = refl

pub ends-append : (xs : List ℕ) (y : ℕ) (ys : List ℕ) → ends_with_symbol (xs ++ y ∷ ys) ≡ ends_with_symbol (y ∷ ys)
ends-append [] y ys = refl
ends-append (x ∷ []) y ys = refl
ends-append (x ∷ w ∷ xs) y ys = ends-append (w ∷ xs) y ys

no_gap_right : (l r : List ℕ) → starts_with_symbol r ≡ false → gap_between l r ≡ []
no_gap_right l r h =
    ap (λ (b : Bool). cond (ends_with_symbol l && b) (codes " ") []) h ∙ ap (λ (b : Bool). cond b (codes " ") []) (and-false (ends_with_symbol l))

no_gap_left : (l r : List ℕ) → ends_with_symbol l ≡ false → gap_between l r ≡ []
no_gap_left l r h = ap (λ (b : Bool). cond (b && starts_with_symbol r) (codes " ") []) h

-- no space behind a text that does not end with a symbol character
pub join_left : (l r : List ℕ) → ends_with_symbol l ≡ false → joined l r ≡ l ++ r
join_left l r h = ap (λ (g : List ℕ). l ++ (g ++ r)) (no_gap_left l r h)

-- nor before one that does not start with one
pub join_right : (l r : List ℕ) → starts_with_symbol r ≡ false → joined l r ≡ l ++ r
join_right l r h = ap (λ (g : List ℕ). l ++ (g ++ r)) (no_gap_right l r h)

symbol_quote : is_symbol 39 ≡ false
unfolding is_symbol
symbol_quote = refl

pub join_quoted : (l : List ℕ) (a : Name) → joined l (quoted_name a) ≡ l ++ quoted_name a
join_quoted l a = join_right l (quoted_name a) symbol_quote

pub joined-nil : (l : List ℕ) → joined l [] ≡ l
joined-nil l = join_right l [] refl ∙ append-nil l

pub joined-assoc : (x y z : List ℕ) → joined (joined x y) z ≡ joined x (joined y z)
joined-assoc x [] z = ap (λ (w : List ℕ). joined w z) (joined-nil x)
joined-assoc x (y ∷ ys) z =
    let m : List ℕ = y ∷ ys in
    let g : List ℕ = gap_between x m in
    let h : List ℕ = gap_between m z in
    let e : ends_with_symbol (x ++ (g ++ m)) ≡ ends_with_symbol m = ap ends_with_symbol (sym (append_assoc x g m)) ∙ ends-append (x ++ g) y ys in
    ap (λ (b : Bool). (x ++ (g ++ m)) ++ (cond (b && starts_with_symbol z) (codes " ") [] ++ z)) e
    ∙ append_assoc x (g ++ m) (h ++ z) ∙ ap (λ (w : List ℕ). x ++ w) (append_assoc g m (h ++ z))

-- An operator between its operands.
pub between_joined : (l : List ℕ) (o : Name) (r : List ℕ) → is_empty_name o ≡ false → between l o r ≡ joined l (joined (operator_text o) r)
between_joined l [] r h = absurd cc
between_joined l (c ∷ cs) r h = go (is_letter_word (c ∷ cs))
  where
    go : (b : Bool)
        → cond b (l ++ (codes " " ++ ((c ∷ cs) ++ (codes " " ++ r)))) (l ++ (gap_between l (c ∷ cs) ++ ((c ∷ cs) ++ (gap_between (c ∷ cs) r ++ r))))
        ≡ joined l (joined (cond b (codes " " ++ ((c ∷ cs) ++ codes " ")) (c ∷ cs)) r)
    go true =
        let m : List ℕ = codes " " ++ ((c ∷ cs) ++ codes " ") in
        let e : ends_with_symbol m ≡ false = ends-append (codes " " ++ (c ∷ cs)) 32 [] ∙ symbol_space in
        let whole : joined m r ≡ codes " " ++ ((c ∷ cs) ++ (codes " " ++ r)) = join_left m r e ∙ ap (λ (w : List ℕ). codes " " ++ w) (append_assoc (c ∷ cs) (codes " ") r) in
        sym (join_right l (codes " " ++ ((c ∷ cs) ++ (codes " " ++ r))) symbol_space) ∙ ap (λ (w : List ℕ). joined l w) (sym whole)
    go false = refl

-- A text in brackets.
pub bracketed : (t a : List ℕ) (o c : ℕ) → is_symbol o ≡ false → is_symbol c ≡ false → joined (joined (joined t (o ∷ [])) a) (c ∷ []) ≡ joined t (o ∷ (a ++ c ∷ []))
bracketed t a o c po pc =
    joined-assoc (joined t (o ∷ [])) a (c ∷ []) ∙ joined-assoc t (o ∷ []) (joined a (c ∷ []))
    ∙ ap (λ (w : List ℕ). joined t (joined (o ∷ []) w)) (join_right a (c ∷ []) pc) ∙ ap (λ (w : List ℕ). joined t w) (join_left (o ∷ []) (a ++ c ∷ []) po)

-- A mark before a text.
pub marked : (t a : List ℕ) (o : ℕ) → is_symbol o ≡ false → joined (joined t (o ∷ [])) a ≡ joined t (o ∷ a)
marked t a o po = joined-assoc t (o ∷ []) a ∙ ap (λ (w : List ℕ). joined t w) (join_left (o ∷ []) a po)

-- A word of letters between two spaces.
pub spaced : (t o : List ℕ) → is_letter_word o ≡ true → ((t ++ 32 ∷ []) ++ o) ++ 32 ∷ [] ≡ joined t (operator_text o)
spaced t o h =
    append_assoc (t ++ 32 ∷ []) o (32 ∷ []) ∙ append_assoc t (32 ∷ []) (o ++ 32 ∷ [])
    ∙ sym (join_right t (codes " " ++ (o ++ codes " ")) symbol_space)
    ∙ ap (λ (b : Bool). joined t (cond b (codes " " ++ (o ++ codes " ")) o)) (sym h)
