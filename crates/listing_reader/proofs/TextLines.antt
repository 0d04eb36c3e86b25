-- The lines of a text.
use Rattle.std.proofs.Common.{◌≡◌, ℕ, zero, suc, ◌<◌, ◌≤◌, List, [], ◌∷◌, ◌++◌, length, refl, sym, ap, ◌∙◌, append_assoc, codes}
use Rattle.std.proofs.lemmas.List.{append-nil}
use Rattle.code_listing.specs.Words.{between, each_behind, line_bytes}
use Rattle.listing_reader.specs.Lines.{BeginAlike}
use Rattle.listing_reader.specs.Reading.{split}
use Rattle.listing_reader.proofs.Separators.{AreWithout, split_front, between_split, some_word}
use Rattle.listing_reader.proofs.LinePrefixes.{Lines}

behind_lines : (ls : Lines) (r : List ℕ) → each_behind (10 ∷ []) (ls ++ r ∷ []) ≡ 10 ∷ (line_bytes ls ++ r)
behind_lines [] r = ap (λ (x : List ℕ). 10 ∷ x) (append-nil r)
behind_lines (l ∷ ls) r = ap (λ (x : List ℕ). 10 ∷ x) (ap (λ (x : List ℕ). l ++ x) (behind_lines ls r) ∙ sym (append_assoc l (codes "\n" ++ line_bytes ls) r))

between_lines : (ls : Lines) (r : List ℕ) → between (10 ∷ []) (ls ++ r ∷ []) ≡ line_bytes ls ++ r
between_lines [] r = append-nil r
between_lines (l ∷ ls) r = ap (λ (x : List ℕ). l ++ x) (behind_lines ls r) ∙ sym (append_assoc l (codes "\n" ++ line_bytes ls) r)

-- a text by its lines and what stands behind its last newline
pub text_of_lines : (text : List ℕ) (ls : Lines) (r : List ℕ) → split 10 text ≡ ls ++ r ∷ [] → text ≡ line_bytes ls ++ r
text_of_lines text ls r e = sym (between_split 10 text) ∙ ap (between (10 ∷ [])) e ∙ between_lines ls r

-- lines without newlines are those of their text
pub split_lines : (ls : Lines) (r : List ℕ) → AreWithout 10 ls → split 10 (line_bytes ls ++ r) ≡ ls ++ split 10 r
split_lines [] r h = refl
split_lines (l ∷ ls) r h =
    ap (split 10) (append_assoc l (codes "\n" ++ line_bytes ls) r) ∙ split_front 10 l (line_bytes ls ++ r) h.0
    ∙ ap (λ (x : Lines). l ∷ x) (split_lines ls r h.1)

pub without_front : (sep : ℕ) (p q : Lines) → AreWithout sep (p ++ q) → AreWithout sep p
without_front sep [] q h = tt
without_front sep (x ∷ p) q h = (h.0, without_front sep p q h.1)

pub without_join : (sep : ℕ) (p q : Lines) → AreWithout sep p → AreWithout sep q → AreWithout sep (p ++ q)
without_join sep [] q h g = g
without_join sep (x ∷ p) q h g = (h.0, without_join sep p q h.1 g)

-- ---- a front of the lines

begin_lines : (front r ws ls : Lines) (l : List ℕ) → front ++ ws ≡ ls ++ l ∷ [] → ¬ (ws ≡ []) → BeginAlike (length front) (front ++ r) ls
begin_lines [] r ws ls l e some = tt
begin_lines (x ∷ front) r ws [] l e some = absurd (go front (let f : x ∷ (front ++ ws) ≡ l ∷ [] = e in cc))
  where
    go : (f : Lines) → f ++ ws ≡ [] → ⊥
    go [] g = some g
    go (y ∷ f) g = let k : y ∷ (f ++ ws) ≡ [] = g in cc
begin_lines (x ∷ front) r ws (y ∷ ls) l e some =
    let f : x ∷ (front ++ ws) ≡ y ∷ (ls ++ l ∷ []) = e in
    (cc, begin_lines front r ws ls l (cc) some)

-- a text that begins with lines has them as its first
pub lines_begin : (text : List ℕ) (ls front r : Lines) (l behind : List ℕ) → split 10 text ≡ ls ++ l ∷ [] → text ≡ line_bytes front ++ behind
    → AreWithout 10 front → BeginAlike (length front) (front ++ r) ls
lines_begin text ls front r l behind e f w =
    begin_lines front r (split 10 behind) ls l (sym (split_lines front behind w) ∙ sym (ap (split 10) f) ∙ e) (some_word 10 behind)

pub record Front (k : ℕ) (b ls : Lines) : Type 0 where
  pub front : Lines
  pub rest : Lines
  pub behind : Lines
  pub are : b ≡ front ++ rest
  pub count : length front ≡ k
  pub also : ls ≡ front ++ behind

-- what begins alike has a front in common
pub front_of : (k : ℕ) (b ls : Lines) → BeginAlike k b ls → Front k b ls
front_of zero b ls h = record { front = []; rest = b; behind = ls; are = refl; count = refl; also = refl }
front_of (suc k) [] ls h = absurd h
front_of (suc k) (x ∷ b) [] h = absurd h
front_of (suc k) (x ∷ b) (y ∷ ls) h =
    let f = front_of k b ls h.1 in
    record {
      front = x ∷ f.front;
      rest = f.rest;
      behind = f.behind;
      are = ap (λ (l : Lines). x ∷ l) f.are;
      count = ap suc f.count;
      also = ap (λ (z : List ℕ). z ∷ ls) (sym h.0) ∙ ap (λ (l : Lines). x ∷ l) f.also;
    }

-- the last of a list
module _ {A : Type 0} where
  no_end : (l : List A) (y : A) → l ++ y ∷ [] ≡ [] → ⊥
  no_end [] y g = cc
  no_end (c ∷ l) y g = let k : c ∷ (l ++ y ∷ []) ≡ [] = g in cc

  pub last_same : (xs ys : List A) (x y : A) → xs ++ x ∷ [] ≡ ys ++ y ∷ [] → (xs ≡ ys) × (x ≡ y)
  last_same [] [] x y e = (refl, cc)
  last_same [] (b ∷ ys) x y e = let f : x ∷ [] ≡ b ∷ (ys ++ y ∷ []) = e in let g : [] ≡ ys ++ y ∷ [] = cc in absurd (no_end ys y (sym g))
  last_same (a ∷ xs) [] x y e = let f : a ∷ (xs ++ x ∷ []) ≡ y ∷ [] = e in let g : xs ++ x ∷ [] ≡ [] = cc in absurd (no_end xs x g)
  last_same (a ∷ xs) (b ∷ ys) x y e =
      let f : a ∷ (xs ++ x ∷ []) ≡ b ∷ (ys ++ y ∷ []) = e in
      let first : a ≡ b = cc in
      let t = last_same xs ys x y (cc) in
      let more : xs ≡ ys = t.0 in
      (cc, t.1)

-- the lines of a text that is lines
pub told_lines : (text : List ℕ) (ls ms : Lines) (l : List ℕ) → split 10 text ≡ ls ++ l ∷ [] → text ≡ line_bytes ms → AreWithout 10 ms → (ls ≡ ms) × (l ≡ [])
told_lines text ls ms l e f w =
    last_same ls ms l [] (sym e ∙ ap (split 10) (f ∙ sym (append-nil (line_bytes ms))) ∙ split_lines ms [] w)

-- lines of one text are the same
pub same_lines : (ls ms : Lines) → AreWithout 10 ls → AreWithout 10 ms → line_bytes ls ≡ line_bytes ms → ls ≡ ms
same_lines ls ms v w e =
    (last_same ls ms [] [] (sym (split_lines ls [] v) ∙ ap (split 10) (append-nil (line_bytes ls) ∙ e ∙ sym (append-nil (line_bytes ms))) ∙ split_lines ms [] w)).0
