-- The arguments of a goal, by their registers' cells.
use Rattle.std.proofs.Common.{◌≡◌, ℕ, suc, ◌⊎◌, List, [], ◌∷◌, length, Option, Some, refl, ap, sym, ◌∙◌, subst, inl, inr, arith}
use Rattle.std.proofs.lemmas.Option.{same_Some}
use Rattle.fd_language.specs.Term.{Name, Term, Terms, no_terms, term, Substitution, apply, apply_all, term_count}
use Rattle.fd_model.specs.Builtins.{first_argument, second_argument}
use Rattle.fd_model.specs.ConstraintExpansion.{arguments}
use Rattle.heap_cells.specs.declared.Cell.{Cell}
use Rattle.heap_cells.specs.Cells.{Cells, IsOf}
use Rattle.heap_cells.specs.Terms.{Naming, terms_by, term_of}
use Rattle.wam_code.specs.Places.{Places, Hold, made}
use Rattle.code_meaning.specs.Registers.{AreIn, AreShown}

pub arguments_applied : (s : Substitution) (f : Name) (ts : Terms) → arguments (apply s (made f ts)) ≡ apply_all s ts
arguments_applied s f no_terms = refl
arguments_applied s f (term t ts) = refl

module _ (name : Naming) (h : Cells) (look : Substitution) (P : ℕ → Type 0) (p : Places) (cells : ℕ → Option Cell) (shown : AreShown name h look P p.x cells) where
  -- the cell that a register holds is its term's
  pub cell_shows : (i : ℕ) (t : Term) (d : Cell) → p.x i ≡ Some t → cells i ≡ Some d → IsOf h d × (apply look t ≡ term_of name h d)
  cell_shows i t d e k =
      let w = shown i t e in
      let same = same_Some w.0 d (sym w.1 ∙ k) in
      (subst (IsOf h) same w.2.own, w.2.value ∙ ap (term_of name h) same)

  pub cells_show : (i : ℕ) (ts : Terms) (ds : List Cell) → Hold p i ts → AreIn cells i ds → term_count ts ≡ length ds → apply_all look ts ≡ terms_by (term_of name h) ds
  cells_show i no_terms [] e k n = refl
  cells_show i no_terms (d ∷ ds) e k n = absurd (omega (arith, n))
  cells_show i (term t ts) [] e k n = absurd (omega (arith, n))
  cells_show i (term t ts) (d ∷ ds) e k n =
      let one = (cell_shows i t d e.0 k.0).1 in
      let more = cells_show (suc i) ts ds e.1 k.1 (omega (arith, n)) in
      ap (λ u. term u (apply_all look ts)) one ∙ ap (term (term_of name h d)) more

  module _ (f : Name) (ts : Terms) (hold : Hold p 1 ts) where
    -- the cells of both arguments, and of the only one
    pub first_shows : (n : ℕ) → term_count ts ≡ suc n → (d : Cell) → cells 1 ≡ Some d → apply look (first_argument (made f ts)) ≡ term_of name h d
    first_shows n e d k = go ts hold e
      where
        go : (ts : Terms) → Hold p 1 ts → term_count ts ≡ suc n → apply look (first_argument (made f ts)) ≡ term_of name h d
        go no_terms o c = absurd (omega (arith, c))
        go (term t us) o c = (cell_shows 1 t d o.0 k).1

    pub second_shows : (n : ℕ) → term_count ts ≡ n → (d e : Cell) → cells 1 ≡ Some d → ((n ≡ 1) × (e ≡ d)) ⊎ ((n ≡ 2) × (cells 2 ≡ Some e))
        → apply look (second_argument (made f ts)) ≡ term_of name h e
    second_shows n k d e at_d is = go ts hold k is
      where
        go : (ts : Terms) → Hold p 1 ts → term_count ts ≡ n → ((n ≡ 1) × (e ≡ d)) ⊎ ((n ≡ 2) × (cells 2 ≡ Some e)) → apply look (second_argument (made f ts)) ≡ term_of name h e
        go no_terms o c (inl i) = (let j = i.0 in absurd (omega (arith, c, j)))
        go no_terms o c (inr i) = (let j = i.0 in absurd (omega (arith, c, j)))
        go (term t no_terms) o c (inl i) = (cell_shows 1 t d o.0 at_d).1 ∙ ap (term_of name h) (sym i.1)
        go (term t no_terms) o c (inr i) = (let j = i.0 in absurd (omega (arith, c, j)))
        go (term t (term u us)) o c (inl i) = (let j = i.0 in absurd (omega (arith, c, j)))
        go (term t (term u us)) o c (inr i) = (cell_shows 2 u e o.1.0 i.1).1
