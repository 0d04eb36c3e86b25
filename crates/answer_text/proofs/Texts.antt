-- Variables with their texts.
use Rattle.std.proofs.Common.{◌≡◌, ℕ, ◌+◌, ◌<◌, Bool, true, false, cond, ◌==◌, ◌||◌, Option, length, take, slice_index_or, subst, append_assoc, List, [], ◌∷◌}
use Rattle.std.proofs.Common.{◌++◌, refl, sym, ap, ◌∙◌, inl, inr, ◌⊎◌}
use Rattle.std.specs.Prelude.{◌≢◌}
use Rattle.std.proofs.lemmas.Bool.{true≢false}
use Rattle.std.proofs.lemmas.Bool.Decides.{eqb_tells}
use Rattle.fd_language.specs.Family.{has}
use Rattle.fd_language.specs.Term.{Term, Var}
use Rattle.fd_language.specs.TermTexts.{Mode, TermText, term_text}
use Rattle.fd_model.proofs.Lemmas.{spelled_same}
use Rattle.term_writer.specs.declared.VarText.{VarText}
use Rattle.term_writer.specs.Views.{text_of}
use Rattle.std.specs.List.{position_or_len}
use Rattle.std.proofs.lemmas.List.{take_more}
use Rattle.fd_language.proofs.Lemmas.{apply_vars}
use Rattle.fd_model.specs.Lines.{open_part, place_in}
use Rattle.answer_text.specs.Pieces.{with_number}
use Rattle.answer_text.specs.Variables.{AreTexts, GiveTexts, open_by}
use Rattle.answer_text.proofs.VariableNumbers.{inserted_front, place_of}

-- one variable more
pub texts_push : (f : ℕ → List ℕ) (ys : List ℕ) (ts : List VarText) (y : ℕ) (t : VarText) → AreTexts f ys ts → t.var ≡ y → t.text.items ≡ f y → AreTexts f (ys ++ y ∷ []) (ts ++ t ∷ [])
texts_push f [] [] y t h e g = (e, g, tt)
texts_push f [] (u ∷ ts) y t h e g = absurd h
texts_push f (x ∷ ys) [] y t h e g = absurd h
texts_push f (x ∷ ys) (u ∷ ts) y t h e g = (h.0, h.1, texts_push f ys ts y t h.2 e g)

-- each variable is found with its text
pub texts_found : (f : ℕ → List ℕ) (ys : List ℕ) (ts : List VarText) (y : ℕ) → AreTexts f ys ts → has ys y ≡ true → text_of ts y ≡ f y
texts_found f [] ts y h e = absurd (true≢false (sym e))
texts_found f (x ∷ ys) [] y h e = absurd h
texts_found f (x ∷ ys) (t ∷ ts) y h e =
    ap (λ (n : ℕ). cond (n == y) t.text.items (text_of ts y)) h.0 ∙ pick (eqb_tells x y) (texts_found f ys ts y h.2)
  where
    pick : ((x == y) ≡ true × (x ≡ y)) ⊎ ((x == y) ≡ false × (x ≢ y)) → (has ys y ≡ true → text_of ts y ≡ f y) → cond (x == y) t.text.items (text_of ts y) ≡ f y
    pick (inl w) later = ap (λ (b : Bool). cond b t.text.items (text_of ts y)) w.0 ∙ h.1 ∙ ap f w.1
    pick (inr w) later = ap (λ (b : Bool). cond b t.text.items (text_of ts y)) w.0 ∙ later (sym (ap (λ (b : Bool). b || has ys y) w.0) ∙ e)

-- a term is written alike with the texts of its own variables alone
pub own_texts : (f : ℕ → List ℕ) (mode : Mode) (limit : ℕ) (t : Term) (ts : List VarText) → GiveTexts f t ts → term_text mode (text_of ts) limit t ≡ term_text mode f limit t
own_texts f mode limit t ts h =
    ap (λ (u : Term). term_text mode (text_of ts) limit u) (sym (apply_vars t))
    ∙ ap (λ (x : TermText). x.at limit) (spelled_same Var f (text_of ts) mode t (λ y c. (y, refl, sym (h y c))))

-- the next variable's text, where its number is its place among those that are met
pub texts_step : (set : ℕ → Option (List ℕ)) (ks new more vars : List ℕ) (i : ℕ) (old ts : List VarText) (t : VarText) → i < length vars → new ≡ with_number ks (slice_index_or vars i 0)
    → ((later : List ℕ) → AreTexts (open_by set (ks ++ later)) (take i vars) old) → t.var ≡ slice_index_or vars i 0
    → t.text.items ≡ open_part (position_or_len (λ k. slice_index_or vars i 0 == k) ks + 1) (set (slice_index_or vars i 0)) → ts ≡ old ++ t ∷ []
    → AreTexts (open_by set (new ++ more)) (take (i + 1) vars) ts
texts_step set ks new more vars i old ts t h e before tv text items =
    let v = slice_index_or vars i 0 in
    let f = open_by set (new ++ more) in
    let front = inserted_front ks (v ∷ []) in
    let all : new ++ more ≡ ks ++ (front.0 ++ more) = ap (λ (l : List ℕ). l ++ more) (e ∙ front.1) ∙ append_assoc ks front.0 more in
    let place : place_in (new ++ more) v ≡ position_or_len (λ k. v == k) ks + 1 = ap (λ (l : List ℕ). place_in (l ++ more) v) e ∙ place_of ks more v in
    let first : AreTexts f (take i vars) old = subst (λ (l : List ℕ). AreTexts (open_by set l) (take i vars) old) (sym all) (before (front.0 ++ more)) in
    let pushed = texts_push f (take i vars) old v t first tv (text ∙ ap (λ (n : ℕ). open_part n (set v)) (sym place)) in
    subst (λ (ys : List ℕ). AreTexts f ys ts) (sym (take_more vars i 0 h)) (subst (λ (us : List VarText). AreTexts f (take i vars ++ v ∷ []) us) (sym items) pushed)

-- a term is written alike by the same sets and the same numbers
pub text_by_same : (set other : ℕ → Option (List ℕ)) (vs all : List ℕ) (mode : Mode) (limit : ℕ) (t : Term) → ((y : ℕ) → set y ≡ other y) → vs ≡ all
    → term_text mode (open_by set vs) limit t ≡ term_text mode (open_by other all) limit t
text_by_same set other vs all mode limit t e f =
    ap (λ (u : Term). term_text mode (open_by set vs) limit u) (sym (apply_vars t))
    ∙ ap (λ (x : TermText). x.at limit) (spelled_same Var (open_by other all) (open_by set vs) mode t
    (λ y c. (y, refl, ap (λ (l : List ℕ). open_part (place_in l y) (other y)) (sym f) ∙ ap (open_part (place_in vs y)) (sym (e y)))))
