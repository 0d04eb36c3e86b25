-- Atoms that are put into a pool one after another.
use Rattle.std.proofs.Common.{◌≡◌, ◌≢◌, ◌⊎◌, ℕ, suc, zero, ◌+◌, ◌<◌, Bool, true, false, not, cond, List, [], ◌∷◌, ◌++◌, take, length, get_or, refl, sym, ap}
use Rattle.std.proofs.Common.{◌∙◌, arith, inl, inr, append_assoc}
use Rattle.std.specs.List.{list_any}
use Rattle.std.specs.Str.{bytes_eq}
use Rattle.std.proofs.lemmas.Bool.{cases_Bool}
use Rattle.std.proofs.lemmas.List.{append-nil, take_more, length_push}
use Rattle.fd_language.specs.Term.{Name}
use Rattle.term_pool.specs.Contents.{interned}
use Rattle.listing_loader.specs.Marks.{atom_marks}

pub length_marks : (before cs : List Name) → length (atom_marks before cs) ≡ length cs
length_marks before [] = refl
length_marks before (c ∷ cs) = ap suc (length_marks (before ++ c ∷ []) cs)

-- the mark of an atom
pub mark_at : (before cs : List Name) (i : ℕ) (d : Name) (e : Bool) → i < length cs → get_or (atom_marks before cs) i e ≡ not (list_any (bytes_eq (get_or cs i d)) (before ++ take i cs))
mark_at before [] i d e h = absurd (omega (arith, h))
mark_at before (c ∷ cs) zero d e h = ap (λ l. not (list_any (bytes_eq c) l)) (sym (append-nil before))
mark_at before (c ∷ cs) (suc i) d e h = mark_at (before ++ c ∷ []) cs i d e (omega (arith, h)) ∙ ap (λ l. not (list_any (bytes_eq (get_or cs i d)) l)) (append_assoc before (c ∷ []) (take i cs))

-- no more names: it was there; more: it wasn't
pub was_there : (names : List Name) (c : Name) → length (interned names c) ≡ length names → list_any (bytes_eq c) names ≡ true
was_there names c h = go (cases_Bool (list_any (bytes_eq c) names)) where
  go : (list_any (bytes_eq c) names ≡ true) ⊎ (list_any (bytes_eq c) names ≡ false) → list_any (bytes_eq c) names ≡ true
  go (inl t) = t
  go (inr f) = let e : length (names ++ c ∷ []) ≡ length names = sym (ap (λ b. length (cond b names (names ++ c ∷ []))) f) ∙ h in absurd (omega (arith, e, length_push names c))

pub was_new : (names : List Name) (c : Name) → length (interned names c) ≢ length names → (list_any (bytes_eq c) names ≡ false) × (interned names c ≡ names ++ c ∷ [])
was_new names c h = go (cases_Bool (list_any (bytes_eq c) names)) where
  go : (list_any (bytes_eq c) names ≡ true) ⊎ (list_any (bytes_eq c) names ≡ false) → (list_any (bytes_eq c) names ≡ false) × (interned names c ≡ names ++ c ∷ [])
  go (inl t) = absurd (h (ap (λ b. length (cond b names (names ++ c ∷ []))) t))
  go (inr f) = (f, ap (λ b. cond b names (names ++ c ∷ [])) f)

-- the mark of the atom that is put next
pub mark_put : (before cs names : List Name) (i : ℕ) (text : Name) (b : Bool) → i < length cs → names ≡ before ++ take i cs → text ≡ get_or cs i []
    → list_any (bytes_eq text) names ≡ b → get_or (atom_marks before cs) i true ≡ not b
mark_put before cs names i text b h e t a = mark_at before cs i [] true h ∙ ap not (sym (ap (λ l. list_any (bytes_eq (get_or cs i [])) l) e) ∙ sym (ap (λ x. list_any (bytes_eq x) names) t) ∙ a)

pub names_more : (before cs names : List Name) (i : ℕ) (text : Name) → i < length cs → names ≡ before ++ take i cs → text ≡ get_or cs i [] → names ++ text ∷ [] ≡ before ++ take (i + 1) cs
names_more before cs names i text h e t = ap (λ l. l ++ text ∷ []) e ∙ append_assoc before (take i cs) (text ∷ []) ∙ ap (λ l. before ++ l) (ap (λ x. take i cs ++ x ∷ []) t ∙ sym (take_more cs i [] h))
