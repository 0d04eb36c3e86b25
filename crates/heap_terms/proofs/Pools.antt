-- A pool that new terms are read into.
use Rattle.std.proofs.Math.Seq.{take-length}
use Rattle.std.proofs.Common.{◌≡◌, ℕ, take, drop, length-drop, ◌-◌, ◌<◌, ap, sym, ◌∙◌, arith, inl, inr, List, [], ◌∷◌, ◌++◌, length, length-append}
use Rattle.std.specs.Prelude.{option_map, All}
use Rattle.std.proofs.lemmas.Bool.{cases_lt}
use Rattle.fd_language.specs.Term.{Name, Comp}
use Rattle.term_pool.specs.declared.AtomId.{AtomId}
use Rattle.term_pool.specs.declared.TermId.{TermId}
use Rattle.term_pool.specs.Contents.{Shape, comp, Entry, Contents, name_in, place_at}
use Rattle.term_pool.specs.Terms.{term_of, terms_by, shape_term, KeepsTerms, Extends}
use Rattle.term_pool.proofs.Lemmas.{terms_by_same, place_kept, slice_get_seam}
use Rattle.heap_terms.specs.CellReads.{PlacesAtZero}

pub places_same : (old new : Contents) → new.entries ≡ old.entries → PlacesAtZero old new
places_same old new e t l m = absurd (omega (arith, ap (λ (es : List Entry). length es) e))

pub places_added : (old new : Contents) (s : Shape) → new ≡ record old { entries = old.entries ++ record { shape = s; place = 0 } ∷ [] } → PlacesAtZero old new
places_added old new s e t l m =
    let last : Entry = record { shape = s; place = 0 } in
    let long : length new.entries ≡ length (old.entries ++ last ∷ []) = ap (λ (c : Contents). length c.entries) e in
    let at_end : t.number ≡ length old.entries = omega (arith, length-append old.entries (last ∷ [])) in
    ap (λ (c : Contents). place_at c t) e ∙ ap (option_map (λ (x : Entry). x.place)) (slice_get_seam old.entries last t.number at_end)

pub places_both : (old mid new : Contents) → PlacesAtZero old mid → PlacesAtZero mid new → Extends mid new → PlacesAtZero old new
places_both old mid new a b x t l m = elim (cases_lt t.number (length mid.entries)) [
  | inl q ↦ place_kept mid new x t q ∙ a t l q
  | inr q ↦ b t q m
]

-- a compound term of terms that were there before its name
pub made_term : (p mid q : Contents) (names : List Name) (f a : AtomId) (t : TermId) (parts given : List TermId) → KeepsTerms p mid
    → All (λ (x : TermId). x.number < length p.entries) parts → name_in mid.names a ≡ name_in names f → term_of q t ≡ shape_term mid (comp a given)
    → given ≡ parts
    → term_of q t ≡ Comp (name_in names f) (terms_by (term_of p) parts)
made_term p mid q names f a t parts given k own n e same =
    e ∙ ap (λ (xs : List TermId). shape_term mid (comp a xs)) same ∙ ap (λ (m : Name). Comp m (terms_by (term_of mid) parts)) n
    ∙ ap (Comp (name_in names f)) (terms_by_same (term_of mid) (term_of p) (length p.entries) parts own k)

-- a new term is of the pool
pub added_own : (old new : Contents) (e : Entry) (t : TermId) → new ≡ record old { entries = old.entries ++ e ∷ [] } → t.number ≡ length old.entries → t.number < length new.entries
added_own old new e t q n = omega (arith, length-append old.entries (e ∷ []), ap (λ (c : Contents). length c.entries) q)

-- the last elements of a list
pub last_part : {X : Type 0} (xs ys : List X) (m n : ℕ) → ys ≡ xs → m ≡ length xs → take (length ys - (m - n)) (drop (m - n) ys) ≡ drop (length xs - n) xs
last_part xs ys m n e f =
    ap (λ zs. take (length zs - (m - n)) (drop (m - n) zs)) e ∙ ap (λ k. take (length xs - (k - n)) (drop (k - n) xs)) f
    ∙ ap (λ k. take k (drop (length xs - n) xs)) (sym (length-drop (length xs - n) xs)) ∙ take-length (drop (length xs - n) xs)
