-- What a term's parts are, by how many it has, and what a range is by its parts.
use Rattle.std.proofs.Common.{◌≡◌, ℕ, ◌+◌, ◌<◌, ◌≤◌, Bool, true, false, cond, List, [], ◌∷◌, ◌++◌, length, refl, sym, ap, ◌∙◌, arith}
use Rattle.fd_language.specs.Term.{Name}
use Rattle.fd_language.specs.PlacedTerm.{PlacedTerm, var, int, atom, comp, no_parts, part, place}
use Rattle.fd_model.specs.Forms.{is_named}
use Rattle.term_pool.specs.declared.TermId.{TermId}
use Rattle.term_pool.specs.Contents.{Contents}
use Rattle.term_pool.specs.Terms.{term_of, size}
use Rattle.term_pool.specs.PlacedTerms.{placed_of, parts_by}
use Rattle.text_warnings.specs.Warnings as model
use Rattle.text_warnings.specs.TermParts.{TermParts, one, two, other, parts_of}
use Rattle.text_warnings.specs.SilentLosses.{range_losses, plain_losses, joined_ranges, shifted_ranges}
use Rattle.text_warnings.specs.PartViews.{IsRange, two_ranges}
use Rattle.text_warnings.specs.declared.terms.Body.TheVariants.{Both, Inner, Goal}

other_of_three : (f : Name) (p : ℕ) (by : TermId → PlacedTerm) (ts : List TermId) → 3 ≤ length ts → parts_of (comp f p (parts_by by ts)) ≡ other
other_of_three f p by [] h = absurd (omega arith)
other_of_three f p by (a ∷ []) h = absurd (omega arith)
other_of_three f p by (a ∷ b ∷ []) h = absurd (omega arith)
other_of_three f p by (a ∷ b ∷ d ∷ ts) h = refl

-- three parts and more
pub many_parts : (x : PlacedTerm) (f : Name) (p : ℕ) (by : TermId → PlacedTerm) (ts : List TermId) → x ≡ comp f p (parts_by by ts) → 3 ≤ length ts → parts_of x ≡ other
many_parts x f p by ts e h = ap parts_of e ∙ other_of_three f p by ts h

-- ---- ranges

-- what a range loses by its parts
abbrev by_parts : ℕ → TermParts → List model.Warning
by_parts p (one f a) = plain_losses p (one f a)
by_parts p (two f a b) =
    cond (is_named joined_ranges f) (range_losses a ++ range_losses b) (cond (is_named shifted_ranges f) (range_losses a) (plain_losses p (two f a b)))
by_parts p other = plain_losses p other

range_by : (x : PlacedTerm) → range_losses x ≡ by_parts (place x) (parts_of x)
range_by (var n p) = refl
range_by (int z p) = refl
range_by (atom g p) = refl
range_by (comp g p no_parts) = refl
range_by (comp g p (part x no_parts)) = refl
range_by (comp g p (part x (part y no_parts))) = refl
range_by (comp g p (part x (part y (part z zs)))) = refl

-- a range of one part
pub one_is_range : (x : PlacedTerm) (f : Name) (a : PlacedTerm) → parts_of x ≡ one f a → range_losses x ≡ plain_losses (place x) (parts_of x)
one_is_range x f a e = range_by x ∙ ap (by_parts (place x)) e ∙ ap (plain_losses (place x)) (sym e)

pub other_is_range : (x : PlacedTerm) → parts_of x ≡ other → range_losses x ≡ plain_losses (place x) (parts_of x)
other_is_range x e = range_by x ∙ ap (by_parts (place x)) e ∙ ap (plain_losses (place x)) (sym e)

-- a range of two parts
pub two_is_range : (c : Contents) (t a b : TermId) (f : Name) → a.number < length c.entries → b.number < length c.entries
    → size (term_of c a) + size (term_of c b) < size (term_of c t) → parts_of (placed_of c t) ≡ two f (placed_of c a) (placed_of c b) → IsRange c t (two_ranges f a b)
two_is_range c t a b f ha hb small e = by (is_named joined_ranges f) (is_named shifted_ranges f) refl refl
  where
    p : ℕ
    p = place (placed_of c t)

    plain : List model.Warning
    plain = plain_losses p (two f (placed_of c a) (placed_of c b))

    is : range_losses (placed_of c t) ≡ by_parts p (two f (placed_of c a) (placed_of c b))
    is = range_by (placed_of c t) ∙ ap (by_parts p) e

    by : (j s : Bool) → is_named joined_ranges f ≡ j → is_named shifted_ranges f ≡ s → IsRange c t (cond j (Both a b) (cond s (Inner a) Goal))
    by true s j k = (
      ha,
      hb,
      is
          ∙ ap (λ (x : Bool). cond x (range_losses (placed_of c a) ++ range_losses (placed_of c b)) (cond (is_named shifted_ranges f) (range_losses (placed_of c a)) plain)) j,
      small,
    )
    by false true j k = (
      ha,
      is
          ∙ ap (λ (x : Bool). cond x (range_losses (placed_of c a) ++ range_losses (placed_of c b)) (cond (is_named shifted_ranges f) (range_losses (placed_of c a)) plain)) j
          ∙ ap (λ (x : Bool). cond x (range_losses (placed_of c a)) plain) k,
      omega (arith, small),
    )
    by false false j k =
        is
        ∙ ap (λ (x : Bool). cond x (range_losses (placed_of c a) ++ range_losses (placed_of c b)) (cond (is_named shifted_ranges f) (range_losses (placed_of c a)) plain)) j
        ∙ ap (λ (x : Bool). cond x (range_losses (placed_of c a)) plain) k
        ∙ ap (plain_losses p) (sym e)
