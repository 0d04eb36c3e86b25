-- Names and their numbers: two atoms of a pool are one where their names are the same bytes.
use Rattle.std.proofs.Common.{◌≡◌, ◌≢◌, ℕ, ◌<◌, ◌⊎◌, inl, inr, Bool, true, false, not, length, refl, sym, ap, ◌∙◌, eqb-true, eq-eqb}
use Rattle.std.specs.Prelude.{◌==◌}
use Rattle.std.specs.Str.{bytes_eq}
use Rattle.std.proofs.lemmas.Bool.{false≢true, not-false}
use Rattle.std.proofs.lemmas.Bool.Decides.{eqb_tells}
use Rattle.std.proofs.lemmas.Slice.Eq.{bytes_eq-Decides}
use Rattle.fd_language.specs.Term.{Name}
use Rattle.term_pool.specs.declared.AtomId.{AtomId}
use Rattle.term_pool.specs.Contents.{Contents, atom_name}
use Rattle.term_pool.specs.PoolInvariant.{IsPool}
use Rattle.term_pool.proofs.Names.{same_text}

abbrev of_number : ℕ → AtomId
of_number n = record { number = n }

-- Atoms with one number are one.
pub same_id : (a b : AtomId) → a.number ≡ b.number → a ≡ b
same_id a b e = ap of_number e

-- Two atoms are one where their numbers are.
pub atom_same : (f g : AtomId) (b : Bool) → b ≡ not (f.number == g.number) → b ≡ false → f ≡ g
atom_same f g b e n = let q : f.number ≡ g.number = eqb-true f.number g.number (not-false (f.number == g.number) (sym e ∙ n)) in ap (λ k. let a : AtomId = record { number = k } in a) q

pub atom_other : (f g : AtomId) (b : Bool) → b ≡ not (f.number == g.number) → b ≡ true → f ≡ g → ⊥
atom_other f g b e t q = let s : (f.number == g.number) ≡ true = eq-eqb f.number g.number (ap (λ (a : AtomId). a.number) q) in false≢true (sym (ap not s) ∙ sym e ∙ t)

-- Two names of a pool are the same bytes where they have one number.
pub same_names : (c : Contents) → IsPool c → (a b : AtomId) → a.number < length c.names → b.number < length c.names → (a.number == b.number) ≡ bytes_eq (atom_name c a) (atom_name c b)
same_names c v a b h k = pick (eqb_tells a.number b.number)
  where
    differ : (t : Bool) → bytes_eq (atom_name c a) (atom_name c b) ≡ t → a.number ≢ b.number → false ≡ bytes_eq (atom_name c a) (atom_name c b)
    differ true e n = absurd (n (ap (λ (x : AtomId). x.number) (v.distinct a b h k (same_text (atom_name c a) (atom_name c b) e))))
    differ false e n = sym e

    pick : ((a.number == b.number) ≡ true × (a.number ≡ b.number)) ⊎ ((a.number == b.number) ≡ false × (a.number ≢ b.number)) → (a.number == b.number) ≡ bytes_eq (atom_name c a) (atom_name c b)
    pick (inl w) = w.0 ∙ sym ((bytes_eq-Decides (atom_name c a) (atom_name c b)).1 (ap (atom_name c) (same_id a b w.1)))
    pick (inr w) = w.0 ∙ differ (bytes_eq (atom_name c a) (atom_name c b)) refl w.1

-- Names that are not one have other bytes.
pub other_name : (f g : Name) → (f ≡ g → ⊥) → bytes_eq f g ≡ false
other_name f g h = go (bytes_eq f g) refl
  where
    go : (b : Bool) → bytes_eq f g ≡ b → b ≡ false
    go true e = absurd (h (same_text f g e))
    go false e = refl
