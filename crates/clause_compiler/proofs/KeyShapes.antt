-- First arguments that clash with what a key shows.
use Rattle.std.proofs.Common.{◌≡◌, ℕ, ℤ, Bool, true, false, leb, if◌then◌else◌, [], ◌∷◌, length, Option, Some, None, refl, sym, ◌∙◌, subst}
use Rattle.clause_compiler.proofs.Lists.{no}
use Rattle.fd_language.specs.Term.{Name}
use Rattle.fd_model.specs.ConstraintExpansion.{arguments}
use Rattle.term_pool.specs.declared.TermId.{TermId}
use Rattle.term_pool.specs.Contents.{Contents, Shape, var, int, atom, comp, shape_at}
use Rattle.term_pool.specs.Terms.{shape_term}
use Rattle.term_pool.specs.PoolInvariant.{IsPool}
use Rattle.term_pool.proofs.Lemmas.{term_of_shape}
use Rattle.wam_code.specs.declared.instruction.Key.{Key}
use Rattle.wam_code.specs.declared.instruction.Key.TheVariants as key
use Rattle.wam_code.specs.Tries as tries
use Rattle.wam_code.specs.Tries.{Clash, ClashFirst}
use Rattle.clause_compiler.specs.declared.keys.Kind.TheVariants as kind
use Rattle.clause_compiler.specs.Keys.{shape_key, some_key, argument_key, may_be}

module _ (c : Contents) where
  -- An atom may fit what is of the kind alone.
  pub atom_clash : (a : Name) (r : Shape) → may_be kind.Atom (shape_key r) ≡ false → Clash (tries.is_atom a) (shape_term c r)
  atom_clash a (var x) e = no e
  atom_clash a (int z) e = tt
  atom_clash a (atom b) e = no e
  atom_clash a (comp f ts) e = tt

  -- So does an integer.
  pub integer_clash : (z : ℤ) (r : Shape) → may_be kind.Integer (shape_key r) ≡ false → Clash (tries.is_integer z) (shape_term c r)
  integer_clash z (var x) e = no e
  integer_clash z (int y) e = no e
  integer_clash z (atom b) e = tt
  integer_clash z (comp f ts) e = tt

  -- And a structure.
  pub structure_clash : (g : Name) (n : ℕ) (r : Shape) → may_be kind.Structure (shape_key r) ≡ false → Clash (tries.is_structure g n) (shape_term c r)
  structure_clash g n (var x) e = no e
  structure_clash g n (int z) e = tt
  structure_clash g n (atom b) e = tt
  structure_clash g n (comp f ts) e = by (leb (length ts) 255) e
    where
      by : (b : Bool) → may_be kind.Structure (if b then Some (key.Struct f (length ts)) else None) ≡ false → Clash (tries.is_structure g n) (shape_term c (comp f ts))
      by true h = no h
      by false h = no h

-- A clause clashes by the key of its first argument, where each term with a key that fails the test does.
module _ (c : Contents) (v : IsPool c) (s : tries.Shape) (test : Option Key → Bool) (none : test None ≡ true) (clash : (t : TermId) (r : Shape)
    → shape_at c t ≡ Some r → test (shape_key r) ≡ false → Clash s (shape_term c r)) where
  pub first_clash : (r : Shape) → test (argument_key c (Some r)) ≡ false → ClashFirst s (arguments (shape_term c r))
  first_clash (var x) e = no (sym none ∙ e)
  first_clash (int z) e = no (sym none ∙ e)
  first_clash (atom a) e = no (sym none ∙ e)
  first_clash (comp f []) e = no (sym none ∙ e)
  first_clash (comp f (t ∷ ts)) e = by (shape_at c t) refl e
    where
      by : (o : Option Shape) → shape_at c t ≡ o → test (some_key o) ≡ false → ClashFirst s (arguments (shape_term c (comp f (t ∷ ts))))
      by None g h = no (sym none ∙ h)
      by (Some q) g h = subst (Clash s) (sym (term_of_shape c v t q g)) (clash t q g h)
