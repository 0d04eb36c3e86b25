-- What holds of every pool.
use Rattle.std.specs.Prelude.{◌≡◌, ℕ, ◌^◌, ◌<◌, ◌≤◌, List, length, slice_get, Some, All, codes, FitsSigned, IsUtf8}
use Rattle.std.specs.Int.{w64}
use Rattle.fd_language.specs.Term.{Name, Term, Terms}
use Rattle.fd_language.specs.Term as term
use Rattle.term_pool.specs.declared.AtomId.{AtomId}
use Rattle.term_pool.specs.declared.TheConstants.{NIL, CONS, SPAN}
use Rattle.term_pool.specs.declared.Node.{Node}
use Rattle.term_pool.specs.declared.Node.TheVariants.{Var, Int, Atom, Comp}
use Rattle.term_pool.specs.Contents.{Shape, var, int, atom, comp, Entry, Contents, atom_name, name_in}

-- a node as a shape
abbrev pub shape_of : Node → Shape
shape_of (Var x) = var x
shape_of (Int z) = int z
shape_of (Atom a) = atom a
shape_of (Comp f ts) = comp f ts.now

-- the atoms are among the first so many, and so are the parts among the terms
abbrev pub IsWithin : ℕ → ℕ → Shape → Type 0
IsWithin atoms terms (var x) = Unit {0}
IsWithin atoms terms (int z) = Unit {0}
IsWithin atoms terms (atom a) = a.number < atoms
IsWithin atoms terms (comp f ts) = (f.number < atoms) × All (λ t. t.number < terms) ts

-- a variable's number has 64 bits, and so has an integer with its sign
abbrev pub HasMachineNumbers : Shape → Type 0
HasMachineNumbers (var x) = x < 2 ^ 64
HasMachineNumbers (int z) = FitsSigned w64 z
HasMachineNumbers (atom a) = Unit {0}
HasMachineNumbers (comp f ts) = Unit {0}

-- no name has two numbers
abbrev pub AreDistinct : List Name → Type 0
AreDistinct names = (a b : AtomId) → a.number < length names → b.number < length names → name_in names a ≡ name_in names b → a ≡ b

-- what a term of a pool can be: numbers of 64 bits, and names that are UTF-8
abbrev mutual
  pub IsStorable : Term → Type 0
  IsStorable (term.Var x) = x < 2 ^ 64
  IsStorable (term.Int z) = FitsSigned w64 z
  IsStorable (term.Atom a) = IsUtf8 a
  IsStorable (term.Comp f ts) = IsUtf8 f × AreStorable ts

  pub AreStorable : Terms → Type 0
  AreStorable term.no_terms = Unit {0}
  AreStorable (term.term t ts) = IsStorable t × AreStorable ts

pub record IsPool (c : Contents) : Type 0 where
  pub three : 3 ≤ length c.names
  pub nil : atom_name c NIL ≡ codes "[]"
  pub cons : atom_name c CONS ≡ codes "."
  pub span : atom_name c SPAN ≡ codes ".."
  pub distinct : AreDistinct c.names
  pub texts : All IsUtf8 c.names
  -- the parts of a term stand before it
  pub within : (i : ℕ) (e : Entry) → slice_get c.entries i ≡ Some e → IsWithin (length c.names) i e.shape
  pub machine : (i : ℕ) (e : Entry) → slice_get c.entries i ≡ Some e → HasMachineNumbers e.shape
