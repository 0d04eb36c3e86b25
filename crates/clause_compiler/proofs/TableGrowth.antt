-- Choices, where more tables come behind theirs.
use Rattle.std.proofs.Common.{◌≡◌, ◌⊎◌, ℕ, suc, ◌+◌, ◌<◌, List, [], Some, length, slice_get, subst, inl, inr}
use Rattle.std.proofs.lemmas.List.{append-nil}
use Rattle.clause_check.specs.Programs.{FlatProgram}
use Rattle.wam_code.specs.declared.instruction.Code.{Code}
use Rattle.wam_code.specs.declared.instruction.Code.TheVariants.{SwitchOnTerm}
use Rattle.wam_code.specs.Area.{Table}
use Rattle.wam_code.specs.Keys.{Rises}
use Rattle.clause_compiler.specs.declared.keys.Kind.TheVariants as kind
use Rattle.clause_compiler.specs.Keys.{key_of}
use Rattle.clause_compiler.specs.Layout.{offset}
use Rattle.clause_compiler.specs.Sections.{ArePut}
use Rattle.clause_compiler.specs.Switches.{Segment, switch, IsSwitching, AreChoicesBy, AreKeysIn, AreRising, TablesGrow}
use Rattle.clause_compiler.proofs.Lists.{split_get, get_left}
use Rattle.clause_compiler.proofs.KindChoices.{Keeps, leads_more, kind_more, behind_more}

-- Of the same pieces another thing is true.
pub put_lift : {X : Type 0} (item : ℕ → ℕ → List Code → X) (P Q : ℕ → ℕ → List Code → Type 0) → ((k at : ℕ) (is : List Code) → P k at is → Q k at is)
    → (n : ℕ) (old new : List Code) (items : List X) → ArePut item P n old new items → ArePut item Q n old new items
put_lift item P Q f n old new items h = record {
  pieces = h.pieces;
  code = h.code;
  many = h.many;
  size = h.size;
  each = h.each;
  piece = λ k is e. f k (length old + offset h.pieces k) is (h.piece k is e);
}

module _ (p : FlatProgram) (one two : List Table) (keeps : Keeps one two) (ns : List ℕ) (at : ℕ) where
  switching_keeps : (ss : List Segment) → IsSwitching p one ns at ss → IsSwitching p two ns at ss
  switching_keeps ss w = subst (IsSwitching p two ns at) (append-nil ss) (record {
    v = w.v;
    c = w.c;
    i = w.i;
    s = w.s;
    first = get_left ss [] 0 (switch (SwitchOnTerm w.v w.c w.i w.s)) w.first;
    all = leads_more p at ss [] 0 w.v ns w.all;
    atoms = kind_more p at ss [] one two keeps ns kind.Atom w.c w.atoms;
    integers = kind_more p at ss [] one two keeps ns kind.Integer w.i w.integers;
    structures = kind_more p at ss [] one two keeps ns kind.Structure w.s w.structures;
    others = λ k x e. behind_more p at ss [] one two keeps ns (suc k) x (w.others k x (subst (λ l. slice_get l (suc k) ≡ Some x) (append-nil ss) e));
  })

  -- Choices stay what they are.
  pub choices_keep : (arity : ℕ) (is : List Code) → AreChoicesBy p one ns arity at is → AreChoicesBy p two ns arity at is
  choices_keep arity is (inl h) = inl h
  choices_keep arity is (inr h) = inr (h.0, (h.1.0, h.1.1, switching_keeps h.1.0 h.1.2))

-- Keys of clauses come to keys of clauses.
pub keys_grow : (p : FlatProgram) (ns : List ℕ) (one two : List Table) → ((k n : ℕ) → slice_get ns k ≡ Some n → n < length p.clauses) → TablesGrow p ns one two → AreKeysIn p one → AreKeysIn p two
keys_grow p ns one two inside g h t table e r x to f = by (split_get one g.0 t table (subst (λ l. slice_get l t ≡ Some table) g.1 e))
  where
    by : (slice_get one t ≡ Some table) ⊎ ((m : ℕ) × (t ≡ length one + m) × (slice_get g.0 m ≡ Some table)) → (n : ℕ) × (n < length p.clauses) × (key_of p n ≡ Some x)
    by (inl k) = h t table k r x to f
    by (inr k) = let a = g.2 k.0 table k.2 r x to f in (a.1, inside a.0 a.1 a.2, a.3)

-- Where there are no tables, there are no keys.
pub keys_none : (p : FlatProgram) (tables : List Table) → tables ≡ [] → AreKeysIn p tables
keys_none p tables e t table h r x to f = let g : slice_get [] t ≡ Some table = subst (λ l. slice_get l t ≡ Some table) e h in absurd cc

-- Tables that rise come to tables that rise.
pub rising_grow : (p : FlatProgram) (ns : List ℕ) (one two : List Table) → TablesGrow p ns one two → AreRising one → AreRising two
rising_grow p ns one two g h t table e = by (split_get one g.0 t table (subst (λ l. slice_get l t ≡ Some table) g.1 e))
  where
    by : (slice_get one t ≡ Some table) ⊎ ((m : ℕ) × (t ≡ length one + m) × (slice_get g.0 m ≡ Some table)) → Rises table
    by (inl k) = h t table k
    by (inr k) = g.3 k.0 table k.2

-- Where there are no tables, all rise.
pub rising_none : (tables : List Table) → tables ≡ [] → AreRising tables
rising_none tables e t table h = let g : slice_get [] t ≡ Some table = subst (λ l. slice_get l t ≡ Some table) e h in absurd cc
