-- A whole unification, from its steps.
use Rattle.std.proofs.Common.{◌≡◌, ℕ, Bool, true, false, refl, ap, sym, ◌∙◌, subst, List, [], ◌∷◌, ◌++◌, append_assoc}
use Rattle.std.specs.Prelude.{All, Ok}
use Rattle.std.proofs.lemmas.Bool.{false≢true}
use Rattle.std.proofs.lemmas.List.{append-nil}
use Rattle.fd_language.specs.declared.NoMemory.{NoMemory}
use Rattle.heap_cells.specs.declared.Cell.{Cell}
use Rattle.heap_cells.specs.Cells.{Cells, IsOf}
use Rattle.heap_cells.specs.Terms.{Naming, IsOneToOne}
use Rattle.heap_cells.specs.Atoms.{IsAtomBelow, HasAtomsBelow}
use Rattle.unify_core.specs.declared.Pair.{Pair}
use Rattle.unify_core.specs.declared.Touch.{Touch}
use Rattle.unify_core.specs.Touches.{IsRefuted}
use Rattle.unify_core.specs.PairReduction.{Reduces, IsOwn, HasAtoms, IsSameSize}
use Rattle.unify_core.specs.Unifications.{IsUnified, IsEqualled, KeepsAtoms, cells_equal}
use Rattle.unify_core.specs.Outcome.{IsDone, IsHopeless, IfTrue, IfFalse}
use Rattle.unify_core.proofs.PairReduction.{reduces_none, reduces_both, refuted_both, unified}
use Rattle.heap_cells.proofs.Lemmas.{none_at_all, both_of}

abbrev pub start : Cell → Cell → List Pair
start a b = record { left = a; right = b } ∷ []

-- so far
pub record IsUnderWay (old : Cells) (a b : Cell) (now : Cells) (left : List Pair) (ts : List Touch) : Type 0 where
  pub reduces : (name : Naming) → Reduces name old (start a b) now left ts
  pub size : IsSameSize old now
  pub own : All (IsOwn now) left
  pub atoms : (n : ℕ) → HasAtomsBelow n old → IsAtomBelow n a → IsAtomBelow n b → HasAtomsBelow n now × All (HasAtoms n) left

pub under_way_first : (h : Cells) (a b : Cell) → IsOf h a → IsOf h b → IsUnderWay h a b h (start a b) []
under_way_first h a b x y = record {
  reduces = λ name. reduces_none name h (start a b);
  size = record { slots = refl; compounds = refl };
  own = both_of (IsOwn h) (record { left = a; right = b }) [] (x, y) (none_at_all (IsOwn h));
  atoms = λ n o p q. (o, both_of (HasAtoms n) (record { left = a; right = b }) [] (p, q) (none_at_all (HasAtoms n)));
}

pub under_way_further : (old mid now : Cells) (a b : Cell) (work left : List Pair) (before ts : List Touch) → IsUnderWay old a b mid work before
    → IsDone mid work before now left ts → IsUnderWay old a b now left ts
under_way_further old mid now a b work left before ts w d = record {
  reduces = λ name. subst (λ us. Reduces name old (start a b) now left us) (sym d.touches) (reduces_both name old mid now (start a b) work left before d.more w.size (w.reduces name) (d.reduces name));
  size = record { slots = d.size.slots ∙ w.size.slots; compounds = d.size.compounds ∙ w.size.compounds };
  own = d.own w.own;
  atoms = λ n o p q. (let so = w.atoms n o p q in d.atoms n so.0 so.1);
}

pub atoms_unified : (old now : Cells) (a b : Cell) (left : List Pair) (ts : List Touch) → IsUnderWay old a b now left ts → KeepsAtoms old a b now
atoms_unified old now a b left ts w n o p q = (w.atoms n o p q).0

pub all_unified : (old now : Cells) (a b : Cell) (left : List Pair) (ts : List Touch) → left ≡ [] → IsUnderWay old a b now left ts → (name : Naming) → IsUnified name old a b now ts
all_unified old now a b left ts e w name = unified name old now a b ts (subst (λ ps. Reduces name old (start a b) now ps ts) e (w.reduces name))

pub none_unified : (old mid : Cells) (a b : Cell) (work : List Pair) (ts : List Touch) → IsUnderWay old a b mid work ts → IsHopeless mid work → (name : Naming)
    → IsOneToOne name → IsRefuted old (cells_equal name old a b)
none_unified old mid a b work ts w h name o = refuted_both name old mid (start a b) work ts (w.reduces name) (h name o)

-- so far, where what the store is told goes behind what it was to be told before
pub record IsBehind (old : Cells) (a b : Cell) (now : Cells) (left : List Pair) (before ts : List Touch) : Type 0 where
  pub more : List Touch
  pub touches : ts ≡ before ++ more
  pub way : IsUnderWay old a b now left more

pub behind_first : (h : Cells) (a b : Cell) (work : List Pair) (ts : List Touch) → work ≡ [] → IsOf h a → IsOf h b → IsBehind h a b h (work ++ start a b) ts ts
behind_first h a b work ts e x y = record { more = []; touches = sym (append-nil ts); way = subst (λ (ps : List Pair). IsUnderWay h a b h (ps ++ start a b) []) (sym e) (under_way_first h a b x y) }

pub behind_further : (old mid now : Cells) (a b : Cell) (work left : List Pair) (before ts us : List Touch) → IsBehind old a b mid work before ts
    → IsDone mid work ts now left us → IsBehind old a b now left before us
behind_further old mid now a b work left before ts us w d = record {
  more = w.more ++ d.more;
  touches = d.touches ∙ ap (λ (l : List Touch). l ++ d.more) w.touches ∙ append_assoc before w.more d.more;
  way = under_way_further old mid now a b work left w.more (w.more ++ d.more) w.way
      (record { more = d.more; touches = refl; reduces = d.reduces; size = d.size; own = d.own; atoms = d.atoms; falls = d.falls });
}

-- nothing is left
pub equalled : (old now : Cells) (a b : Cell) (left : List Pair) (before ts : List Touch) → left ≡ [] → IsBehind old a b now left before ts → IsEqualled old a b now before ts
equalled old now a b left before ts e w = record { more = w.more; touches = w.touches; unified = all_unified old now a b left w.more e w.way; size = w.way.size }

pub at_true : (b : Bool) (P : Type 0) → b ≡ true → IfTrue {E = NoMemory} (Ok b) P → P
at_true true P e h = h
at_true false P e h = absurd (false≢true e)

pub at_false : (b : Bool) (P : Type 0) → b ≡ false → IfFalse {E = NoMemory} (Ok b) P → P
at_false true P e h = absurd (false≢true (sym e))
at_false false P e h = h
