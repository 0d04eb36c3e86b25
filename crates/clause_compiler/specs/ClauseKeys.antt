-- Clauses by the keys of their first arguments.
use Rattle.std.specs.Prelude.{◌≡◌, ◌&&◌, ◌==◌, ℕ, Bool, true, false, List, filter, map, slice_get, Option, Some, None}
use Rattle.std.specs.Ordering.{int_eq}
use Rattle.clause_check.specs.Programs.{FlatProgram}
use Rattle.wam_code.specs.declared.instruction.Key.{Key}
use Rattle.wam_code.specs.declared.instruction.Key.TheVariants as key
use Rattle.clause_compiler.specs.declared.tables.Label.{Label}
use Rattle.clause_compiler.specs.declared.tables.Label.TheVariants as labels
use Rattle.clause_compiler.specs.declared.tables.Keyed.{Keyed}
use Rattle.clause_compiler.specs.Keys.{key_of}

-- a key as it is looked up
abbrev pub label : Key → Label
label (key.Atom a) = labels.Atom a
label (key.Int z) = labels.Integer z
label (key.Struct f n) = labels.Structure f n

abbrev pub same_key : Key → Key → Bool
same_key (key.Atom a) (key.Atom b) = a.number == b.number
same_key (key.Int y) (key.Int z) = int_eq y z
same_key (key.Struct f n) (key.Struct g m) = (f.number == g.number) && (n == m)
same_key _ _ = false

-- where this key stands, a first argument with the other one may fit; so may all where none stands
abbrev pub may_have : Key → Option Key → Bool
may_have k None = true
may_have k (Some x) = same_key k x

-- the clauses that a first argument with the key may fit, by their numbers
abbrev pub key_numbers : FlatProgram → Key → List ℕ → List ℕ
key_numbers p k ns = filter (λ n. may_have k (key_of p n)) ns

-- Each key of these clauses stands once, with the clauses that have it.
pub record AreKeyedBy (p : FlatProgram) (ns : List ℕ) (looked : List Label) (keys : List Key) (groups : List (List ℕ)) : Type 0 where
  pub labels : looked ≡ map label keys
  pub lists : groups ≡ map (λ x. key_numbers p x ns) keys
  pub each : (i n : ℕ) → slice_get ns i ≡ Some n → (j : ℕ) × (x : Key) × (slice_get keys j ≡ Some x) × (key_of p n ≡ Some x)
  pub from : (j : ℕ) (x : Key) → slice_get keys j ≡ Some x → (i : ℕ) × (n : ℕ) × (slice_get ns i ≡ Some n) × (key_of p n ≡ Some x)
  pub apart : (i j : ℕ) (x : Key) → slice_get keys i ≡ Some x → slice_get keys j ≡ Some x → i ≡ j

abbrev pub AreKeyed : FlatProgram → List ℕ → Keyed → Type 0
AreKeyed p ns k = AreKeyedBy p ns k.labels.keys k.keys.items (map (λ l. l.items) k.lists.items)
