-- What the first argument of a clause's head shows.
use Rattle.std.specs.Prelude.{ℕ, Bool, true, leb, ◌&&◌, if◌then◌else◌, List, ◌∷◌, filter, length, Option, Some, None, is_some}
use Rattle.std.specs.List.{list_any, list_all}
use Rattle.term_pool.specs.declared.TermId.{TermId}
use Rattle.term_pool.specs.Contents.{Contents, Shape, var, int, atom, comp, shape_at}
use Rattle.clause_check.specs.Programs.{FlatProgram, clause_at}
use Rattle.wam_code.specs.declared.instruction.Key.{Key}
use Rattle.wam_code.specs.declared.instruction.Key.TheVariants as key
use Rattle.wam_code.specs.VerifiedCode.{is_atom, is_int, is_struct}
use Rattle.clause_compiler.specs.declared.keys.Kind.{Kind}
use Rattle.clause_compiler.specs.declared.keys.Kind.TheVariants as kind

-- the key of a term by its shape; a variable has none, nor has a structure with too many arguments
abbrev pub shape_key : Shape → Option Key
shape_key (var x) = None
shape_key (int z) = Some (key.Int z)
shape_key (atom a) = Some (key.Atom a)
shape_key (comp f ts) = if leb (length ts) 255 then Some (key.Struct f (length ts)) else None

abbrev pub some_key : Option Shape → Option Key
some_key None = None
some_key (Some s) = shape_key s

abbrev pub term_key : Contents → TermId → Option Key
term_key c t = some_key (shape_at c t)

-- that of the first argument
abbrev pub argument_key : Contents → Option Shape → Option Key
argument_key c (Some (comp f (t ∷ ts))) = term_key c t
argument_key c _ = None

-- of a clause's head
abbrev pub key_of : FlatProgram → ℕ → Option Key
key_of p n = argument_key p.pool (shape_at p.pool (clause_at p n).head)

-- ---- kinds

abbrev pub of_kind : Kind → Key → Bool
of_kind kind.Atom k = is_atom k
of_kind kind.Integer k = is_int k
of_kind kind.Structure k = is_struct k

-- a first argument of the kind may fit where the key stands
abbrev pub may_be : Kind → Option Key → Bool
may_be k None = true
may_be k (Some x) = of_kind k x

-- the clauses that it may fit, by their numbers
abbrev pub kind_numbers : FlatProgram → Kind → List ℕ → List ℕ
kind_numbers p k ns = filter (λ n. may_be k (key_of p n)) ns

-- ---- what is told apart

-- the first argument tells clauses of so many arguments apart: there are two or more, and in one of them it has a key
abbrev pub is_switched : FlatProgram → ℕ → List ℕ → Bool
is_switched p arity ns = leb 1 arity && (leb 2 (length ns) && list_any (λ n. is_some (key_of p n)) ns)

-- in each of them it has a key
abbrev pub have_keys : FlatProgram → List ℕ → Bool
have_keys p ns = list_all (λ n. is_some (key_of p n)) ns

-- its key tells them apart: there are two or more, and in each of them it has one
abbrev pub is_tabled : FlatProgram → List ℕ → Bool
is_tabled p ns = leb 2 (length ns) && have_keys p ns
