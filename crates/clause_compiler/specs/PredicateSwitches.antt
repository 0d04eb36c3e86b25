-- Which predicates begin with a switch by the first argument.
use Rattle.std.specs.Prelude.{◌≡◌, ◌≢◌, ℕ, Some, slice_get}
use Rattle.fd_language.specs.Term.{Terms, Var, no_terms, term, term_count}
use Rattle.fd_model.specs.Goal.{Clause, Program}
use Rattle.wam_code.specs.declared.instruction.Code.TheVariants.{SwitchOnTerm}
use Rattle.wam_code.specs.declared.parts.Entry.{Entry}
use Rattle.wam_code.specs.Area.{Area, Holds, HasEntry, name_of}
use Rattle.wam_code.specs.Places.{made}

-- there is a first argument, and it is no variable
abbrev pub ShowsKind : Terms → Type 0
ShowsKind no_terms = ⊥
ShowsKind (term (Var x) ts) = ⊥
ShowsKind (term t ts) = Unit {0}

-- the clause with this number is one of the predicate's, and its head has these arguments
pub record IsClauseOf (a : Area) (prog : Program) (e : Entry) (n : ℕ) (ts : Terms) : Type 0 where
  pub clause : Clause
  pub there : slice_get prog.clauses n ≡ Some clause
  pub head : clause.head ≡ made (name_of a e.name) ts
  pub arity : term_count ts ≡ e.arity

-- The predicate has two clauses, and the first argument of one of them is no variable.
pub record AreToldApart (a : Area) (prog : Program) (e : Entry) : Type 0 where
  pub n : ℕ
  pub m : ℕ
  pub two : n ≢ m
  pub ts : Terms
  pub us : Terms
  pub one : IsClauseOf a prog e n ts
  pub other : IsClauseOf a prog e m us
  pub shown : ShowsKind ts

-- each such predicate begins with a switch by the kind of the first argument
abbrev pub HasSwitches : Area → Program → Type 0
HasSwitches a prog = (k : ℕ) (e : Entry) → HasEntry a k e → AreToldApart a prog e → (v : ℕ) × (c : ℕ) × (i : ℕ) × (s : ℕ) × Holds a e.at (SwitchOnTerm v c i s)
