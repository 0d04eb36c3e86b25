-- The machine's step at each choice and switch, and clauses that may be left out.
use Rattle.std.proofs.Common.{◌≡◌, ℕ, suc, List, [], ◌∷◌, ◌++◌, map, refl, ap, ◌∙◌, subst, inl, inr}
use Rattle.std.proofs.lemmas.List.{map-append}
use Rattle.fd_language.specs.Term.{Term}
use Rattle.fd_language.specs.Range.{Indexical}
use Rattle.fd_model.specs.Children.{by_clause}
use Rattle.fd_model.specs.Goal.{Clause, Branch}
use Rattle.fd_model.specs.RunnablePrograms.{ClausesScoped}
use Rattle.heap_cells.specs.Cells.{Cells}
use Rattle.heap_cells.specs.Terms.{Naming}
use Rattle.branch_lemmas.specs.FittingClauses.{AllFit}
use Rattle.wam_code.specs.declared.instruction.Code.{Code}
use Rattle.wam_code.specs.declared.instruction.Code.TheVariants.{Jump, FailNow, TryMeElse, RetryMeElse, TrustMe, Try, Retry, Trust, SwitchOnTerm}
use Rattle.wam_code.specs.declared.instruction.Code.TheVariants.{SwitchOnConstant, SwitchOnInteger, SwitchOnStructure}
use Rattle.wam_code.specs.declared.parts.Entry.{Entry}
use Rattle.wam_code.specs.Area.{Area, Holds, Table, table_at, name_of}
use Rattle.wam_code.specs.Places.{made}
use Rattle.wam_code.specs.Tries.{Shape, by_shape, Rows, Both, TryRule, Tries, IsClause}
use Rattle.wam_code.proofs.Lemmas.{at_try}
use Rattle.code_meaning.specs.Registers.{Registers, Saved, AreSame}
use Rattle.code_meaning.specs.StateMeaning.{Stands}
use Rattle.code_meaning.specs.ClauseChoices.{IsTrying, TriesBoth, HasNoRow, HasRow, IsFirst}
use Rattle.code_meaning.proofs.ClauseEntry.{enter_clause}

fit_split : (t : Term) (xs ys : List Clause) → AllFit t (xs ++ ys) → AllFit t xs × AllFit t ys
fit_split t [] ys a = (tt, a)
fit_split t (x ∷ xs) ys a = let r = fit_split t xs ys a.1 in ((a.0, r.0), r.1)

scoped_split : (xs ys : List Clause) → ClausesScoped (xs ++ ys) → ClausesScoped xs × ClausesScoped ys
scoped_split [] ys a = (tt, a)
scoped_split (x ∷ xs) ys a = let r = scoped_split xs ys a.1 in ((a.0, r.0), r.1)

row_found : (area : Area) (s : Shape) (R : ℕ → List Clause → Type 0) (rows : Table) (to : ℕ) (cs : List Clause) → HasRow area s rows to → Rows area R s rows cs → R to cs
row_found area s R [] to cs f r = absurd f
row_found area s R (row ∷ rows) to cs (inl f) (inl r) = subst (λ at. R at cs) f.1 r.1
row_found area s R (row ∷ rows) to cs (inl f) (inr r) = absurd (r.0 f.0)
row_found area s R (row ∷ rows) to cs (inr f) (inl r) = absurd (f.0 r.0)
row_found area s R (row ∷ rows) to cs (inr f) (inr r) = row_found area s R rows to cs f.1 r.1

no_row : (area : Area) (s : Shape) (R : ℕ → List Clause → Type 0) (rows : Table) (cs : List Clause) → HasNoRow area s rows → Rows area R s rows cs → cs ≡ []
no_row area s R [] cs f r = r
no_row area s R (row ∷ rows) cs f (inl r) = absurd (f.0 r.0)
no_row area s R (row ∷ rows) cs f (inr r) = no_row area s R rows cs f.1 r.1

module _ (M N : ℕ) (marks : List ℕ) (area : Area) (shown : List ℕ) (name : Naming) (h : Cells) (qs : List Indexical) (at : ℕ) (e : Entry) (c : Registers)
    (stack : List Saved) (b : Branch) (kids : List Branch) (m : IsTrying M N marks area shown name h qs at e c stack b kids) where
  abbrev t : Term
  t = made (name_of area e.name) m.calling.ts

  abbrev Next : ℕ → Type 0
  Next to = IsTrying M N marks area shown name h qs to e c stack b kids

  next : (to : ℕ) → Tries area m.shape to m.clauses → Next to
  next to k = record { noted = m.noted; calling = m.calling; shape = m.shape; shows = m.shows; clauses = m.clauses; tries = k; fit = m.fit; scoped = m.scoped; kids_are = m.kids_are }

  both : (first other : ℕ) → Both (Tries area m.shape) first other m.clauses → TriesBoth M N marks area shown name h qs first other e c stack b kids
  both first other k =
      let kid = by_clause m.noted.branches b t m.calling.rest in
      let fit = fit_split t k.0 k.1 (subst (AllFit t) k.2 m.fit) in
      let scoped = scoped_split k.0 k.1 (subst ClausesScoped k.2 m.scoped) in
      record {
        before = map kid k.0;
        behind = map kid k.1;
        now = record { noted = m.noted; calling = m.calling; shape = m.shape; shows = m.shows; clauses = k.0; tries = k.3; fit = fit.0; scoped = scoped.0; kids_are = refl };
        later = record { noted = m.noted; calling = m.calling; shape = m.shape; shows = m.shows; clauses = k.1; tries = k.4; fit = fit.1; scoped = scoped.1; kids_are = refl };
        both = m.kids_are ∙ ap (map kid) k.2 ∙ map-append kid k.0 k.1;
      }

  pub step_try_me_else : (to : ℕ) → Holds area at (TryMeElse to) → TriesBoth M N marks area shown name h qs (suc at) to e c stack b kids
  step_try_me_else to f = both (suc at) to (at_try area m.shape (TryMeElse to) at m.clauses f m.tries)

  pub step_retry_me_else : (to : ℕ) → Holds area at (RetryMeElse to) → TriesBoth M N marks area shown name h qs (suc at) to e c stack b kids
  step_retry_me_else to f = both (suc at) to (at_try area m.shape (RetryMeElse to) at m.clauses f m.tries)

  pub step_try : (to : ℕ) → Holds area at (Try to) → TriesBoth M N marks area shown name h qs to (suc at) e c stack b kids
  step_try to f = both to (suc at) (at_try area m.shape (Try to) at m.clauses f m.tries)

  pub step_retry : (to : ℕ) → Holds area at (Retry to) → TriesBoth M N marks area shown name h qs to (suc at) e c stack b kids
  step_retry to f = both to (suc at) (at_try area m.shape (Retry to) at m.clauses f m.tries)

  pub step_trust_me : Holds area at TrustMe → Next (suc at)
  step_trust_me f = next (suc at) (at_try area m.shape TrustMe at m.clauses f m.tries)

  pub step_trust : (to : ℕ) → Holds area at (Trust to) → Next to
  step_trust to f = next to (at_try area m.shape (Trust to) at m.clauses f m.tries)

  pub step_go : (to : ℕ) → Holds area at (Jump to) → Next to
  step_go to f = next to (at_try area m.shape (Jump to) at m.clauses f m.tries)

  -- nothing fits
  none : m.clauses ≡ [] → kids ≡ []
  none is = m.kids_are ∙ ap (map (by_clause m.noted.branches b t m.calling.rest)) is

  pub step_fail : Holds area at FailNow → kids ≡ []
  step_fail f = none (at_try area m.shape FailNow at m.clauses f m.tries)

  pub step_switch : (v k i s : ℕ) → Holds area at (SwitchOnTerm v k i s) → Next (by_shape m.shape v k i s)
  step_switch v k i s f = next (by_shape m.shape v k i s) (at_try area m.shape (SwitchOnTerm v k i s) at m.clauses f m.tries)

  -- a table's row decides, or nothing fits
  rows : (n : ℕ) → Rows area (Tries area m.shape) m.shape (table_at area n) m.clauses → ((to : ℕ) → HasRow area m.shape (table_at area n) to → Next to)
      × (HasNoRow area m.shape (table_at area n) → kids ≡ [])
  rows n r = (λ to f. next to (row_found area m.shape (Tries area m.shape) (table_at area n) to m.clauses f r), λ f. none (no_row area m.shape (Tries area m.shape) (table_at area n) m.clauses f r))

  pub step_constants : (n : ℕ) → Holds area at (SwitchOnConstant n) → ((to : ℕ) → HasRow area m.shape (table_at area n) to → Next to) × (HasNoRow area m.shape (table_at area n) → kids ≡ [])
  step_constants n f = rows n (at_try area m.shape (SwitchOnConstant n) at m.clauses f m.tries)

  pub step_integers : (n : ℕ) → Holds area at (SwitchOnInteger n) → ((to : ℕ) → HasRow area m.shape (table_at area n) to → Next to) × (HasNoRow area m.shape (table_at area n) → kids ≡ [])
  step_integers n f = rows n (at_try area m.shape (SwitchOnInteger n) at m.clauses f m.tries)

  pub step_structures : (n : ℕ) → Holds area at (SwitchOnStructure n) → ((to : ℕ) → HasRow area m.shape (table_at area n) to → Next to) × (HasNoRow area m.shape (table_at area n) → kids ≡ [])
  step_structures n f = rows n (at_try area m.shape (SwitchOnStructure n) at m.clauses f m.tries)

  -- Another instruction is the first one of a clause: the machine stands for its branch, which is the only one.
  one : (first : (k : Clause) × IsClause area at k × (m.clauses ≡ k ∷ [])) → (c' : Registers) → AreSame c.x c'.x → c'.noted ≡ c.noted
      → (kid : Branch) × (kids ≡ kid ∷ []) × Stands M N marks area shown name h qs at c' stack kid
  one k c' same noted =
      let fit = subst (AllFit t) k.2 m.fit in
      let scoped = subst ClausesScoped k.2 m.scoped in (
        by_clause m.noted.branches b t m.calling.rest k.0,
        m.kids_are ∙ ap (map (by_clause m.noted.branches b t m.calling.rest)) k.2,
        enter_clause M N marks m.noted area shown name h qs at e c stack b m.calling k.0 k.1 fit.0 scoped.0 c' same noted,
      )

  pub step_enter : (i : Code) → IsFirst i → Holds area at i → (c' : Registers) → AreSame c.x c'.x → c'.noted ≡ c.noted
      → (kid : Branch) × (kids ≡ kid ∷ []) × Stands M N marks area shown name h qs at c' stack kid
  step_enter i first f c' same noted = one (of_first i first (at_try area m.shape i at m.clauses f m.tries)) c' same noted
    where
      of_first : (i : Code) → IsFirst i → TryRule area (Tries area m.shape) m.shape i at m.clauses → (k : Clause) × IsClause area at k × (m.clauses ≡ k ∷ [])
      of_first (TryMeElse to) n r = absurd n
      of_first (RetryMeElse to) n r = absurd n
      of_first TrustMe n r = absurd n
      of_first (Try to) n r = absurd n
      of_first (Retry to) n r = absurd n
      of_first (Trust to) n r = absurd n
      of_first (Jump to) n r = absurd n
      of_first FailNow n r = absurd n
      of_first (SwitchOnTerm v k i s) n r = absurd n
      of_first (SwitchOnConstant k) n r = absurd n
      of_first (SwitchOnInteger k) n r = absurd n
      of_first (SwitchOnStructure k) n r = absurd n
      of_first _ n r = r
