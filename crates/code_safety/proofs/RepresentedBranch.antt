-- What a machine stands for is kept by the get and put groups.
use Rattle.std.proofs.Common.{◌≡◌, ℕ, suc, ◌≤◌, Bool, true, false, List, ◌++◌, map, length, Some, refl, sym, ◌∙◌, subst, inl, inr, ℤ}
use Rattle.std.proofs.lemmas.Option.{same_Some}
use Rattle.fd_language.specs.declared.TheConstants.{INFINITY}
use Rattle.fd_language.specs.Range.{Indexical}
use Rattle.fd_model.specs.Goal.{Branch}
use Rattle.term_pool.specs.declared.AtomId.{AtomId}
use Rattle.heap_cells.specs.declared.Cell.{Cell}
use Rattle.heap_cells.specs.declared.Cell.TheVariants as cell
use Rattle.heap_cells.specs.Cells.{Cells, with_new_slot}
use Rattle.heap_cells.specs.Terms.{Naming}
use Rattle.branch_meaning.specs.Store.{posts}
use Rattle.branch_lemmas.specs.Frames.{store_touches}
use Rattle.branch_lemmas.proofs.Lemmas.{model_wider}
use Rattle.branch_state.specs.States as branch
use Rattle.branch_state.specs.States.{with_heap}
use Rattle.wam_code.specs.declared.instruction.Register.{Register}
use Rattle.wam_code.specs.declared.instruction.Register.TheVariants.{X}
use Rattle.wam_code.specs.declared.instruction.Code.TheVariants.{GetVariable, GetValue, GetConstant, GetInteger, PutVariable, PutValue, PutConstant, PutInteger}
use Rattle.wam_code.specs.Area.{Area, Holds}
use Rattle.code_areas.specs.Areas.{cell_at, Contents}
use Rattle.code_meaning.specs.Registers.{cell_in, IsWritten}
use Rattle.code_meaning.specs.StateMeaning.{Stands}
use Rattle.code_meaning.specs.Steps.{GoesOnEqual}
use Rattle.code_meaning.proofs.Lemmas.{stands_no_model, step_get_variable, step_get_value, step_get_constant, step_get_integer, step_put_variable}
use Rattle.code_meaning.proofs.Lemmas.{step_put_value, step_put_constant, step_put_integer}
use Rattle.code_safety.specs.Machine.{saved_of, registers_of, stack_of, IsSameBehind}
use Rattle.code_safety.specs.Safety.{IsSafe}
use Rattle.code_safety.specs.RepresentedBranch.{IsNaming, StandsForBranch, StandsThen, KeepsStanding, went_by}
use Rattle.code_safety.specs.declared.instruction_outcomes.Went.TheVariants.{On}
use Rattle.code_safety.specs.CellEquations.{Equates}

module _ (area : Area) (s : branch.State) (at : ℕ) (c : Contents) where
  abbrev h : Cells
  h = s.heaps.now

  abbrev qs : List Indexical
  qs = s.levels.current.posted

  abbrev Goes : ℕ → List ℕ → List ℕ → Naming → Branch → Cell → Cell → Type 0
  Goes N marks shown name b d e = GoesOnEqual INFINITY N marks area shown name h qs (suc at) (registers_of c) (stack_of c) b d e

  -- other cells in the same registers
  same_goes : (N : ℕ) (small : N ≤ INFINITY) (marks : List ℕ) (shown : List ℕ) (name : Naming) (b : Branch) (d e d' e' : Cell) → d ≡ d' → e ≡ e'
      → Goes N marks shown name b d e → Goes N marks shown name b d' e'
  same_goes N small marks shown name b d e d' e' i j g = subst (λ x. Goes N marks shown name b x e') i (subst (λ y. Goes N marks shown name b d y) j g)

  -- the continuations are the same
  moved : (N : ℕ) (small : N ≤ INFINITY) (marks : List ℕ) (shown : List ℕ) (name : Naming) (b : Branch) (s' : branch.State) (to : ℕ) (c' : Contents)
      → IsSameBehind c c' → Stands INFINITY N marks area shown name s'.heaps.now s'.levels.current.posted to (registers_of c') (stack_of c) b
      → StandsForBranch N marks area shown name s' to c' b
  moved N small marks shown name b s' to c' same m = subst
      (λ rs. Stands INFINITY N marks area shown name s'.heaps.now s'.levels.current.posted to (registers_of c') (map saved_of rs) b) (sym same.returns) m

  -- two cells were made equal, or can't be
  equal_stands : (N : ℕ) (small : N ≤ INFINITY) (marks : List ℕ) (shown : List ℕ) (name : Naming) (b : Branch) → IsNaming area name → (d e : Cell)
      → Goes N marks shown name b d e → (s' : branch.State) (equal : Bool) → Equates s d e s' equal
      → StandsThen N marks area shown name s' c (went_by at equal) b
  equal_stands N small marks shown name b n d e g s' true q =
      subst (λ ps. Stands INFINITY N marks area shown name s'.heaps.now ps (suc at) (registers_of c) (stack_of c) b) (sym q.posted) (g.unified s'.heaps.now q.touches (q.unified name) q.size)
  equal_stands N small marks shown name b n d e g s' false q = elim q.0 [
    | inl un ↦ g.refuted (un name n.apart)
    | inr gone ↦ stands_no_model INFINITY N marks area shown name gone.now (qs ++ posts (store_touches gone.touches)) (suc at) (registers_of c) (stack_of c) b
        (g.unified gone.now gone.touches (gone.unified name) gone.size)
        (λ T m. gone.none T (model_wider INFINITY N (qs ++ posts (store_touches gone.touches)) small T m))
  ]

  pub get_variable_stands : (r : Register) (a : ℕ) → Holds area at (GetVariable r a) → (c' : Contents) (d : Cell) → cell_at c.registers a ≡ Some d
      → IsWritten (registers_of c) r d (registers_of c') → IsSameBehind c c' → KeepsStanding area s at c s c' (On (suc at))
  get_variable_stands r a holds c' d here w same N small marks shown name b n m =
      let k = step_get_variable INFINITY N marks area shown name h qs at (registers_of c) (stack_of c) b m r a holds in
      moved N small marks shown name b s (suc at) c' same (k.3 (registers_of c') (subst (λ e. IsWritten (registers_of c) r e (registers_of c')) (same_Some d k.0 (sym here ∙ k.1)) w))

  pub get_value_stands : (r : Register) (a : ℕ) → Holds area at (GetValue r a) → (d e : Cell) → cell_at c.registers a ≡ Some d
      → cell_in (registers_of c) r ≡ Some e → (s' : branch.State) (equal : Bool) → Equates s d e s' equal → KeepsStanding area s at c s' c (went_by at equal)
  get_value_stands r a holds d e at_d at_e s' equal q N small marks shown name b n m =
      let k = step_get_value INFINITY N marks area shown name h qs at (registers_of c) (stack_of c) b m r a holds in
      equal_stands N small marks shown name b n d e (same_goes N small marks shown name b k.0 k.1 d e (same_Some k.0 d (sym k.2 ∙ at_d)) (same_Some k.1 e (sym k.3 ∙ at_e)) k.6) s' equal q

  pub get_constant_stands : IsSafe area s at 0 c → (i : AtomId) (a : ℕ) → Holds area at (GetConstant i a) → (d : Cell) → cell_at c.registers a ≡ Some d
      → (s' : branch.State) (equal : Bool) → Equates s d (cell.Atom i) s' equal → KeepsStanding area s at c s' c (went_by at equal)
  get_constant_stands safe i a holds d at_d s' equal q N small marks shown name b n m =
      let k = step_get_constant INFINITY N marks area shown name h qs at (registers_of c) (stack_of c) b m safe.sound.now.valid i a holds (n.same i (safe.verified.there at (GetConstant i a) holds)) in
      equal_stands N small marks shown name b n d (cell.Atom i) (same_goes N small marks shown name b k.0 (cell.Atom i) d (cell.Atom i) (same_Some k.0 d (sym k.1 ∙ at_d)) refl k.3) s' equal q

  pub get_integer_stands : IsSafe area s at 0 c → (z : ℤ) (a : ℕ) → Holds area at (GetInteger z a) → (d : Cell) → cell_at c.registers a ≡ Some d
      → (s' : branch.State) (equal : Bool) → Equates s d (cell.Int z) s' equal → KeepsStanding area s at c s' c (went_by at equal)
  get_integer_stands safe z a holds d at_d s' equal q N small marks shown name b n m =
      let k = step_get_integer INFINITY N marks area shown name h qs at (registers_of c) (stack_of c) b m safe.sound.now.valid z a holds in
      equal_stands N small marks shown name b n d (cell.Int z) (same_goes N small marks shown name b k.0 (cell.Int z) d (cell.Int z) (same_Some k.0 d (sym k.1 ∙ at_d)) refl k.3) s' equal q

  pub put_value_stands : (r : Register) (a : ℕ) → Holds area at (PutValue r a) → (c' : Contents) (d : Cell) → cell_in (registers_of c) r ≡ Some d
      → IsWritten (registers_of c) (X a) d (registers_of c') → IsSameBehind c c' → KeepsStanding area s at c s c' (On (suc at))
  put_value_stands r a holds c' d here w same N small marks shown name b n m =
      let k = step_put_value INFINITY N marks area shown name h qs at (registers_of c) (stack_of c) b m r a holds in
      moved N small marks shown name b s (suc at) c' same (k.3 (registers_of c') (subst (λ e. IsWritten (registers_of c) (X a) e (registers_of c')) (same_Some d k.0 (sym here ∙ k.1)) w))

  pub put_constant_stands : IsSafe area s at 0 c → (i : AtomId) (a : ℕ) → Holds area at (PutConstant i a) → (c' : Contents)
      → IsWritten (registers_of c) (X a) (cell.Atom i) (registers_of c') → IsSameBehind c c' → KeepsStanding area s at c s c' (On (suc at))
  put_constant_stands safe i a holds c' w same N small marks shown name b n m =
      moved N small marks shown name b s (suc at) c' same
      (step_put_constant INFINITY N marks area shown name h qs at (registers_of c) (stack_of c) b m safe.sound.now.valid i a holds
      (n.same i (safe.verified.there at (PutConstant i a) holds)) (registers_of c') w)

  pub put_integer_stands : IsSafe area s at 0 c → (z : ℤ) (a : ℕ) → Holds area at (PutInteger z a) → (c' : Contents)
      → IsWritten (registers_of c) (X a) (cell.Int z) (registers_of c') → IsSameBehind c c' → KeepsStanding area s at c s c' (On (suc at))
  put_integer_stands safe z a holds c' w same N small marks shown name b n m =
      moved N small marks shown name b s (suc at) c' same
      (step_put_integer INFINITY N marks area shown name h qs at (registers_of c) (stack_of c) b m safe.sound.now.valid z a holds (registers_of c') w)

  pub put_variable_stands : IsSafe area s at 0 c → (r : Register) (a : ℕ) → Holds area at (PutVariable r a) → (s' : branch.State)
      → s' ≡ with_heap s (with_new_slot h) → (d : Cell) → d ≡ cell.Ref (length h.slots) → (c' c'' : Contents)
      → IsWritten (registers_of c) r d (registers_of c') → IsSameBehind c c' → IsWritten (registers_of c') (X a) d (registers_of c'') → IsSameBehind c' c''
      → KeepsStanding area s at c s' c'' (On (suc at))
  put_variable_stands safe r a holds s' added d is c' c'' w same w' same' N small marks shown name b n m =
      let one = subst (λ e. IsWritten (registers_of c) r e (registers_of c')) is w in
      let two = subst (λ e. IsWritten (registers_of c') (X a) e (registers_of c'')) is w' in
      let k = step_put_variable INFINITY N marks area shown name h qs at (registers_of c) (stack_of c) b m safe.sound.now.valid r a holds (registers_of c') (registers_of c'') one two in
      let both : IsSameBehind c c'' = record { returns = same'.returns ∙ same.returns; points = same'.points ∙ same.points } in
      moved N small marks shown name b s' (suc at) c'' both
      (subst (λ (t : branch.State). Stands INFINITY N marks area shown name t.heaps.now t.levels.current.posted (suc at) (registers_of c'') (stack_of c) b)
      (sym added) k)
