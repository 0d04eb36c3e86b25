-- Terms that are built, and the arguments of goals and heads.
use Rattle.std.proofs.Common.{◌≡◌, ℕ, suc, ◌+◌, ◌<◌, ◌≤◌, Bool, true, false, List, ◌∷◌, ◌++◌, Some, length, refl, ap, sym, ◌∙◌, subst, arith, inl, inr}
use Rattle.std.proofs.lemmas.Bool.{cases_eq}
use Rattle.fd_language.proofs.Lemmas.{first_member}
use Rattle.fd_language.specs.Family.{has}
use Rattle.fd_language.specs.Term.{Name, Term, Terms, Var, Int, Atom, Comp, no_terms, term, term_count}
use Rattle.fd_language.specs.Unifier.{Equation}
use Rattle.fd_model.specs.Children.{paired}
use Rattle.term_pool.specs.declared.AtomId.{AtomId}
use Rattle.term_pool.specs.Contents.{atom_name}
use Rattle.wam_code.specs.declared.instruction.Register.{Register}
use Rattle.wam_code.specs.declared.instruction.Register.TheVariants.{X}
use Rattle.wam_code.specs.declared.instruction.Code.{Code}
use Rattle.wam_code.specs.declared.instruction.Code.TheVariants.{PutStructure}
use Rattle.wam_code.specs.Area.{State}
use Rattle.wam_code.specs.Effect.{with_set, with_owed}
use Rattle.wam_code.specs.Places.{Places, write, without, Hold}
use Rattle.clause_code.specs.Pieces.{Base, past}
use Rattle.clause_code.specs.Steps.{Step, put_structure, marked_by_all, code_of, atom_of, compounds, parts, build, builds, put, puts, get, gets, HasAtom, Suits}
use Rattle.clause_code.specs.Steps.{AllSuit}
use Rattle.clause_code.specs.ArgumentHomes.{AllWait, Lands, AllLand}
use Rattle.wam_code.proofs.Lemmas.{put_here, put_else}
use Rattle.clause_code.proofs.Pieces.{equation, does_put_structure}
use Rattle.clause_code.proofs.FreshVariables.{drop_else, has_more, Clear, clear_spared, AreApart, Unknown}
use Rattle.clause_code.proofs.NestedStructures.{EachUnder, under_more}
use Rattle.clause_code.proofs.HeadStructures.{reading_went}
use Rattle.clause_code.proofs.StepEffects.{plain_of, moved, moved_all, count_moved, AllMade, At, Went, WentBy, went_nothing, went_steps}
use Rattle.clause_code.proofs.PreservedRegisters.{get_spared}
use Rattle.clause_code.proofs.SingleSteps.{at_wrote, at_owed, at_without, went_get_variable, went_get_constant, went_get_integer, Put, put_variable_step}
use Rattle.clause_code.proofs.SingleSteps.{put_constant_step, put_integer_step, InRegisters, registers_kept, parts_gave}

module _ (b : Base) (n : ℕ) (homes : List Register) (apart : AreApart homes) where
  -- steps that put a term into the register r, by way of registers from `free` on
  abbrev pub PutBy : ℕ → ℕ → List Bool → ℕ → Places → State → List Equation → List Step → Term → Type 0
  PutBy r free made at p s es ss t = Put b n homes apart r free made at (code_of homes made ss) p s es (marked_by_all made ss) t

  -- steps after which the compound ones of the terms are in the registers from j on
  pub record BuiltBy (j : ℕ) (made : List Bool) (at : ℕ) (p : Places) (s : State) (es : List Equation) (ss : List Step) (ts : Terms) : Type 0 where
    pub went : WentBy b n homes j j made at p s es ss es
    pub there : InRegisters b n homes apart went.q went.t j ts

  -- a structure is put, whose compound arguments are there
  close : (made : List Bool) (at r free : ℕ) (f : Name) (us : Terms) (p : Places) (s : State) (es : List Equation) → At n homes made p s → s.owed ≡ 0
      → HasAtom b.pool f → AllSuit b.pool (length homes) us → Clear homes r → r < free → ((i : ℕ) → free ≤ i → Clear homes i)
      → InRegisters b n homes apart p s free us → PutBy r free made at p s es (put_structure (atom_of b.pool f) (term_count us) r ∷ parts b.pool false free us) (Comp f (moved_all n us))
  close made at r free f us p s es w o h su c l cs g =
      let a : AtomId = atom_of b.pool f in
      let u : State = with_owed (with_set s (X r)) (term_count us) in
      let wr : At n homes made (write p (X r) (Atom f)) (with_set s (X r)) = at_wrote b n homes apart made p s w r (Atom f) c in
      let dropped : At n homes made (without p r) s = at_without b n homes apart made p s w r c in
      let w0 : At n homes made (without p r) (with_set s (X r)) = record { fits = dropped.fits; tracks = wr.tracks; long = w.long } in
      let w1 : At n homes made (without p r) u = at_owed b n homes apart made (without p r) (with_set s (X r)) w0 (term_count us) in
      let g1 : InRegisters b n homes apart (without p r) u free us = registers_kept b n homes apart p (without p r) s u free us
      (λ i m k. drop_else r p.x i (λ e. omega (arith, e, m, l))) (λ i e. has_more r i s.regs e) g in
      let v = parts_gave b n homes apart made (suc at) free us (without p r) u w1 su refl g1 cs in
      let t : Term = Comp (atom_name b.pool a) (moved_all n us) in
      let is : List Code = code_of homes made (parts b.pool false free us) in
      let end : At n homes (marked_by_all made (parts b.pool false free us)) (write v.q (X r) t) (with_set v.t (X r)) = at_wrote b n homes apart
      (marked_by_all made (parts b.pool false free us)) v.q v.t v.there r t c in record {
        went = record {
          q = write v.q (X r) t;
          t = v.t;
          does = λ gs. does_put_structure b at a (term_count us) r is (moved_all n us) p v.q es gs (count_moved n us) v.parts;
          runs = (u, plain_of b (PutStructure a (term_count us) r) s o, refl, h.within, v.runs);
          there = record { fits = end.fits; tracks = v.there.tracks; long = v.there.long };
          owed = v.owed;
          keeps = record {
            xs = λ i d m e. put_else r t v.q.x i e ∙ v.xs i d ∙ drop_else r p.x i e;
            regs = λ i e. v.regs i (has_more r i s.regs e);
            frame = v.frame;
            shape = v.shape;
            more = v.more;
            depths = record { levels = v.depths.levels; noted = v.depths.noted };
            slots = v.slots;
            grown = record { top = v.grown.top; unknown = v.grown.unknown };
          };
        };
        here = put_here r t v.q.x ∙ ap (λ x. Some (Comp x (moved_all n us))) h.name;
        set = v.regs r (first_member r s.regs);
      }

  -- and its compound arguments before it
  closed : (made : List Bool) (at r free : ℕ) (f : Name) (us : Terms) (p : Places) (s : State) (es : List Equation) → HasAtom b.pool f
      → AllSuit b.pool (length homes) us → Clear homes r → r < free → ((i : ℕ) → free ≤ i → Clear homes i)
      → BuiltBy free made at p s es (builds b.pool free (free + compounds us) us) us → PutBy r free made at p s es (build b.pool r free (Comp f us)) (Comp f (moved_all n us))
  closed made at r free f us p s es h su c l cs a =
      let inner : List Step = builds b.pool free (free + compounds us) us in
      let one : List Step = put_structure (atom_of b.pool f) (term_count us) r ∷ parts b.pool false free us in
      let z = close (marked_by_all made inner) (past at (code_of homes made inner)) r free f us a.went.q a.went.t es a.went.there a.went.owed h su c l cs a.there in
      let v = went_steps b n homes r free free free r free made at inner one p s es es es (omega arith) (inr (omega arith)) (omega arith) (inl refl) a.went z.went in
      record { went = v.0; here = ap (λ (x : Places). x.x r) v.1 ∙ z.here; set = ap (λ (x : State). has x.regs r) v.2 ∙ z.set }

  builds_put : (made : List Bool) (at j free : ℕ) (ts : Terms) (p : Places) (s : State) (es : List Equation) → At n homes made p s → s.owed ≡ 0
      → AllSuit b.pool (length homes) ts → j + compounds ts ≤ free → ((i : ℕ) → j ≤ i → Clear homes i)
      → BuiltBy j made at p s es (builds b.pool j free ts) ts
  builds_put made at j free no_terms p s es w o su l cs = record { went = went_nothing b n homes j j made at p s es w o; there = tt }
  builds_put made at j free (term (Var x) ts) p s es w o su l cs = let a = builds_put made at j free ts p s es w o su.1 l cs in record { went = a.went; there = a.there }
  builds_put made at j free (term (Int z) ts) p s es w o su l cs = let a = builds_put made at j free ts p s es w o su.1 l cs in record { went = a.went; there = a.there }
  builds_put made at j free (term (Atom k) ts) p s es w o su l cs = let a = builds_put made at j free ts p s es w o su.1 l cs in record { went = a.went; there = a.there }
  builds_put made at j free (term (Comp f us) ts) p s es w o su l cs =
      let others : List Step = builds b.pool (suc j) free ts in
      let one : List Step = build b.pool j free (Comp f us) in
      let a = builds_put made at (suc j) free ts p s es w o su.1 (omega (arith, l)) (λ i m. cs i (omega (arith, m))) in
      let clear : (i : ℕ) → free ≤ i → Clear homes i = λ i m. cs i (omega (arith, m, l)) in
      let inside = builds_put (marked_by_all made others) (past at (code_of homes made others)) free (free + compounds us) us a.went.q a.went.t es a.went.there
      a.went.owed su.0.3 (omega arith) clear in
      let z = closed (marked_by_all made others) (past at (code_of homes made others)) j free f us a.went.q a.went.t es su.0.0 su.0.3 (cs j (omega arith)) (omega (arith, l)) clear inside in
      let v = went_steps b n homes j j (suc j) (suc j) j free made at others one p s es es es (omega arith) (inr (omega arith)) (omega (arith, l)) (inl refl) a.went z.went in
      let kept : InRegisters b n homes apart z.went.q z.went.t (suc j) ts =
      registers_kept b n homes apart a.went.q z.went.q a.went.t z.went.t (suc j) ts
      (λ i m k. z.went.keeps.xs i (clear_spared homes (marked_by_all made others) (marked_by_all (marked_by_all made others) one) i
      (cs i (omega (arith, m)))) (omega (arith, k, l)) (λ e. omega (arith, e, m))) z.went.keeps.regs a.there in
      record {
        went = v.0;
        there = subst (λ x. InRegisters b n homes apart x v.0.t j (term (Comp f us) ts)) (sym v.1)
            (subst (λ x. InRegisters b n homes apart z.went.q x j (term (Comp f us) ts)) (sym v.2) (z.here, z.set, kept));
      }

  -- a compound term is put
  pub build_put : (made : List Bool) (at r free : ℕ) (f : Name) (us : Terms) (p : Places) (s : State) (es : List Equation) → At n homes made p s → s.owed ≡ 0
      → HasAtom b.pool f → AllSuit b.pool (length homes) us → Clear homes r → r < free → ((i : ℕ) → free ≤ i → Clear homes i)
      → PutBy r free made at p s es (build b.pool r free (Comp f us)) (Comp f (moved_all n us))
  build_put made at r free f us p s es w o h su c l cs = closed made at r free f us p s es h su c l cs (builds_put made at free (free + compounds us) us p s es w o su (omega arith) cs)

  -- ---- the arguments of a goal

  -- any term is put
  pub put_put : (made : List Bool) (at r free : ℕ) (t : Term) (p : Places) (s : State) (es : List Equation) → At n homes made p s → s.owed ≡ 0
      → Suits b.pool (length homes) t → AllMade homes made → Lands homes r t → r < free → ((i : ℕ) → free ≤ i → Clear homes i)
      → PutBy r free made at p s es (put b.pool r free t) (moved n t)
  put_put made at r free (Var x) p s es w o su all c l cs = put_variable_step b n homes apart made at x r free p s es w o su (all x su) c
  put_put made at r free (Int z) p s es w o su all c l cs = put_integer_step b n homes apart made at z r free p s es w o (λ x m h. let e : Int z ≡ Var x = c x m h in absurd (cc))
  put_put made at r free (Atom a) p s es w o su all c l cs =
      let h : HasAtom b.pool a = su in
      let z = put_constant_step b n homes apart made at (atom_of b.pool a) r free p s es w o h.within (λ x m h. let e : Atom a ≡ Var x = c x m h in absurd (cc)) in
      record { went = z.went; here = z.here ∙ ap (λ x. Some (Atom x)) h.name; set = z.set }
  put_put made at r free (Comp f us) p s es w o su all c l cs = build_put made at r free f us p s es w o su.0 su.3 (λ x m h. let e : Comp f us ≡ Var x = c x m h in absurd (cc)) l cs

  -- steps after which the registers from i on hold the terms
  pub record PutAllBy (i : ℕ) (made : List Bool) (at : ℕ) (p : Places) (s : State) (es : List Equation) (ss : List Step) (ts : Terms) : Type 0 where
    pub went : WentBy b n homes i i made at p s es ss es
    pub hold : Hold went.q i (moved_all n ts)
    pub set : (j : ℕ) → i ≤ j → j < i + term_count ts → has went.t.regs j ≡ true

  pub puts_put : (made : List Bool) (at i free : ℕ) (ts : Terms) (p : Places) (s : State) (es : List Equation) → At n homes made p s → s.owed ≡ 0
      → AllSuit b.pool (length homes) ts → i + term_count ts ≤ free
      → AllMade homes made → AllLand homes i ts → ((j : ℕ) → free ≤ j → Clear homes j) → PutAllBy i made at p s es (puts b.pool i free ts) ts
  puts_put made at i free no_terms p s es w o su l all ca cs = record { went = went_nothing b n homes i i made at p s es w o; hold = tt; set = λ j m k. absurd (omega (arith, m, k)) }
  puts_put made at i free (term t ts) p s es w o su l all ca cs =
      let one : List Step = put b.pool i free t in
      let others : List Step = puts b.pool (suc i) free ts in
      let a = put_put made at i free t p s es w o su.0 all ca.0 (omega (arith, l)) cs in
      let still : AllMade homes (marked_by_all made one) = λ x m. a.went.keeps.more x m (all x m) in
      let z = puts_put (marked_by_all made one) (past at (code_of homes made one)) (suc i) free ts a.went.q a.went.t es a.went.there a.went.owed su.1 (omega (arith, l)) still ca.1 cs in
      let v = went_steps b n homes i i i free (suc i) (suc i) made at one others p s es es es (omega (arith, l)) (inl refl) (omega arith) (inr (omega arith)) a.went z.went in
      let here : z.went.q.x i ≡ Some (moved n t) = z.went.keeps.xs i (λ x m h e. still x m) (omega arith) (λ e. omega (arith, e)) ∙ a.here in
      record {
        went = v.0;
        hold = subst (λ x. Hold x i (moved_all n (term t ts))) (sym v.1) (here, z.hold);
        set = subst (λ (x : State). (j : ℕ) → i ≤ j → j < i + term_count (term t ts) → has x.regs j ≡ true) (sym v.2) (λ j m k. elim (cases_eq j i) [
          | inl e ↦ subst (λ y. has z.went.t.regs y ≡ true) (sym e) (z.went.keeps.regs i a.set)
          | inr d ↦ z.set j (omega (arith, m, d)) (omega (arith, k))
        ]);
      }

  -- ---- the arguments of a head

  -- the argument registers from i on are cells
  abbrev pub AreCells : State → ℕ → Terms → Type 0
  AreCells s i ts = (j : ℕ) → i ≤ j → j < i + term_count ts → has s.regs j ≡ true

  pub get_went : (made : List Bool) (at i free : ℕ) (t a : Term) (p : Places) (s : State) (es : List Equation) → At n homes made p s → s.owed ≡ 0
      → Suits b.pool (length homes) t → i < free → ((j : ℕ) → free ≤ j → Clear homes j)
      → Unknown p → EachUnder p.top (equation a (moved n t) ∷ es) → p.x i ≡ Some a → has s.regs i ≡ true → WentBy b n homes free free made at p s (equation a (moved n t) ∷ es) (get b.pool i free t) es
  get_went made at i free (Var x) a p s es w o su l cs un sc e g = went_get_variable b n homes apart made at x i a p s es w o su e g free
  get_went made at i free (Int z) a p s es w o su l cs un sc e g = went_get_integer b n homes apart made at z i a p s es w o e g free
  get_went made at i free (Atom k) a p s es w o su l cs un sc e g =
      let h : HasAtom b.pool k = su in
      subst (λ x. Went b n homes free free made at (code_of homes made (get b.pool i free (Atom k))) p s (equation a (Atom x) ∷ es) made es) h.name
      (went_get_constant b n homes apart made at (atom_of b.pool k) i a p s es w o h.within e g free)
  get_went made at i free (Comp f us) a p s es w o su l cs un sc e g = reading_went b n homes apart made at i free f us a p s es w o su.0 su.3 l cs un sc e g

  hold_kept : (p q : Places) (i : ℕ) (ts : Terms) → ((j : ℕ) → i ≤ j → j < i + term_count ts → q.x j ≡ p.x j) → Hold p i ts → Hold q i ts
  hold_kept p q i no_terms h g = tt
  hold_kept p q i (term t ts) h g = (h i (omega arith) (omega arith) ∙ g.0, hold_kept p q (suc i) ts (λ j l m. h j (omega (arith, l)) (omega (arith, m))) g.1)

  pub gets_went : (made : List Bool) (at i free : ℕ) (ts as' : Terms) (p : Places) (s : State) (es : List Equation) → At n homes made p s → s.owed ≡ 0
      → AllSuit b.pool (length homes) ts → term_count as' ≡ term_count ts → i + term_count ts ≤ free
      → (last : ℕ) → i + term_count ts ≤ suc last → AllWait homes i last ts → ((j : ℕ) → free ≤ j → Clear homes j) → Unknown p
      → EachUnder p.top (paired as' (moved_all n ts) ++ es) → Hold p i as' → AreCells s i ts
      → WentBy b n homes free free made at p s (paired as' (moved_all n ts) ++ es) (gets b.pool i free ts) es
  gets_went made at i free no_terms no_terms p s es w o su k l last up ca cs un sc h g = went_nothing b n homes free free made at p s es w o
  gets_went made at i free no_terms (term a as') p s es w o su k l last up ca cs un sc h g = absurd (omega (arith, k))
  gets_went made at i free (term t ts) no_terms p s es w o su k l last up ca cs un sc h g = absurd (omega (arith, k))
  gets_went made at i free (term t ts) (term a as') p s es w o su k l last up ca cs un sc h g =
      let one : List Step = get b.pool i free t in
      let others : List Step = gets b.pool (suc i) free ts in
      let later : List Equation = paired as' (moved_all n ts) ++ es in
      let x = get_went made at i free t a p s later w o su.0 (omega (arith, l)) cs un sc h.0 (g i (omega arith) (omega arith)) in
      let kept : Hold x.q (suc i) as' = hold_kept p x.q (suc i) as'
      (λ j m y. x.keeps.xs j (get_spared homes b.pool j made i last free t (omega (arith, m)) (omega (arith, y, k, up)) ca.0) (omega (arith, y, l, k))
      (λ e. omega (arith, e, y, l, k))) h.1 in
      let z = gets_went (marked_by_all made one) (past at (code_of homes made one)) (suc i) free ts as' x.q x.t es x.there x.owed su.1 (omega (arith, k))
      (omega (arith, l)) last (omega (arith, up)) ca.1 cs (x.keeps.grown.unknown un) (under_more p.top x.q.top later x.keeps.grown.top sc.1) kept
      (λ j m y. x.keeps.regs j (g j (omega (arith, m)) (omega (arith, y)))) in
      (went_steps b n homes free free free free free free made at one others p s (equation a (moved n t) ∷ later) later es (omega arith) (inl refl) (omega arith) (inl refl) x z).0
