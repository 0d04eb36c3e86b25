-- Single steps, and the arguments of a structure.
use Rattle.std.proofs.Common.{◌≡◌, ℕ, suc, ℤ, ◌+◌, ◌-◌, ◌<◌, ◌≤◌, Bool, true, false, IsTrue, if◌then◌else◌, List, [], ◌∷◌, ◌++◌, Option, Some, None, option_map}
use Rattle.std.proofs.Common.{length, slice_set, refl, ap, sym, ◌∙◌, subst, arith, eq-eqb, length-set}
use Rattle.std.proofs.lemmas.Bool.{true≢false}
use Rattle.std.proofs.lemmas.Bool.Decides.{nat_tests}
use Rattle.fd_language.proofs.Lemmas.{first_member}
use Rattle.fd_language.specs.Family.{has}
use Rattle.fd_language.specs.Term.{Term, Terms, Var, Int, Atom, Comp, no_terms, term, term_count}
use Rattle.fd_language.specs.Unifier.{Equation}
use Rattle.term_pool.specs.declared.AtomId.{AtomId}
use Rattle.term_pool.specs.Contents.{atom_name}
use Rattle.wam_code.specs.declared.instruction.Register.{Register}
use Rattle.wam_code.specs.declared.instruction.Register.TheVariants.{X, Y}
use Rattle.wam_code.specs.declared.instruction.Code.{Code}
use Rattle.wam_code.specs.declared.instruction.Code.TheVariants.{GetVariable, GetValue, GetConstant, GetInteger, UnifyVariable, UnifyValue, UnifyConstant}
use Rattle.wam_code.specs.declared.instruction.Code.TheVariants.{UnifyInteger, PutVariable, PutValue, PutConstant, PutInteger}
use Rattle.wam_code.specs.Area.{Slot, State}
use Rattle.wam_code.specs.Effect.{has_frame, with_cell, is_set, is_free, with_set, with_owed, effect}
use Rattle.wam_code.specs.Places.{Places, read, write, learn, without, IsFresh}
use Rattle.clause_code.specs.Pieces.{Base, Does, Parts}
use Rattle.clause_code.specs.SafeCode.{unplaced, IsThereIn}
use Rattle.clause_code.specs.StateFlow.{is_simple}
use Rattle.clause_code.specs.Steps.{Step, get_variable, unify_variable, put_variable, home, is_made, marked, marked_by_all, is_register, move_in, move_out}
use Rattle.clause_code.specs.Steps.{code_of, atom_of, compounds, parts, HasAtom, AllSuit}
use Rattle.clause_code.specs.ArgumentHomes.{Lands}
use Rattle.wam_code.proofs.Lemmas.{put_here, put_else}
use Rattle.clause_code.proofs.Pieces.{equation, does_nothing, does_learn, does_get_variable, does_get_value, does_get_constant, does_get_integer, no_parts}
use Rattle.clause_code.proofs.Pieces.{part_variable, part_value, part_constant, part_integer, does_put_variable, does_put_value, does_put_constant}
use Rattle.clause_code.proofs.Pieces.{does_put_integer}
use Rattle.clause_code.proofs.FreshVariables.{has_more, regs_more, made_here, made_still, Clear, Spared, Grows, clear_spared, AreApart, fits_made, fits_wrote}
use Rattle.clause_code.proofs.FreshVariables.{fits_without, tracks_made, tracks_stays, tracks_set, tracks_owed, KeepsDepths, depths_same, depths_both}
use Rattle.clause_code.proofs.FreshVariables.{depths_written, Grown, grown_same, grown_both, grown_learnt, KeepsSlots, slots_set}
use Rattle.clause_code.proofs.StepEffects.{when_true, both, plain_of, owing_of, owed_of_set, x_of_written, moved_all, AllMade, At, Keeps, Went, Gave}

pub register_is : (r : Register) (a : ℕ) → is_register r a ≡ true → r ≡ X a
register_is (X i) a h = let e : i ≡ a = grind (arith, nat_tests) in ap X e
register_is (Y i) a h = absurd (true≢false (sym h))

pub register_at : (r : Register) (a : ℕ) → r ≡ X a → is_register r a ≡ true
register_at r a e = ap (λ z. is_register z a) e ∙ eq-eqb a a refl

pub shape_of_set : (s : State) (r : Register) → has_frame (with_set s r).frame ≡ has_frame s.frame
shape_of_set s (X i) = refl
shape_of_set s (Y i) = by s.frame
  where
    by : (o : Option (List Slot)) → has_frame (option_map (with_cell i) o) ≡ has_frame o
    by None = refl
    by (Some ss) = refl

module _ (b : Base) (n : ℕ) (homes : List Register) (apart : AreApart homes) where
  pub at_made : (made : List Bool) (p : Places) (s : State) → At n homes made p s → (x : ℕ) → x < length homes → is_made made x ≡ false
      → At n homes (slice_set made x true) (write (learn p (n + x)) (home homes x) (Var (n + x))) (with_set s (home homes x))
  at_made made p s a x l e = record { fits = fits_made n homes made p apart a.long a.fits x l e; tracks = tracks_made homes made s apart a.long a.tracks x l e; long = length-set made x true ∙ a.long }

  at_stays : (made : List Bool) (p : Places) (s : State) → At n homes made p s → (x : ℕ) → x < length homes → is_made made x ≡ false
      → is_set s (home homes x) ≡ true → At n homes (slice_set made x true) (write (learn p (n + x)) (home homes x) (Var (n + x))) s
  at_stays made p s a x l e there = record {
    fits = fits_made n homes made p apart a.long a.fits x l e;
    tracks = tracks_stays homes made s apart a.long a.tracks x l there;
    long = length-set made x true ∙ a.long;
  }

  pub at_wrote : (made : List Bool) (p : Places) (s : State) → At n homes made p s → (i : ℕ) (t : Term) → Clear homes i → At n homes made (write p (X i) t) (with_set s (X i))
  at_wrote made p s a i t c = record { fits = fits_wrote n homes made p a.fits i t c; tracks = tracks_set homes made s a.tracks i c; long = a.long }

  pub at_owed : (made : List Bool) (p : Places) (s : State) → At n homes made p s → (k : ℕ) → At n homes made p (with_owed s k)
  at_owed made p s a k = record { fits = a.fits; tracks = tracks_owed homes made s a.tracks k; long = a.long }

  pub at_without : (made : List Bool) (p : Places) (s : State) → At n homes made p s → (i : ℕ) → Clear homes i → At n homes made (without p i) s
  at_without made p s a i c = record { fits = fits_without n homes made p a.fits i c; tracks = a.tracks; long = a.long }

  pub more_made : (made : List Bool) (x : ℕ) → x < length homes → length made ≡ length homes → Grows homes made (slice_set made x true)
  more_made made x l e y m h = made_still made x y (subst (λ k. x < k) (sym e) l) h

  -- the depths are kept where a variable is made
  pub made_depths : (p : Places) (x : ℕ) → x < length homes → KeepsDepths homes p (write (learn p (n + x)) (home homes x) (Var (n + x)))
  made_depths p x l = let k = depths_written homes (learn p (n + x)) x (Var (n + x)) l in record { levels = k.levels; noted = k.noted }

  -- no fewer variables are there
  pub made_grown : (p : Places) (x : ℕ) → IsFresh p (n + x) → Grown p (write (learn p (n + x)) (home homes x) (Var (n + x)))
  made_grown p x f = grown_learnt p (home homes x) (n + x) (Var (n + x)) f.1

  -- a spared register is not the home of a variable that is made now
  pub other_home : (made : List Bool) (x i : ℕ) → x < length homes → length made ≡ length homes → is_made made x ≡ false → Spared homes made (slice_set made x true) i → home homes x ≡ X i → ⊥
  other_home made x i l long e c h = true≢false (sym (c x l h (made_here made x (subst (λ k. x < k) (sym long) l))) ∙ e)

  -- ---- a head's argument

  pub went_get_variable : (made : List Bool) (at x a : ℕ) (t : Term) (p : Places) (s : State) (es : List Equation) → At n homes made p s → s.owed ≡ 0
      → x < length homes → p.x a ≡ Some t → has s.regs a ≡ true → (free : ℕ)
      → Went b n homes free free made at (code_of homes made (get_variable x a ∷ [])) p s (equation t (Var (n + x)) ∷ es) (marked made x) es
  went_get_variable made at x a t p s es w o l h g free = by (is_made made x) refl
    where
      r : Register
      r = home homes x

      -- the variable is made: it stays in the register, or moves to its home
      first : (d : Bool) → is_register r a ≡ d → is_made made x ≡ false
          → Went b n homes free free made at ((if d then [] else GetVariable r a ∷ []) ++ []) p s (equation t (Var (n + x)) ∷ es) (slice_set made x true) es
      first true f e =
          let same : r ≡ X a = register_is r a f in record {
            q = write (learn p (n + x)) r (Var (n + x));
            t = s;
            does = λ gs. subst (λ z. Does b at [] p (equation t (Var (n + x)) ∷ es) gs (write (learn p (n + x)) z (Var (n + x))) es gs) (sym same)
                (does_learn b at a (n + x) t p es gs (w.fits.fresh x l e) h);
            runs = refl;
            there = at_stays made p s w x l e (subst (λ z. is_set s z ≡ true) (sym same) g);
            owed = o;
            keeps = record {
              xs = λ i c m d. x_of_written (learn p (n + x)) r (Var (n + x)) i (other_home made x i l w.long e c);
              regs = λ i f. f;
              frame = λ f. absurd (true≢false (sym (f x l) ∙ e));
              shape = refl;
              more = more_made made x l w.long;
              depths = made_depths p x l;
              slots = λ k c. refl;
              grown = made_grown p x (w.fits.fresh x l e);
            };
          }
      first false f e = record {
        q = write (learn p (n + x)) (home homes x) (Var (n + x));
        t = with_set s (home homes x);
        does = λ gs. does_get_variable b at (home homes x) a (n + x) t p es gs (w.fits.fresh x l e) h;
        runs = (
          with_set s (home homes x),
          plain_of b (GetVariable (home homes x) a) s o
              ∙ when_true _ (with_set s (home homes x)) (both (has s.regs a) (is_free s (home homes x)) g (w.tracks.free x l e)),
          refl,
          tt,
          refl,
        );
        there = at_made made p s w x l e;
        owed = owed_of_set s (home homes x) ∙ o;
        keeps = record {
          xs = λ i c m d. x_of_written (learn p (n + x)) (home homes x) (Var (n + x)) i (other_home made x i l w.long e c);
          regs = λ i f. regs_more s (home homes x) i f;
          frame = λ f. absurd (true≢false (sym (f x l) ∙ e));
          shape = shape_of_set s (home homes x);
          more = more_made made x l w.long;
          depths = made_depths p x l;
          slots = slots_set homes s x l;
          grown = made_grown p x (w.fits.fresh x l e);
        };
      }

      by : (c : Bool) → is_made made x ≡ c → Went b n homes free free made at ((if c then GetValue r a ∷ [] else move_in r a) ++ []) p s
          (equation t (Var (n + x)) ∷ es) (if c then made else slice_set made x true) es
      by true e = record {
        q = p;
        t = s;
        does = λ gs. does_get_value b at (home homes x) a (Var (n + x)) t p es gs (w.fits.held x l e) h;
        runs = (s, plain_of b (GetValue (home homes x) a) s o ∙ when_true _ s (both (has s.regs a) (is_set s (home homes x)) g (w.tracks.set x l e)), refl, tt, refl);
        there = w;
        owed = o;
        keeps = record { xs = λ i c m d. refl; regs = λ i f. f; frame = λ f. refl; shape = refl; more = λ y m h. h; depths = depths_same homes p; slots = λ k c. refl; grown = grown_same p };
      }
      by false e = first (is_register r a) refl e

  pub went_get_constant : (made : List Bool) (at : ℕ) (c : AtomId) (a : ℕ) (t : Term) (p : Places) (s : State) (es : List Equation) → At n homes made p s
      → s.owed ≡ 0 → c.number < length b.pool.names → p.x a ≡ Some t → has s.regs a ≡ true → (free : ℕ)
      → Went b n homes free free made at (GetConstant c a ∷ []) p s (equation t (Atom (atom_name b.pool c)) ∷ es) made es
  went_get_constant made at c a t p s es w o l h g free = record {
    q = p;
    t = s;
    does = λ gs. does_get_constant b at c a t p es gs h;
    runs = (s, plain_of b (GetConstant c a) s o ∙ when_true _ s g, refl, l, refl);
    there = w;
    owed = o;
    keeps = record { xs = λ i c m d. refl; regs = λ i f. f; frame = λ f. refl; shape = refl; more = λ y m h. h; depths = depths_same homes p; slots = λ k c. refl; grown = grown_same p };
  }

  pub went_get_integer : (made : List Bool) (at : ℕ) (z : ℤ) (a : ℕ) (t : Term) (p : Places) (s : State) (es : List Equation) → At n homes made p s → s.owed ≡ 0
      → p.x a ≡ Some t → has s.regs a ≡ true → (free : ℕ)
      → Went b n homes free free made at (GetInteger z a ∷ []) p s (equation t (Int z) ∷ es) made es
  went_get_integer made at z a t p s es w o h g free = record {
    q = p;
    t = s;
    does = λ gs. does_get_integer b at z a t p es gs h;
    runs = (s, plain_of b (GetInteger z a) s o ∙ when_true _ s g, refl, tt, refl);
    there = w;
    owed = o;
    keeps = record { xs = λ i c m d. refl; regs = λ i f. f; frame = λ f. refl; shape = refl; more = λ y m h. h; depths = depths_same homes p; slots = λ k c. refl; grown = grown_same p };
  }

  -- ---- a goal's argument

  wrote_keeps : (made : List Bool) (p : Places) (s : State) (r free : ℕ) (t : Term) → Keeps homes r free made made p (write p (X r) t) s (with_set s (X r))
  wrote_keeps made p s r free t = record {
    xs = λ i c m d. put_else r t p.x i d;
    regs = λ i f. has_more r i s.regs f;
    frame = λ f. refl;
    shape = refl;
    more = λ y m h. h;
    depths = record { levels = λ k c. refl; noted = refl };
    slots = λ k c. refl;
    grown = record { top = omega arith; unknown = λ u. u };
  }

  -- what a goal's argument leaves in its register
  pub record Put (r free : ℕ) (made : List Bool) (at : ℕ) (is : List Code) (p : Places) (s : State) (es : List Equation) (later : List Bool) (t : Term) : Type 0 where
    pub went : Went b n homes r free made at is p s es later es
    pub here : went.q.x r ≡ Some t
    pub set : has went.t.regs r ≡ true

  -- a variable that is made is put, unless it is there
  pub put_variable_step : (made : List Bool) (at x r free : ℕ) (p : Places) (s : State) (es : List Equation) → At n homes made p s → s.owed ≡ 0
      → x < length homes → is_made made x ≡ true → Lands homes r (Var x)
      → Put r free made at (code_of homes made (put_variable x r ∷ [])) p s es (marked made x) (Var (n + x))
  put_variable_step made at x r free p s es w o l e lands =
      subst (λ f. Put r free made at ((if f then move_out (home homes x) r else PutVariable (home homes x) r ∷ []) ++ []) p s es (if f then made else slice_set made x true) (Var (n + x))) (sym e)
      (by (is_register (home homes x) r) refl)
    where
      clear : is_register (home homes x) r ≡ false → Clear homes r
      clear f y m h =
          let t : Var x ≡ Var y = lands y m h in
          let same : x ≡ y = cc in
          true≢false (sym (register_at (home homes x) r (ap (home homes) same ∙ h)) ∙ f)

      by : (d : Bool) → is_register (home homes x) r ≡ d → Put r free made at ((if d then [] else PutValue (home homes x) r ∷ []) ++ []) p s es made (Var (n + x))
      by true f =
          let same : home homes x ≡ X r = register_is (home homes x) r f in record {
            went = record {
              q = p;
              t = s;
              does = λ gs. does_nothing b at p es gs;
              runs = refl;
              there = w;
              owed = o;
              keeps = record {
                xs = λ i c m d. refl;
                regs = λ i f. f;
                frame = λ f. refl;
                shape = refl;
                more = λ y m h. h;
                depths = depths_same homes p;
                slots = λ k c. refl;
                grown = grown_same p;
              };
            };
            here = subst (λ z. read p z ≡ Some (Var (n + x))) same (w.fits.held x l e);
            set = subst (λ z. is_set s z ≡ true) same (w.tracks.set x l e);
          }
      by false f = record {
        went = record {
          q = write p (X r) (Var (n + x));
          t = with_set s (X r);
          does = λ gs. does_put_value b at (home homes x) r (Var (n + x)) p es gs (w.fits.held x l e);
          runs = (with_set s (X r), plain_of b (PutValue (home homes x) r) s o ∙ when_true _ (with_set s (X r)) (w.tracks.set x l e), refl, tt, refl);
          there = at_wrote made p s w r (Var (n + x)) (clear f);
          owed = o;
          keeps = wrote_keeps made p s r free (Var (n + x));
        };
        here = put_here r (Var (n + x)) p.x;
        set = first_member r s.regs;
      }

  -- a variable is made
  pub put_new_step : (made : List Bool) (at x r free : ℕ) (p : Places) (s : State) (es : List Equation) → At n homes made p s → s.owed ≡ 0 → x < length homes → is_made made x ≡ false → Clear homes r
      → Put r free made at (PutVariable (home homes x) r ∷ []) p s es (slice_set made x true) (Var (n + x))
  put_new_step made at x r free p s es w o l e c =
      let mid : Places = write (learn p (n + x)) (home homes x) (Var (n + x)) in
      let u : State = with_set s (home homes x) in record {
        went = record {
          q = write mid (X r) (Var (n + x));
          t = with_set u (X r);
          does = λ gs. does_put_variable b at (home homes x) r (n + x) p es gs (w.fits.fresh x l e);
          runs = (with_set u (X r), plain_of b (PutVariable (home homes x) r) s o ∙ when_true _ (with_set u (X r)) (w.tracks.free x l e), refl, tt, refl);
          there = at_wrote (slice_set made x true) mid u (at_made made p s w x l e) r (Var (n + x)) c;
          owed = owed_of_set s (home homes x) ∙ o;
          keeps = record {
            xs = λ i c m d. put_else r (Var (n + x)) mid.x i d ∙ x_of_written (learn p (n + x)) (home homes x) (Var (n + x)) i (other_home made x i l w.long e c);
            regs = λ i f. has_more r i u.regs (regs_more s (home homes x) i f);
            frame = λ f. absurd (true≢false (sym (f x l) ∙ e));
            shape = shape_of_set s (home homes x);
            more = more_made made x l w.long;
            depths = record { levels = (made_depths p x l).levels; noted = (made_depths p x l).noted };
            slots = slots_set homes s x l;
            grown = let g = made_grown p x (w.fits.fresh x l e) in record { top = g.top; unknown = g.unknown };
          };
        };
        here = put_here r (Var (n + x)) mid.x;
        set = first_member r u.regs;
      }

  pub put_constant_step : (made : List Bool) (at : ℕ) (k : AtomId) (r free : ℕ) (p : Places) (s : State) (es : List Equation) → At n homes made p s → s.owed ≡ 0
      → k.number < length b.pool.names → Clear homes r
      → Put r free made at (PutConstant k r ∷ []) p s es made (Atom (atom_name b.pool k))
  put_constant_step made at k r free p s es w o l c = record {
    went = record {
      q = write p (X r) (Atom (atom_name b.pool k));
      t = with_set s (X r);
      does = λ gs. does_put_constant b at k r p es gs;
      runs = (with_set s (X r), plain_of b (PutConstant k r) s o, refl, l, refl);
      there = at_wrote made p s w r (Atom (atom_name b.pool k)) c;
      owed = o;
      keeps = wrote_keeps made p s r free (Atom (atom_name b.pool k));
    };
    here = put_here r (Atom (atom_name b.pool k)) p.x;
    set = first_member r s.regs;
  }

  pub put_integer_step : (made : List Bool) (at : ℕ) (z : ℤ) (r free : ℕ) (p : Places) (s : State) (es : List Equation) → At n homes made p s → s.owed ≡ 0 → Clear homes r
      → Put r free made at (PutInteger z r ∷ []) p s es made (Int z)
  put_integer_step made at z r free p s es w o c = record {
    went = record {
      q = write p (X r) (Int z);
      t = with_set s (X r);
      does = λ gs. does_put_integer b at z r p es gs;
      runs = (with_set s (X r), plain_of b (PutInteger z r) s o, refl, tt, refl);
      there = at_wrote made p s w r (Int z) c;
      owed = o;
      keeps = wrote_keeps made p s r free (Int z);
    };
    here = put_here r (Int z) p.x;
    set = first_member r s.regs;
  }

  -- ---- the arguments of a structure

  -- the compound ones of the terms are in the registers from j on
  abbrev pub InRegisters : Places → State → ℕ → Terms → Type 0
  InRegisters p s j no_terms = Unit {0}
  InRegisters p s j (term (Var x) ts) = InRegisters p s j ts
  InRegisters p s j (term (Int z) ts) = InRegisters p s j ts
  InRegisters p s j (term (Atom a) ts) = InRegisters p s j ts
  InRegisters p s j (term (Comp f us) ts) = (p.x j ≡ Some (Comp f (moved_all n us))) × (has s.regs j ≡ true) × InRegisters p s (suc j) ts

  pub registers_kept : (p q : Places) (s t : State) (j : ℕ) (ts : Terms) → ((i : ℕ) → j ≤ i → i < j + compounds ts → q.x i ≡ p.x i)
      → ((i : ℕ) → has s.regs i ≡ true → has t.regs i ≡ true) → InRegisters p s j ts → InRegisters q t j ts
  registers_kept p q s t j no_terms h g f = tt
  registers_kept p q s t j (term (Var x) ts) h g f = registers_kept p q s t j ts h g f
  registers_kept p q s t j (term (Int z) ts) h g f = registers_kept p q s t j ts h g f
  registers_kept p q s t j (term (Atom a) ts) h g f = registers_kept p q s t j ts h g f
  registers_kept p q s t j (term (Comp k us) ts) h g f = (h j (omega arith) (omega arith) ∙ f.0, g j f.1, registers_kept p q s t (suc j) ts (λ i l m. h i (omega (arith, l)) (omega (arith, m))) g f.2)

  -- a unify instruction leads from a place to the next one
  pub record Unified (made : List Bool) (p : Places) (s : State) (later : List Bool) (q : Places) (t : State) : Type 0 where
    pub there : At n homes later q t
    pub owed : t.owed ≡ s.owed - 1
    pub xs : (i : ℕ) → Spared homes made later i → q.x i ≡ p.x i
    pub regs : (i : ℕ) → has s.regs i ≡ true → has t.regs i ≡ true
    pub frame : AllMade homes made → t.frame ≡ s.frame
    pub shape : has_frame t.frame ≡ has_frame s.frame
    pub more : Grows homes made later
    pub depths : KeepsDepths homes p q
    pub slots : KeepsSlots homes s t
    pub grown : Grown p q

  pub unified_same : (made : List Bool) (p : Places) (s : State) → At n homes made p s → Unified made p s made p (with_owed s (s.owed - 1))
  unified_same made p s w = record {
    there = at_owed made p s w (s.owed - 1);
    owed = refl;
    xs = λ i c. refl;
    regs = λ i e. e;
    frame = λ f. refl;
    shape = refl;
    more = λ y m h. h;
    depths = depths_same homes p;
    slots = λ k c. refl;
    grown = grown_same p;
  }

  -- the rest of the arguments behind one
  behind : (made mid later : List Bool) (at : ℕ) (i : Code) (is : List Code) (t : Term) (ts : Terms) (p q : Places) (s u : State) → Unified made p s mid q u
      → effect (unplaced b) i s ≡ Some u → IsTrue (is_simple i) → IsThereIn b i
      → (g : Gave b n homes mid (suc at) is q u ts later) → ((w : Places) → Parts b (suc at) is q ts w → Parts b at (i ∷ is) p (term t ts) w) → Gave b n homes made at (i ∷ is) p s (term t ts) later
  behind made mid later at i is t ts p q s u k e simple there g f = record {
    q = g.q;
    t = g.t;
    parts = f g.q g.parts;
    runs = (u, e, simple, there, g.runs);
    there = g.there;
    owed = g.owed;
    xs = λ j c. g.xs j (λ x l h e. k.more x l (c x l h e)) ∙ k.xs j (λ x l h e. c x l h (g.more x l e));
    regs = λ j h. g.regs j (k.regs j h);
    frame = λ a. g.frame (λ x l. k.more x l (a x l)) ∙ k.frame a;
    shape = g.shape ∙ k.shape;
    more = λ x l e. g.more x l (k.more x l e);
    depths = depths_both homes p q g.q k.depths g.depths;
    slots = λ i c. g.slots i c ∙ k.slots i c;
    grown = grown_both p q g.q k.grown g.grown;
  }

  variable_part : (made : List Bool) (at x : ℕ) (ss : List Step) (ts : Terms) (p : Places) (s : State) (k : ℕ) → At n homes made p s → x < length homes → s.owed ≡ suc k
      → ((mid : List Bool) (q : Places) (u : State) → Unified made p s mid q u → Gave b n homes mid (suc at) (code_of homes mid ss) q u ts (marked_by_all mid ss))
      → Gave b n homes made at (code_of homes made (unify_variable x ∷ ss)) p s (term (Var (n + x)) ts) (marked_by_all made (unify_variable x ∷ ss))
  variable_part made at x ss ts p s k w l o rest = by (is_made made x) refl
    where
      by : (f : Bool) → is_made made x ≡ f
          → Gave b n homes made at ((if f then UnifyValue (home homes x) ∷ [] else UnifyVariable (home homes x) ∷ [])
          ++ code_of homes (if f then made else slice_set made x true) ss) p s (term (Var (n + x)) ts)
          (marked_by_all (if f then made else slice_set made x true) ss)
      by true e =
          let u : State = with_owed s (s.owed - 1) in
          behind made made (marked_by_all made ss) at (UnifyValue (home homes x)) (code_of homes made ss) (Var (n + x)) ts p p s u (unified_same made p s w)
          (owing_of b (UnifyValue (home homes x)) s k o ∙ when_true _ u (w.tracks.set x l e)) refl tt (rest made p u (unified_same made p s w))
          (λ v g. part_value b at (home homes x) (Var (n + x)) (code_of homes made ss) ts p v (w.fits.held x l e) g)
      by false e =
          let mid : List Bool = slice_set made x true in
          let q : Places = write (learn p (n + x)) (home homes x) (Var (n + x)) in
          let u : State = with_set (with_owed s (s.owed - 1)) (home homes x) in
          let step : Unified made p s mid q u = record {
            there = at_made made p (with_owed s (s.owed - 1)) (at_owed made p s w (s.owed - 1)) x l e;
            owed = owed_of_set (with_owed s (s.owed - 1)) (home homes x);
            xs = λ i c. x_of_written (learn p (n + x)) (home homes x) (Var (n + x)) i (other_home made x i l w.long e c);
            regs = λ i h. regs_more (with_owed s (s.owed - 1)) (home homes x) i h;
            frame = λ a. absurd (true≢false (sym (a x l) ∙ e));
            shape = shape_of_set (with_owed s (s.owed - 1)) (home homes x);
            more = more_made made x l w.long;
            depths = made_depths p x l;
            slots = slots_set homes (with_owed s (s.owed - 1)) x l;
            grown = made_grown p x (w.fits.fresh x l e);
          } in
          behind made mid (marked_by_all mid ss) at (UnifyVariable (home homes x)) (code_of homes mid ss) (Var (n + x)) ts p q s u step
          (owing_of b (UnifyVariable (home homes x)) s k o ∙ when_true _ u (w.tracks.free x l e)) refl tt (rest mid q u step)
          (λ v g. part_variable b at (home homes x) (n + x) (code_of homes mid ss) ts p v (w.fits.fresh x l e) g)

  pub parts_gave : (made : List Bool) (at j : ℕ) (ts : Terms) (p : Places) (s : State) → At n homes made p s → AllSuit b.pool (length homes) ts
      → s.owed ≡ term_count ts → InRegisters p s j ts → ((i : ℕ) → j ≤ i → Clear homes i)
      → Gave b n homes made at (code_of homes made (parts b.pool false j ts)) p s (moved_all n ts) (marked_by_all made (parts b.pool false j ts))
  parts_gave made at j no_terms p s w o e g c = record {
    q = p;
    t = s;
    parts = no_parts b at p;
    runs = refl;
    there = w;
    owed = e;
    xs = λ i c. refl;
    regs = λ i h. h;
    frame = λ a. refl;
    shape = refl;
    more = λ y m h. h;
    depths = depths_same homes p;
    slots = λ k c. refl;
    grown = grown_same p;
  }
  parts_gave made at j (term (Var x) ts) p s w o e g c = variable_part made at x (parts b.pool false j ts) (moved_all n ts) p s (term_count ts) w o.0 e (λ mid q u k.
      parts_gave mid (suc at) j ts q u k.there o.1 (k.owed ∙ omega (arith, e)) (registers_kept p q s u j ts (λ i l m. k.xs i (clear_spared homes made mid i (c i l))) k.regs g) c)
  parts_gave made at j (term (Int z) ts) p s w o e g c =
      let u : State = with_owed s (s.owed - 1) in
      let k : Unified made p s made p u = unified_same made p s w in
      let m : u.owed ≡ term_count ts = omega (arith, e) in
      let is : List Code = code_of homes made (parts b.pool false j ts) in
      behind made made (marked_by_all made (parts b.pool false j ts)) at (UnifyInteger z) is (Int z) (moved_all n ts) p p s u k (owing_of b (UnifyInteger z) s (term_count ts) e) refl tt
      (parts_gave made (suc at) j ts p u k.there o.1 m (registers_kept p p s u j ts (λ i l m. refl) k.regs g) c)
      (λ v g. part_integer b at z is (moved_all n ts) p v g)
  parts_gave made at j (term (Atom a) ts) p s w o e g c =
      let u : State = with_owed s (s.owed - 1) in
      let k : Unified made p s made p u = unified_same made p s w in
      let m : u.owed ≡ term_count ts = omega (arith, e) in
      let is : List Code = code_of homes made (parts b.pool false j ts) in
      let h : HasAtom b.pool a = o.0 in
      behind made made (marked_by_all made (parts b.pool false j ts)) at (UnifyConstant (atom_of b.pool a)) is (Atom a) (moved_all n ts) p p s u k
      (owing_of b (UnifyConstant (atom_of b.pool a)) s (term_count ts) e) refl h.within
      (parts_gave made (suc at) j ts p u k.there o.1 m (registers_kept p p s u j ts (λ i l m. refl) k.regs g) c)
      (λ v g. subst (λ x. Parts b at (UnifyConstant (atom_of b.pool a) ∷ is) p (term (Atom x) (moved_all n ts)) v) h.name (part_constant b at (atom_of b.pool a) is (moved_all n ts) p v g))
  parts_gave made at j (term (Comp f us) ts) p s w o e g c =
      let u : State = with_owed s (s.owed - 1) in
      let k : Unified made p s made p u = unified_same made p s w in
      let m : u.owed ≡ term_count ts = omega (arith, e) in
      let is : List Code = code_of homes made (parts b.pool false (suc j) ts) in
      behind made made (marked_by_all made (parts b.pool false (suc j) ts)) at (UnifyValue (X j)) is (Comp f (moved_all n us)) (moved_all n ts) p p s u k
      (owing_of b (UnifyValue (X j)) s (term_count ts) e ∙ when_true _ u g.1) refl tt
      (parts_gave made (suc at) (suc j) ts p u k.there o.1 m (registers_kept p p s u (suc j) ts (λ i l m. refl) k.regs g.2) (λ i l. c i (omega (arith, l))))
      (λ v g'. part_value b at (X j) (Comp f (moved_all n us)) is (moved_all n ts) p v g.0 g')
