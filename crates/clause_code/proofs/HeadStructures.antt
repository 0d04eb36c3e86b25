-- Structures of a head that are read in place, one behind the other.
use Rattle.std.proofs.Common.{◌≡◌, ℕ, suc, ◌+◌, ◌-◌, ◌<◌, ◌≤◌, Bool, true, false, IsTrue, if◌then◌else◌, List, [], ◌∷◌, ◌++◌, Some, length, slice_set, refl}
use Rattle.std.proofs.Common.{sym, ◌∙◌, subst, arith, inl, inr}
use Rattle.std.proofs.lemmas.Bool.{true≢false}
use Rattle.fd_language.proofs.Lemmas.{first_member}
use Rattle.fd_language.specs.Family.{has}
use Rattle.fd_language.specs.Term.{Name, Term, Terms, Var, Int, Atom, Comp, no_terms, term, term_count}
use Rattle.fd_language.specs.Unifier.{Equation}
use Rattle.fd_model.specs.Goal.{Goal}
use Rattle.term_pool.specs.declared.AtomId.{AtomId}
use Rattle.wam_code.specs.declared.instruction.Register.{Register}
use Rattle.wam_code.specs.declared.instruction.Register.TheVariants.{X, Y}
use Rattle.wam_code.specs.declared.instruction.Code.{Code}
use Rattle.wam_code.specs.declared.instruction.Code.TheVariants.{GetStructure, UnifyVariable, UnifyValue, UnifyConstant, UnifyInteger}
use Rattle.wam_code.specs.Area.{State}
use Rattle.wam_code.specs.Effect.{has_frame, with_set, with_owed, effect}
use Rattle.wam_code.specs.Places.{Places, write, learn}
use Rattle.clause_code.specs.Pieces.{Base, past, Does, Parts}
use Rattle.clause_code.specs.SafeCode.{unplaced, IsThereIn}
use Rattle.clause_code.specs.StateFlow.{is_simple, Runs}
use Rattle.clause_code.specs.Steps.{Step, get_structure, unify_variable, home, is_made, marked_by_all, code_of, atom_of, compounds, parts, reading, readings}
use Rattle.clause_code.specs.Steps.{HasAtom, AllSuit}
use Rattle.wam_code.proofs.Lemmas.{put_here, put_else}
use Rattle.clause_code.proofs.Pieces.{equation, does_both, no_parts, part_variable, part_value, part_constant, part_integer, does_get_structure}
use Rattle.clause_code.proofs.Homes.{learnt_else, write_top}
use Rattle.clause_code.proofs.FreshVariables.{has_more, regs_more, Clear, Spared, Grows, clear_spared, AreApart, fits_own, tracks_set, tracks_owed, KeepsDepths}
use Rattle.clause_code.proofs.FreshVariables.{depths_same, depths_both, Unknown, KeepsSlots, slots_set}
use Rattle.clause_code.proofs.NestedStructures.{opened, behind_opened, inner_equations, count_opened, behind_least, EachUnder, under_more, inner_under}
use Rattle.clause_code.proofs.NestedStructures.{inner_rest, does_open}
use Rattle.clause_code.proofs.StepEffects.{when_true, plain_of, owing_of, owed_of_set, x_of_written, moved_all, count_moved, AllMade, At, WentBy, went_nothing}
use Rattle.clause_code.proofs.StepEffects.{went_steps}
use Rattle.clause_code.proofs.SingleSteps.{shape_of_set, at_made, at_owed, more_made, made_depths, made_grown, other_home, Unified, unified_same}

-- with so many variables
abbrev with_top : Places → ℕ → Places
with_top p top = record p { top = top }

top_written : (p : Places) (v : ℕ) (r : Register) (t : Term) (top : ℕ) → with_top (write (learn p v) r t) top ≡ write (learn (with_top p top) v) r t
top_written p v (X i) t top = refl
top_written p v (Y i) t top = refl

-- The registers from j on, one for each compound term, hold the variables from m on.
abbrev AreOpened : Places → State → ℕ → ℕ → Terms → Type 0
AreOpened p s j m no_terms = Unit {0}
AreOpened p s j m (term (Var x) ts) = AreOpened p s j m ts
AreOpened p s j m (term (Int z) ts) = AreOpened p s j m ts
AreOpened p s j m (term (Atom a) ts) = AreOpened p s j m ts
AreOpened p s j m (term (Comp f us) ts) = (p.x j ≡ Some (Var m)) × (has s.regs j ≡ true) × AreOpened p s (suc j) (suc m) ts

module _ (b : Base) (n : ℕ) (homes : List Register) (apart : AreApart homes) where
  -- ---- the arguments of a structure

  -- The instructions give the terms with variables from m on for the compound ones, which the registers from j on get, also where there are more variables.
  record Opened (j m : ℕ) (made : List Bool) (at : ℕ) (is : List Code) (p : Places) (s : State) (ts : Terms) (later : List Bool) : Type 0 where
    q : Places
    t : State
    parts : (top : ℕ) → q.top ≤ top → Parts b at is (with_top p top) (opened m (moved_all n ts)) (with_top q top)
    runs : Runs b s is t
    there : At n homes later q t
    owed : t.owed ≡ 0
    xs : (i : ℕ) → Spared homes made later i → i < j → q.x i ≡ p.x i
    regs : (i : ℕ) → has s.regs i ≡ true → has t.regs i ≡ true
    frame : AllMade homes made → t.frame ≡ s.frame
    shape : has_frame t.frame ≡ has_frame s.frame
    more : Grows homes made later
    depths : KeepsDepths homes p q
    slots : KeepsSlots homes s t
    top : q.top ≡ behind_opened m (moved_all n ts)
    unknown : Unknown q
    held : AreOpened q t j m ts

  -- an argument that is not compound, in front of the others
  after_part : (j m : ℕ) (made mid later : List Bool) (at : ℕ) (i : Code) (is : List Code) (x : Term) (ts : Terms) (p q : Places) (s u : State)
      → Unified b n homes apart made p s mid q u → effect (unplaced b) i s ≡ Some u → IsTrue (is_simple i) → IsThereIn b i
      → (g : Opened j m mid (suc at) is q u ts later) → ((top : ℕ) → g.q.top ≤ top → Parts b at (i ∷ is) (with_top p top) (opened m (moved_all n (term x ts))) (with_top g.q top))
      → behind_opened m (moved_all n (term x ts)) ≡ behind_opened m (moved_all n ts) → (AreOpened g.q g.t j m ts → AreOpened g.q g.t j m (term x ts))
      → Opened j m made at (i ∷ is) p s (term x ts) later
  after_part j m made mid later at i is x ts p q s u k e simple there g f same held = record {
    q = g.q;
    t = g.t;
    parts = f;
    runs = (u, e, simple, there, g.runs);
    there = g.there;
    owed = g.owed;
    xs = λ r c l. g.xs r (λ x l h e. k.more x l (c x l h e)) l ∙ k.xs r (λ x l h e. c x l h (g.more x l e));
    regs = λ r h. g.regs r (k.regs r h);
    frame = λ a. g.frame (λ x l. k.more x l (a x l)) ∙ k.frame a;
    shape = g.shape ∙ k.shape;
    more = λ x l e. g.more x l (k.more x l e);
    depths = depths_both homes p q g.q k.depths g.depths;
    slots = λ r c. g.slots r c ∙ k.slots r c;
    top = g.top ∙ sym same;
    unknown = g.unknown;
    held = held g.held;
  }

  variable_opened : (j m : ℕ) (made : List Bool) (at x : ℕ) (ss : List Step) (ts : Terms) (p : Places) (s : State) (k : ℕ) → At n homes made p s → x < length homes → s.owed ≡ suc k → p.top ≡ m
      → ((mid : List Bool) (q : Places) (u : State) → Unified b n homes apart made p s mid q u → q.top ≡ m → Opened j m mid (suc at) (code_of homes mid ss) q u ts (marked_by_all mid ss))
      → Opened j m made at (code_of homes made (unify_variable x ∷ ss)) p s (term (Var x) ts) (marked_by_all made (unify_variable x ∷ ss))
  variable_opened j m made at x ss ts p s k w l o tp rest = by (is_made made x) refl
    where
      by : (f : Bool) → is_made made x ≡ f
          → Opened j m made at ((if f then UnifyValue (home homes x) ∷ [] else UnifyVariable (home homes x) ∷ [])
          ++ code_of homes (if f then made else slice_set made x true) ss) p s (term (Var x) ts)
          (marked_by_all (if f then made else slice_set made x true) ss)
      by true e =
          let u : State = with_owed s (s.owed - 1) in
          let same = unified_same b n homes apart made p s w in
          let g = rest made p u same tp in
          after_part j m made made (marked_by_all made ss) at (UnifyValue (home homes x)) (code_of homes made ss) (Var x) ts p p s u same
          (owing_of b (UnifyValue (home homes x)) s k o ∙ when_true _ u (w.tracks.set x l e)) refl tt g
          (λ top h. part_value b at (home homes x) (Var (n + x)) (code_of homes made ss) (opened m (moved_all n ts)) (with_top p top) (with_top g.q top) (w.fits.held x l e) (g.parts top h))
          refl (λ a. a)
      by false e =
          let mid : List Bool = slice_set made x true in
          let r : Register = home homes x in
          let q : Places = write (learn p (n + x)) (home homes x) (Var (n + x)) in
          let u : State = with_set (with_owed s (s.owed - 1)) (home homes x) in
          let fresh = w.fits.fresh x l e in
          let step : Unified b n homes apart made p s mid q u = record {
            there = at_made b n homes apart made p (with_owed s (s.owed - 1)) (at_owed b n homes apart made p s w (s.owed - 1)) x l e;
            owed = owed_of_set (with_owed s (s.owed - 1)) (home homes x);
            xs = λ i c. x_of_written (learn p (n + x)) (home homes x) (Var (n + x)) i (other_home b n homes apart made x i l w.long e c);
            regs = λ i h. regs_more (with_owed s (s.owed - 1)) (home homes x) i h;
            frame = λ a. absurd (true≢false (sym (a x l) ∙ e));
            shape = shape_of_set (with_owed s (s.owed - 1)) (home homes x);
            more = more_made b n homes apart made x l w.long;
            depths = made_depths b n homes apart p x l;
            slots = slots_set homes (with_owed s (s.owed - 1)) x l;
            grown = made_grown b n homes apart p x fresh;
          } in
          let g = rest mid q u step (write_top (learn p (n + x)) r (Var (n + x)) ∙ tp) in
          after_part j m made mid (marked_by_all mid ss) at (UnifyVariable (home homes x)) (code_of homes mid ss) (Var x) ts p q s u step
          (owing_of b (UnifyVariable (home homes x)) s k o ∙ when_true _ u (w.tracks.free x l e)) refl tt g
          (λ top h.
          let last = g.top in
          let least = behind_least m (moved_all n ts) in
          let low = fresh.1 in
          part_variable b at r (n + x) (code_of homes mid ss) (opened m (moved_all n ts)) (with_top p top) (with_top g.q top) (fresh.0, omega (arith, last, least, low, tp, h))
          (subst (λ z. Parts b (suc at) (code_of homes mid ss) z (opened m (moved_all n ts)) (with_top g.q top)) (top_written p (n + x) r (Var (n + x)) top) (g.parts top h)))
          refl (λ a. a)

  opened_gave : (made : List Bool) (at j m : ℕ) (ts : Terms) (p : Places) (s : State) → At n homes made p s → AllSuit b.pool (length homes) ts
      → s.owed ≡ term_count ts → p.top ≡ m → Unknown p → ((i : ℕ) → j ≤ i → Clear homes i)
      → Opened j m made at (code_of homes made (parts b.pool true j ts)) p s ts (marked_by_all made (parts b.pool true j ts))
  opened_gave made at j m no_terms p s w o e tp un c = record {
    q = p;
    t = s;
    parts = λ top l. no_parts b at (with_top p top);
    runs = refl;
    there = w;
    owed = e;
    xs = λ i c l. refl;
    regs = λ i h. h;
    frame = λ a. refl;
    shape = refl;
    more = λ y m h. h;
    depths = depths_same homes p;
    slots = λ k c. refl;
    top = tp;
    unknown = un;
    held = tt;
  }
  opened_gave made at j m (term (Var x) ts) p s w o e tp un c = variable_opened j m made at x (parts b.pool true j ts) ts p s (term_count ts) w o.0 e tp (λ mid q u k same.
      opened_gave mid (suc at) j m ts q u k.there o.1 (k.owed ∙ omega (arith, e)) same (k.grown.unknown un) c)
  opened_gave made at j m (term (Int z) ts) p s w o e tp un c =
      let u : State = with_owed s (s.owed - 1) in
      let k : Unified b n homes apart made p s made p u = unified_same b n homes apart made p s w in
      let left : u.owed ≡ term_count ts = omega (arith, e) in
      let is : List Code = code_of homes made (parts b.pool true j ts) in
      let g = opened_gave made (suc at) j m ts p u k.there o.1 left tp un c in
      after_part j m made made (marked_by_all made (parts b.pool true j ts)) at (UnifyInteger z) is (Int z) ts p p s u k (owing_of b (UnifyInteger z) s (term_count ts) e) refl tt g
      (λ top h. part_integer b at z is (opened m (moved_all n ts)) (with_top p top) (with_top g.q top) (g.parts top h))
      refl (λ a. a)
  opened_gave made at j m (term (Atom a) ts) p s w o e tp un c =
      let u : State = with_owed s (s.owed - 1) in
      let k : Unified b n homes apart made p s made p u = unified_same b n homes apart made p s w in
      let left : u.owed ≡ term_count ts = omega (arith, e) in
      let is : List Code = code_of homes made (parts b.pool true j ts) in
      let h : HasAtom b.pool a = o.0 in
      let g = opened_gave made (suc at) j m ts p u k.there o.1 left tp un c in
      after_part j m made made (marked_by_all made (parts b.pool true j ts)) at (UnifyConstant (atom_of b.pool a)) is (Atom a) ts p p s u k
      (owing_of b (UnifyConstant (atom_of b.pool a)) s (term_count ts) e) refl h.within g
      (λ top l. subst (λ x. Parts b at (UnifyConstant (atom_of b.pool a) ∷ is) (with_top p top) (term (Atom x) (opened m (moved_all n ts))) (with_top g.q top)) h.name
      (part_constant b at (atom_of b.pool a) is (opened m (moved_all n ts)) (with_top p top) (with_top g.q top) (g.parts top l)))
      refl (λ a. a)
  opened_gave made at j m (term (Comp f us) ts) p s w o e tp un c =
      let u : State = with_set (with_owed s (s.owed - 1)) (X j) in
      let q : Places = write (learn (with_top p (suc m)) m) (X j) (Var m) in
      let left : u.owed ≡ term_count ts = omega (arith, e) in
      let is : List Code = code_of homes made (parts b.pool true (suc j) ts) in
      let later : List Bool = marked_by_all made (parts b.pool true (suc j) ts) in
      let clear : Clear homes j = c j (omega arith) in
      let there : At n homes made q u = record {
        fits = fits_own n homes made p w.fits j m tp clear;
        tracks = tracks_set homes made (with_owed s (s.owed - 1)) (tracks_owed homes made s w.tracks (s.owed - 1)) j clear;
        long = w.long;
      } in
      let unknown : Unknown q = λ v l. learnt_else m v p.known (λ y. omega (arith, y, l)) ∙ un v (omega (arith, l, tp)) in
      let g = opened_gave made (suc at) (suc j) (suc m) ts q u there o.1 left refl unknown (λ i l. c i (omega (arith, l))) in
      record {
        q = g.q;
        t = g.t;
        parts = λ top h.
            let last = g.top in
            let least = behind_least (suc m) (moved_all n ts) in
            part_variable b at (X j) m is (opened (suc m) (moved_all n ts)) (with_top p top) (with_top g.q top) (un m (omega (arith, tp)), omega (arith, last, least, h)) (g.parts top h);
        runs = (u, owing_of b (UnifyVariable (X j)) s (term_count ts) e, refl, tt, g.runs);
        there = g.there;
        owed = g.owed;
        xs = λ i sp l. g.xs i sp (omega (arith, l)) ∙ put_else j (Var m) p.x i (λ y. omega (arith, y, l));
        regs = λ i h. g.regs i (has_more j i s.regs h);
        frame = g.frame;
        shape = g.shape;
        more = g.more;
        depths = record { levels = g.depths.levels; noted = g.depths.noted };
        slots = g.slots;
        top = g.top;
        unknown = g.unknown;
        held = (g.xs j (clear_spared homes made later j clear) (omega arith) ∙ put_here j (Var m) p.x, g.regs j (first_member j s.regs), g.held);
      }

  -- ---- a structure

  -- It is read, and its compound arguments are still to be.
  record Taken (made : List Bool) (at r free : ℕ) (f : Name) (us : Terms) (a : Term) (p : Places) (s : State) (es : List Equation) : Type 0 where
    went : WentBy b n homes free free made at p s (equation a (Comp f (moved_all n us)) ∷ es)
        (get_structure (atom_of b.pool f) (term_count us) r ∷ parts b.pool true free us) (inner_equations p.top (moved_all n us) es)
    held : AreOpened went.q went.t free p.top us
    top : went.q.top ≡ behind_opened p.top (moved_all n us)

  taken : (made : List Bool) (at r free : ℕ) (f : Name) (us : Terms) (a : Term) (p : Places) (s : State) (es : List Equation) → At n homes made p s → s.owed ≡ 0
      → HasAtom b.pool f → AllSuit b.pool (length homes) us → r < free → ((i : ℕ) → free ≤ i → Clear homes i)
      → Unknown p → EachUnder p.top (equation a (Comp f (moved_all n us)) ∷ es) → p.x r ≡ Some a → has s.regs r ≡ true → Taken made at r free f us a p s es
  taken made at r free f us a p s es w o h su l cs un sc e g =
      let k : AtomId = atom_of b.pool f in
      let u : State = with_owed s (term_count us) in
      let v = opened_gave made (suc at) free p.top us p u (at_owed b n homes apart made p s w (term_count us)) su refl refl un cs in
      let is : List Code = code_of homes made (parts b.pool true free us) in
      let ts : Terms = moved_all n us in
      let all : Places = with_top p v.q.top in
      let later : List Equation = inner_equations p.top ts es in
      let whole : List Equation = equation a (Comp f ts) ∷ es in
      let split : List Equation = equation a (Comp f (opened p.top ts)) ∷ later in
      let code : List Code = GetStructure k (term_count us) r ∷ is in
      let first : (gs : List Goal) → Does b at [] p whole gs all split gs = λ gs. subst (λ z. Does b at [] p whole gs (with_top p z) split gs) (sym v.top) (does_open b at a f gs ts p es un sc) in
      let last : (gs : List Goal) → Does b at code all split gs v.q later gs = λ gs.
      subst (λ x. Does b at code all (equation a (Comp x (opened p.top ts)) ∷ later) gs v.q later gs) h.name
      (does_get_structure b at k (term_count us) r is a (opened p.top ts) all v.q later gs e (count_opened p.top ts ∙ count_moved n us) (v.parts v.q.top (omega arith))) in
      record {
        went = record {
          q = v.q;
          t = v.t;
          does = λ gs. does_both b at [] code p all v.q whole split later gs gs gs (first gs) (last gs);
          runs = (u, plain_of b (GetStructure k (term_count us) r) s o ∙ when_true _ u g, refl, h.within, v.runs);
          there = v.there;
          owed = v.owed;
          keeps = record {
            xs = λ i c m d. v.xs i c m;
            regs = v.regs;
            frame = v.frame;
            shape = v.shape;
            more = v.more;
            depths = v.depths;
            slots = v.slots;
            grown = record { top = let y = v.top in let m = behind_least p.top ts in omega (arith, y, m); unknown = λ x. v.unknown };
          };
        };
        held = v.held;
        top = v.top;
      }

  -- The compound ones of the terms can be read from the registers from j on, where these hold the variables from m on.
  abbrev CanRead : Terms → Type 0
  CanRead ts =
      (made : List Bool) (at j free m : ℕ) (p : Places) (s : State) (es : List Equation) → At n homes made p s → s.owed ≡ 0 → AllSuit b.pool (length homes) ts
      → j + compounds ts ≤ free → ((i : ℕ) → j ≤ i → Clear homes i)
      → Unknown p → EachUnder p.top (inner_equations m (moved_all n ts) es) → AreOpened p s j m ts
      → WentBy b n homes free free made at p s (inner_equations m (moved_all n ts) es) (readings b.pool j free ts) es

  structure_went : (us : Terms) → CanRead us → (made : List Bool) (at r free : ℕ) (f : Name) (a : Term) (p : Places) (s : State) (es : List Equation)
      → At n homes made p s → s.owed ≡ 0 → HasAtom b.pool f → AllSuit b.pool (length homes) us → r < free → ((i : ℕ) → free ≤ i → Clear homes i)
      → Unknown p → EachUnder p.top (equation a (Comp f (moved_all n us)) ∷ es) → p.x r ≡ Some a → has s.regs r ≡ true
      → WentBy b n homes free free made at p s (equation a (Comp f (moved_all n us)) ∷ es) (reading b.pool r free (Comp f us)) es
  structure_went us inner made at r free f a p s es w o h su l cs un sc e g =
      let x = taken made at r free f us a p s es w o h su l cs un sc e g in
      let one : List Step = get_structure (atom_of b.pool f) (term_count us) r ∷ parts b.pool true free us in
      let next : ℕ = free + compounds us in
      let ts : Terms = moved_all n us in
      let later : List Equation = inner_equations p.top ts es in
      let under : EachUnder x.went.q.top later = subst (λ y. EachUnder y later) (sym x.top) (inner_under p.top ts es sc.0.1 sc.1) in
      let z = inner (marked_by_all made one) (past at (code_of homes made one)) free next p.top x.went.q x.went.t es x.went.there x.went.owed su (omega arith)
      cs (x.went.keeps.grown.unknown un) under x.held in
      (went_steps b n homes free free free free next next made at one (readings b.pool free next us) p s (equation a (Comp f ts) ∷ es) later es (omega arith)
      (inl refl) (omega arith) (inr (omega arith)) x.went z).0

  readings_went : (ts : Terms) → CanRead ts
  readings_went no_terms made at j free m p s es w o su l cs un sc g = went_nothing b n homes free free made at p s es w o
  readings_went (term (Var x) ts) made at j free m p s es w o su l cs un sc g = readings_went ts made at j free m p s es w o su.1 l cs un sc g
  readings_went (term (Int z) ts) made at j free m p s es w o su l cs un sc g = readings_went ts made at j free m p s es w o su.1 l cs un sc g
  readings_went (term (Atom k) ts) made at j free m p s es w o su l cs un sc g = readings_went ts made at j free m p s es w o su.1 l cs un sc g
  readings_went (term (Comp f us) ts) made at j free m p s es w o su l cs un sc g =
      let others : List Step = readings b.pool (suc j) free ts in
      let one : List Step = reading b.pool j free (Comp f us) in
      let mid : List Equation = equation (Var m) (Comp f (moved_all n us)) ∷ es in
      let later : List Bool = marked_by_all made others in
      let x = readings_went ts made at (suc j) free (suc m) p s mid w o su.1 (omega (arith, l)) (λ i y. cs i (omega (arith, y))) un sc g.2 in
      let here : x.q.x j ≡ Some (Var m) = x.keeps.xs j (clear_spared homes made later j (cs j (omega arith))) (omega (arith, l)) (λ y. omega (arith, y, l)) ∙ g.0 in
      let under : EachUnder x.q.top mid = under_more p.top x.q.top mid x.keeps.grown.top (inner_rest p.top (suc m) (moved_all n ts) mid sc) in
      let z = structure_went us (readings_went us) later (past at (code_of homes made others)) j free f (Var m) x.q x.t es x.there x.owed su.0.0 su.0.3
      (omega (arith, l)) (λ i y. cs i (omega (arith, y, l))) (x.keeps.grown.unknown un) under here (x.keeps.regs j g.1) in
      (went_steps b n homes free free free free free free made at others one p s (inner_equations (suc m) (moved_all n ts) mid) mid es (omega arith) (inl refl) (omega arith) (inl refl) x z).0

  -- A structure that a register has is read, with all its parts.
  pub reading_went : (made : List Bool) (at r free : ℕ) (f : Name) (us : Terms) (a : Term) (p : Places) (s : State) (es : List Equation) → At n homes made p s
      → s.owed ≡ 0 → HasAtom b.pool f → AllSuit b.pool (length homes) us → r < free → ((i : ℕ) → free ≤ i → Clear homes i)
      → Unknown p → EachUnder p.top (equation a (Comp f (moved_all n us)) ∷ es) → p.x r ≡ Some a → has s.regs r ≡ true
      → WentBy b n homes free free made at p s (equation a (Comp f (moved_all n us)) ∷ es) (reading b.pool r free (Comp f us)) es
  reading_went made at r free f us a p s es w o h su l cs un sc e g = structure_went us (readings_went us) made at r free f a p s es w o h su l cs un sc e g
