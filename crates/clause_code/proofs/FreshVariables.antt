-- Variables that are made one after the other, in registers of their own: what is kept of the places and of the states.
use Rattle.std.proofs.Common.{◌≡◌, ℕ, zero, suc, ◌+◌, ◌<◌, ◌≤◌, Bool, true, false, ◌||◌, ◌==◌, List, [], ◌∷◌, Option, Some, None, option_map, length, slice_get}
use Rattle.std.proofs.Common.{slice_set, refl, ap, sym, ◌∙◌, subst, arith, ne_eqb, if◌then◌else◌, inl, inr, length-set, get_or-set_same, get_or-set_other}
use Rattle.std.proofs.lemmas.Bool.{cases_eq, true≢false}
use Rattle.std.proofs.lemmas.Option.{slice_get-get_or, slice_get_within}
use Rattle.fd_language.proofs.Lemmas.{first_member}
use Rattle.fd_language.specs.Family.{has}
use Rattle.fd_language.specs.Term.{Term, Var}
use Rattle.wam_code.specs.declared.instruction.Register.{Register}
use Rattle.wam_code.specs.declared.instruction.Register.TheVariants.{X, Y}
use Rattle.wam_code.specs.Area.{Slot, Cell, State}
use Rattle.wam_code.specs.Effect.{slot_at, is_unset, is_cell, with_cell, is_set, is_free, with_set, with_owed}
use Rattle.wam_code.specs.Places.{Places, drop_at, learnt, read, write, without, learn, IsFresh, IsWhole}
use Rattle.clause_code.specs.Bodies.{IsNoHome}
use Rattle.clause_code.specs.Steps.{home, is_made}
use Rattle.clause_code.proofs.Homes.{read_written, read_else, learnt_here, learnt_else, write_known, write_own, write_top}

-- ---- lists

pub get_set_same : {A : Type 0} (xs : List A) (i : ℕ) (y : A) → i < length xs → slice_get (slice_set xs i y) i ≡ Some y
get_set_same xs i y l = let m : i < length (slice_set xs i y) = subst (λ k. i < k) (sym (length-set xs i y)) l in slice_get-get_or (slice_set xs i y) i y m ∙ ap Some (get_or-set_same xs i y y l)

pub get_set_else : {A : Type 0} (xs : List A) (i j : ℕ) (y : A) → (j ≡ i → ⊥) → slice_get (slice_set xs i y) j ≡ slice_get xs j
get_set_else [] i j y h = refl
get_set_else (x ∷ xs) zero zero y h = absurd (h refl)
get_set_else (x ∷ xs) zero (suc j) y h = refl
get_set_else (x ∷ xs) (suc i) zero y h = refl
get_set_else (x ∷ xs) (suc i) (suc j) y h = get_set_else xs i j y (λ e. h (ap suc e))

pub has_more : (m n : ℕ) (rs : List ℕ) → has rs n ≡ true → has (m ∷ rs) n ≡ true
has_more m n rs e = by (m == n)
  where
    by : (b : Bool) → b || has rs n ≡ true
    by true = refl
    by false = e

-- ---- registers of states

cell_here : (o : Option (List Slot)) (n : ℕ) → is_unset (slot_at o n) ≡ true → is_cell (slot_at (option_map (with_cell n) o) n) ≡ true
cell_here None n h = absurd (true≢false (sym h))
cell_here (Some ss) zero h = absurd (true≢false (sym h))
cell_here (Some ss) (suc n) h = by (slice_get ss n) refl h
  where
    by : (o : Option Slot) → slice_get ss n ≡ o → is_unset o ≡ true → is_cell (slice_get (slice_set ss n Cell) n) ≡ true
    by None e h = absurd (true≢false (sym h))
    by (Some x) e h = ap is_cell (get_set_same ss n Cell (slice_get_within ss n x e))

slot_else : (o : Option (List Slot)) (n m : ℕ) → (m ≡ n → ⊥) → slot_at (option_map (with_cell n) o) m ≡ slot_at o m
slot_else None n m h = refl
slot_else (Some ss) n zero h = refl
slot_else (Some ss) zero (suc m) h = refl
slot_else (Some ss) (suc n) (suc m) h = get_set_else ss n m Cell (λ e. h (ap suc e))

pub drop_else : {A : Type 0} → (i : ℕ) (r : ℕ → Option A) (j : ℕ) → (j ≡ i → ⊥) → drop_at i r j ≡ r j
drop_else i r j h = ap (λ c. if c then None else r j) (ne_eqb j i h)

-- What becomes a cell is one.
pub set_here : (s : State) (r : Register) → is_free s r ≡ true → is_set (with_set s r) r ≡ true
set_here s (X n) h = first_member n s.regs
set_here s (Y n) h = cell_here s.frame n h

-- And other registers are as before.
pub set_else : (s : State) (r t : Register) → (t ≡ r → ⊥) → is_set s t ≡ true → is_set (with_set s r) t ≡ true
set_else s (X n) (X m) d h = has_more n m s.regs h
set_else s (X n) (Y m) d h = h
set_else s (Y n) (X m) d h = h
set_else s (Y n) (Y m) d h = ap is_cell (slot_else s.frame n m (λ e. d (ap Y e))) ∙ h

pub free_else : (s : State) (r t : Register) → (t ≡ r → ⊥) → is_free s t ≡ true → is_free (with_set s r) t ≡ true
free_else s (X n) (X m) d h = refl
free_else s (X n) (Y m) d h = h
free_else s (Y n) (X m) d h = refl
free_else s (Y n) (Y m) d h = ap is_unset (slot_else s.frame n m (λ e. d (ap Y e))) ∙ h

pub regs_more : (s : State) (r : Register) (i : ℕ) → has s.regs i ≡ true → has (with_set s r).regs i ≡ true
regs_more s (X n) i h = has_more n i s.regs h
regs_more s (Y n) i h = h

-- ---- variables that are made

pub made_here : (made : List Bool) (x : ℕ) → x < length made → is_made (slice_set made x true) x ≡ true
made_here made x l = get_or-set_same made x true true l

pub made_else : (made : List Bool) (x y : ℕ) → (y ≡ x → ⊥) → is_made (slice_set made x true) y ≡ is_made made y
made_else made x y h = get_or-set_other made x y true true h

-- A variable that is made stays so.
pub made_still : (made : List Bool) (x y : ℕ) → x < length made → is_made made y ≡ true → is_made (slice_set made x true) y ≡ true
made_still made x y l h = elim (cases_eq y x) [
  | inl e ↦ subst (λ z. is_made (slice_set made x true) z ≡ true) (sym e) (made_here made x l)
  | inr d ↦ made_else made x y d ∙ h
]

-- ---- what is kept

-- the register is no variable's
abbrev pub Clear : List Register → ℕ → Type 0
Clear homes i = (x : ℕ) → x < length homes → home homes x ≡ X i → ⊥

-- no variable that has its home in the register is made in between
abbrev pub Spared : List Register → List Bool → List Bool → ℕ → Type 0
Spared homes made later i = (x : ℕ) → x < length homes → home homes x ≡ X i → is_made later x ≡ true → is_made made x ≡ true

-- those that are made stay so
abbrev pub Grows : List Register → List Bool → List Bool → Type 0
Grows homes made later = (x : ℕ) → x < length homes → is_made made x ≡ true → is_made later x ≡ true

pub clear_spared : (homes : List Register) (made later : List Bool) (i : ℕ) → Clear homes i → Spared homes made later i
clear_spared homes made later i c = λ x l h e. absurd (c x l h)

pub spared_both : (homes : List Register) (made mid later : List Bool) (i : ℕ) → Spared homes made mid i → Spared homes mid later i → Spared homes made later i
spared_both homes made mid later i f g = λ x l h e. f x l h (g x l h e)

-- The depths are kept in each slot that is no variable's, and so is what was noted.
pub record KeepsDepths (homes : List Register) (p q : Places) : Type 0 where
  pub levels : (k : ℕ) → IsNoHome homes k → q.levels k ≡ p.levels k
  pub noted : q.noted ≡ p.noted

pub depths_same : (homes : List Register) (p : Places) → KeepsDepths homes p p
depths_same homes p = record { levels = λ k c. refl; noted = refl }

pub depths_both : (homes : List Register) (p q w : Places) → KeepsDepths homes p q → KeepsDepths homes q w → KeepsDepths homes p w
depths_both homes p q w f g = record { levels = λ k c. g.levels k c ∙ f.levels k c; noted = g.noted ∙ f.noted }

-- a variable's home is written
pub depths_written : (homes : List Register) (p : Places) (x : ℕ) (t : Term) → x < length homes → KeepsDepths homes p (write p (home homes x) t)
depths_written homes p x t l = by (home homes x) refl
  where
    by : (r : Register) → home homes x ≡ r → KeepsDepths homes p (write p r t)
    by (X j) e = record { levels = λ k c. refl; noted = refl }
    by (Y j) e = record { levels = λ k c. drop_else j p.levels k (λ d. c x l (e ∙ ap Y (sym d))); noted = refl }

-- no variable from the top on is known
abbrev pub Unknown : Places → Type 0
Unknown p = (v : ℕ) → p.top ≤ v → p.known v ≡ false

-- There are no fewer variables, and still none from the top on is known.
pub record Grown (p q : Places) : Type 0 where
  pub top : p.top ≤ q.top
  pub unknown : Unknown p → Unknown q

pub grown_same : (p : Places) → Grown p p
grown_same p = record { top = omega arith; unknown = λ u. u }

pub grown_both : (p q w : Places) → Grown p q → Grown q w → Grown p w
grown_both p q w f g = record { top = let a = f.top in let b = g.top in omega (arith, a, b); unknown = λ u. g.unknown (f.unknown u) }

-- a variable is made
pub grown_learnt : (p : Places) (r : Register) (v : ℕ) (t : Term) → v < p.top → Grown p (write (learn p v) r t)
grown_learnt p r v t l =
    let same : (write (learn p v) r t).top ≡ p.top = write_top (learn p v) r t in
    record {
      top = omega (arith, same);
      unknown = λ u i m.
          let low : p.top ≤ i = omega (arith, same, m) in
          ap (λ h. h i) (write_known (learn p v) r t) ∙ learnt_else v i p.known (λ e. omega (arith, e, low, l)) ∙ u i low;
    }

-- Slots that are no variable's stay as they are.
abbrev pub KeepsSlots : List Register → State → State → Type 0
KeepsSlots homes s t = (k : ℕ) → IsNoHome homes k → slot_at t.frame k ≡ slot_at s.frame k

pub slots_set : (homes : List Register) (s : State) (x : ℕ) → x < length homes → KeepsSlots homes s (with_set s (home homes x))
slots_set homes s x l = by (home homes x) refl
  where
    by : (r : Register) → home homes x ≡ r → KeepsSlots homes s (with_set s r)
    by (X j) e = λ k c. refl
    by (Y j) e = λ k c. slot_else s.frame j k (λ d. c x l (e ∙ ap Y (sym d)))

-- no two variables have one register
abbrev pub AreApart : List Register → Type 0
AreApart homes = (x y : ℕ) → x < length homes → y < length homes → home homes x ≡ home homes y → x ≡ y

-- The variables are the branch's from n on: those that are made are in their registers, and all others are to be made.
pub record Fits (n : ℕ) (homes : List Register) (made : List Bool) (p : Places) : Type 0 where
  pub held : (x : ℕ) → x < length homes → is_made made x ≡ true → read p (home homes x) ≡ Some (Var (n + x))
  pub fresh : (x : ℕ) → x < length homes → is_made made x ≡ false → IsFresh p (n + x)
  pub whole : (i : ℕ) → i < p.top → ((x : ℕ) → x < length homes → i ≡ n + x → is_made made x ≡ true) → p.known i ≡ true
  pub own : p.own ≡ n + length homes

-- The registers of those that are made are cells, and the others may become cells. Nothing is owed.
pub record Tracks (homes : List Register) (made : List Bool) (s : State) : Type 0 where
  pub set : (x : ℕ) → x < length homes → is_made made x ≡ true → is_set s (home homes x) ≡ true
  pub free : (x : ℕ) → x < length homes → is_made made x ≡ false → is_free s (home homes x) ≡ true

module _ (n : ℕ) (homes : List Register) (made : List Bool) where
  -- A variable is made.
  pub fits_made : (p : Places) → AreApart homes → length made ≡ length homes → Fits n homes made p → (x : ℕ) → x < length homes → is_made made x ≡ false
      → Fits n homes (slice_set made x true) (write (learn p (n + x)) (home homes x) (Var (n + x)))
  fits_made p apart long f x l unmade =
      let q : Places = learn p (n + x) in
      let now : Places = write q (home homes x) (Var (n + x)) in
      let k : now.known ≡ q.known = write_known q (home homes x) (Var (n + x)) in
      let top : now.top ≡ p.top = write_top q (home homes x) (Var (n + x)) in
      let lm : x < length made = subst (λ z. x < z) (sym long) l in record {
        held = λ y m e. elim (cases_eq y x) [
          | inl same ↦ subst (λ z. read now (home homes z) ≡ Some (Var (n + z))) (sym same) (read_written q (home homes x) (Var (n + x)))
          | inr other ↦ read_else q (home homes x) (home homes y) (Var (n + x)) (λ s. other (apart y x m l s)) ∙ f.held y m (sym (made_else made x y other) ∙ e)
        ];
        fresh = λ y m e. elim (cases_eq y x) [
          | inl same ↦ absurd (true≢false (sym (subst (λ z. is_made (slice_set made x true) z ≡ true) (sym same) (made_here made x lm)) ∙ e))
          | inr other ↦
              let g = f.fresh y m (sym (made_else made x y other) ∙ e) in
              (ap (λ h. h (n + y)) k ∙ learnt_else (n + x) (n + y) p.known (λ s. other (omega (arith, s))) ∙ g.0, subst (λ z. n + y < z) (sym top) g.1)
        ];
        whole = λ i m all. elim (cases_eq i (n + x)) [
          | inl same ↦ ap (λ h. h i) k ∙ subst (λ z. learnt (n + x) p.known z ≡ true) (sym same) (learnt_here (n + x) p.known)
          | inr other ↦
              ap (λ h. h i) k ∙ learnt_else (n + x) i p.known other
              ∙ f.whole i (subst (λ z. i < z) top m) (λ y o e. sym (made_else made x y (λ s. other (e ∙ ap (λ z. n + z) s))) ∙ all y o e)
        ];
        own = write_own q (home homes x) (Var (n + x)) ∙ f.own;
      }

  -- A register that is no variable's is written.
  pub fits_wrote : (p : Places) → Fits n homes made p → (i : ℕ) (t : Term) → Clear homes i → Fits n homes made (write p (X i) t)
  fits_wrote p f i t clear = record {
    held = λ y m e. read_else p (X i) (home homes y) t (clear y m) ∙ f.held y m e;
    fresh = λ y m e. f.fresh y m e;
    whole = λ j m all. f.whole j m all;
    own = f.own;
  }

  -- A variable of the code's own is made, behind all others.
  pub fits_own : (p : Places) → Fits n homes made p → (i m : ℕ) → p.top ≡ m → Clear homes i → Fits n homes made (write (learn (record p { top = suc m }) m) (X i) (Var m))
  fits_own p f i m e clear = record {
    held = λ y l h. read_else (learn (record p { top = suc m }) m) (X i) (home homes y) (Var m) (clear y l) ∙ f.held y l h;
    fresh = λ y l h. let g = f.fresh y l h in let low = g.1 in (learnt_else m (n + y) p.known (λ s. omega (arith, s, low, e)) ∙ g.0, omega (arith, low, e));
    whole = λ j l all. elim (cases_eq j m) [
      | inl same ↦ subst (λ z. learnt m p.known z ≡ true) (sym same) (learnt_here m p.known)
      | inr other ↦ learnt_else m j p.known other ∙ f.whole j (omega (arith, l, other, e)) all
    ];
    own = f.own;
  }

  read_without : (p : Places) (i : ℕ) (r : Register) → (r ≡ X i → ⊥) → read (without p i) r ≡ read p r
  read_without p i (X j) d = drop_else i p.x j (λ e. d (ap X e))
  read_without p i (Y j) d = refl

  -- And one is dropped.
  pub fits_without : (p : Places) → Fits n homes made p → (i : ℕ) → Clear homes i → Fits n homes made (without p i)
  fits_without p f i clear = record {
    held = λ y m e. read_without p i (home homes y) (clear y m) ∙ f.held y m e;
    fresh = λ y m e. f.fresh y m e;
    whole = λ j m all. f.whole j m all;
    own = f.own;
  }

-- Once all are made, nothing is left to be made.
pub fits_whole : (n : ℕ) (homes : List Register) (made : List Bool) (p : Places) → Fits n homes made p → ((x : ℕ) → x < length homes → is_made made x ≡ true) → IsWhole p
fits_whole n homes made p f all v l = f.whole v l (λ x m e. all x m)

module _ (homes : List Register) (made : List Bool) where
  pub tracks_made : (s : State) → AreApart homes → length made ≡ length homes → Tracks homes made s → (x : ℕ) → x < length homes → is_made made x ≡ false
      → Tracks homes (slice_set made x true) (with_set s (home homes x))
  tracks_made s apart long f x l unmade = record {
    set = λ y m e. elim (cases_eq y x) [
      | inl same ↦ subst (λ z. is_set (with_set s (home homes x)) (home homes z) ≡ true) (sym same) (set_here s (home homes x) (f.free x l unmade))
      | inr other ↦ set_else s (home homes x) (home homes y) (λ h. other (apart y x m l h)) (f.set y m (sym (made_else made x y other) ∙ e))
    ];
    free = λ y m e. elim (cases_eq y x) [
      | inl same ↦ absurd (true≢false (sym (subst (λ z. is_made (slice_set made x true) z ≡ true) (sym same) (made_here made x (subst (λ z. x < z) (sym long) l))) ∙ e))
      | inr other ↦ free_else s (home homes x) (home homes y) (λ h. other (apart y x m l h)) (f.free y m (sym (made_else made x y other) ∙ e))
    ];
  }

  -- The register of a variable that is made is a cell already.
  pub tracks_stays : (s : State) → AreApart homes → length made ≡ length homes → Tracks homes made s → (x : ℕ) → x < length homes
      → is_set s (home homes x) ≡ true → Tracks homes (slice_set made x true) s
  tracks_stays s apart long f x l there = record {
    set = λ y m e. elim (cases_eq y x) [
      | inl same ↦ subst (λ z. is_set s (home homes z) ≡ true) (sym same) there
      | inr other ↦ f.set y m (sym (made_else made x y other) ∙ e)
    ];
    free = λ y m e. elim (cases_eq y x) [
      | inl same ↦ absurd (true≢false (sym (subst (λ z. is_made (slice_set made x true) z ≡ true) (sym same) (made_here made x (subst (λ z. x < z) (sym long) l))) ∙ e))
      | inr other ↦ f.free y m (sym (made_else made x y other) ∙ e)
    ];
  }

  pub tracks_set : (s : State) → Tracks homes made s → (i : ℕ) → Clear homes i → Tracks homes made (with_set s (X i))
  tracks_set s f i clear = record {
    set = λ y m e. set_else s (X i) (home homes y) (clear y m) (f.set y m e);
    free = λ y m e. free_else s (X i) (home homes y) (clear y m) (f.free y m e);
  }

  owed_set : (s : State) (k : ℕ) (r : Register) → is_set (with_owed s k) r ≡ is_set s r
  owed_set s k (X i) = refl
  owed_set s k (Y i) = refl

  owed_free : (s : State) (k : ℕ) (r : Register) → is_free (with_owed s k) r ≡ is_free s r
  owed_free s k (X i) = refl
  owed_free s k (Y i) = refl

  pub tracks_owed : (s : State) → Tracks homes made s → (k : ℕ) → Tracks homes made (with_owed s k)
  tracks_owed s f k = record {
    set = λ y m e. owed_set s k (home homes y) ∙ f.set y m e;
    free = λ y m e. owed_free s k (home homes y) ∙ f.free y m e;
  }
