-- What is told of the places of parameters as they are added, raised and made divisors.
use Rattle.std.proofs.Common.{◌≡◌, ℕ, zero, suc, ◌+◌, ◌-◌, ◌<◌, ◌≤◌, Bool, true, false, cond, not, ◌||◌, nat_lt, min, List, [], ◌∷◌, ◌++◌, length, get_or, refl}
use Rattle.std.proofs.Common.{sym, ◌∙◌, ap, arith}
use Rattle.std.proofs.Math.Bool.{or_assoc}
use Rattle.std.specs.Prelude.{slice_set}
use Rattle.std.proofs.lemmas.Bool.{true≢false}
use Rattle.fd_language.specs.declared.range_node.Need.{Need}
use Rattle.fd_language.specs.declared.range_node.Need.TheVariants.{Whole, Natural, Divisor}
use Rattle.monotone_check.specs.declared.parameter_places.Asked.{Asked}
use Rattle.monotone_check.specs.PlaceNeeds.{raise, reaches, told, raised}

-- the last place with another floor, or made a divisor
abbrev lowered : ℕ → List Asked → List Asked
lowered f [] = []
lowered f (e ∷ []) = record e { floor = min e.floor f } ∷ []
lowered f (e ∷ d ∷ es) = e ∷ lowered f (d ∷ es)

abbrev divided : List Asked → List Asked
divided [] = []
divided (e ∷ []) = record e { need = Divisor } ∷ []
divided (e ∷ d ∷ es) = e ∷ divided (d ∷ es)

raise_twice : (n : Need) → raise (raise n) ≡ raise n
raise_twice Whole = refl
raise_twice Natural = refl
raise_twice Divisor = refl

last_reaches : (i a f : ℕ) → (not (nat_lt i (min a f)) || false) ≡ ((not (nat_lt i a) || false) || not (nat_lt i f))
last_reaches i a f = grind arith

lowered_reaches : (i f : ℕ) (e : Asked) (es : List Asked) → reaches i (lowered f (e ∷ es)) ≡ (reaches i (e ∷ es) || not (nat_lt i f))
lowered_reaches i f e [] = last_reaches i e.floor f
lowered_reaches i f e (d ∷ es) = ap (λ b. not (nat_lt i e.floor) || b) (lowered_reaches i f d es) ∙ sym (or_assoc (not (nat_lt i e.floor)) (reaches i (d ∷ es)) (not (nat_lt i f)))

either_raise : (r l : Bool) (n : Need) → cond (r || not l) (raise n) n ≡ cond l (cond r (raise n) n) (raise (cond r (raise n) n))
either_raise true true n = refl
either_raise true false n = sym (raise_twice n)
either_raise false true n = refl
either_raise false false n = refl

head_raised : (i f : ℕ) (e : Asked) (es ls : List Asked) → reaches i ls ≡ (reaches i (e ∷ es) || not (nat_lt i f)) →
    cond (reaches i ls) (raise e.need) e.need ≡ cond (nat_lt i f) (cond (reaches i (e ∷ es)) (raise e.need) e.need) (raise (cond (reaches i (e ∷ es)) (raise e.need) e.need))
head_raised i f e es ls h = ap (λ b. cond b (raise e.need) e.need) h ∙ either_raise (reaches i (e ∷ es)) (nat_lt i f) e.need

lowered_told : (i f : ℕ) (es : List Asked) → told i (lowered f es) ≡ raised f i (told i es)
lowered_told i f [] = refl
lowered_told i f (e ∷ []) = ap (λ n. (e.variable, n) ∷ []) (head_raised i f e [] (lowered f (e ∷ [])) (lowered_reaches i f e []))
lowered_told i f (e ∷ d ∷ es) =
    ap (λ n. (e.variable, n) ∷ told (suc i) (lowered f (d ∷ es))) (head_raised i f e (d ∷ es) (lowered f (e ∷ d ∷ es)) (lowered_reaches i f e (d ∷ es)))
    ∙ ap (λ l. (
      e.variable,
      cond (nat_lt i f) (cond (reaches i (e ∷ d ∷ es)) (raise e.need) e.need)
          (raise (cond (reaches i (e ∷ d ∷ es)) (raise e.need) e.need)),
    ) ∷ l) (lowered_told (suc i) f (d ∷ es))

-- nothing is raised behind the end
nothing_raised : (f i : ℕ) (es : List Asked) → i + length es ≤ f → raised f i (told i es) ≡ told i es
nothing_raised f i [] h = refl
nothing_raised f i (e ∷ es) h = same (nat_lt i f) (cond (reaches i (e ∷ es)) (raise e.need) e.need) (before i f (length es) h)
    ∙ ap (λ l. (e.variable, cond (reaches i (e ∷ es)) (raise e.need) e.need) ∷ l) (nothing_raised f (suc i) es (next i f (length es) h)) where
      before : (i f n : ℕ) → i + suc n ≤ f → nat_lt i f ≡ true
      before i f n h = grind arith

      next : (i f n : ℕ) → i + suc n ≤ f → suc i + n ≤ f
      next i f n h = omega arith

      same : (b : Bool) (n : Need) → b ≡ true → (e.variable, cond b n (raise n)) ∷ raised f (suc i) (told (suc i) es) ≡ (e.variable, n) ∷ raised f (suc i) (told (suc i) es)
      same true n h = refl
      same false n h = absurd (true≢false (sym h))

set_lowered : (f : ℕ) (d : Asked) (es : List Asked) (k : ℕ) → suc k ≡ length es → slice_set es k (record (get_or es k d) { floor = min (get_or es k d).floor f }) ≡ lowered f es
set_lowered f d [] k h = absurd (omega arith)
set_lowered f d (e ∷ []) zero h = refl
set_lowered f d (e ∷ []) (suc k) h = absurd (omega arith)
set_lowered f d (e ∷ c ∷ es) zero h = absurd (omega arith)
set_lowered f d (e ∷ c ∷ es) (suc k) h = ap (λ l. e ∷ l) (set_lowered f d (c ∷ es) k (omega arith))

set_divided : (d : Asked) (es : List Asked) (k : ℕ) → suc k ≡ length es → slice_set es k (record (get_or es k d) { need = Divisor }) ≡ divided es
set_divided d [] k h = absurd (omega arith)
set_divided d (e ∷ []) zero h = refl
set_divided d (e ∷ []) (suc k) h = absurd (omega arith)
set_divided d (e ∷ c ∷ es) zero h = absurd (omega arith)
set_divided d (e ∷ c ∷ es) (suc k) h = ap (λ l. e ∷ l) (set_divided d (c ∷ es) k (omega arith))

no_reach : (i f : ℕ) → i < f → (not (nat_lt i f) || false) ≡ false
no_reach i f h = grind arith

reaches_added : (i : ℕ) (es : List Asked) (new : Asked) → i < new.floor → reaches i (es ++ new ∷ []) ≡ reaches i es
reaches_added i [] new h = no_reach i new.floor h
reaches_added i (e ∷ es) new h = ap (λ b. not (nat_lt i e.floor) || b) (reaches_added i es new h)

added_told : (i : ℕ) (es : List Asked) (new : Asked) → i + length es < new.floor → told i (es ++ new ∷ []) ≡ told i es ++ (new.variable, new.need) ∷ []
added_told i [] new h = ap (λ b. (new.variable, cond b (raise new.need) new.need) ∷ []) (no_reach i new.floor (first i new.floor h)) where
  first : (i f : ℕ) → i + 0 < f → i < f
  first i f h = omega arith
added_told i (e ∷ es) new h =
    ap (λ b. (e.variable, cond (not (nat_lt i e.floor) || b) (raise e.need) e.need) ∷ told (suc i) (es ++ new ∷ [])) (reaches_added i es new (here i (length es) new.floor h))
    ∙ ap (λ l. (e.variable, cond (reaches i (e ∷ es)) (raise e.need) e.need) ∷ l) (added_told (suc i) es new (later i (length es) new.floor h))
  where
    here : (i n f : ℕ) → i + suc n < f → i < f
    here i n f h = omega arith

    later : (i n f : ℕ) → i + suc n < f → suc i + n < f
    later i n f h = omega arith

pub add_tells : (es ns : List Asked) (new : Asked) → ns ≡ es ++ new ∷ [] → new.floor ≡ length es + 1 → told 0 ns ≡ told 0 es ++ (new.variable, new.need) ∷ []
add_tells es ns new e h = ap (λ l. told 0 l) e ∙ added_told 0 es new (over (length es) new.floor h) where
  over : (n f : ℕ) → f ≡ n + 1 → 0 + n < f
  over n f h = omega arith

last_divisor : List (ℕ × Need) → List (ℕ × Need)
last_divisor [] = []
last_divisor (d ∷ []) = (d.0, Divisor) ∷ []
last_divisor (d ∷ c ∷ ds) = d ∷ last_divisor (c ∷ ds)

divided_reaches : (i : ℕ) (es : List Asked) → reaches i (divided es) ≡ reaches i es
divided_reaches i [] = refl
divided_reaches i (e ∷ []) = refl
divided_reaches i (e ∷ d ∷ es) = ap (λ b. not (nat_lt i e.floor) || b) (divided_reaches i (d ∷ es))

divisor_stays : (b : Bool) → cond b (raise Divisor) Divisor ≡ Divisor
divisor_stays true = refl
divisor_stays false = refl

divided_told : (i : ℕ) (es : List Asked) → told i (divided es) ≡ last_divisor (told i es)
unfolding last_divisor
divided_told i [] = refl
divided_told i (e ∷ []) = ap (λ n. (e.variable, n) ∷ []) (divisor_stays (reaches i (e ∷ [])))
divided_told i (e ∷ d ∷ es) =
    ap (λ b. (e.variable, cond (not (nat_lt i e.floor) || b) (raise e.need) e.need) ∷ told (suc i) (divided (d ∷ es))) (divided_reaches i (d ∷ es))
    ∙ ap (λ l. (e.variable, cond (reaches i (e ∷ d ∷ es)) (raise e.need) e.need) ∷ l) (divided_told (suc i) (d ∷ es))

last_of : (front : List (ℕ × Need)) (x : ℕ) (n : Need) → last_divisor (front ++ (x, n) ∷ []) ≡ front ++ (x, Divisor) ∷ []
unfolding last_divisor
last_of [] x n = refl
last_of (d ∷ []) x n = refl
last_of (d ∷ c ∷ ds) x n = ap (λ l. d ∷ l) (last_of (c ∷ ds) x n)

pub divide_tells : (es ns : List Asked) (d : Asked) (k : ℕ) → suc k ≡ length es → ns ≡ slice_set es k (record (get_or es k d) { need = Divisor }) →
    (front : List (ℕ × Need)) (x : ℕ) (n : Need) → told 0 es ≡ front ++ (x, n) ∷ [] → told 0 ns ≡ front ++ (x, Divisor) ∷ []
divide_tells es ns d k h e front x n t = ap (λ l. told 0 l) (e ∙ set_divided d es k h) ∙ (divided_told 0 es ∙ (ap last_divisor t ∙ last_of front x n))

pub raise_tells : (es ns : List Asked) (d : Asked) (k f : ℕ) → suc k ≡ length es
    → ns ≡ slice_set es k (record (get_or es k d) { floor = min (get_or es k d).floor f }) → told 0 ns ≡ raised f 0 (told 0 es)
raise_tells es ns d k f h e = ap (λ l. told 0 l) (e ∙ set_lowered f d es k h) ∙ lowered_told 0 f es

pub raise_none : (es : List Asked) (f : ℕ) → length es ≤ f → told 0 es ≡ raised f 0 (told 0 es)
raise_none es f h = sym (nothing_raised f 0 es (from (length es) f h)) where
  from : (n f : ℕ) → n ≤ f → 0 + n ≤ f
  from n f h = omega arith

last_number : (n : ℕ) → 0 < n → suc (n - 1) ≡ n
last_number n h = omega arith

pub divide_at : (es : List Asked) (d v : Asked) (count : ℕ) → count ≡ length es → 0 < count → v ≡ get_or es (count - 1) d →
    (front : List (ℕ × Need)) (x : ℕ) (n : Need) → told 0 es ≡ front ++ (x, n) ∷ [] → told 0 (slice_set es (count - 1) (record v { need = Divisor })) ≡ front ++ (x, Divisor) ∷ []
divide_at es d v count c h e front x n t =
    divide_tells es (slice_set es (count - 1) (record v { need = Divisor })) d (count - 1) (last_number count h ∙ c) (ap (λ w. slice_set es (count - 1) (record w { need = Divisor })) e) front x n t

pub raise_at : (es : List Asked) (d v : Asked) (count f m : ℕ) → count ≡ length es → f < count → v ≡ get_or es (count - 1) d → m ≡ min v.floor f →
    told 0 (slice_set es (count - 1) (record v { floor = m })) ≡ raised f 0 (told 0 es)
raise_at es d v count f m c h e i =
    raise_tells es (slice_set es (count - 1) (record v { floor = m })) d (count - 1) f (last_number count (above f count h) ∙ c)
    (ap (λ k. slice_set es (count - 1) (record v { floor = k })) i ∙ ap (λ w. slice_set es (count - 1) (record w { floor = min w.floor f })) e)
  where
    above : (f n : ℕ) → f < n → 0 < n
    above f n h = omega arith
