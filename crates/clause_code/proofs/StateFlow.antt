-- Pieces that flow, one behind the other.
use Rattle.std.proofs.Common.{◌≡◌, ◌⊎◌, ℕ, zero, suc, ◌+◌, ◌<◌, true, false, ◌||◌, IsTrue, List, [], ◌∷◌, ◌++◌, Some, length, slice_get, refl, ap, sym, ◌∙◌}
use Rattle.std.proofs.Common.{subst, arith, inl, inr, append_assoc, ne_eqb}
use Rattle.std.proofs.lemmas.List.{length-append}
use Rattle.std.proofs.lemmas.Option.{slice_get_within}
use Rattle.std.proofs.lemmas.Bool.{cases_eq, true≢false}
use Rattle.fd_language.specs.Family.{has}
use Rattle.wam_code.specs.declared.instruction.Code.{Code}
use Rattle.wam_code.specs.declared.instruction.Code.TheVariants.{Jump, Either, EnterTest, FailNow, TryMeElse, RetryMeElse, TrustMe, Try, Retry, Trust}
use Rattle.wam_code.specs.declared.instruction.Code.TheVariants.{SwitchOnTerm, SwitchOnConstant, SwitchOnInteger, SwitchOnStructure}
use Rattle.wam_code.specs.Area.{State}
use Rattle.wam_code.specs.Effect.{effect_by, effect}
use Rattle.wam_code.specs.VerifiedCode.{goes_on, Covers}
use Rattle.wam_code.proofs.Lemmas.{covers_self}
use Rattle.clause_code.specs.Pieces.{Base, past}
use Rattle.clause_code.specs.Laws.{other_side, ways, sides}
use Rattle.clause_code.specs.SafeCode.{unplaced, aims, is_plain, HandedIn, LeadsIn, IsThereIn, IsSafePiece, may_enter}
use Rattle.clause_code.specs.StateFlow.{is_simple, is_inner, Runs, FlowsInto, Flows, MayEnter}
use Rattle.clause_code.proofs.CodePlaces.{past_is}
use Rattle.clause_code.proofs.Pieces.{past_both}

-- ---- lists

get_left : {A : Type 0} (xs ys : List A) (n : ℕ) (y : A) → n < length xs → slice_get (xs ++ ys) n ≡ Some y → slice_get xs n ≡ Some y
get_left [] ys n y l e = absurd (omega (arith, l))
get_left (x ∷ xs) ys zero y l e = e
get_left (x ∷ xs) ys (suc n) y l e = get_left xs ys n y (omega (arith, l)) e

pub into_left : {A : Type 0} (xs ys : List A) (n : ℕ) (y : A) → slice_get xs n ≡ Some y → slice_get (xs ++ ys) n ≡ Some y
into_left [] ys n y e = absurd (cc)
into_left (x ∷ xs) ys zero y e = e
into_left (x ∷ xs) ys (suc n) y e = into_left xs ys n y e

-- the element behind a list
pub get_last : {A : Type 0} (xs : List A) (x : A) → slice_get (xs ++ (x ∷ [])) (length xs) ≡ Some x
get_last [] x = refl
get_last (y ∷ xs) x = get_last xs x

-- a list of one has that one alone
pub get_only : {A : Type 0} (n : ℕ) (x y : A) → slice_get (x ∷ []) n ≡ Some y → (n ≡ 0) × (x ≡ y)
get_only zero x y e = (refl, cc)
get_only (suc n) x y e = absurd (cc)

-- the n-th element is of the first list, or one of the second
pub get_both : {A : Type 0} (xs ys : List A) (n : ℕ) (y : A) → slice_get (xs ++ ys) n ≡ Some y → (slice_get xs n ≡ Some y) ⊎ ((m : ℕ) × (n ≡ length xs + m) × (slice_get ys m ≡ Some y))
get_both [] ys n y e = inr (n, omega arith, e)
get_both (x ∷ xs) ys zero y e = inl e
get_both (x ∷ xs) ys (suc n) y e = elim (get_both xs ys n y e) [
  | inl f ↦ inl f
  | inr f ↦ let g = f.1 in inr (f.0, omega (arith, g), f.2)
]

into_right : {A : Type 0} (xs ys : List A) (n : ℕ) → slice_get (xs ++ ys) (length xs + n) ≡ slice_get ys n
into_right {A = A} [] ys n = let e : length {A = A} [] + n ≡ n = omega arith in ap (slice_get ys) e
into_right (x ∷ xs) ys n = let e : length (x ∷ xs) + n ≡ suc (length xs + n) = omega arith in ap (slice_get (x ∷ (xs ++ ys))) e ∙ into_right xs ys n

-- ---- one piece behind another

-- what a place hands on, seen from a longer piece
handed_wide : (at k : ℕ) (small big : List State) → ((m : ℕ) (x : State) → slice_get small m ≡ Some x → slice_get big (k + m) ≡ Some x) → (s : State) (to : ℕ)
    → HandedIn (at + k) small s to → HandedIn at big s to
handed_wide at k small big h s to g = let e = g.1 in (k + g.0, omega (arith, e), g.2, h g.0 g.2 g.3, g.4)

lead_wide : (b : Base) (at k : ℕ) (small big : List State) → ((m : ℕ) (x : State) → slice_get small m ≡ Some x → slice_get big (k + m) ≡ Some x)
    → (n : ℕ) (i : Code) (s : State) → LeadsIn b (at + k) small n i s → LeadsIn b at big (k + n) i s
lead_wide b at k small big h n i s g = (
  g.0,
  g.1,
  (λ to m. let w = g.2 to m in let l = w.0 in (omega (arith, l), handed_wide at k small big h g.0 to w.1)),
  (λ m. let e : suc (at + k + n) ≡ suc (at + (k + n)) = omega arith in subst (HandedIn at big g.0) e (handed_wide at k small big h g.0 (suc (at + k + n)) (g.3 m))),
)

-- More places behind a piece.
pub flows_wide : (b : Base) (at : ℕ) (is : List Code) (s t : State) (behind : List State) → slice_get behind 0 ≡ Some t → Flows b at is s t → FlowsInto b at is s behind
flows_wide b at is s t behind e f =
    let wide : (m : ℕ) (x : State) → slice_get (f.states ++ (t ∷ [])) m ≡ Some x → slice_get (f.states ++ behind) (0 + m) ≡ Some x = λ m x g. elim (get_both f.states (t ∷ []) m x g) [
      | inl h ↦ let z : 0 + m ≡ m = omega arith in ap (slice_get (f.states ++ behind)) z ∙ into_left f.states behind m x h
      | inr h ↦
          let k = (get_only h.0 t x h.2).0 in
          let same = (get_only h.0 t x h.2).1 in
          let z : 0 + m ≡ length f.states + 0 = let w = h.1 in omega (arith, w, k) in
          ap (slice_get (f.states ++ behind)) z ∙ into_right f.states behind 0 ∙ e ∙ ap Some same
    ] in record {
      states = f.states;
      long = f.long;
      begins = let z : 0 + 0 ≡ 0 = omega arith in subst (λ y. slice_get (f.states ++ behind) y ≡ Some s) z (wide 0 s f.begins);
      leads = λ n i u g h.
          let z : 0 + n ≡ n = omega arith in
          let y : at + 0 ≡ at = omega arith in
          subst (λ k. LeadsIn b at (f.states ++ behind) k i u) z
          (lead_wide b at 0 (f.states ++ (t ∷ [])) (f.states ++ behind) wide n i u
          (subst (λ k. LeadsIn b k (f.states ++ (t ∷ [])) n i u) (sym y) (f.leads n i u g h)));
      inner = f.inner;
      there = f.there;
    }

-- Two pieces, of which the first one leads into the states of the second one.
pub flows_behind : (b : Base) (at : ℕ) (is js : List Code) (s t : State) (behind : List State) → (g : FlowsInto b (past at is) js t behind)
    → FlowsInto b at is s (g.states ++ behind) → FlowsInto b at (is ++ js) s behind
flows_behind b at is js s t behind g f =
    let whole : (f.states ++ g.states) ++ behind ≡ f.states ++ (g.states ++ behind) = append_assoc f.states g.states behind in
    let k : ℕ = length f.states in
    let place : past at is ≡ at + k = past_is at is ∙ ap (λ z. at + z) (sym f.long) in
    let fl = f.long in
    let gl = g.long in record {
      states = f.states ++ g.states;
      long = let a = length-append f.states g.states in let c = length-append is js in omega (arith, a, c, fl, gl);
      begins = ap (λ l. slice_get l 0) whole ∙ f.begins;
      leads = λ n i u x y. subst (λ l. LeadsIn b at l n i u) (sym whole) (elim (get_both is js n i x) [
        | inl h ↦ let l = slice_get_within is n i h in f.leads n i u h (get_left f.states g.states n u (omega (arith, l, fl)) y)
        | inr h ↦
            let e = h.1 in
            let z : n ≡ k + h.0 = omega (arith, e, fl) in
            let there : slice_get g.states h.0 ≡ Some u = sym (into_right f.states g.states h.0) ∙ subst (λ m. slice_get (f.states ++ g.states) m ≡ Some u) z y in
            subst (λ m. LeadsIn b at (f.states ++ (g.states ++ behind)) m i u) (sym z)
            (lead_wide b at k (g.states ++ behind) (f.states ++ (g.states ++ behind)) (λ m w d. into_right f.states (g.states ++ behind) m ∙ d) h.0 i u
            (subst (λ m. LeadsIn b m (g.states ++ behind) h.0 i u) place (g.leads h.0 i u h.2 there)))
      ]);
      inner = λ n i x. elim (get_both is js n i x) [ inl h ↦ f.inner n i h | inr h ↦ g.inner h.0 i h.2 ];
      there = λ n i x. elim (get_both is js n i x) [ inl h ↦ f.there n i h | inr h ↦ g.there h.0 i h.2 ];
    }

-- Two pieces, one behind the other.
pub flows_both : (b : Base) (at : ℕ) (is js : List Code) (s t u : State) → Flows b at is s t → Flows b (past at is) js t u → Flows b at (is ++ js) s u
flows_both b at is js s t u f g = flows_behind b at is js s t (u ∷ []) g (flows_wide b at is s t (g.states ++ (u ∷ [])) g.begins f)

pub flows_nothing : (b : Base) (at : ℕ) (s : State) → Flows b at [] s s
flows_nothing b at s = record { states = []; long = refl; begins = refl; leads = λ n i u g h. absurd (cc); inner = λ n i g. absurd (cc); there = λ n i g. absurd (cc) }

-- ---- single instructions

no_aims : (i : Code) → IsTrue (is_simple i) → aims i ≡ []
no_aims (Jump to) h = absurd (true≢false (sym h))
no_aims (Either to) h = absurd (true≢false (sym h))
no_aims (EnterTest n m to) h = absurd (true≢false (sym h))
no_aims _ h = refl

pub simple_inner : (i : Code) → IsTrue (is_simple i) → IsTrue (is_inner i)
simple_inner (Jump to) h = refl
simple_inner (Either to) h = refl
simple_inner (EnterTest n m to) h = refl
simple_inner _ h = h

pub simple_enters : (i : Code) → IsTrue (is_simple i) → IsTrue (may_enter i)
simple_enters (Jump to) h = absurd (true≢false (sym h))
simple_enters FailNow h = absurd (true≢false (sym h))
simple_enters (TryMeElse to) h = absurd (true≢false (sym h))
simple_enters (RetryMeElse to) h = absurd (true≢false (sym h))
simple_enters TrustMe h = absurd (true≢false (sym h))
simple_enters (Try to) h = absurd (true≢false (sym h))
simple_enters (Retry to) h = absurd (true≢false (sym h))
simple_enters (Trust to) h = absurd (true≢false (sym h))
simple_enters (SwitchOnTerm v c i s) h = absurd (true≢false (sym h))
simple_enters (SwitchOnConstant t) h = absurd (true≢false (sym h))
simple_enters (SwitchOnInteger t) h = absurd (true≢false (sym h))
simple_enters (SwitchOnStructure t) h = absurd (true≢false (sym h))
simple_enters _ h = refl

-- An instruction with the states of the places behind it.
pub flows_one : (b : Base) (at : ℕ) (i : Code) (s : State) (behind : List State) → LeadsIn b at (s ∷ behind) 0 i s → IsTrue (is_inner i) → IsThereIn b i → FlowsInto b at (i ∷ []) s behind
flows_one b at i s behind l h t = record {
  states = s ∷ [];
  long = refl;
  begins = refl;
  leads = lead;
  inner = λ n j e. subst (λ x. IsTrue (is_inner x)) (same n j e) h;
  there = λ n j e. subst (IsThereIn b) (same n j e) t;
}
  where
    same : (n : ℕ) (j : Code) → slice_get (i ∷ []) n ≡ Some j → i ≡ j
    same zero j e = cc
    same (suc n) j e = absurd (cc)

    lead : (n : ℕ) (j : Code) (u : State) → slice_get (i ∷ []) n ≡ Some j → slice_get (s ∷ []) n ≡ Some u → LeadsIn b at (s ∷ behind) n j u
    lead zero j u e f = let a : i ≡ j = cc in let c : s ≡ u = cc in subst (λ x. LeadsIn b at (s ∷ behind) 0 x u) a (subst (LeadsIn b at (s ∷ behind) 0 i) c l)
    lead (suc n) j u e f = absurd (cc)

-- A simple instruction hands its state to the next place.
pub flows_simple : (b : Base) (at : ℕ) (i : Code) (s t u : State) → effect (unplaced b) i s ≡ Some t → Covers t u → IsTrue (is_simple i) → IsThereIn b i → Flows b at (i ∷ []) s u
flows_simple b at i s t u e c h g =
    flows_one b at i s (u ∷ [])
    (t, e, (λ to m. let never : has [] to ≡ true = subst (λ l. IsTrue (has l to)) (no_aims i h) m in absurd (true≢false (sym never))), (λ m. (1, omega arith, u, refl, c)))
    (simple_inner i h) g

-- Instructions that run one after the other.
pub flows_runs : (b : Base) (at : ℕ) (is : List Code) (s t : State) → Runs b s is t → Flows b at is s t
flows_runs b at [] s t r = subst (Flows b at [] s) r (flows_nothing b at s)
flows_runs b at (i ∷ is) s t r = flows_both b at (i ∷ []) is s r.0 t (flows_simple b at i s r.0 r.0 r.1 (covers_self r.0) r.2 r.3) (flows_runs b (suc at) is r.0 t r.4)

-- And one more, behind which less is said.
pub flows_runs_less : (b : Base) (at : ℕ) (is : List Code) (i : Code) (s t u w : State) → Runs b s is t → effect (unplaced b) i t ≡ Some u → Covers u w
    → IsTrue (is_simple i) → IsThereIn b i → Flows b at (is ++ (i ∷ [])) s w
flows_runs_less b at is i s t u w r e c h g = flows_both b at is (i ∷ []) s t w (flows_runs b at is s t r) (flows_simple b (past at is) i t u w e c h g)

pub enters_runs : (b : Base) (is : List Code) (s t : State) → Runs b s is t → MayEnter is
enters_runs b [] s t r i e = absurd (cc)
enters_runs b (j ∷ is) s t r i e = let same : j ≡ i = cc in subst (λ x. IsTrue (may_enter x)) same (simple_enters j r.2)

pub enters_both : (is js : List Code) → MayEnter is → MayEnter js → MayEnter (is ++ js)
enters_both [] js f g i e = g i e
enters_both (j ∷ is) js f g i e = f i e

-- ---- the last instruction

pub inner_plain : (i : Code) → IsTrue (is_inner i) → IsTrue (is_plain i)
inner_plain (TryMeElse to) h = absurd (true≢false (sym h))
inner_plain (RetryMeElse to) h = absurd (true≢false (sym h))
inner_plain TrustMe h = absurd (true≢false (sym h))
inner_plain (Try to) h = absurd (true≢false (sym h))
inner_plain (Retry to) h = absurd (true≢false (sym h))
inner_plain (Trust to) h = absurd (true≢false (sym h))
inner_plain (SwitchOnTerm v c i s) h = absurd (true≢false (sym h))
inner_plain (SwitchOnConstant t) h = absurd (true≢false (sym h))
inner_plain (SwitchOnInteger t) h = absurd (true≢false (sym h))
inner_plain (SwitchOnStructure t) h = absurd (true≢false (sym h))
inner_plain _ h = refl

-- A piece that ends with an instruction that hands its state to no place is safe.
pub safe_ends : (b : Base) (at : ℕ) (is : List Code) (i : Code) (s t u : State) → (f : Flows b at is s t) → effect (unplaced b) i t ≡ Some u → aims i ≡ []
    → goes_on i ≡ false → IsTrue (is_plain i) → IsThereIn b i → IsSafePiece b at (is ++ (i ∷ [])) (f.states ++ (t ∷ [])) s
safe_ends b at is i s t u f e none last plain there =
    let fl = f.long in record {
      states = let a = length-append f.states (t ∷ []) in let c = length-append is (i ∷ []) in let d : length (t ∷ []) ≡ length (i ∷ []) = refl in omega (arith, a, c, fl, d);
      begins = f.begins;
      leads = λ n j v x y. elim (get_both is (i ∷ []) n j x) [
        | inl h ↦ let l = slice_get_within is n j h in f.leads n j v h (get_left f.states (t ∷ []) n v (omega (arith, l, fl)) y)
        | inr h ↦
            let k = h.1 in
            let z : n ≡ length f.states + h.0 = omega (arith, k, fl) in
            let there' : slice_get (t ∷ []) h.0 ≡ Some v = sym (into_right f.states (t ∷ []) h.0) ∙ subst (λ m. slice_get (f.states ++ (t ∷ [])) m ≡ Some v) z y in
            final (f.states ++ (t ∷ [])) n h.0 j v h.2 there'
      ];
      plain = λ n j x. elim (get_both is (i ∷ []) n j x) [ inl h ↦ inner_plain j (f.inner n j h) | inr h ↦ subst (λ y. IsTrue (is_plain y)) (same h.0 j h.2) plain ];
      there = λ n j x. elim (get_both is (i ∷ []) n j x) [ inl h ↦ f.there n j h | inr h ↦ subst (IsThereIn b) (same h.0 j h.2) there ];
    }
  where
    same : (n : ℕ) (j : Code) → slice_get (i ∷ []) n ≡ Some j → i ≡ j
    same zero j e = cc
    same (suc n) j e = absurd (cc)

    final : (ss : List State) (n m : ℕ) (j : Code) (v : State) → slice_get (i ∷ []) m ≡ Some j → slice_get (t ∷ []) m ≡ Some v → LeadsIn b at ss n j v
    final ss n zero j v x y =
        let a : i ≡ j = cc in
        let c : t ≡ v = cc in
        subst (λ k. LeadsIn b at ss n k v) a (subst (LeadsIn b at ss n i) c
        (u, e, (λ to m. let never : has [] to ≡ true = subst (λ l. IsTrue (has l to)) none m in absurd (true≢false (sym never))), (λ m. absurd (true≢false (sym m ∙ last)))))
    final ss n (suc m) j v x y = absurd (cc)

-- ---- both ways of A ; B

pub one_aim : (a to : ℕ) → IsTrue (has (a ∷ []) to) → to ≡ a
one_aim a to h = elim (cases_eq to a) [
  | inl e ↦ e
  | inr d ↦ absurd (true≢false (sym h ∙ ap (λ c. c || false) (ne_eqb a to (λ e. d (sym e)))))
]

-- the jump behind the code of A, and the code of B
flows_jump : (b : Base) (m : ℕ) (js : List Code) (s : State) → s.owed ≡ 0 → (g : Flows b (suc m) js s s) → (f : FlowsInto b m (Jump (past (suc m) js) ∷ js) s (s ∷ [])) × (f.states ≡ s ∷ g.states)
unfolding flows_behind flows_one
flows_jump b m js s o g =
    let e : ℕ = past (suc m) js in
    let behind : List State = g.states ++ (s ∷ []) in
    let long : length g.states ≡ length js = g.long in
    let at_end : slice_get (s ∷ behind) (suc (length js)) ≡ Some s =
    let z : length js ≡ length g.states + 0 = omega (arith, long) in ap (slice_get behind) z ∙ into_right g.states (s ∷ []) 0 in
    let far : e ≡ m + suc (length js) = let p = past_is (suc m) js in omega (arith, p) in
    let lead : LeadsIn b m (s ∷ behind) 0 (Jump e) s = (
      s,
      ap (λ n. effect_by n (unplaced b) (Jump e) s) o,
      (λ to h. let same = one_aim e to h in (omega (arith, same, far), (suc (length js), same ∙ far, s, at_end, covers_self s))),
      (λ h. absurd (true≢false (sym h))),
    ) in
    (flows_behind b m (Jump e ∷ []) js s s (s ∷ []) g (flows_one b m (Jump e) s behind lead refl tt), refl)

-- Both ways lead to the place behind them. The instruction in front names the second one.
pub flows_ways : (b : Base) (at : ℕ) (i : Code) (is js : List Code) (s : State) → effect (unplaced b) i s ≡ Some s → aims i ≡ other_side at is js ∷ []
    → IsTrue (is_inner i) → IsThereIn b i → s.owed ≡ 0 → Flows b (suc at) is s s → Flows b (other_side at is js) js s s
    → Flows b at (ways i at is js) s s
unfolding flows_behind flows_wide
flows_ways b at i is js s eff aim inner there o fa fb =
    let m : ℕ = past (suc at) is in
    let e : ℕ = past (suc m) js in
    let target : other_side at is js ≡ suc m = past_both (suc at) is (Jump e ∷ []) in
    let g : Flows b (suc m) js s s = subst (λ k. Flows b k js s s) target fb in
    let j = flows_jump b m js s o g in
    let rest : FlowsInto b (suc at) (is ++ (Jump e ∷ js)) s (s ∷ []) = flows_behind b (suc at) is (Jump e ∷ js) s s (s ∷ []) j.0
    (flows_wide b (suc at) is s s (j.0.states ++ (s ∷ [])) j.0.begins fa) in
    let behind : List State = rest.states ++ (s ∷ []) in
    let long : length fa.states ≡ length is = fa.long in
    let whole : rest.states ++ (s ∷ []) ≡ fa.states ++ (s ∷ (g.states ++ (s ∷ []))) = ap (λ l. (fa.states ++ l) ++ (s ∷ [])) j.1 ∙ append_assoc fa.states (s ∷ g.states) (s ∷ []) in
    let other : slice_get (s ∷ behind) (suc (suc (length is))) ≡ Some s =
    let z : suc (length is) ≡ length fa.states + 1 = omega (arith, long) in
    ap (λ l. slice_get l (suc (length is))) whole ∙ ap (slice_get (fa.states ++ (s ∷ (g.states ++ (s ∷ []))))) z ∙ into_right fa.states (s ∷ (g.states ++ (s ∷ []))) 1 ∙ g.begins in
    let far : other_side at is js ≡ at + suc (suc (length is)) = let p = past_is (suc at) is in omega (arith, p, target) in
    let lead : LeadsIn b at (s ∷ behind) 0 i s = (
      s,
      eff,
      (λ to h. let same = one_aim (other_side at is js) to (subst (λ l. IsTrue (has l to)) aim h) in (omega (arith, same, far), (suc (suc (length is)), same ∙ far, s, other, covers_self s))),
      (λ h. (1, omega arith, s, rest.begins, covers_self s)),
    ) in
    flows_behind b at (i ∷ []) (is ++ (Jump e ∷ js)) s s (s ∷ []) rest (flows_one b at i s behind lead inner there)

pub flows_sides : (b : Base) (at : ℕ) (is js : List Code) (s : State) → s.owed ≡ 0 → Flows b (suc at) is s s → Flows b (other_side at is js) js s s → Flows b at (sides at is js) s s
flows_sides b at is js s o fa fb = flows_ways b at (Either (other_side at is js)) is js s (ap (λ n. effect_by n (unplaced b) (Either (other_side at is js)) s) o) refl refl tt o fa fb

-- An instruction that names the place behind the piece.
pub flows_over : (b : Base) (at : ℕ) (i : Code) (is : List Code) (s : State) → effect (unplaced b) i s ≡ Some s → aims i ≡ past (suc at) is ∷ []
    → IsTrue (is_inner i) → IsThereIn b i → Flows b (suc at) is s s → Flows b at (i ∷ is) s s
flows_over b at i is s eff aim inner there f =
    let long : length f.states ≡ length is = f.long in
    let end : slice_get (f.states ++ (s ∷ [])) (length is) ≡ Some s = ap (slice_get (f.states ++ (s ∷ []))) (sym long) ∙ get_last f.states s in
    let far : past (suc at) is ≡ at + suc (length is) = let p = past_is (suc at) is in omega (arith, p) in
    let lead : LeadsIn b at (s ∷ (f.states ++ (s ∷ []))) 0 i s = (
      s,
      eff,
      (λ to h. let same = one_aim (past (suc at) is) to (subst (λ l. IsTrue (has l to)) aim h) in (omega (arith, same, far), (suc (length is), same ∙ far, s, end, covers_self s))),
      (λ h. (1, omega arith, s, f.begins, covers_self s)),
    ) in
    flows_behind b at (i ∷ []) is s s (s ∷ []) f (flows_one b at i s (f.states ++ (s ∷ [])) lead inner there)
