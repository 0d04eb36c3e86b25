-- A switch with its lists, as they are put behind code.
use Rattle.std.proofs.Common.{◌≡◌, ◌⊎◌, ℕ, zero, suc, ◌+◌, ◌<◌, List, [], ◌∷◌, ◌++◌, set, slice_set, length, slice_get, Some, refl, ap, ap₂, sym, ◌∙◌, subst}
use Rattle.std.proofs.Common.{inl, inr, arith, append_assoc}
use Rattle.std.proofs.lemmas.List.{length-append, append-nil}
use Rattle.std.proofs.Math.Seq.{set-append_seam}
use Rattle.clause_check.specs.Programs.{FlatProgram}
use Rattle.wam_code.specs.declared.instruction.Code.{Code}
use Rattle.wam_code.specs.declared.instruction.Code.TheVariants.{SwitchOnTerm}
use Rattle.wam_code.specs.Area.{Table}
use Rattle.clause_code.specs.Predicates.{Appends}
use Rattle.clause_code.specs.ClauseChoices.{list_of}
use Rattle.clause_compiler.specs.declared.keys.Kind.TheVariants as kind
use Rattle.clause_compiler.specs.Switches.{Segment, listing, switch, code_of, LeadsTo, IsBehind, KindAt, AreKindPut, PutsKind, IsSwitchCode}
use Rattle.clause_compiler.proofs.Lists.{split_get}
use Rattle.clause_compiler.proofs.KindChoices.{code_append, Keeps, leads_more, kind_more, behind_more}

four : (a b c d : List Code) → ((a ++ b) ++ c) ++ d ≡ a ++ (b ++ (c ++ d))
four a b c d = append_assoc (a ++ b) c d ∙ append_assoc a b (c ++ d)

five : (old : List Code) (x : Code) (a b c d : List Code) → ((((old ++ x ∷ []) ++ a) ++ b) ++ c) ++ d ≡ old ++ x ∷ (a ++ (b ++ (c ++ d)))
five [] x a b c d = ap (λ l. x ∷ l) (four a b c d)
five (y ∷ old) x a b c d = ap (λ l. y ∷ l) (five old x a b c d)

module _ (p : FlatProgram) (ns : List ℕ) (old : List Code) (t1 t2 t3 : List Table) (later : Keeps t1 t2) (last_keeps : Keeps t2 t3) (at v c i s : ℕ) (x : Code)
    (one two three four' last : List Code) (here : at ≡ length old) (e1 : one ≡ old ++ x ∷ []) (p1 : v ≡ length one) (e2 : two ≡ one ++ list_of ns)
    (p2 : c ≡ length two) (k1 : PutsKind p t1 kind.Atom ns two three) (p3 : i ≡ length three) (k2 : PutsKind p t2 kind.Integer ns three four')
    (p4 : s ≡ length four') (k3 : PutsKind p t3 kind.Structure ns four' last) where
  abbrev front : List Segment
  front = switch (SwitchOnTerm v c i s) ∷ listing ns ∷ []

  start : length two ≡ length old + length (code_of front)
  start =
      let l1 = ap length e1 ∙ length-append old (x ∷ []) in
      let l2 = ap length e2 ∙ length-append one (list_of ns) in
      let none : List Code = [] in
      let l3 = length-append (list_of ns) none in
      omega (arith, l1, l2, l3)

  abbrev a1 : (more : List Segment) × (three ≡ two ++ code_of more) × AreKindPut p t1 kind.Atom ns (length old) front (length two) more
  a1 = k1 front (length old) start (let z : 0 < 2 = omega arith in z)

  grown : (new was : List Code) (ss more : List Segment) → length was ≡ length old + length (code_of ss) → new ≡ was ++ code_of more → length new ≡ length old + length (code_of (ss ++ more))
  grown new was ss more e f =
      let l = ap length f ∙ length-append was (code_of more) in
      let m = ap length (code_append ss more) ∙ length-append (code_of ss) (code_of more) in
      omega (arith, e, l, m)

  some_more : (ss more : List Segment) → 0 < length ss → 0 < length (ss ++ more)
  some_more ss more h = let l = length-append ss more in omega (arith, h, l)

  start2 : length three ≡ length old + length (code_of (front ++ a1.0))
  start2 = grown three two front a1.0 start a1.1

  abbrev a2 : (more : List Segment) × (four' ≡ three ++ code_of more) × AreKindPut p t2 kind.Integer ns (length old) (front ++ a1.0) (length three) more
  a2 = k2 (front ++ a1.0) (length old) start2 (some_more front a1.0 (let z : 0 < 2 = omega arith in z))

  start3 : length four' ≡ length old + length (code_of ((front ++ a1.0) ++ a2.0))
  start3 = grown four' three (front ++ a1.0) a2.0 start2 a2.1

  abbrev a3 : (more : List Segment) × (last ≡ four' ++ code_of more) × AreKindPut p t3 kind.Structure ns (length old) ((front ++ a1.0) ++ a2.0) (length four') more
  a3 = k3 ((front ++ a1.0) ++ a2.0) (length old) start3 (some_more (front ++ a1.0) a2.0 (some_more front a1.0 (let z : 0 < 2 = omega arith in z)))

  -- The switch's place is in the code.
  pub switch_within : at < length last
  switch_within = let l = grown last four' ((front ++ a1.0) ++ a2.0) a3.0 start3 a3.1 in
      let m = ap length (code_append ((front ++ a1.0) ++ a2.0) a3.0) ∙ length-append (code_of ((front ++ a1.0) ++ a2.0)) (code_of a3.0) in
      let n = ap length (code_append (front ++ a1.0) a2.0) ∙ length-append (code_of (front ++ a1.0)) (code_of a2.0) in
      let o = ap length (code_append front a1.0) ∙ length-append (code_of front) (code_of a1.0) in omega (arith, l, m, n, o, here)

  abbrev whole : List Segment
  whole = ((front ++ a1.0) ++ a2.0) ++ a3.0

  behind_front : (j : ℕ) (y : Segment) → slice_get (front ++ a1.0) (suc j) ≡ Some y → IsBehind p t1 ns (length old) (front ++ a1.0) (suc j) y
  behind_front j y e = by (split_get front a1.0 (suc j) y e)
    where
      in_front : (j : ℕ) → slice_get front (suc j) ≡ Some y → IsBehind p t1 ns (length old) (front ++ a1.0) (suc j) y
      in_front zero f = let g : listing ns ≡ y = cc in subst (IsBehind p t1 ns (length old) (front ++ a1.0) 1) g (λ k n h. (k, h))
      in_front (suc k) f = absurd cc

      by : (slice_get front (suc j) ≡ Some y) ⊎ ((m : ℕ) × (suc j ≡ length front + m) × (slice_get a1.0 m ≡ Some y)) → IsBehind p t1 ns (length old) (front ++ a1.0) (suc j) y
      by (inl f) = in_front j f
      by (inr f) = subst (λ n. IsBehind p t1 ns (length old) (front ++ a1.0) n y) (sym f.1) (a1.2.behind f.0 y f.2)

  behind_second : (j : ℕ) (y : Segment) → slice_get ((front ++ a1.0) ++ a2.0) (suc j) ≡ Some y → IsBehind p t2 ns (length old) ((front ++ a1.0) ++ a2.0) (suc j) y
  behind_second j y e = by (split_get (front ++ a1.0) a2.0 (suc j) y e)
    where
      by : (slice_get (front ++ a1.0) (suc j) ≡ Some y) ⊎ ((m : ℕ) × (suc j ≡ length (front ++ a1.0) + m) × (slice_get a2.0 m ≡ Some y))
          → IsBehind p t2 ns (length old) ((front ++ a1.0) ++ a2.0) (suc j) y
      by (inl f) = behind_more p (length old) (front ++ a1.0) a2.0 t1 t2 later ns (suc j) y (behind_front j y f)
      by (inr f) = subst (λ n. IsBehind p t2 ns (length old) ((front ++ a1.0) ++ a2.0) n y) (sym f.1) (a2.2.behind f.0 y f.2)

  behind_whole : (j : ℕ) (y : Segment) → slice_get (((front ++ a1.0) ++ a2.0) ++ a3.0) (suc j) ≡ Some y → IsBehind p t3 ns (length old) (((front ++ a1.0) ++ a2.0) ++ a3.0) (suc j) y
  behind_whole j y e = by (split_get ((front ++ a1.0) ++ a2.0) a3.0 (suc j) y e)
    where
      by : (slice_get ((front ++ a1.0) ++ a2.0) (suc j) ≡ Some y) ⊎ ((m : ℕ) × (suc j ≡ length ((front ++ a1.0) ++ a2.0) + m) × (slice_get a3.0 m ≡ Some y))
          → IsBehind p t3 ns (length old) (((front ++ a1.0) ++ a2.0) ++ a3.0) (suc j) y
      by (inl f) = behind_more p (length old) ((front ++ a1.0) ++ a2.0) a3.0 t2 t3 last_keeps ns (suc j) y (behind_second j y f)
      by (inr f) = subst (λ n. IsBehind p t3 ns (length old) (((front ++ a1.0) ++ a2.0) ++ a3.0) n y) (sym f.1) (a3.2.behind f.0 y f.2)

  all_first : LeadsTo (length old) front 0 v ns
  all_first = (1, (let z : 0 < 1 = omega arith in z), (let l1 = ap length e1 ∙ length-append old (x ∷ []) in omega (arith, p1, l1)), refl)

  -- The switch with its places, and all that was put behind it.
  pub switch_put : Appends old (slice_set last at (SwitchOnTerm v c i s)) (IsSwitchCode p t3 ns (length old))
  switch_put =
      let all = list_of ns in
      let m1 = code_of a1.0 in
      let m2 = code_of a2.0 in
      let m3 = code_of a3.0 in
      let code : last ≡ old ++ x ∷ (all ++ (m1 ++ (m2 ++ m3))) =
      a3.1 ∙ ap (λ l. l ++ m3) (a2.1 ∙ ap (λ l. l ++ m2) (a1.1 ∙ ap (λ l. l ++ m1) (e2 ∙ ap (λ l. l ++ all) e1))) ∙ five old x all m1 m2 m3 in
      let total : code_of whole ≡ SwitchOnTerm v c i s ∷ (all ++ (m1 ++ (m2 ++ m3))) =
      code_append ((front ++ a1.0) ++ a2.0) a3.0 ∙ ap (λ l. l ++ m3) (code_append (front ++ a1.0) a2.0 ∙ ap (λ l. l ++ m2) (code_append front a1.0))
      ∙ ap (λ l. SwitchOnTerm v c i s ∷ l) (ap (λ l. ((l ++ m1) ++ m2) ++ m3) (append-nil all) ∙ four all m1 m2 m3) in (
        code_of whole,
        ap₂ (λ l n. set l n (SwitchOnTerm v c i s)) code here ∙ set-append_seam old x (all ++ (m1 ++ (m2 ++ m3))) (SwitchOnTerm v c i s) ∙ ap (λ l. old ++ l) (sym total),
        (
          whole,
          refl,
          record {
            v = v;
            c = c;
            i = i;
            s = s;
            first = refl;
            all = leads_more p (length old) ((front ++ a1.0) ++ a2.0) a3.0 0 v ns (leads_more p (length old) (front ++ a1.0) a2.0 0 v ns (leads_more p (length old) front a1.0 0 v ns all_first));
            atoms = kind_more p (length old) ((front ++ a1.0) ++ a2.0) a3.0 t2 t3 last_keeps ns kind.Atom c
                (kind_more p (length old) (front ++ a1.0) a2.0 t1 t2 later ns kind.Atom c
                (subst (KindAt p t1 kind.Atom ns (length old) (front ++ a1.0)) (sym p2) a1.2.kind_at));
            integers = kind_more p (length old) ((front ++ a1.0) ++ a2.0) a3.0 t2 t3 last_keeps ns kind.Integer i
                (subst (KindAt p t2 kind.Integer ns (length old) ((front ++ a1.0) ++ a2.0)) (sym p3) a2.2.kind_at);
            structures = subst (KindAt p t3 kind.Structure ns (length old) (((front ++ a1.0) ++ a2.0) ++ a3.0)) (sym p4) a3.2.kind_at;
            others = behind_whole;
          },
        ),
      )
