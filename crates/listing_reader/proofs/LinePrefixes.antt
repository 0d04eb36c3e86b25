-- Lines that begin alike, and where lines leave a form.
use Rattle.std.proofs.Common.{◌≡◌, ◌⊎◌, ℕ, zero, suc, ◌+◌, ◌-◌, ◌<◌, ◌≤◌, ◌^◌, List, [], ◌∷◌, ◌++◌, map, length, get_or, refl, sym, ap, ◌∙◌, subst, inl, inr}
use Rattle.std.proofs.Common.{arith, All, append_assoc, length-append, codes, decimal}
use Rattle.std.proofs.lemmas.Bool.{cases_lt}
use Rattle.std.proofs.lemmas.List.{append-nil, length-map}
use Rattle.std.proofs.lemmas.Fmt.{decimal_injective}
use Rattle.code_listing.specs.Listing.{counted}
use Rattle.listing_reader.specs.NumberBounds.{IsNumber}
use Rattle.listing_reader.specs.Lines.{BeginAlike, StopsAt, LeavesAt, Section, HasSection, Joined, Headed, header}

abbrev pub Lines : Type 0
Lines = List (List ℕ)

-- ---- what holds of each

pub all_none : {A : Type 0} (P : A → Type 0) → All P []
all_none P k d h = absurd (omega (arith, h))

pub all_more : {A : Type 0} (P : A → Type 0) (x : A) (xs : List A) → P x → All P xs → All P (x ∷ xs)
all_more P x xs p h zero d l = p
all_more P x xs p h (suc k) d l = h k d (omega (arith, l))

pub all_head : {A : Type 0} (P : A → Type 0) (x : A) (xs : List A) → All P (x ∷ xs) → P x
all_head P x xs h = h 0 x (omega arith)

pub all_tail : {A : Type 0} (P : A → Type 0) (x : A) (xs : List A) → All P (x ∷ xs) → All P xs
all_tail P x xs h k d l = h (suc k) d (omega (arith, l))

pub all_join : {A : Type 0} (P : A → Type 0) (xs ys : List A) → All P xs → All P ys → All P (xs ++ ys)
all_join P [] ys h g = g
all_join P (x ∷ xs) ys h g = all_more P x (xs ++ ys) (all_head P x xs h) (all_join P xs ys (all_tail P x xs h) g)

-- so many times the same
fill : {A : Type 0} → ℕ → A → List A
fill zero x = []
fill (suc n) x = x ∷ fill n x

fill_length : {A : Type 0} (n : ℕ) (x : A) → length (fill n x) ≡ n
unfolding fill
fill_length zero x = refl
fill_length (suc n) x = ap suc (fill_length n x)

all_fill : {A : Type 0} (P : A → Type 0) (n : ℕ) (x : A) → P x → All P (fill n x)
unfolding fill
all_fill P zero x p = all_none P
all_fill P (suc n) x p = all_more P x (fill n x) p (all_fill P n x p)

pub map_join : {A B : Type 0} (f : A → B) (xs ys : List A) → map f (xs ++ ys) ≡ map f xs ++ map f ys
map_join f [] ys = refl
map_join f (x ∷ xs) ys = ap (λ l. f x ∷ l) (map_join f xs ys)

-- ---- lists that are joined

pub left_cancel : {A : Type 0} (p x y : List A) → p ++ x ≡ p ++ y → x ≡ y
left_cancel [] x y e = e
left_cancel (b ∷ p) x y e = left_cancel p x y (let f : b ∷ (p ++ x) ≡ b ∷ (p ++ y) = e in cc)

-- ---- lines that begin alike

pub alike_le : (j k : ℕ) (b l : Lines) → j ≤ k → BeginAlike k b l → BeginAlike j b l
alike_le zero k b l n h = tt
alike_le (suc j) zero b l n h = absurd (omega (arith, n))
alike_le (suc j) (suc k) [] l n h = absurd h
alike_le (suc j) (suc k) (x ∷ b) [] n h = absurd h
alike_le (suc j) (suc k) (x ∷ b) (y ∷ l) n h = (h.0, alike_le j k b l (omega (arith, n)) h.1)

pub alike_refl : (p q : Lines) → BeginAlike (length p) p (p ++ q)
alike_refl [] q = tt
alike_refl (x ∷ p) q = (refl, alike_refl p q)

pub alike_join : (p q r : Lines) (k n : ℕ) → n ≡ length p + k → BeginAlike k q r → BeginAlike n (p ++ q) (p ++ r)
alike_join [] q r k n e h = subst (λ i. BeginAlike i q r) (let f : k ≡ n = omega (arith, e) in f) h
alike_join (x ∷ p) q r k zero e h = absurd (omega (arith, e))
alike_join (x ∷ p) q r k (suc n) e h = (refl, alike_join p q r k n (omega (arith, e)) h)

pub alike_cancel : (o p q r : Lines) (k n : ℕ) → length o ≡ length p → n ≡ length p + k → BeginAlike n (o ++ q) (p ++ r) → BeginAlike k q r
alike_cancel [] [] q r k n s e h = subst (λ i. BeginAlike i q r) (let f : n ≡ k = omega (arith, e) in f) h
alike_cancel [] (y ∷ p) q r k n s e h = absurd (omega (arith, s))
alike_cancel (x ∷ o) [] q r k n s e h = absurd (omega (arith, s))
alike_cancel (x ∷ o) (y ∷ p) q r k zero s e h = absurd (omega (arith, e))
alike_cancel (x ∷ o) (y ∷ p) q r k (suc n) s e h = alike_cancel o p q r k n (omega (arith, s)) (omega (arith, e)) h.1

pub alike_within : (p q l : Lines) (k : ℕ) → k ≤ length p → BeginAlike k (p ++ q) l → BeginAlike k p l
alike_within p q l zero s h = tt
alike_within [] q l (suc k) s h = absurd (omega (arith, s))
alike_within (x ∷ p) q [] (suc k) s h = absurd h
alike_within (x ∷ p) q (y ∷ l) (suc k) s h = (h.0, alike_within p q l k (omega (arith, s)) h.1)

pub alike_more : (p q l : Lines) (k : ℕ) → BeginAlike k p l → BeginAlike k (p ++ q) l
alike_more p q l zero h = tt
alike_more [] q l (suc k) h = absurd h
alike_more (x ∷ p) q [] (suc k) h = absurd h
alike_more (x ∷ p) q (y ∷ l) (suc k) h = (h.0, alike_more p q l k h.1)

pub alike_long : (b l : Lines) (k : ℕ) → BeginAlike k b l → (k ≤ length b) × (k ≤ length l)
alike_long b l zero h = (omega arith, omega arith)
alike_long [] l (suc k) h = absurd h
alike_long (x ∷ b) [] (suc k) h = absurd h
alike_long (x ∷ b) (y ∷ l) (suc k) h = let t = alike_long b l k h.1 in (let u : k ≤ length b = t.0 in omega (arith, u), let u : k ≤ length l = t.1 in omega (arith, u))

-- ---- sections

pub header_count : (name : List ℕ) (m n : ℕ) → IsNumber m → IsNumber n → header name m ≡ header name n → m ≡ n
header_count name m n f g e =
    let one : codes " " ++ (decimal m ++ []) ≡ codes " " ++ (decimal n ++ []) = left_cancel name (codes " " ++ (decimal m ++ [])) (codes " " ++ (decimal n ++ [])) e in
    let two : decimal m ++ [] ≡ decimal n ++ [] = left_cancel (codes " ") (decimal m ++ []) (decimal n ++ []) one in
    decimal_injective m n f g (sym (append-nil (decimal m)) ∙ two ∙ append-nil (decimal n))

module _ {A : Type 0} (name : List ℕ) (Fits : A → Type 0) (text : A → List ℕ) where
  pub section_size : (xs : List A) → length (counted name (map text xs)) ≡ suc (length xs)
  section_size xs = ap suc (length-map xs text)

  -- the counts of sections with one header
  pub section_count : (xs ys : List A) → IsNumber (length xs) → IsNumber (length ys) → header name (length (map text xs)) ≡ header name (length (map text ys)) → length xs ≡ length ys
  section_count xs ys f g e = header_count name (length xs) (length ys) f g (ap (header name) (sym (length-map xs text)) ∙ e ∙ ap (header name) (length-map ys text))

  -- two sections that begin with one line have one length
  pub same_size : (k j : ℕ) (b c l : Lines) → Section name Fits text b → Section name Fits text c → BeginAlike (suc k) b l → BeginAlike (suc j) c l → length b ≡ length c
  same_size k j b c l s t f g = go l (subst (λ (z : Lines). BeginAlike (suc k) z l) s.lines f) (subst (λ (z : Lines). BeginAlike (suc j) z l) t.lines g)
    where
      go : (l : Lines) → BeginAlike (suc k) (counted name (map text s.items)) l → BeginAlike (suc j) (counted name (map text t.items)) l → length b ≡ length c
      go [] f g = absurd f
      go (x ∷ l) f g =
          let n : length s.items ≡ length t.items = section_count s.items t.items s.count t.count (f.0 ∙ sym g.0) in
          ap length s.lines ∙ section_size s.items ∙ ap suc n ∙ sym (section_size t.items) ∙ sym (ap length t.lines)

  -- ---- where a section stops

  empty_section : Section name Fits text (counted name [])
  empty_section = record { items = []; fit = all_none Fits; count = omega arith; lines = refl }

  -- its first line isn't of its form
  pub stops_header : (lines : Lines) → ((n : ℕ) (rest : Lines) → IsNumber n → ¬ (lines ≡ header name n ∷ rest)) → StopsAt (Section name Fits text) lines 0
  stops_header lines none = record { before = (counted name [], (empty_section, tt)); longer = λ b s h. subst (λ n. 0 < n) (sym (ap length s.lines ∙ section_size s.items)) (omega arith); bad = bad }
    where
      go : (xs : List A) → IsNumber (length xs) → (l : Lines) → l ≡ lines → BeginAlike 1 (counted name (map text xs)) l → ⊥
      go xs c [] e h = h
      go xs c (x ∷ l) e h = none (length xs) l c (sym e ∙ ap (λ (z : List ℕ). z ∷ l) (sym h.0 ∙ ap (header name) (length-map xs text)))

      bad : (b : Lines) → Section name Fits text b → ¬ BeginAlike 1 b lines
      bad b s h = go s.items s.count lines refl (subst (λ (z : Lines). BeginAlike 1 z lines) s.lines h)

  -- one of its lines isn't
  module _ (x0 : A) (f0 : Fits x0) (lines rest : Lines) (n : ℕ) (ys : List A)
      (is : lines ≡ header name n ∷ (map text ys ++ rest)) (small : IsNumber n) (fit : All Fits ys) (short : length ys < n)
      (none : (x : A) (r : Lines) → Fits x → ¬ (rest ≡ text x ∷ r)) where
    whole : List A
    whole = ys ++ fill (n - length ys) x0

    whole_size : length whole ≡ n
    unfolding whole
    whole_size = length-append ys (fill (n - length ys) x0) ∙ (let e : length (fill (n - length ys) x0) ≡ n - length ys = fill_length (n - length ys) x0 in omega (arith, e, short))

    whole_fit : All Fits whole
    unfolding whole
    whole_fit = all_join Fits ys (fill (n - length ys) x0) fit (all_fill Fits (n - length ys) x0 f0)

    whole_section : Section name Fits text (counted name (map text whole))
    whole_section = record { items = whole; fit = whole_fit; count = subst IsNumber (sym whole_size) small; lines = refl }

    whole_lines : map text whole ≡ map text ys ++ map text (fill (n - length ys) x0)
    unfolding whole
    whole_lines = map_join text ys (fill (n - length ys) x0)

    begins : BeginAlike (suc (length ys)) (counted name (map text whole)) lines
    begins =
        subst (λ (z : Lines). BeginAlike (suc (length ys)) (counted name (map text whole)) z) (sym is) (
          ap (header name) (length-map whole text ∙ whole_size),
          subst (λ (z : Lines). BeginAlike (length ys) z (map text ys ++ rest)) (sym whole_lines)
              (alike_more (map text ys) (map text (fill (n - length ys) x0)) (map text ys ++ rest) (length ys)
              (subst (λ i. BeginAlike i (map text ys) (map text ys ++ rest)) (length-map ys text) (alike_refl (map text ys) rest))),
        )

    -- the count of what begins so
    counts : (k : ℕ) (xs : List A) → IsNumber (length xs) → BeginAlike (suc k) (counted name (map text xs)) lines → length xs ≡ n
    counts k xs c h =
        let g : BeginAlike (suc k) (counted name (map text xs)) (header name n ∷ (map text ys ++ rest)) = subst (λ (z : Lines). BeginAlike (suc k) (counted name (map text xs)) z) is h in
        header_count name (length xs) n c small (ap (header name) (sym (length-map xs text)) ∙ g.0)

    -- the thing at the line that isn't right
    at_fault : (zs xs : List A) → All Fits xs → BeginAlike (suc (length zs)) (map text xs) (map text zs ++ rest) → ⊥
    at_fault [] [] f h = h
    at_fault [] (x ∷ xs) f h = go rest refl h
      where
        go : (r : Lines) → rest ≡ r → BeginAlike 1 (text x ∷ map text xs) r → ⊥
        go [] e g = g
        go (l ∷ r) e g = none x r (all_head Fits x xs f) (e ∙ ap (λ (z : List ℕ). z ∷ r) (sym g.0))
    at_fault (z ∷ zs) [] f h = h
    at_fault (z ∷ zs) (x ∷ xs) f h = at_fault zs xs (all_tail Fits x xs f) h.1

    pub stops_item : StopsAt (Section name Fits text) lines (suc (length ys))
    stops_item = record { before = (counted name (map text whole), (whole_section, begins)); longer = longer; bad = bad }
      where
        longer : (b : Lines) → Section name Fits text b → BeginAlike (suc (length ys)) b lines → suc (length ys) < length b
        longer b s h =
            let c : length s.items ≡ n = counts (length ys) s.items s.count (subst (λ (z : Lines). BeginAlike (suc (length ys)) z lines) s.lines h) in
            let d : length b ≡ suc (length s.items) = ap length s.lines ∙ section_size s.items in
            omega (arith, c, d, short)

        bad : (b : Lines) → Section name Fits text b → ¬ BeginAlike (suc (suc (length ys))) b lines
        bad b s h =
            let g : BeginAlike (suc (suc (length ys))) (counted name (map text s.items)) (header name n ∷ (map text ys ++ rest)) =
            subst (λ (z : Lines). BeginAlike (suc (suc (length ys))) (counted name (map text s.items)) z) is (subst (λ (z : Lines). BeginAlike (suc (suc (length ys))) z lines) s.lines h) in
            at_fault ys s.items s.fit g.1

  -- ---- a section, and then other lines

  module _ (Q : Lines → Type 0) where
    -- the section stops
    module _ (lines : Lines) (k : ℕ) (st : StopsAt (Section name Fits text) lines k) where
      module _ (p q : Lines) (s : Section name Fits text p) (m : ℕ) (l : k ≤ m) (h : BeginAlike m (p ++ q) lines) where
        inside : k < length p
        inside = go (cases_lt k (length p))
          where
            go : (k < length p) ⊎ (length p ≤ k) → k < length p
            go (inl t) = t
            go (inr t) =
                let b = st.before.0 in
                let size : length p ≡ suc (length s.items) = ap length s.lines ∙ section_size s.items in
                let one : BeginAlike 1 (p ++ q) lines = alike_le 1 m (p ++ q) lines (omega (arith, size, t, l)) h in
                let two : BeginAlike 1 p lines = alike_within p q lines 1 (omega (arith, size)) one in
                let three : BeginAlike 1 b lines = alike_le 1 k b lines (omega (arith, size, t)) st.before.1.1 in
                let same : length p ≡ length b = same_size 0 0 p b lines s st.before.1.0 two three in
                let more : k < length b = st.longer b st.before.1.0 st.before.1.1 in
                absurd (omega (arith, same, more, t))

      pub first_stops : (q : Lines) → Q q → StopsAt (Joined (Section name Fits text) Q) lines k
      first_stops q hq = record { before = before; longer = longer; bad = bad }
        where
          before : (b : Lines) × (Joined (Section name Fits text) Q b × BeginAlike k b lines)
          before =
              let b = st.before.0 in
              (b ++ q, (record { first = b; rest = q; is_first = st.before.1.0; is_rest = hq; lines = refl }, alike_more b q lines k st.before.1.1))

          longer : (b : Lines) → Joined (Section name Fits text) Q b → BeginAlike k b lines → k < length b
          longer b j h =
              let n : k < length j.first = inside j.first j.rest j.is_first k (omega arith) (subst (λ (z : Lines). BeginAlike k z lines) j.lines h) in
              let e : length b ≡ length j.first + length j.rest = ap length j.lines ∙ length-append j.first j.rest in
              omega (arith, n, e)

          bad : (b : Lines) → Joined (Section name Fits text) Q b → ¬ BeginAlike (suc k) b lines
          bad b j h =
              let g : BeginAlike (suc k) (j.first ++ j.rest) lines = subst (λ (z : Lines). BeginAlike (suc k) z lines) j.lines h in
              let n : k < length j.first = inside j.first j.rest j.is_first (suc k) (omega arith) g in
              st.bad j.first j.is_first (alike_within j.first j.rest lines (suc k) (omega (arith, n)) g)

    -- the section is there
    module _ (lines rest : Lines) (ys : List A) (fit : All Fits ys) (small : IsNumber (length ys)) (is : lines ≡ counted name (map text ys) ++ rest) where
      here : Lines
      here = counted name (map text ys)

      here_section : Section name Fits text here
      unfolding here
      here_section = record { items = ys; fit = fit; count = small; lines = refl }

      here_size : length here ≡ suc (length ys)
      unfolding here
      here_size = section_size ys

      here_is : lines ≡ here ++ rest
      unfolding here
      here_is = is

      -- what else begins so
      behind : (b : Lines) → Joined (Section name Fits text) Q b → (k m : ℕ) → m ≡ suc (length ys) + k → BeginAlike m b lines
          → (q : Lines) × (Q q × (BeginAlike k q rest × (length b ≡ suc (length ys) + length q)))
      behind b j k m e h =
          let g : BeginAlike m (j.first ++ j.rest) (here ++ rest) = subst (λ (z : Lines). BeginAlike m (j.first ++ j.rest) z) here_is (subst (λ (z : Lines). BeginAlike m z lines) j.lines h) in
          let s : Section name Fits text j.first = j.is_first in
          let size : length j.first ≡ suc (length s.items) = ap length s.lines ∙ section_size s.items in
          let one : BeginAlike 1 j.first (here ++ rest) =
          alike_within j.first j.rest (here ++ rest) 1 (omega (arith, size)) (alike_le 1 m (j.first ++ j.rest) (here ++ rest) (omega (arith, e)) g) in
          let two : BeginAlike 1 here (here ++ rest) = alike_le 1 (length here) here (here ++ rest) (omega (arith, here_size)) (alike_refl here rest) in
          let same : length j.first ≡ length here = same_size 0 0 j.first here (here ++ rest) s here_section one two in
          let total : length b ≡ length j.first + length j.rest = ap length j.lines ∙ length-append j.first j.rest in
          (j.rest, (j.is_rest, (alike_cancel j.first here j.rest rest k m same (omega (arith, e, here_size)) g, omega (arith, total, same, here_size))))

      pub then_bad : (k : ℕ) → ((q : Lines) → Q q → ¬ BeginAlike (suc k) q rest) → (b : Lines) → Joined (Section name Fits text) Q b → ¬ BeginAlike (suc (suc (length ys) + k)) b lines
      then_bad k none b j h =
          let t = behind b j (suc k) (suc (suc (length ys) + k)) (omega arith) h in
          none t.0 t.1.0 t.1.1.0

      pub then_before : (k : ℕ) → ((q : Lines) × (Q q × BeginAlike k q rest)) → (b : Lines) × (Joined (Section name Fits text) Q b × BeginAlike (suc (length ys) + k) b lines)
      then_before k (q, (hq, al)) = (
        here ++ q,
        (
          record { first = here; rest = q; is_first = here_section; is_rest = hq; lines = refl },
          subst (λ (z : Lines). BeginAlike (suc (length ys) + k) (here ++ q) z) (sym here_is) (alike_join here q rest k (suc (length ys) + k) (omega (arith, here_size)) al),
        ),
      )

      pub then_stops : (k : ℕ) → StopsAt Q rest k → StopsAt (Joined (Section name Fits text) Q) lines (suc (length ys) + k)
      then_stops k st = record { before = then_before k st.before; longer = longer; bad = then_bad k st.bad }
        where
          longer : (b : Lines) → Joined (Section name Fits text) Q b → BeginAlike (suc (length ys) + k) b lines → suc (length ys) + k < length b
          longer b j h =
              let t = behind b j k (suc (length ys) + k) refl h in
              let n : k < length t.0 = st.longer t.0 t.1.0 t.1.1.0 in
              let e : length b ≡ suc (length ys) + length t.0 = t.1.1.1 in
              omega (arith, n, e)

  -- ---- the last section

  module _ (lines rest : Lines) (ys : List A) (fit : All Fits ys) (small : IsNumber (length ys)) (is : lines ≡ counted name (map text ys) ++ rest) where
    pub last_before : (b : Lines) × (Section name Fits text b × BeginAlike (suc (length ys)) b lines)
    last_before = (
      counted name (map text ys),
      (
        record { items = ys; fit = fit; count = small; lines = refl },
        subst (λ (z : Lines). BeginAlike (suc (length ys)) (counted name (map text ys)) z) (sym is)
            (subst (λ i. BeginAlike i (counted name (map text ys)) (counted name (map text ys) ++ rest)) (section_size ys) (alike_refl (counted name (map text ys)) rest)),
      ),
    )

    pub last_bad : (b : Lines) → Section name Fits text b → ¬ BeginAlike (suc (suc (length ys))) b lines
    unfolding last_before
    last_bad b s h =
        let t = last_before in
        let same : length b ≡ length t.0 = same_size (suc (length ys)) (length ys) b t.0 lines s t.1.0 h t.1.1 in
        let size : length t.0 ≡ suc (length ys) = section_size ys in
        let long : suc (suc (length ys)) ≤ length b = (alike_long b lines (suc (suc (length ys))) h).0 in
        omega (arith, same, size, long)

  -- what stands behind sections with one header
  pub same_behind : (xs ys : List A) (q r : Lines) → IsNumber (length xs) → IsNumber (length ys) → counted name (map text xs) ++ q ≡ counted name (map text ys) ++ r → q ≡ r
  same_behind xs ys q r m n e =
      let e' : header name (length (map text xs)) ∷ (map text xs ++ q) ≡ header name (length (map text ys)) ∷ (map text ys ++ r) = e in
      go xs ys (section_count xs ys m n (cc)) (cc)
    where
      go : (xs ys : List A) → length xs ≡ length ys → map text xs ++ q ≡ map text ys ++ r → q ≡ r
      go [] [] k f = f
      go [] (y ∷ ys) k f = absurd (omega (arith, k))
      go (x ∷ xs) [] k f = absurd (omega (arith, k))
      go (x ∷ xs) (y ∷ ys) k f = let g : text x ∷ (map text xs ++ q) ≡ text y ∷ (map text ys ++ r) = f in go xs ys (omega (arith, k)) (cc)

  -- ---- sections of one text

  module _ (one : (x y : A) → Fits x → Fits y → text x ≡ text y → x ≡ y) where
    same_items : (xs ys : List A) (q r : Lines) → length xs ≡ length ys → All Fits xs → All Fits ys → map text xs ++ q ≡ map text ys ++ r → (xs ≡ ys) × (q ≡ r)
    same_items [] [] q r n f g e = (refl, e)
    same_items [] (y ∷ ys) q r n f g e = absurd (omega (arith, n))
    same_items (x ∷ xs) [] q r n f g e = absurd (omega (arith, n))
    same_items (x ∷ xs) (y ∷ ys) q r n f g e =
        let e' : text x ∷ (map text xs ++ q) ≡ text y ∷ (map text ys ++ r) = e in
        let first : text x ≡ text y = cc in
        let later : map text xs ++ q ≡ map text ys ++ r = cc in
        let same : x ≡ y = one x y (all_head Fits x xs f) (all_head Fits y ys g) first in
        let t = same_items xs ys q r (omega (arith, n)) (all_tail Fits x xs f) (all_tail Fits y ys g) later in
        let more : xs ≡ ys = t.0 in
        (cc, t.1)

    pub same_section : (xs ys : List A) (q r : Lines) → All Fits xs → All Fits ys → IsNumber (length xs) → IsNumber (length ys)
        → counted name (map text xs) ++ q ≡ counted name (map text ys) ++ r → (xs ≡ ys) × (q ≡ r)
    same_section xs ys q r f g m n e =
        let e' : header name (length (map text xs)) ∷ (map text xs ++ q) ≡ header name (length (map text ys)) ∷ (map text ys ++ r) = e in
        let first : header name (length (map text xs)) ≡ header name (length (map text ys)) = cc in
        let later : map text xs ++ q ≡ map text ys ++ r = cc in
        same_items xs ys q r (section_count xs ys m n first) f g later

-- ---- a line of its own, and then other lines

module _ (head : List ℕ) (Q : Lines → Type 0) where
  pub head_stops : (q : Lines) → Q q → (lines : Lines) → ((rest : Lines) → ¬ (lines ≡ head ∷ rest)) → StopsAt (Headed head Q) lines 0
  head_stops q hq lines none = record {
    before = (head ∷ q, (record { rest = q; is_rest = hq; lines = refl }, tt));
    longer = λ b j h. subst (λ n. 0 < n) (sym (ap length j.lines)) (omega arith);
    bad = bad;
  }
    where
      go : (l r : Lines) → l ≡ lines → BeginAlike 1 (head ∷ r) l → ⊥
      go [] r e h = h
      go (x ∷ l) r e h = none l (sym e ∙ ap (λ (z : List ℕ). z ∷ l) (sym h.0))

      bad : (b : Lines) → Headed head Q b → ¬ BeginAlike 1 b lines
      bad b j h = go lines j.rest refl (subst (λ (z : Lines). BeginAlike 1 z lines) j.lines h)

  module _ (lines rest : Lines) (is : lines ≡ head ∷ rest) where
    under : (b : Lines) → Headed head Q b → (k : ℕ) → BeginAlike (suc k) b lines → (q : Lines) × (Q q × (BeginAlike k q rest × (length b ≡ suc (length q))))
    under b j k h =
        let g : BeginAlike (suc k) (head ∷ j.rest) (head ∷ rest) = subst (λ (z : Lines). BeginAlike (suc k) (head ∷ j.rest) z) is (subst (λ (z : Lines). BeginAlike (suc k) z lines) j.lines h) in
        (j.rest, (j.is_rest, (g.1, ap length j.lines)))

    pub headed_bad : (k : ℕ) → ((q : Lines) → Q q → ¬ BeginAlike (suc k) q rest) → (b : Lines) → Headed head Q b → ¬ BeginAlike (suc (suc k)) b lines
    headed_bad k none b j h = let t = under b j (suc k) h in none t.0 t.1.0 t.1.1.0

    pub headed_before : (k : ℕ) → ((q : Lines) × (Q q × BeginAlike k q rest)) → (b : Lines) × (Headed head Q b × BeginAlike (suc k) b lines)
    headed_before k (q, (hq, al)) = (head ∷ q, (record { rest = q; is_rest = hq; lines = refl }, subst (λ (z : Lines). BeginAlike (suc k) (head ∷ q) z) (sym is) (refl, al)))

    pub headed_stops : (k : ℕ) → StopsAt Q rest k → StopsAt (Headed head Q) lines (suc k)
    headed_stops k st = record { before = headed_before k st.before; longer = longer; bad = headed_bad k st.bad }
      where
        longer : (b : Lines) → Headed head Q b → BeginAlike (suc k) b lines → suc k < length b
        longer b j h =
            let t = under b j k h in
            let n : k < length t.0 = st.longer t.0 t.1.0 t.1.1.0 in
            let e : length b ≡ suc (length t.0) = t.1.1.1 in
            omega (arith, n, e)

-- ---- where lines leave a form

whole_alike : (b : Lines) → BeginAlike (length b) b b
whole_alike [] = tt
whole_alike (x ∷ b) = (refl, whole_alike b)

module _ (rest : List ℕ) where
  pub leaves_of : (Is : Lines → Type 0) (lines : Lines) (k : ℕ) → StopsAt Is lines k → LeavesAt Is lines rest k
  leaves_of Is lines k st = record { before = st.before; bad = st.bad; none = none }
    where
      none : (b : Lines) → Is b → lines ≡ b → ¬ (rest ≡ [])
      none b h e r = go (cases_lt k (length b))
        where
          here : BeginAlike (length b) b lines
          here = subst (λ (z : Lines). BeginAlike (length b) b z) (sym e) (whole_alike b)

          go : (k < length b) ⊎ (length b ≤ k) → ⊥
          go (inl l) = st.bad b h (alike_le (suc k) (length b) b lines (omega (arith, l)) here)
          go (inr l) =
              let most : k ≤ length lines = (alike_long st.before.0 lines k st.before.1.1).1 in
              let size : length lines ≡ length b = ap length e in
              let more : k < length b = st.longer b h (alike_le k (length b) b lines (omega (arith, most, size)) here) in
              omega (arith, more, l)

  module _ {A : Type 0} (name : List ℕ) (Fits : A → Type 0) (text : A → List ℕ) (lines behind : Lines) (ys : List A) (fit : All Fits ys)
      (small : IsNumber (length ys)) (is : lines ≡ counted name (map text ys) ++ behind) where
    -- behind a section
    pub leaves_then : (Q : Lines → Type 0) (k : ℕ) → LeavesAt Q behind rest k → LeavesAt (Joined (Section name Fits text) Q) lines rest (suc (length ys) + k)
    leaves_then Q k lv = record {
      before = then_before name Fits text Q lines behind ys fit small is k lv.before;
      bad = then_bad name Fits text Q lines behind ys fit small is k lv.bad;
      none = none;
    }
      where
        none : (b : Lines) → Joined (Section name Fits text) Q b → lines ≡ b → ¬ (rest ≡ [])
        none b j e =
            let s : Section name Fits text j.first = j.is_first in
            let line : counted name (map text ys) ++ behind ≡ counted name (map text s.items) ++ j.rest = sym is ∙ e ∙ j.lines ∙ ap (λ (z : Lines). z ++ j.rest) s.lines in
            lv.none j.rest j.is_rest (same_behind name Fits text ys s.items behind j.rest small s.count line)

    -- lines that are too many, or one that isn't ended
    pub leaves_end : (0 < length behind) ⊎ (¬ (rest ≡ [])) → LeavesAt (Section name Fits text) lines rest (suc (length ys))
    leaves_end more = record {
      before = last_before name Fits text lines behind ys fit small is;
      bad = last_bad name Fits text lines behind ys fit small is;
      none = none;
    }
      where
        none : (b : Lines) → Section name Fits text b → lines ≡ b → ¬ (rest ≡ [])
        none b s e r = go more
          where
            size : length b ≡ suc (length ys) + length behind
            size = ap length (sym e ∙ is) ∙ length-append (counted name (map text ys)) behind ∙ ap (λ (n : ℕ). n + length behind) (section_size name Fits text ys)

            go : (0 < length behind) ⊎ (¬ (rest ≡ [])) → ⊥
            go (inl l) = last_bad name Fits text lines behind ys fit small is b s
                (subst (λ (z : Lines). BeginAlike (suc (suc (length ys))) b z) (sym e)
                (alike_le (suc (suc (length ys))) (length b) b b (omega (arith, size, l)) (whole_alike b)))
            go (inr q) = q r

pub leaves_head : (rest : List ℕ) (head : List ℕ) (Q : Lines → Type 0) (lines behind : Lines) → lines ≡ head ∷ behind → (k : ℕ) → LeavesAt Q behind rest k → LeavesAt (Headed head Q) lines rest (suc k)
leaves_head rest head Q lines behind is k lv = record {
  before = headed_before head Q lines behind is k lv.before;
  bad = headed_bad head Q lines behind is k lv.bad;
  none = none;
}
  where
    none : (b : Lines) → Headed head Q b → lines ≡ b → ¬ (rest ≡ [])
    none b j e = let line : head ∷ behind ≡ head ∷ j.rest = sym is ∙ e ∙ j.lines in lv.none j.rest j.is_rest (cc)
