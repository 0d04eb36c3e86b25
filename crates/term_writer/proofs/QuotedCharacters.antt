-- What stands between quotes is read back.
use Rattle.std.proofs.Common.{◌≡◌, ◌∙◌, ℕ, zero, suc, ◌+◌, ◌<◌, inl, inr, List, [], ◌∷◌, ◌++◌, Bool, true, false, refl, sym, ap, subst, arith, append_assoc}
use Rattle.std.specs.Prelude.{◌==◌, ◌||◌, nat_lt}
use Rattle.std.specs.Char.{len_utf8}
use Rattle.std.specs.Fmt.{digits}
use Rattle.std.proofs.lemmas.Bool.{eqb-true, or_cases, ltb-true}
use Rattle.fd_language.specs.Tokens.{Between, quoted_front, quoted_spells}
use Rattle.fd_language.specs.TermTexts.{quoted_byte, quoted_bytes}
use Rattle.fd_language.proofs.Lemmas.{size, size-append}

-- a character's text inside quotes is passed, and spells the character
pub record IsReadBack (c : ℕ) : Type 0 where
  pub front : (n : ℕ) (w : List ℕ) → quoted_front Between n (quoted_byte c ++ w) ≡ quoted_front Between (n + size (quoted_byte c)) w
  pub spells : (w : List ℕ) → quoted_spells Between (quoted_byte c ++ w) ≡ c ∷ quoted_spells Between w

low : (c : ℕ) → c < 32 → IsReadBack c
unfolding digits
low zero h = record { front = λ n w. ap (λ (m : ℕ). quoted_front Between m w) (omega arith); spells = λ w. refl }
low (suc zero) h = record { front = λ n w. ap (λ (m : ℕ). quoted_front Between m w) (omega arith); spells = λ w. refl }
low (suc (suc zero)) h = record { front = λ n w. ap (λ (m : ℕ). quoted_front Between m w) (omega arith); spells = λ w. refl }
low (suc (suc (suc zero))) h = record { front = λ n w. ap (λ (m : ℕ). quoted_front Between m w) (omega arith); spells = λ w. refl }
low (suc (suc (suc (suc zero)))) h = record { front = λ n w. ap (λ (m : ℕ). quoted_front Between m w) (omega arith); spells = λ w. refl }
low (suc (suc (suc (suc (suc zero))))) h = record { front = λ n w. ap (λ (m : ℕ). quoted_front Between m w) (omega arith); spells = λ w. refl }
low (suc (suc (suc (suc (suc (suc zero)))))) h = record { front = λ n w. ap (λ (m : ℕ). quoted_front Between m w) (omega arith); spells = λ w. refl }
low (suc (suc (suc (suc (suc (suc (suc zero))))))) h = record { front = λ n w. ap (λ (m : ℕ). quoted_front Between m w) (omega arith); spells = λ w. refl }
low (suc (suc (suc (suc (suc (suc (suc (suc zero)))))))) h = record { front = λ n w. ap (λ (m : ℕ). quoted_front Between m w) (omega arith); spells = λ w. refl }
low (suc (suc (suc (suc (suc (suc (suc (suc (suc zero))))))))) h = record { front = λ n w. ap (λ (m : ℕ). quoted_front Between m w) (omega arith); spells = λ w. refl }
low (suc (suc (suc (suc (suc (suc (suc (suc (suc (suc zero)))))))))) h = record { front = λ n w. ap (λ (m : ℕ). quoted_front Between m w) (omega arith); spells = λ w. refl }
low (suc (suc (suc (suc (suc (suc (suc (suc (suc (suc (suc zero))))))))))) h = record { front = λ n w. ap (λ (m : ℕ). quoted_front Between m w) (omega arith); spells = λ w. refl }
low (suc (suc (suc (suc (suc (suc (suc (suc (suc (suc (suc (suc zero)))))))))))) h = record { front = λ n w. ap (λ (m : ℕ). quoted_front Between m w) (omega arith); spells = λ w. refl }
low (suc (suc (suc (suc (suc (suc (suc (suc (suc (suc (suc (suc (suc zero))))))))))))) h = record { front = λ n w. ap (λ (m : ℕ). quoted_front Between m w) (omega arith); spells = λ w. refl }
low (suc (suc (suc (suc (suc (suc (suc (suc (suc (suc (suc (suc (suc (suc zero)))))))))))))) h = record { front = λ n w. ap (λ (m : ℕ). quoted_front Between m w) (omega arith); spells = λ w. refl }
low (suc (suc (suc (suc (suc (suc (suc (suc (suc (suc (suc (suc (suc (suc (suc zero))))))))))))))) h = record
    { front = λ n w. ap (λ (m : ℕ). quoted_front Between m w) (omega arith); spells = λ w. refl }
low (suc (suc (suc (suc (suc (suc (suc (suc (suc (suc (suc (suc (suc (suc (suc (suc zero)))))))))))))))) h = record
    { front = λ n w. ap (λ (m : ℕ). quoted_front Between m w) (omega arith); spells = λ w. refl }
low (suc (suc (suc (suc (suc (suc (suc (suc (suc (suc (suc (suc (suc (suc (suc (suc (suc zero))))))))))))))))) h = record
    { front = λ n w. ap (λ (m : ℕ). quoted_front Between m w) (omega arith); spells = λ w. refl }
low (suc (suc (suc (suc (suc (suc (suc (suc (suc (suc (suc (suc (suc (suc (suc (suc (suc (suc zero)))))))))))))))))) h = record
    { front = λ n w. ap (λ (m : ℕ). quoted_front Between m w) (omega arith); spells = λ w. refl }
low (suc (suc (suc (suc (suc (suc (suc (suc (suc (suc (suc (suc (suc (suc (suc (suc (suc (suc (suc zero))))))))))))))))))) h = record
    { front = λ n w. ap (λ (m : ℕ). quoted_front Between m w) (omega arith); spells = λ w. refl }
low (suc (suc (suc (suc (suc (suc (suc (suc (suc (suc (suc (suc (suc (suc (suc (suc (suc (suc (suc (suc zero)))))))))))))))))))) h = record
    { front = λ n w. ap (λ (m : ℕ). quoted_front Between m w) (omega arith); spells = λ w. refl }
low (suc (suc (suc (suc (suc (suc (suc (suc (suc (suc (suc (suc (suc (suc (suc (suc (suc (suc (suc (suc (suc zero))))))))))))))))))))) h = record
    { front = λ n w. ap (λ (m : ℕ). quoted_front Between m w) (omega arith); spells = λ w. refl }
low (suc (suc (suc (suc (suc (suc (suc (suc (suc (suc (suc (suc (suc (suc (suc (suc (suc (suc (suc (suc (suc (suc zero)))))))))))))))))))))) h = record
    { front = λ n w. ap (λ (m : ℕ). quoted_front Between m w) (omega arith); spells = λ w. refl }
low (suc (suc (suc (suc (suc (suc (suc (suc (suc (suc (suc (suc (suc (suc (suc (suc (suc (suc (suc (suc (suc (suc (suc zero))))))))))))))))))))))) h = record
    { front = λ n w. ap (λ (m : ℕ). quoted_front Between m w) (omega arith); spells = λ w. refl }
low (suc (suc (suc (suc (suc (suc (suc (suc (suc (suc (suc (suc (suc (suc (suc (suc (suc (suc (suc (suc (suc (suc (suc (suc zero))))))))))))))))))))))))
    h = record { front = λ n w. ap (λ (m : ℕ). quoted_front Between m w) (omega arith); spells = λ w. refl }
low (suc (suc (suc (suc (suc (suc (suc (suc (suc (suc (suc (suc (suc (suc (suc (suc (suc (suc (suc (suc (suc (suc (suc (suc (suc zero)))))))))))))))))))))))))
    h = record { front = λ n w. ap (λ (m : ℕ). quoted_front Between m w) (omega arith); spells = λ w. refl }
low (suc (suc (suc (suc (suc (suc (suc (suc (suc (suc
    (suc (suc (suc (suc (suc (suc (suc (suc (suc (suc (suc (suc (suc (suc (suc (suc zero)))))))))))))))))))))))))) h = record
    { front = λ n w. ap (λ (m : ℕ). quoted_front Between m w) (omega arith); spells = λ w. refl }
low (suc (suc (suc (suc (suc (suc (suc (suc (suc (suc
    (suc (suc (suc (suc (suc (suc (suc (suc (suc (suc (suc (suc (suc (suc (suc (suc (suc zero))))))))))))))))))))))))))) h = record
    { front = λ n w. ap (λ (m : ℕ). quoted_front Between m w) (omega arith); spells = λ w. refl }
low (suc (suc (suc (suc (suc (suc (suc (suc (suc (suc
    (suc (suc (suc (suc (suc (suc (suc (suc (suc (suc (suc (suc (suc (suc (suc (suc (suc (suc zero)))))))))))))))))))))))))))) h = record
    { front = λ n w. ap (λ (m : ℕ). quoted_front Between m w) (omega arith); spells = λ w. refl }
low (suc (suc (suc (suc (suc (suc (suc (suc (suc (suc
    (suc (suc (suc (suc (suc (suc (suc (suc (suc (suc (suc (suc (suc (suc (suc (suc (suc (suc (suc zero))))))))))))))))))))))))))))) h = record
    { front = λ n w. ap (λ (m : ℕ). quoted_front Between m w) (omega arith); spells = λ w. refl }
low (suc (suc (suc (suc (suc (suc (suc (suc (suc (suc
    (suc (suc (suc (suc (suc (suc (suc (suc (suc (suc (suc (suc (suc (suc (suc (suc (suc (suc (suc (suc zero)))))))))))))))))))))))))))))) h = record
    { front = λ n w. ap (λ (m : ℕ). quoted_front Between m w) (omega arith); spells = λ w. refl }
low (suc (suc (suc (suc (suc (suc (suc (suc (suc (suc
    (suc (suc (suc (suc (suc (suc (suc (suc (suc (suc (suc (suc (suc (suc (suc (suc (suc (suc (suc (suc (suc zero))))))))))))))))))))))))))))))) h = record
    { front = λ n w. ap (λ (m : ℕ). quoted_front Between m w) (omega arith); spells = λ w. refl }
low (suc (suc (suc (suc (suc (suc (suc (suc (suc (suc
    (suc (suc (suc (suc (suc (suc (suc (suc (suc (suc (suc (suc (suc (suc (suc (suc (suc (suc (suc (suc (suc (suc k)))))))))))))))))))))))))))))))) h = absurd
    (omega arith)

delete : IsReadBack 127
unfolding digits
delete = record { front = λ n w. ap (λ (m : ℕ). quoted_front Between m w) (omega arith); spells = λ w. refl }

backslash : IsReadBack 92
backslash = record { front = λ n w. ap (λ (m : ℕ). quoted_front Between m w) (omega arith); spells = λ w. refl }

quote : IsReadBack 39
quote = record { front = λ n w. ap (λ (m : ℕ). quoted_front Between m w) (omega arith); spells = λ w. refl }

plain_front : (c n : ℕ) (w : List ℕ) → (c == 92) ≡ false → (c == 39) ≡ false → (c == 10) ≡ false → quoted_front Between n (c ∷ w) ≡ quoted_front Between (n + len_utf8 c) w
plain_front c n w a b d = rw (b, a, d) refl

plain_spells : (c : ℕ) (w : List ℕ) → (c == 92) ≡ false → (c == 39) ≡ false → (c == 10) ≡ false → quoted_spells Between (c ∷ w) ≡ c ∷ quoted_spells Between w
plain_spells c w a b d = rw (b, a, d) refl

pub stands : (c : ℕ) → (c == 92) ≡ false → (c == 39) ≡ false → (c == 10) ≡ false → (c == 9) ≡ false → (c == 13) ≡ false → (nat_lt c 32 || (c == 127)) ≡ false → quoted_byte c ≡ c ∷ []
stands c a b d e f g = rw (a, b, d, e, f, g) refl

plain : (c : ℕ) → (c == 92) ≡ false → (c == 39) ≡ false → (c == 10) ≡ false → (c == 9) ≡ false → (c == 13) ≡ false → (nat_lt c 32 || (c == 127)) ≡ false → IsReadBack c
plain c a b d e f g =
    let is : quoted_byte c ≡ c ∷ [] = stands c a b d e f g in
    record {
      front = λ n w.
          subst (λ (q : List ℕ). quoted_front Between n (q ++ w) ≡ quoted_front Between (n + size q) w) (sym is)
          (plain_front c n w a b d ∙ ap (λ (m : ℕ). quoted_front Between m w) (omega arith));
      spells = λ w. subst (λ (q : List ℕ). quoted_spells Between (q ++ w) ≡ c ∷ quoted_spells Between w) (sym is) (plain_spells c w a b d);
    }

-- Each character is read back.
pub read_back : (c : ℕ) → IsReadBack c
read_back c = at_backslash (c == 92) refl
  where
    small : (k : ℕ) → k < 32 → (c == k) ≡ true → IsReadBack c
    small k h e = subst IsReadBack (sym (eqb-true c k e)) (low k h)

    control : (b : Bool) → (nat_lt c 32 || (c == 127)) ≡ b → (c == 92) ≡ false → (c == 39) ≡ false → (c == 10) ≡ false → (c == 9) ≡ false → (c == 13) ≡ false → IsReadBack c
    control true g a b d e f = elim (or_cases (nat_lt c 32) (c == 127) g) [ inl h ↦ low c (ltb-true c 32 h) | inr h ↦ subst IsReadBack (sym (eqb-true c 127 h)) delete ]
    control false g a b d e f = plain c a b d e f g

    at_return : (b : Bool) → (c == 13) ≡ b → (c == 92) ≡ false → (c == 39) ≡ false → (c == 10) ≡ false → (c == 9) ≡ false → IsReadBack c
    at_return true f a b d e = small 13 (omega arith) f
    at_return false f a b d e = control (nat_lt c 32 || (c == 127)) refl a b d e f

    at_tab : (b : Bool) → (c == 9) ≡ b → (c == 92) ≡ false → (c == 39) ≡ false → (c == 10) ≡ false → IsReadBack c
    at_tab true e a b d = small 9 (omega arith) e
    at_tab false e a b d = at_return (c == 13) refl a b d e

    at_newline : (b : Bool) → (c == 10) ≡ b → (c == 92) ≡ false → (c == 39) ≡ false → IsReadBack c
    at_newline true d a b = small 10 (omega arith) d
    at_newline false d a b = at_tab (c == 9) refl a b d

    at_quote : (b : Bool) → (c == 39) ≡ b → (c == 92) ≡ false → IsReadBack c
    at_quote true b a = subst IsReadBack (sym (eqb-true c 39 b)) quote
    at_quote false b a = at_newline (c == 10) refl a b

    at_backslash : (b : Bool) → (c == 92) ≡ b → IsReadBack c
    at_backslash true a = subst IsReadBack (sym (eqb-true c 92 a)) backslash
    at_backslash false a = at_quote (c == 39) refl a

pub all_front : (cs : List ℕ) (n : ℕ) (w : List ℕ) → quoted_front Between n (quoted_bytes cs ++ w) ≡ quoted_front Between (n + size (quoted_bytes cs)) w
all_front [] n w = ap (λ (m : ℕ). quoted_front Between m w) (omega arith)
all_front (c ∷ cs) n w =
    ap (quoted_front Between n) (append_assoc (quoted_byte c) (quoted_bytes cs) w)
    ∙ (read_back c).front n (quoted_bytes cs ++ w) ∙ all_front cs (n + size (quoted_byte c)) w
    ∙ ap (λ (m : ℕ). quoted_front Between m w) (omega (arith, size-append (quoted_byte c) (quoted_bytes cs)))

pub all_spells : (cs : List ℕ) (w : List ℕ) → quoted_spells Between (quoted_bytes cs ++ w) ≡ cs ++ quoted_spells Between w
all_spells [] w = refl
all_spells (c ∷ cs) w =
    ap (quoted_spells Between) (append_assoc (quoted_byte c) (quoted_bytes cs) w)
    ∙ (read_back c).spells (quoted_bytes cs ++ w) ∙ ap (λ (ds : List ℕ). c ∷ ds) (all_spells cs w)
