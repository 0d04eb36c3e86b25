-- What is kept of the other branches.
use Rattle.std.proofs.Common.{◌≡◌, ℕ, zero, suc, ◌-◌, List, [], ◌∷◌, drop, length, refl, ap, ◌∙◌, arith}
use Rattle.fd_language.specs.Lists.{Each}
use Rattle.fd_model.specs.Goal.{Branch, Goal}
use Rattle.fd_model.specs.Children.{kept_by, last_of}

none_dropped : (n : ℕ) (bs : List Branch) → n ≡ 0 → drop n bs ≡ bs
none_dropped zero bs e = refl
none_dropped (suc n) bs e = absurd (omega arith)

pub last_all : (bs : List Branch) → last_of (length bs) bs ≡ bs
last_all bs = none_dropped (length bs - length bs) bs (omega arith)

-- where a goal keeps all
pub last_whole : (g : Goal) (bs : List Branch) → kept_by (length bs) g ≡ length bs → last_of (kept_by (length bs) g) bs ≡ bs
last_whole g bs e = ap (λ c. last_of c bs) e ∙ last_all bs

each_drop : (H : Branch → Type 0) (n : ℕ) (bs : List Branch) → Each H bs → Each H (drop n bs)
each_drop H zero bs h = h
each_drop H (suc n) [] h = tt
each_drop H (suc n) (b ∷ bs) h = each_drop H n bs h.1

pub each_last : (H : Branch → Type 0) (c : ℕ) (bs : List Branch) → Each H bs → Each H (last_of c bs)
each_last H c bs h = each_drop H (length bs - c) bs h

drop_none : (n : ℕ) → drop {A = Branch} n [] ≡ []
drop_none zero = refl
drop_none (suc n) = refl

pub last_none : (c : ℕ) → last_of c [] ≡ []
last_none c = drop_none (0 - c)
