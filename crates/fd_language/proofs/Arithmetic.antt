-- How the operators of range terms keep orders.
use Rattle.std.proofs.Common.{◌≡◌, ℕ, zero, suc, ◌*◌, ◌/◌, ◌≤◌, max, ℤ, pos, negsuc, ◌+ℤ◌, ◌-ℤ◌, ◌*ℤ◌, neg_ℤ, ◌≤ℤ◌, ap, arith, mul-le-mul, mul-le-mul_left}
use Rattle.std.proofs.Common.{suc-le-suc, div-mul-le_self, div-le_self}
use Rattle.std.proofs.Math.Nat.{zero-div}
use Rattle.std.proofs.lemmas.Nat.{le-div}
use Rattle.std.proofs.lemmas.Int.{ints}
use Rattle.fd_language.specs.Range.{down_by, div_down, div_up}

pub add_keeps : (a b c d : ℤ) → a ≤ℤ b → c ≤ℤ d → (a +ℤ c) ≤ℤ (b +ℤ d)
add_keeps a b c d h g = omega (arith, ints)

pub sub_keeps : (a b c d : ℤ) → a ≤ℤ b → d ≤ℤ c → (a -ℤ c) ≤ℤ (b -ℤ d)
sub_keeps a b c d h g = omega (arith, ints)

pos_le : (m n : ℕ) → m ≤ n → pos m ≤ℤ pos n
pos_le m n h = omega (arith, ints)

le_pos : (m n : ℕ) → pos m ≤ℤ pos n → m ≤ n
le_pos m n h = omega (arith, ints)

neg_le : (m n : ℕ) → m ≤ n → negsuc n ≤ℤ negsuc m
neg_le m n h = omega (arith, ints)

le_neg : (m n : ℕ) → negsuc n ≤ℤ negsuc m → m ≤ n
le_neg m n h = omega (arith, ints)

neg_pos : (m n : ℕ) → negsuc n ≤ℤ pos m
neg_pos m n = omega (arith, ints)

not_pos_neg : (m n : ℕ) → pos m ≤ℤ negsuc n → ⊥
not_pos_neg m n h = omega (arith, ints)

neg_of : (m n : ℕ) → m ≤ n → neg_ℤ (pos n) ≤ℤ neg_ℤ (pos m)
neg_of m n h = omega (arith, ints)

neg_below : (m n : ℕ) → neg_ℤ (pos m) ≤ℤ pos n
neg_below m n = omega (arith, ints)

pub turned : (a b : ℤ) → a ≤ℤ b → neg_ℤ b ≤ℤ neg_ℤ a
turned a b h = omega (arith, ints)

-- a factor that is natural, and one that is not
pub mul_keeps : (k : ℕ) (a b : ℤ) → a ≤ℤ b → (pos k *ℤ a) ≤ℤ (pos k *ℤ b)
mul_keeps k (pos m) (pos n) h = pos_le (k * m) (k * n) (mul-le-mul_left k (le_pos m n h))
mul_keeps k (pos m) (negsuc n) h = absurd (not_pos_neg m n h)
mul_keeps k (negsuc m) (pos n) h = neg_below (k * suc m) (k * n)
mul_keeps k (negsuc m) (negsuc n) h = neg_of (k * suc n) (k * suc m) (mul-le-mul_left k (let l : n ≤ m = le_neg n m h in omega arith))

pub mul_turns : (k : ℕ) (a b : ℤ) → a ≤ℤ b → (negsuc k *ℤ b) ≤ℤ (negsuc k *ℤ a)
mul_turns k (pos m) (pos n) h = neg_of (suc k * m) (suc k * n) (mul-le-mul_left (suc k) (le_pos m n h))
mul_turns k (pos m) (negsuc n) h = absurd (not_pos_neg m n h)
mul_turns k (negsuc m) (pos n) h = neg_below (suc k * n) (suc k * suc m)
mul_turns k (negsuc m) (negsuc n) h = pos_le (suc k * suc n) (suc k * suc m) (mul-le-mul_left (suc k) (let l : n ≤ m = le_neg n m h in omega arith))

not_natural : (n : ℕ) → pos 0 ≤ℤ negsuc n → ⊥
not_natural n h = not_pos_neg 0 n h

pub natural_product : (a b c d : ℤ) → pos 0 ≤ℤ a → pos 0 ≤ℤ c → a ≤ℤ b → c ≤ℤ d → (a *ℤ c) ≤ℤ (b *ℤ d)
natural_product (pos a) (pos b) (pos c) (pos d) h g i j = pos_le (a * c) (b * d) (mul-le-mul (le_pos a b i) (le_pos c d j))
natural_product (negsuc a) b c d h g i j = absurd (not_natural a h)
natural_product (pos a) (negsuc b) c d h g i j = absurd (not_pos_neg a b i)
natural_product (pos a) (pos b) (negsuc c) d h g i j = absurd (not_natural c g)
natural_product (pos a) (pos b) (pos c) (negsuc d) h g i j = absurd (not_pos_neg c d j)

pub product_natural : (a b : ℤ) → pos 0 ≤ℤ a → pos 0 ≤ℤ b → pos 0 ≤ℤ (a *ℤ b)
product_natural (pos a) (pos b) h g = pos_le 0 (a * b) (omega arith)
product_natural (negsuc a) b h g = absurd (not_natural a h)
product_natural (pos a) (negsuc b) h g = absurd (not_natural b g)

div_grows : (a b n : ℕ) → a ≤ b → a / suc n ≤ b / suc n
div_grows a b n h = le-div (a / suc n) b (suc n) (omega arith) (omega (arith, div-mul-le_self a (suc n)))

div_falls : (a m n : ℕ) → n ≤ m → a / suc m ≤ a / suc n
div_falls a m n h = le-div (a / suc m) a (suc n) (omega arith) (omega (arith, mul-le-mul_left (a / suc m) (suc-le-suc h), div-mul-le_self a (suc m)))

not_one : pos 1 ≤ℤ pos 0 → ⊥
not_one h = omega (arith, ints)

down_mono : (n : ℕ) (a b : ℤ) → a ≤ℤ b → down_by a n ≤ℤ down_by b n
down_mono n (pos a) (pos b) h = pos_le (a / suc n) (b / suc n) (div_grows a b n (le_pos a b h))
down_mono n (negsuc a) (pos b) h = neg_pos (b / suc n) (a / suc n)
down_mono n (negsuc a) (negsuc b) h = neg_le (b / suc n) (a / suc n) (div_grows b a n (le_neg b a h))
down_mono n (pos a) (negsuc b) h = absurd (not_pos_neg a b h)

-- a divisor of at least 1
pub down_keeps : (M : ℕ) (d a b : ℤ) → pos 1 ≤ℤ d → a ≤ℤ b → div_down M a d ≤ℤ div_down M b d
down_keeps M (pos (suc n)) a b h g = down_mono n a b g
down_keeps M (pos zero) a b h g = absurd (not_one h)
down_keeps M (negsuc n) a b h g = absurd (not_pos_neg 1 n h)

pub up_keeps : (M : ℕ) (d a b : ℤ) → pos 1 ≤ℤ d → a ≤ℤ b → div_up M a d ≤ℤ div_up M b d
up_keeps M (pos (suc n)) a b h g = turned (down_by (neg_ℤ b) n) (down_by (neg_ℤ a) n) (down_mono n (neg_ℤ b) (neg_ℤ a) (turned a b g))
up_keeps M (pos zero) a b h g = absurd (not_one h)
up_keeps M (negsuc n) a b h g = absurd (not_pos_neg 1 n h)

-- natural operands
pub down_natural : (M : ℕ) (a b c d : ℤ) → pos 0 ≤ℤ a → pos 0 ≤ℤ d → a ≤ℤ b → d ≤ℤ c → div_down M a c ≤ℤ div_down M b d
down_natural M (negsuc a) b c d h g i j = absurd (not_natural a h)
down_natural M (pos a) (negsuc b) c d h g i j = absurd (not_pos_neg a b i)
down_natural M (pos a) (pos b) c (negsuc d) h g i j = absurd (not_natural d g)
down_natural M (pos a) (pos b) (negsuc c) (pos d) h g i j = absurd (not_pos_neg d c j)
down_natural M (pos a) (pos b) (pos (suc c)) (pos (suc d)) h g i j =
    pos_le (a / suc c) (b / suc d) (let e = div_falls a c d (omega (arith, le_pos (suc d) (suc c) j)) in let f = div_grows a b d (le_pos a b i) in omega arith)
down_natural M (pos a) (pos b) (pos zero) (pos (suc d)) h g i j = absurd (let l = le_pos (suc d) 0 j in omega arith)
down_natural M (pos a) (pos b) (pos (suc c)) (pos zero) h g i j = pos_le (a / suc c) (max b M) (let e = div-le_self a (suc c) in let f = le_pos a b i in omega arith)
down_natural M (pos a) (pos b) (pos zero) (pos zero) h g i j = pos_le (max a M) (max b M) (let f = le_pos a b i in omega arith)

pub down_positive : (M : ℕ) (a b : ℤ) → pos 0 ≤ℤ a → pos 0 ≤ℤ b → pos 0 ≤ℤ div_down M a b
down_positive M (pos a) (pos (suc b)) h g = pos_le 0 (a / suc b) (omega arith)
down_positive M (pos a) (pos zero) h g = pos_le 0 (max a M) (omega arith)
down_positive M (negsuc a) b h g = absurd (not_natural a h)
down_positive M (pos a) (negsuc b) h g = absurd (not_natural b g)

up_zero : (M n : ℕ) → div_up M (pos zero) (pos (suc n)) ≡ pos 0
up_zero M n = ap (λ k. neg_ℤ (pos k)) (zero-div (suc n))

pub up_positive : (M : ℕ) (a b : ℤ) → pos 0 ≤ℤ a → pos 0 ≤ℤ b → pos 0 ≤ℤ div_up M a b
up_positive M (pos zero) (pos (suc b)) h g = rw (up_zero M b) (pos_le 0 0 (omega arith))
up_positive M (pos (suc a)) (pos (suc b)) h g = pos_le 0 (suc (a / suc b)) (omega arith)
up_positive M (pos zero) (pos zero) h g = pos_le 0 0 (omega arith)
up_positive M (pos (suc a)) (pos zero) h g = pos_le 0 (max (suc a) M) (omega arith)
up_positive M (negsuc a) b h g = absurd (not_natural a h)
up_positive M (pos a) (negsuc b) h g = absurd (not_natural b g)

up_bound : (a n : ℕ) → a / suc n ≤ a
up_bound a n = div-le_self a (suc n)

pub up_natural : (M : ℕ) (a b c d : ℤ) → pos 0 ≤ℤ a → pos 0 ≤ℤ d → a ≤ℤ b → d ≤ℤ c → div_up M a c ≤ℤ div_up M b d
up_natural M (negsuc a) b c d h g i j = absurd (not_natural a h)
up_natural M (pos a) (negsuc b) c d h g i j = absurd (not_pos_neg a b i)
up_natural M (pos a) (pos b) c (negsuc d) h g i j = absurd (not_natural d g)
up_natural M (pos a) (pos b) (negsuc c) (pos d) h g i j = absurd (not_pos_neg d c j)
up_natural M (pos a) (pos b) (pos zero) (pos (suc d)) h g i j = absurd (let l = le_pos (suc d) 0 j in omega arith)
up_natural M (pos zero) (pos b) (pos (suc c)) (pos d) h g i j = rw (up_zero M c) (up_positive M (pos b) (pos d) (pos_le 0 b (omega arith)) g)
up_natural M (pos zero) (pos b) (pos zero) (pos zero) h g i j = up_positive M (pos b) (pos zero) (pos_le 0 b (omega arith)) g
up_natural M (pos (suc a)) (pos zero) c d h g i j = absurd (let l = le_pos (suc a) 0 i in omega arith)
up_natural M (pos (suc a)) (pos (suc b)) (pos (suc c)) (pos (suc d)) h g i j =
    pos_le (suc (a / suc c)) (suc (b / suc d)) (let l : d ≤ c = omega (arith, le_pos (suc d) (suc c) j) in let e = div_falls a c d l in
    let k : a ≤ b = omega (arith, le_pos (suc a) (suc b) i) in let f = div_grows a b d k in omega arith)
up_natural M (pos (suc a)) (pos (suc b)) (pos (suc c)) (pos zero) h g i j =
    pos_le (suc (a / suc c)) (max (suc b) M) (let e = up_bound a c in let f = le_pos (suc a) (suc b) i in omega arith)
up_natural M (pos (suc a)) (pos (suc b)) (pos zero) (pos zero) h g i j = pos_le (max (suc a) M) (max (suc b) M) (let f = le_pos (suc a) (suc b) i in omega arith)
