-- Steps without a reduction come to an end.
use Rattle.std.proofs.Common.{◌≡◌, ℕ, zero, suc, ◌+◌, ◌*◌, ◌<◌, ◌≤◌, List, [], ◌∷◌, drop, arith}
use Rattle.std.proofs.Math.Nat.{mul-le-mul_right}
use Rattle.wam_code.specs.WorkMeasure.{weight, return_work, Thread, thread_work, work}

pub weight_up : (d e : ℕ) → d ≤ e → weight d ≤ weight e
weight_up zero zero l = omega arith
weight_up zero (suc e) l = let w = weight_up zero e (omega arith) in omega (arith, w)
weight_up (suc d) zero l = absurd (omega (arith, l))
weight_up (suc d) (suc e) l = let w = weight_up d e (omega (arith, l)) in omega (arith, w)

pub weight_some : (d : ℕ) → 1 ≤ weight d
weight_some d = weight_up zero d (omega arith)

times_split : (a b k : ℕ) → suc (a + b) * k ≡ a * k + b * k + k
times_split a b k = grind arith

-- A choice leaves a place to come back to, and goes on at another one, both nearer to the end.
pub fork_falls : (d e f : ℕ) (ds : List ℕ) (ts : List Thread) → e < d → f < d
    → work (record { distance = e; returns = ds } ∷ record { distance = f; returns = ds } ∷ ts) < work (record { distance = d; returns = ds } ∷ ts)
fork_falls zero e f ds ts l m = absurd (omega (arith, l))
fork_falls (suc d) e f ds ts l m =
    let k : ℕ = suc (return_work ds) in
    let a = mul-le-mul_right k (weight_up e d (omega (arith, l))) in
    let b = mul-le-mul_right k (weight_up f d (omega (arith, m))) in
    let c = times_split (weight d) (weight d) k in
    omega (arith, a, b, c)

-- An instruction that goes on nearer to the end.
pub step_falls : (d e : ℕ) (ds : List ℕ) (ts : List Thread) → e < d → work (record { distance = e; returns = ds } ∷ ts) < work (record { distance = d; returns = ds } ∷ ts)
step_falls d e ds ts l = let f = fork_falls d e e ds ts l l in omega (arith, f)

-- Proceed: the newest continuation is next.
pub proceed_falls : (d e : ℕ) (ds : List ℕ) (ts : List Thread) → work (record { distance = e; returns = ds } ∷ ts) < work (record { distance = d; returns = e ∷ ds } ∷ ts)
proceed_falls d e ds ts =
    let k : ℕ = suc (weight e * suc (return_work ds)) in
    let a = mul-le-mul_right k (weight_some d) in
    let b : 1 * k ≡ k = omega arith in
    omega (arith, a, b)

-- Failing: the newest choice point is next.
pub back_falls : (d : ℕ) (ds : List ℕ) (ts : List Thread) → work ts < work (record { distance = d; returns = ds } ∷ ts)
back_falls d ds ts =
    let k : ℕ = suc (return_work ds) in
    let a = mul-le-mul_right k (weight_some d) in
    let b : 1 * k ≡ k = omega arith in
    omega (arith, a, b)

-- A cut: choice points that are dropped leave no more work.
dropped_less : (ts : List Thread) (k : ℕ) → work (drop k ts) ≤ work ts
dropped_less ts zero = omega arith
dropped_less [] (suc k) = omega arith
dropped_less (t ∷ ts) (suc k) = let w = dropped_less ts k in omega (arith, w)

pub cut_less : (t : Thread) (ts : List Thread) (k : ℕ) → work (t ∷ drop k ts) ≤ work (t ∷ ts)
cut_less t ts k = let w = dropped_less ts k in omega (arith, w)
