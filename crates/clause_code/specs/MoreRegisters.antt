-- Registers with more in them.
use Rattle.std.specs.Prelude.{◌≡◌, ℕ, Some}
use Rattle.fd_language.specs.Term.{Term}
use Rattle.wam_code.specs.Places.{Depth, Places}

-- p has what q has, and perhaps more registers and depths
pub record HasMore (p q : Places) : Type 0 where
  pub xs : (n : ℕ) (t : Term) → q.x n ≡ Some t → p.x n ≡ Some t
  pub ys : (n : ℕ) (t : Term) → q.y n ≡ Some t → p.y n ≡ Some t
  pub levels : (n : ℕ) (d : Depth) → q.levels n ≡ Some d → p.levels n ≡ Some d
  pub noted : (d : Depth) → q.noted ≡ Some d → p.noted ≡ Some d
  pub known : p.known ≡ q.known
  pub own : p.own ≡ q.own
  pub top : p.top ≡ q.top
