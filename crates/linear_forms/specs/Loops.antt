-- What the loops over terms keep.
use Rattle.std.specs.Prelude.{◌≡◌, ℕ, true, ℤ, ◌+ℤ◌, ◌*ℤ◌, nat_eq, List, Some, None}
use Rattle.std.specs.List.{IsDistinct}
use Rattle.std.specs.Map.{keys_of}
use Rattle.fd_model.specs.Linear.{in_integers}
use Rattle.linear_forms.specs.declared.sums.Share.{Share}
use Rattle.linear_forms.specs.Shares.{share_at, together, scaled_share}

-- all of other is added to old, but what is ahead
pub record Adding (old other now ahead : List (ℕ × Share)) : Type 0 where
  pub distinct : IsDistinct nat_eq (keys_of ahead)
  pub same : (x : ℕ) (v : Share) → share_at ahead x ≡ Some v → share_at now x ≡ share_at old x
  pub part : (x : ℕ) (v : Share) → share_at ahead x ≡ Some v → share_at other x ≡ Some v
  pub done : (x : ℕ) → share_at ahead x ≡ None → share_at now x ≡ together (share_at old x) (share_at other x)
  pub inside : (x : ℕ) (u v : Share) → share_at ahead x ≡ None → share_at old x ≡ Some u → share_at other x ≡ Some v → in_integers (u.coefficient +ℤ v.coefficient) ≡ true
  pub unique : IsDistinct nat_eq (keys_of old) → IsDistinct nat_eq (keys_of now)

-- all of old is scaled, but what is ahead
pub record Scaling (k : ℤ) (old now ahead : List (ℕ × Share)) : Type 0 where
  pub distinct : IsDistinct nat_eq (keys_of ahead)
  pub part : (x : ℕ) (v : Share) → share_at ahead x ≡ Some v → share_at old x ≡ Some v
  pub done : (x : ℕ) (v : Share) → share_at ahead x ≡ None → share_at old x ≡ Some v → share_at now x ≡ Some (scaled_share k v)
  pub none : (x : ℕ) → share_at old x ≡ None → share_at now x ≡ None
  pub inside : (x : ℕ) (v : Share) → share_at ahead x ≡ None → share_at old x ≡ Some v → in_integers (k *ℤ v.coefficient) ≡ true
  pub unique : IsDistinct nat_eq (keys_of now)
