-- The one multiply-and-divide that shares of a loss, yields and caps are: sign and magnitude apart, truncated toward zero.
use Rattle.std.specs.Prelude.{ℕ, ℤ, pos, ◌*ℤ◌, int_div, int_rem}

-- x · l / t, rounded toward zero (document 01, "truncated toward zero"; Rust's `/` on i128)
abbrev pub share : ℤ → ℕ → ℕ → ℤ
share x l t = int_div (x *ℤ pos l) (pos t)

-- what it drops: x · l less t times the share, of the sign of x (Rust's `%`)
abbrev pub dropped : ℤ → ℕ → ℕ → ℤ
dropped x l t = int_rem (x *ℤ pos l) (pos t)
