-- A running sum modulo 2^64, with one number more. Assumes nothing.
use Rattle.std.proofs.Common.{◌≡◌, ℕ, ◌+◌, ◌%◌, ◌^◌, ◌∙◌}
use native.Mathlib.Nat.{mod-add-mod, add-mod-mod}

pub sum_more : {r sum : ℕ} (s p : ℕ) → r ≡ (sum + p) % 2 ^ 64 → sum ≡ s % 2 ^ 64 → r ≡ (s + p) % 2 ^ 64
sum_more s p is before = is ∙ rw before (mod-add-mod s (2 ^ 64) p)

-- where that number is one modulo 2^64 itself
pub sum_more_mod : {r sum part : ℕ} (s p : ℕ) → r ≡ (sum + part) % 2 ^ 64 → sum ≡ s % 2 ^ 64 → part ≡ p % 2 ^ 64 → r ≡ (s + p) % 2 ^ 64
sum_more_mod {sum = sum} s p is before here = sum_more s p (is ∙ rw here (add-mod-mod sum p (2 ^ 64))) before
