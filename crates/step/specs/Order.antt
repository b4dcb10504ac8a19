-- Tests of order on whole numbers. Assumes nothing.
use Rattle.std.specs.Prelude.{◌≡◌, refl, true, not, zero, suc, ℤ, pos, negsuc}
use Rattle.std.proofs.Common.{sym, ap, ◌∙◌, arith, ltb-true, le-leb}
use Rattle.std.proofs.Math.Dec.{leb-zero, leb-suc-zero, leb-suc-suc}
use Rattle.std.proofs.Math.IntN.{pred_ℤ}
use Rattle.std.specs.Int.Signed.{le_z, lt_z}
use Rattle.limits.specs.Tests.{le_z_not, lt_z_not}

pub lt_le : (a b : ℤ) → lt_z a b ≡ true → le_z a b ≡ true
lt_le (pos a) (pos b) h = le-leb a b (omega (arith, ltb-true a b h))
lt_le (pos a) (negsuc b) h = h
lt_le (negsuc a) (pos b) h = refl
lt_le (negsuc a) (negsuc b) h = le-leb b a (omega (arith, ltb-true b a h))

-- below a number is at most the one before it
pub lt_pred : (a b : ℤ) → lt_z a b ≡ le_z a (pred_ℤ b)
lt_pred (pos a) (pos zero) = leb-suc-zero a
lt_pred (pos a) (pos (suc b)) = leb-suc-suc a b
lt_pred (pos a) (negsuc b) = refl
lt_pred (negsuc a) (pos zero) = sym (leb-zero a)
lt_pred (negsuc a) (pos (suc b)) = refl
lt_pred (negsuc a) (negsuc b) = refl

-- and the one before a is below b exactly if a is at most b
pub pred_lt : (a b : ℤ) → lt_z (pred_ℤ a) b ≡ le_z a b
pred_lt a b = lt_z_not (pred_ℤ a) b ∙ ap not (sym (lt_pred b a)) ∙ sym (le_z_not b a)
