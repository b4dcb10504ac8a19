-- Tests of order on whole numbers, one after the other, and the test that a number lies from one mark up to, and without, another.
-- Assumes nothing.
use Rattle.std.specs.Prelude.{◌≡◌, refl, Bool, true, false, not, ◌&&◌, ℕ, ◌≤◌, leb, ℤ, pos, negsuc}
use Rattle.std.proofs.Common.{sym, ap, ◌∙◌, true≢false, arith, leb-true, le-leb}
use Rattle.std.specs.Int.Signed.{le_z, lt_z}
use Rattle.limits.specs.Tests.{lt_z_not}

chain : (a b c : ℕ) → leb a b ≡ true → leb b c ≡ true → leb a c ≡ true
chain a b c h k =
    let low : a ≤ b = leb-true a b h in
    let high : b ≤ c = leb-true b c k in
    le-leb a c (omega arith)

pub le_z_trans : (a b c : ℤ) → le_z a b ≡ true → le_z b c ≡ true → le_z a c ≡ true
le_z_trans (pos a) (pos b) (pos c) h k = chain a b c h k
le_z_trans (pos a) (pos b) (negsuc c) h k = k
le_z_trans (pos a) (negsuc b) (pos c) h k = cc
le_z_trans (pos a) (negsuc b) (negsuc c) h k = h
le_z_trans (negsuc a) (pos b) (pos c) h k = refl
le_z_trans (negsuc a) (pos b) (negsuc c) h k = cc
le_z_trans (negsuc a) (negsuc b) (pos c) h k = refl
le_z_trans (negsuc a) (negsuc b) (negsuc c) h k = chain c b a k h

pub le_z_refl : (a : ℤ) → le_z a a ≡ true
le_z_refl (pos a) = le-leb a a (omega arith)
le_z_refl (negsuc a) = le-leb a a (omega arith)

-- A number is not both below and at least another.
pub lt_z_clash : (a b : ℤ) → lt_z a b ≡ true → le_z b a ≡ true → ⊥
lt_z_clash a b below above = true≢false (sym below ∙ lt_z_not a b ∙ ap not above)

not_le_z : (a b : ℤ) → (le_z b a ≡ true → ⊥) → lt_z a b ≡ true
not_le_z a b never = lt_z_not a b ∙ ap not (go (le_z b a) refl)
  where
    go : (t : Bool) → le_z b a ≡ t → t ≡ false
    go true e = absurd (never e)
    go false e = refl

pub lt_z_le_z : (a b c : ℤ) → lt_z a b ≡ true → le_z b c ≡ true → lt_z a c ≡ true
lt_z_le_z a b c below above = not_le_z a c (λ e. lt_z_clash a b below (le_z_trans b c a above e))

pub le_z_lt_z : (a b c : ℤ) → le_z a b ≡ true → lt_z b c ≡ true → lt_z a c ≡ true
le_z_lt_z a b c above below = not_le_z a c (λ e. lt_z_clash b c below (le_z_trans c a b e above))

-- The number v lies from low up to, and without, high.
pub record Within (low v high : ℤ) : Type 0 where
  pub lower : le_z low v ≡ true
  pub upper : lt_z v high ≡ true

pub within : (low v high : ℤ) → le_z low v && lt_z v high ≡ true → Within low v high
within low v high holds = go (le_z low v) refl holds
  where
    go : (t : Bool) → le_z low v ≡ t → t && lt_z v high ≡ true → Within low v high
    go true e holds = record { lower = e; upper = holds }
    go false e holds = absurd (true≢false (sym holds))

pub within_test : {low v high : ℤ} → Within low v high → le_z low v && lt_z v high ≡ true
within_test is = rw is.lower is.upper

-- There is a number from low up to high only where high is above low.
pub within_apart : {low v high : ℤ} → Within low v high → lt_z low high ≡ true
within_apart {low} {v} {high} is = le_z_lt_z low v high is.lower is.upper
