-- The mask is one less than a power of two. Assumes nothing.
use Rattle.std.proofs.Common.{◌≡◌, ℕ, ◌*◌, ◌%◌, ◌^◌, ◌≤◌, ◌∙◌, one-mul, arith, shl_exact}
use lib.Bits.{and_mask}
use lib.Dec.{lit<}
use Rattle.codes.proofs.bits.low.Goals as goal

power : (w : ℕ) → w ≤ 8 → (1 * 2 ^ w) % 2 ^ 64 ≡ 2 ^ w
power w h = shl_exact 1 w 64 (lit< tt) (omega arith) ∙ one-mul (2 ^ w)

pub returns : goal.returns
returns c = rw (power c.args.w c.requires) (and_mask c.args.x c.args.w)
