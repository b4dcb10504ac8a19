-- The difference of the keys has 16 bits exactly for components. Assumes nothing.
use Rattle.std.proofs.Common.{◌≡◌, ℕ, ◌+◌, ◌-◌, ◌%◌, ◌^◌, ◌<◌, Bool, true, false, ◌&&◌, ltb, leb, sym, refl, arith, ltb-false, ltb-true, le-leb, leb-true}
use borrow.Author.Tests.{lt-leb}
use Rattle.signed.specs.Keys.{key_of, key_component}
use Rattle.signed.proofs.ReadBack.{key_back}
use Rattle.signed.proofs.components.above_least.Goals as goal

-- a key k and its distance r above the key of the least component
in_range : (k r : ℕ) → k < 2 ^ 32 → r < 2 ^ 32 → (r + (2 ^ 31 - 32768)) % 2 ^ 32 ≡ k → ltb r (2 ^ 16) ≡ leb (2 ^ 31 - 32768) k && leb k (2 ^ 31 + 32767)
in_range k r small fits is = go (ltb r (2 ^ 16)) refl
  where
    above : (t : Bool) → leb (2 ^ 31 - 32768) k ≡ t → ltb r (2 ^ 16) ≡ false → false ≡ t && leb k (2 ^ 31 + 32767)
    above true e past = sym (lt-leb k (2 ^ 31 + 32767) (omega (arith, leb-true (2 ^ 31 - 32768) k e, ltb-false r (2 ^ 16) past)))
    above false e past = refl

    go : (t : Bool) → ltb r (2 ^ 16) ≡ t → t ≡ leb (2 ^ 31 - 32768) k && leb k (2 ^ 31 + 32767)
    go true e =
        let below = ltb-true r (2 ^ 16) e in
        rw (le-leb (2 ^ 31 - 32768) k (omega arith), le-leb k (2 ^ 31 + 32767) (omega arith))
    go false e = above (leb (2 ^ 31 - 32768) k) refl e

pub overflow_cast-result : goal.overflow_cast-result
overflow_cast-result c = record { fits = (key_back c.ranges.z c.key.ensures).small }

pub overflow_cast-result-2 : goal.overflow_cast-result-2
unfolding key_of
overflow_cast-result-2 c = record { fits = omega arith }

pub returns : goal.returns
unfolding key_of
returns c =
    let key = key_back c.ranges.z c.key.ensures in
    rw (key_component c.args.z, ← key.is)
    (in_range c.key.result ((c.key.result + (2 ^ 32 - c.key-2.result)) % 2 ^ 32) key.small (omega arith) (omega arith))
