-- Laws of numbers as bytes: each direction undoes the other. Assumes nothing.
use Rattle.std.specs.Prelude.{◌≡◌, refl, List, [], ◌∷◌, ◌++◌, ℕ, zero, suc, ◌+◌, ◌*◌, ◌/◌, ◌%◌, ◌^◌, ◌≤◌, ◌<◌, length, get_or, take, drop}
use Rattle.std.proofs.Common.{ap, ◌∙◌, add-zero, pow-suc, div-lt_iff_lt-mul, arith, lit<, get_or-drop, drop-drop}
use Rattle.std.proofs.Math.ListN.{drop_of_length-le}
use Rattle.records.specs.Bytes.{low_first, from_low_first, AreBytes}

pub low_length : (w x : ℕ) → length (low_first w x) ≡ w
unfolding low_first
low_length zero x = refl
low_length (suc w) x = ap suc (low_length w (x / 256))

-- ---- there and back

pub from_low : (w x : ℕ) (rest : List ℕ) → x < 256 ^ w → from_low_first w (low_first w x ++ rest) ≡ x
unfolding low_first from_low_first
from_low zero x rest h = omega arith
from_low (suc w) x rest h =
    let less : x < 256 ^ w * 256 = rw (pow-suc 256 w) at h in
    let below : x / 256 < 256 ^ w = (div-lt_iff_lt-mul (lit< tt)).1 less in
    rw (from_low w (x / 256) rest below) (omega arith)

-- ---- and back again

pub bytes_drop : (n : ℕ) (bytes : List ℕ) → AreBytes bytes → AreBytes (drop n bytes)
bytes_drop n bytes are i = rw (get_or-drop n bytes i 0) (are (n + i))

pub low_from : (w : ℕ) (bytes : List ℕ) → AreBytes bytes → w ≤ length bytes → low_first w (from_low_first w bytes) ≡ take w bytes
unfolding low_first from_low_first
low_from zero bytes are room = refl
low_from (suc w) [] are room = absurd (omega arith)
low_from (suc w) (x ∷ bytes) are room =
    let byte : x < 256 = are 0 in
    let low : (x + 256 * from_low_first w bytes) % 256 ≡ x = omega arith in
    let high : (x + 256 * from_low_first w bytes) / 256 ≡ from_low_first w bytes = omega arith in
    rw (low, high, low_from w bytes (λ i. are (suc i)) (omega arith))

pub from_below : (w : ℕ) (bytes : List ℕ) → AreBytes bytes → from_low_first w bytes < 256 ^ w
unfolding from_low_first
from_below zero bytes are = lit< tt
from_below (suc w) bytes are =
    let byte : get_or bytes 0 0 < 256 = are 0 in
    let rest : from_low_first w (drop 1 bytes) < 256 ^ w = from_below w (drop 1 bytes) (bytes_drop 1 bytes are) in
    rw (pow-suc 256 w) (omega arith)

-- past the end there are only zeros
pub from_none : (w : ℕ) → from_low_first w [] ≡ 0
unfolding from_low_first
from_none zero = refl
from_none (suc w) = rw (from_none w)

pub from_past : (w : ℕ) (bytes : List ℕ) (at : ℕ) → length bytes ≤ at → from_low_first w (drop at bytes) ≡ 0
from_past w bytes at past = ap (from_low_first w) (drop_of_length-le bytes past) ∙ from_none w

-- two bytes by their indices
pub two_bytes : (bytes : List ℕ) (at : ℕ) → from_low_first 2 (drop at bytes) ≡ get_or bytes at 0 + 256 * get_or bytes (at + 1) 0
unfolding from_low_first
two_bytes bytes at =
    rw (drop-drop 1 at bytes, get_or-drop at bytes 0 0, get_or-drop (at + 1) bytes 0 0, add-zero at, add-zero (at + 1)) (omega arith)

-- four bytes by their halves
pub two_halves : (bytes : List ℕ) (at : ℕ)
    → from_low_first 4 (drop at bytes) ≡ from_low_first 2 (drop at bytes) + 65536 * from_low_first 2 (drop (at + 2) bytes)
unfolding from_low_first
two_halves bytes at = rw (← drop-drop 2 at bytes, drop-drop 1 1 (drop at bytes)) (omega arith)
