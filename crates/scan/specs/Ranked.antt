-- Keys that agree rank, scan and read alike; ranking the values of a function ranks the numbers by the function. Assumes nothing.
use Rattle.std.specs.Prelude.{◌≡◌, refl, List, [], ◌∷◌, ℕ}
use Rattle.std.proofs.Common.{ap, ◌∙◌, arith}
use mathlib.Core.List.Memᴰ
use Rattle.order.specs.Pair.{count_from, sort, keyed, ranked}
use Rattle.order.specs.Pairs.{pairs_of}
use Rattle.order.specs.Counted.{counted}
use Rattle.order.specs.Rank.{key_at, keyed_count}
use Rattle.selection.specs.Reading.{scan, read}
use Rattle.selection.specs.Settles.{Agree}
use Rattle.selection.proofs.Theorems.{reads_among, stable}
use Rattle.distance.specs.Values.{values_from, values_length, value_at}

-- keys that agree at the numbers rank them alike
keyed_agree : (key other : ℕ → ℕ) (is : List ℕ) → Agree is other key → keyed other is ≡ keyed key is
unfolding keyed
keyed_agree key other [] agree = refl
keyed_agree key other (i ∷ is) agree =
    rw (agree i (Memᴰ.head refl), keyed_agree key other is (λ j m. agree j (Memᴰ.tail m)))

pub ranked_agree : (key other : ℕ → ℕ) (is : List ℕ) → Agree is other key → ranked other is ≡ ranked key is
unfolding ranked
ranked_agree key other is agree = rw (keyed_agree key other is agree)

pub scan_agree : (k : ℕ) (distance other : ℕ → ℕ) (is : List ℕ) → Agree is other distance → scan k other is ≡ scan k distance is
unfolding scan
scan_agree k distance other is agree = rw (ranked_agree distance other is agree)

-- and so does a reading, where lows and distances agree
read_order : (k : ℕ) (low other-low distance : ℕ → ℕ) (is : List ℕ) → Agree is other-low low
    → read k other-low distance is ≡ read k low distance is
unfolding read
read_order k low other-low distance is agree = rw (ranked_agree low other-low is agree)

pub read_agree : (k : ℕ) (low other-low distance other : ℕ → ℕ) (is : List ℕ) → Agree is other-low low → Agree is other distance
    → read k other-low other is ≡ read k low distance is
read_agree k low other-low distance other is lows-agree agree =
    read_order k low other-low other is lows-agree ∙ stable k low distance is other (λ i m. agree i (reads_among k low distance is m))

-- so ranking the values ranks the numbers by the function
pub values_ranked : (f : ℕ → ℕ) (n : ℕ) → ranked (key_at (values_from f 0 n)) (count_from 0 n) ≡ ranked f (count_from 0 n)
values_ranked f n =
    ranked_agree f (key_at (values_from f 0 n)) (count_from 0 n) (λ i m. value_at f n i (omega (arith, (counted 0 n m).below)))

-- and so does sorting the values with the numbers
pub values_sorted : (f : ℕ → ℕ) (n : ℕ) → sort (pairs_of (values_from f 0 n) (count_from 0 n)) ≡ ranked f (count_from 0 n)
unfolding ranked
values_sorted f n =
    ap sort (keyed_count (values_from f 0 n) 0 n (omega (arith, values_length f 0 n))) ∙ values_ranked f n
