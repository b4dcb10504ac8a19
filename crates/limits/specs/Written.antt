-- A list that is written from the front, one element a turn: what is written so far, with what is still to be written, is the whole.
-- Assumes nothing.
use Rattle.std.specs.Prelude.{◌≡◌, List, [], ◌∷◌, ◌++◌, ℕ, ◌+◌, ◌≤◌, ◌<◌, length, take, set}
use Rattle.std.proofs.Common.{append_assoc, append-nil, add-one, take-suc-set, take_all}

module _ {A : Type 0} where
  pub written_one : (out : List A) (n : ℕ) (x : A) (rest whole : List A) → n < length out → take n out ++ (x ∷ rest) ≡ whole
      → take (n + 1) (set out n x) ++ rest ≡ whole
  written_one out n x rest whole below so_far = rw (add-one, take-suc-set, append_assoc) so_far

  pub written_all : (out : List A) (n : ℕ) (whole : List A) → length out ≤ n → take n out ++ [] ≡ whole → out ≡ whole
  written_all out n whole past so_far = rw (append-nil, take_all) at so_far
