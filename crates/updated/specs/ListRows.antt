-- Rows of so many elements each in a list: where they stand in a part of it and in a list without one of them, and what is made or tested
-- row by row. Assumes nothing.
use Rattle.std.specs.Prelude.{◌≡◌, Bool, true, ◌&&◌, List, [], ◌∷◌, ◌++◌, ℕ, zero, suc, ◌+◌, ◌-◌, ◌*◌, ◌≤◌, ◌<◌, length, get_or, take, drop}
use Rattle.std.proofs.Common.{sym, ap, ap₂, ◌∙◌, append-nil, zero-add, add-zero, suc-add, suc-mul, mul-one, mul-le-mul_right, arith, length-append, length-drop, take-append-drop, drop_of_length-le, get_or-take, get_or-drop, take_at, drop_at, take-take, drop-drop, length-take-le}
use Rattle.std.proofs.Math.Bool.{and-eq-true_iff}
use Rattle.std.proofs.Math.Seq.{take-nil}
use Rattle.updating.specs.Updated.{without}

-- row i
abbrev pub row_at : {A : Type 0} → ℕ → List A → ℕ → List A
row_at size list i = take size (drop (i * size) list)

pub drop_take : {A : Type 0} (m n : ℕ) (list : List A) → drop m (take (m + n) list) ≡ take n (drop m list)
drop_take zero n list = rw zero-add
drop_take (suc m) n [] = rw (take-nil (suc m + n), take-nil n)
drop_take (suc m) n (x ∷ list) = rw (suc-add m n) (drop_take m n list)

-- a row of one element
pub row_one : {A : Type 0} (list : List A) (i : ℕ) (z : A) → get_or (row_at 1 list i) 0 z ≡ get_or list i z
row_one list i z = get_or-take 1 (drop (i * 1) list) 0 z (omega arith) ∙ get_or-drop (i * 1) list 0 z ∙ rw (mul-one i, add-zero i)

module _ {A : Type 0} (size : ℕ) where
  -- a row stands in the first n rows as it stands in all
  pub row_take : (n : ℕ) (list : List A) (i : ℕ) → i < n → row_at size (take (n * size) list) i ≡ row_at size list i
  row_take n list i row =
      let whole : suc i * size ≤ n * size = mul-le-mul_right size row in
      let behind = n * size - i * size in
      let all : n * size ≡ i * size + behind = omega (arith, suc-mul i size) in
      rw (all, drop_take (i * size) behind list) (take-take size behind (drop (i * size) list) (omega (arith, suc-mul i size)))

  -- and in front of others
  pub row_front : (n : ℕ) (front back : List A) → length front ≡ n * size → (i : ℕ) → i < n
      → row_at size (front ++ back) i ≡ row_at size front i
  row_front n front back rows i row =
      sym (row_take n (front ++ back) i row) ∙ ap (λ (list : List A). row_at size list i) (take_at front back (n * size) rows)

  -- ---- without row i

  module _ (list : List A) (i : ℕ) (there : suc i * size ≤ length list) where
    before_length : length (take (i * size) list) ≡ i * size
    before_length = length-take-le (i * size) list (omega (arith, suc-mul i size))

    -- earlier rows stay, later ones move down by one
    pub without_before : (j : ℕ) → j < i → row_at size (without size i list) j ≡ row_at size list j
    without_before j earlier =
        row_front i (take (i * size) list) (drop (suc i * size) list) before_length j earlier ∙ row_take i list j earlier

    pub without_behind : (j : ℕ) → i ≤ j → row_at size (without size i list) j ≡ row_at size list (suc j)
    without_behind j later =
        let least : i * size ≤ j * size = mul-le-mul_right size later in
        let more = j * size - i * size in
        let place : j * size ≡ i * size + more = omega arith in
        let next : suc i * size + more ≡ suc j * size = omega (arith, suc-mul i size, suc-mul j size) in
        ap (take size)
        (ap (λ (n : ℕ). drop n (without size i list)) place
        ∙ sym (drop-drop more (i * size) (without size i list))
        ∙ ap (drop more) (drop_at (take (i * size) list) (drop (suc i * size) list) (i * size) before_length)
        ∙ drop-drop more (suc i * size) list
        ∙ ap (λ (n : ℕ). drop n list) next)

  pub length_without : (n : ℕ) (list : List A) (i : ℕ) → length list ≡ n * size → i < n → length (without size i list) ≡ (n - 1) * size
  length_without n list i rows row =
      let whole : suc i * size ≤ n * size = mul-le-mul_right size row in
      let last : suc (n - 1) ≡ n = omega arith in
      let fewer : n * size ≡ (n - 1) * size + size = rw last at (suc-mul (n - 1) size) in
      length-append (take (i * size) list) (drop (suc i * size) list)
      ∙ rw (before_length list i (omega arith), length-drop (suc i * size) list) (omega (arith, suc-mul i size))

  -- what stands before the last row
  pub without_last : (n : ℕ) (front row : List A) → length front ≡ n * size → length row ≡ size → without size n (front ++ row) ≡ front
  without_last n front row rows one =
      let short : length (front ++ row) ≤ suc n * size = rw (length-append front row) (omega (arith, suc-mul n size)) in
      rw (take_at front row (n * size) rows, drop_of_length-le (front ++ row) short) (append-nil front)

-- ---- row by row

-- What is made of whole rows in front stands in front, and has so many elements for each row.
pub record Rowwise {A B : Type 0} (size out : ℕ) (make : List A → List B) : Type 0 where
  pub joins : (n : ℕ) (front back : List A) → length front ≡ n * size → make (front ++ back) ≡ make front ++ make back
  pub sizes : (n : ℕ) (front : List A) → length front ≡ n * size → length (make front) ≡ n * out

module _ {A B : Type 0} {size out : ℕ} {make : List A → List B} (is : Rowwise size out make) where
  module _ (n : ℕ) (list : List A) (there : n * size ≤ length list) where
    front_length : length (take (n * size) list) ≡ n * size
    front_length = length-take-le (n * size) list there

    cut_made : make list ≡ make (take (n * size) list) ++ make (drop (n * size) list)
    cut_made = ap make (sym (take-append-drop (n * size) list)) ∙ is.joins n (take (n * size) list) (drop (n * size) list) front_length

    take_made : take (n * out) (make list) ≡ make (take (n * size) list)
    take_made =
        rw cut_made
        (take_at (make (take (n * size) list)) (make (drop (n * size) list)) (n * out) (is.sizes n (take (n * size) list) front_length))

    drop_made : drop (n * out) (make list) ≡ make (drop (n * size) list)
    drop_made =
        rw cut_made
        (drop_at (make (take (n * size) list)) (make (drop (n * size) list)) (n * out) (is.sizes n (take (n * size) list) front_length))

  -- what is made without a row is what was made, without the row's part
  pub made_without : (list : List A) (i : ℕ) → suc i * size ≤ length list → make (without size i list) ≡ without out i (make list)
  made_without list i there =
      let before : i * size ≤ length list = omega (arith, suc-mul i size) in
      is.joins i (take (i * size) list) (drop (suc i * size) list) (length-take-le (i * size) list before)
      ∙ ap₂ ◌++◌ (sym (take_made i list before)) (sym (drop_made (suc i) list there))

-- Whole rows pass a test with what stands behind them exactly if both do.
pub record RowwiseTest {A : Type 0} (size : ℕ) (test : List A → Bool) : Type 0 where
  pub joins : (n : ℕ) (front back : List A) → length front ≡ n * size → test (front ++ back) ≡ test front && test back

pub test_without : {A : Type 0} {size : ℕ} {test : List A → Bool} → RowwiseTest size test → (list : List A) (i : ℕ)
    → suc i * size ≤ length list → test list ≡ true → test (without size i list) ≡ true
test_without {A} {size} {test} is list i there passes =
    let before : i * size ≤ length list = omega (arith, suc-mul i size) in
    let cut : (n : ℕ) → n * size ≤ length list → (test (take (n * size) list) ≡ true) × (test (drop (n * size) list) ≡ true) =
    λ n within.
    (and-eq-true_iff (test (take (n * size) list)) (test (drop (n * size) list))).0
    (sym (is.joins n (take (n * size) list) (drop (n * size) list) (length-take-le (n * size) list within))
    ∙ ap test (take-append-drop (n * size) list)
    ∙ passes) in
    is.joins i (take (i * size) list) (drop (suc i * size) list) (length-take-le (i * size) list before)
    ∙ rw ((cut i before).0, (cut (suc i) there).1)
