-- A text tells what it says: a line of one number its number, and whether it is a refusal or a line of numbers. Assumes nothing.
use Rattle.std.specs.Prelude.{◌≡◌, refl, ◌≢◌, Bool, true, false, cond, List, [], ◌∷◌, ◌++◌, ℕ, zero, suc, ◌+◌, ◌-◌, ◌*◌, ◌/◌, ◌%◌, ◌≤◌, ◌<◌, ltb, length, get_or, drop}
use Rattle.std.proofs.Common.{sym, ap, ◌∙◌, arith, ltb-true, ltb-false}
use Rattle.text.specs.Text.{digit, line_end, digits_within, decimal, line, refused_word, refused_line}

-- ---- the number of digits

-- the number that digits stand for, behind a number that is there
unfoldable value_of : ℕ → List ℕ → ℕ
value_of v [] = v
value_of v (byte ∷ bytes) = value_of (10 * v + (byte - digit 0)) bytes

value_behind : (v : ℕ) (bytes : List ℕ) (last : ℕ) → value_of v (bytes ++ (last ∷ [])) ≡ 10 * value_of v bytes + (last - digit 0)
unfolding value_of
value_behind v [] last = refl
value_behind v (byte ∷ bytes) last = value_behind (10 * v + (byte - digit 0)) bytes last

value_within : (w x : ℕ) → x < w → value_of 0 (digits_within w x) ≡ x
unfolding digits_within value_of
value_within zero x small = absurd (omega arith)
value_within (suc w) x small = go (ltb x 10) refl (λ ten. value_within w (x / 10) (omega arith))
  where
    go : (t : Bool) → ltb x 10 ≡ t → (10 ≤ x → value_of 0 (digits_within w (x / 10)) ≡ x / 10)
        → value_of 0 (cond t (digit x ∷ []) (digits_within w (x / 10) ++ (digit (x % 10) ∷ []))) ≡ x
    go true e tens = omega arith
    go false e tens =
        value_behind 0 (digits_within w (x / 10)) (digit (x % 10)) ∙ rw (tens (ltb-false x 10 e)) (omega arith)

value_line : (x : ℕ) → value_of 0 (line x []) ≡ 10 * x + (line_end - digit 0)
unfolding decimal line
value_line x = value_behind 0 (decimal x) line_end ∙ rw (value_within (suc x) x (omega arith))

-- a refusal's line tells its number
pub refused_told : (x y : ℕ) → refused_line x ≡ refused_line y → x ≡ y
refused_told x y same =
    let lines : line x [] ≡ line y [] = ap (drop (length refused_word)) same in
    let values = sym (value_line x) ∙ ap (value_of 0) lines ∙ value_line y in
    omega (arith, values)

-- ---- the first byte of a line

-- it is a digit's
record BeginsByDigit (bytes : List ℕ) : Type 0 where
  byte : ℕ
  rest : List ℕ
  is : bytes ≡ byte ∷ rest
  small : byte ≤ digit 9

either_begins : (t : Bool) (x : ℕ) (bytes : List ℕ) → (t ≡ true → x < 10) → BeginsByDigit bytes
    → BeginsByDigit (cond t (digit x ∷ []) bytes)
either_begins true x bytes small begins = record { byte = digit x; rest = []; is = refl; small = omega (arith, small refl) }
either_begins false x bytes small begins = begins

digits_begin : (w x : ℕ) → BeginsByDigit (digits_within (suc w) x)
unfolding digits_within
digits_begin zero x =
    either_begins (ltb x 10) x (digit (x % 10) ∷ []) (ltb-true x 10)
    (record { byte = digit (x % 10); rest = []; is = refl; small = omega arith })
digits_begin (suc w) x =
    let tens = digits_begin w (x / 10) in
    let behind = digit (x % 10) ∷ [] in
    either_begins (ltb x 10) x (digits_within (suc w) (x / 10) ++ behind) (ltb-true x 10)
    (record {
      byte = tens.byte;
      rest = tens.rest ++ behind;
      is = ap (λ (bytes : List ℕ). bytes ++ behind) tens.is;
      small = tens.small;
    })

-- a refusal begins by the letter r, byte 114: a line of numbers, with what stands behind it, is none
pub line_not_refused : (x y : ℕ) (ys more : List ℕ) (z : ℕ) → line x (y ∷ ys) ++ more ≢ refused_line z
unfolding line decimal
line_not_refused x y ys more z same =
    let begins = digits_begin x x in
    let first : begins.byte ≡ 114 = ap (λ (bytes : List ℕ). get_or bytes 0 0) (rw begins.is at same) in
    omega (arith, first, begins.small)
