-- The reading one step at a time, and what holds of every state on the way: the best are the scan's answer over the numbers read, and the
-- numbers read are the first of the ranking. Assumes nothing.
use Rattle.std.specs.Prelude.{◌≡◌, Bool, true, false, cond, ◌||◌, ltb, get_or}
use Rattle.std.proofs.Math.Path.{refl, sym, ap}
use Rattle.std.proofs.Common.{◌∙◌, true≢false, arith, ltb-false, le-ltb}
use Rattle.std.proofs.lemmas.Bool.{false≢true}
use mathlib.Core.List.Memᴰ
use mathlib.Core.List.{List, [], ◌∷◌, ◌++◌, append-nil}
use Prim.Native.Nat.{ℕ, zero, suc, ◌+◌, ◌-◌, ◌≤◌, min}
use Rattle.std.proofs.Math.Dec.{leb-suc-suc}
use Rattle.std.proofs.Math.ListN.{length, take, length-append}
use Rattle.std.proofs.Math.Seq.{append_snoc, take-nil}
use Rattle.order.specs.Pair.{Pair, below, insert, sort, keyed, ranked, numbers_of}
use Rattle.order.specs.AtMost.{AtMost, level, below_true, below_false, not_below}
use Rattle.order.specs.Members.{◌∈◌}
use Rattle.selection.specs.Reading.{scan, Reading, unread, least_pair, goes_on, read_next, reading}
use Rattle.selection.proofs.Scan.{scan_length, scan_snoc}

-- ---- the test

-- where it does not go on there are k best, and the k-th is at most the next pair
pub record Stopped (k : ℕ) (best : List Pair) (p : Pair) : Type 0 where
  pub full : k ≤ length best
  pub late : AtMost (get_or best (k - 1) least_pair) p

neither : (t u : Bool) → (t || u) ≡ false → (t ≡ false) × (u ≡ false)
neither true u e = absurd (true≢false e)
neither false u e = (refl, e)

pub stopped : (k : ℕ) (best : List Pair) (p : Pair) → goes_on k best p ≡ false → Stopped k best p
unfolding goes_on
stopped k best p e =
    let tests = neither (ltb (length best) _) _ e in
    record { full = omega (arith, ltb-false); late = below_false p (get_or best (k - 1) least_pair) tests.1 }

-- where it goes on, the pair itself would be one of the k best
enters_first : (m : ℕ) (p : Pair) (best : List Pair) → (ltb (length best) (suc m) || below p (get_or best m least_pair)) ≡ true
    → p ∈ take (suc m) (insert p best)
unfolding insert
enters_first m p [] e = Memᴰ.head refl
enters_first zero p (b ∷ bs) e = rw (not_below (below_true p b (rw (le-ltb (suc (length bs)) 1 (omega arith)) at e))) (Memᴰ.head refl)
enters_first (suc m) p (b ∷ bs) e = go (below b p) (enters_first m p bs (rw (leb-suc-suc (suc (length bs)) (suc m)) at e))
  where
    go : (t : Bool) → p ∈ take (suc m) (insert p bs) → p ∈ take (suc (suc m)) (cond t (b ∷ insert p bs) (p ∷ b ∷ bs))
    go true rest = Memᴰ.tail rest
    go false rest = Memᴰ.head refl

pub enters : (k : ℕ) (best : List Pair) (p : Pair) → length best ≤ k → goes_on k best p ≡ true → p ∈ take k (insert p best)
unfolding goes_on least_pair
enters zero [] p fits e = absurd (false≢true (sym (not_below (level (omega arith) (omega arith))) ∙ e))
enters zero (b ∷ bs) p fits e = absurd (omega arith)
enters (suc m) best p fits e =
    let last : suc m - 1 ≡ m = omega arith in
    enters_first m p best (rw last at e)

-- ---- along a reading

module _ (k : ℕ) (distance : ℕ → ℕ) where
  -- what holds at the end of the ranking, where the reading stops, and of a step if it holds of the rest
  pub record Along (P : List Pair → Reading → Reading → Type 0) : Type 0 where
    pub at_end : (state : Reading) → P [] state state
    pub at_stop : (p : Pair) (ps : List Pair) (state : Reading) → goes_on k state.best p ≡ false → P (p ∷ ps) state state
    pub at_step : (p : Pair) (ps : List Pair) (state : Reading) → goes_on k state.best p ≡ true
        → P ps (read_next k distance state p.number) (reading k distance ps (read_next k distance state p.number))
        → P (p ∷ ps) state (reading k distance ps (read_next k distance state p.number))

  -- holds of the whole
  pub along : {P : List Pair → Reading → Reading → Type 0} → Along P → (ps : List Pair) (state : Reading)
      → P ps state (reading k distance ps state)
  unfolding reading
  along a [] state = a.at_end state
  along {P} a (p ∷ ps) state = go (goes_on k state.best p) refl (along a ps (read_next k distance state p.number))
    where
      on : Reading
      on = reading k distance ps (read_next k distance state p.number)

      go : (t : Bool) → goes_on k state.best p ≡ t → P ps (read_next k distance state p.number) on → P (p ∷ ps) state (cond t on state)
      go true goes rest = a.at_step p ps state goes rest
      go false stop rest = a.at_stop p ps state stop

  -- ---- the best are the scan's answer over the numbers read

  pub unread_best : unread.best ≡ scan k distance unread.reads
  unfolding unread scan ranked sort keyed
  unread_best = sym (take-nil k)

  pub next_best : (state : Reading) (i : ℕ) → state.best ≡ scan k distance state.reads
      → (read_next k distance state i).best ≡ scan k distance (read_next k distance state i).reads
  unfolding read_next
  next_best state i e = rw (e, scan_snoc k distance state.reads i)

  pub best_count : (state : Reading) → state.best ≡ scan k distance state.reads → length state.best ≡ min k (length state.reads)
  best_count state e = ap length e ∙ scan_length k distance state.reads

  pub reading_best : (ps : List Pair) (state : Reading) → state.best ≡ scan k distance state.reads
      → (reading k distance ps state).best ≡ scan k distance (reading k distance ps state).reads
  reading_best =
      along {P = λ ps state end. state.best ≡ scan k distance state.reads → end.best ≡ scan k distance end.reads}
      (record {
        at_end = λ state e. e;
        at_stop = λ p ps state stop e. e;
        at_step = λ p ps state goes rest e. rest (next_best state p.number e);
      })

  -- it stops short of the ranking's end only with k best
  pub reading_length : (ps : List Pair) (state : Reading) → state.best ≡ scan k distance state.reads
      → length (reading k distance ps state).best ≡ min k (length state.reads + length ps)
  unfolding read_next
  reading_length =
      along
      {P = λ ps state end. state.best ≡ scan k distance state.reads → length end.best ≡ min k (length state.reads + length ps)}
      (record {
        at_end = λ state e. omega (arith, best_count state e);
        at_stop = λ p ps state stop e. omega (arith, best_count state e, (stopped k state.best p stop).full);
        at_step = λ p ps state goes rest e.
            rest (next_best state p.number e) ∙ ap (min k) (omega (arith, length-append state.reads (p.number ∷ [])));
      })

  -- ---- the numbers read are the first of the ranking

  pub reading_reads : (ps : List Pair) (state : Reading)
      → (m : ℕ) × ((reading k distance ps state).reads ≡ state.reads ++ take m (numbers_of ps))
  unfolding read_next numbers_of
  reading_reads =
      along {P = λ ps state end. (m : ℕ) × (end.reads ≡ state.reads ++ take m (numbers_of ps))}
      (record {
        at_end = λ state. (0, sym (append-nil state.reads));
        at_stop = λ p ps state stop. (0, sym (append-nil state.reads));
        at_step = λ p ps state goes rest.
            (suc rest.0, rest.1 ∙ append_snoc state.reads p.number (take rest.0 (numbers_of ps)));
      })

  -- a number stays read
  pub next_read : (ps : List Pair) (state : Reading) (i : ℕ) → i ∈ (reading k distance ps (read_next k distance state i)).reads
  unfolding read_next
  next_read ps state i =
      let r = reading_reads ps (read_next k distance state i) in
      rw r.1 (Memᴰ.append_left (take r.0 (numbers_of ps)) (Memᴰ.append_right state.reads (Memᴰ.head refl)))
