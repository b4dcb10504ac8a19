-- What is written comes from the column's keys, that came back sorted.
use Rattle.std.proofs.Common.{◌≡◌, ap, ◌∙◌, List, map, ◌++◌, ℕ, ◌+◌, ◌^◌, ◌≤◌, ℤ, length, arith}
use Rattle.std.proofs.Math.Path.{ap₂}
use Rattle.refusal.specs.First.{first, outcome, outcome_accepted}
use Rattle.signed.specs.Keys.{key_of}
use Rattle.order.specs.Rank.{sort_causes, long_enough}
use Rattle.order.specs.Words.{in_order as wordsInOrder}
use Rattle.marking.specs.Made.{column, in_order, made_dimension}
use Rattle.marking.specs.Making.{MarksOf, Shares}
use Rattle.marking.specs.InOrder.{column_components}
use Rattle.marking.specs.KeysInOrder.{whole_of, ComponentKeys, keys_in_order, component_keys}
use Rattle.marking.proofs.make_dimension.Goals as goal

module _ {d n t w room : ℕ} {vectors : List ℤ} (given : MarksOf d n t w vectors room) where
  abbrev column_keys : List ℕ
  column_keys = map key_of (column d n vectors t)

  -- the keys that came back from the sort
  sorted : {keys back : List ℕ} {spare : ℕ} → keys ≡ column_keys → length keys ≤ spare
      → back ≡ outcome (first (sort_causes (length keys) spare)) (wordsInOrder keys) (λ _. keys)
      → back ≡ wordsInOrder column_keys
  sorted {keys} {spare = spare} are fits is =
      is ∙ outcome_accepted _ _ (long_enough (length keys) spare fits) ∙ ap wordsInOrder are

  module _ {keys : List ℕ} (count : length keys ≡ n) (are : keys ≡ wordsInOrder column_keys) where
    asked : (Shares (length keys) w) × (2 ^ w + 1 ≤ room) × (ComponentKeys keys)
    asked =
        (rw count given.shares, given.fits, rw are (component_keys (column d n vectors t) (column_components d n vectors t given.components)))

    made : (rest : List ℤ) {last : List ℤ} → last ≡ made_dimension (length keys) w (map whole_of keys) ++ rest
        → last ≡ made_dimension n w (in_order (column d n vectors t)) ++ rest
    made rest is =
        let ordered = ap (map whole_of) are ∙ keys_in_order (column d n vectors t) (column_components d n vectors t given.components) in
        is ∙ ap (λ (l : List ℤ). l ++ rest) (ap₂ (λ (m : ℕ) (l : List ℤ). made_dimension m w l) count ordered)

pub write_marks-requires : goal.write_marks-requires
write_marks-requires c =
    let kept : length c.sort.new.words ≡ length c.args.keys.now = omega arith in
    asked c.requires.0 kept (sorted c.requires.0 c.column_keys.ensures (omega arith) c.sort.ensures.words_after)

pub returns : goal.returns
returns c =
    let kept : length c.sort.new.words ≡ length c.args.keys.now = omega arith in
    made c.requires.0 kept (sorted c.requires.0 c.column_keys.ensures (omega arith) c.sort.ensures.words_after) _ c.write_marks.ensures

pub unwrap-requires : goal.unwrap-requires
unwrap-requires c = rw (c.sort.ensures.value ∙ long_enough (length c.column_keys.new.keys) (length c.args.spare.now) (omega arith))
