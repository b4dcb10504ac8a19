-- The keys are the column's, key by key.
use Rattle.std.proofs.Common.{map, ◌∙◌, sym, length, arith}
use Rattle.std.proofs.lemmas.List.{length-map}
use Rattle.std.proofs.lemmas.Grind.{same_number_lists}
use Rattle.signed.specs.Keys.{key_of}
use Rattle.marking.specs.Made.{column}
use Rattle.marking.specs.InOrder.{column_length, column_key_at}
use Rattle.marking.proofs.column_keys.Goals as goal

pub returns : goal.returns
returns c =
    let a = c.args in
    let n = length a.keys.now in
    let made = column a.d n a.vectors.now a.t in
    same_number_lists c.loop-i.keys (map key_of made)
    (omega (arith, length-map made key_of, column_length a.d n a.vectors.now a.t))
    (λ k within. c.loop-i.invariant k (omega arith) ∙ sym (column_key_at a.d n a.vectors.now a.t k (omega arith)))
