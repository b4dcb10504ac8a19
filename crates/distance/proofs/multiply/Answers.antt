-- The products are the dimensions', one by one.
use Rattle.std.proofs.Common.{length, sym, ◌∙◌, arith}
use Rattle.std.proofs.lemmas.Grind.{same_number_lists}
use Rattle.distance.specs.Distance.{product_at}
use Rattle.distance.specs.Values.{values_from, values_length, value_at}
use Rattle.distance.proofs.multiply.Goals as goal

pub returns : goal.returns
returns c =
    let a = c.args in
    let n = length a.products.now in
    let product = product_at a.factors.now a.query.now a.vector.now in
    same_number_lists c.loop-t.products (values_from product 0 n) (omega (arith, values_length product 0 n))
    (λ k within. c.loop-t.invariant k (omega arith) ∙ sym (value_at product n k (omega arith)))
