-- The lengths decide, and the squares are of the products that came back.
use Rattle.std.proofs.Common.{ℕ, ◌%◌, ◌^◌, List, length, sym, refl, ap, ◌∙◌, length-take-le}
use Rattle.order.proofs.Prefix.{shared_is}
use Rattle.distance.specs.Distance.{product_at, first_squares, measured_is, squares_of_products}
use Rattle.distance.specs.Values.{values_from, values_length, value_at}
use Rattle.distance.proofs.weighed_distance.Goals as goal

pub returns : goal.returns
returns c =
    let a = c.args in
    let d = length a.query.now in
    let product = product_at a.factors.now a.query.now a.vector.now in
    let filled =
    shared_is _ _ c.multiply.new.products c.if-d-gt-MAX_DIMENSIONS.false c.multiply.auto.products
    ∙ c.multiply.ensures
    ∙ ap (values_from product 0) (length-take-le _ _ c.if-d-gt-MAX_DIMENSIONS.false) in
    c.sum_squares.ensures
    ∙ ap (λ (products : List ℕ). first_squares products (length products) % 2 ^ 64) filled
    ∙ ap (λ (n : ℕ). first_squares (values_from product 0 d) n % 2 ^ 64) (values_length product 0 d)
    ∙ ap (λ (n : ℕ). n % 2 ^ 64)
    (squares_of_products a.factors.now a.query.now a.vector.now (values_from product 0 d) d (λ t h. value_at product d t h))
    ∙ sym (measured_is d a.factors.now a.query.now a.vector.now c.if-d-gt-MAX_DIMENSIONS.false refl c.if-vector-d.false)
