use Rattle.std.proofs.Common.{◌≡◌, ℕ, ◌+◌, ◌-◌, ◌*◌, List, take, drop, sym, ap, ◌∙◌, eq-eqb, arith, Some}
use Rattle.distance.specs.Distance.{measured_of}
use Rattle.bounds.specs.Inside.{in_cell}
use Rattle.search.specs.Search.{in_own_cell}
use Rattle.search.specs.Ready.{place}
use Rattle.least_reading.specs.Prepared.{library_of}
use Rattle.least_reading.specs.Vector.{celled, measured}
use Rattle.least_reading.proofs.reading.read_vector.Goals as goal

pub returns-then-not-in_cell : goal.returns-then-not-in_cell
returns-then-not-in_cell c =
    let a = c.args.task.now in
    let number = c.args.number in
    let ready = c.requires.0.ready in
    let o = number * a.terms.d in
    let size : o + a.terms.d - o ≡ a.terms.d = omega arith in
    let inside : c.in_cell.result ≡ in_own_cell (library_of a) number =
    c.in_cell.ensures
    ∙ ap (λ (m : ℕ). in_cell a.terms.d a.terms.b a.marks.now a.codes.now number (take m (drop o a.vectors.now))) size
    ∙ rw (celled ready number c.requires.1, eq-eqb _ _ (place ready number c.requires.1).size) in
    let out = sym inside ∙ c.if-not-in_cell.true in
    rw out

pub returns : goal.returns
returns c =
    let a = c.args.task.now in
    let number = c.args.number in
    let ready = c.requires.0.ready in
    let o = number * a.terms.d in
    let size : o + a.terms.d - o ≡ a.terms.d = omega arith in
    let inside : c.in_cell.result ≡ in_own_cell (library_of a) number =
    c.in_cell.ensures
    ∙ ap (λ (m : ℕ). in_cell a.terms.d a.terms.b a.marks.now a.codes.now number (take m (drop o a.vectors.now))) size
    ∙ rw (celled ready number c.requires.1, eq-eqb _ _ (place ready number c.requires.1).size) in
    let in-it = sym inside ∙ c.if-not-in_cell.false in
    rw in-it
    (ap (λ (m : ℕ). Some m)
    (c.weighed_distance.ensures
    ∙ ap (λ (m : ℕ). measured_of a.factors a.query.now (take m (drop o a.vectors.now))) size
    ∙ ap (λ (factors : List ℕ). measured_of factors a.query.now (take a.terms.d (drop o a.vectors.now))) c.requires.0.weighed
    ∙ measured ready number c.requires.1 in-it))
