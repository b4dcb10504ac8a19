use Rattle.std.proofs.Common.{◌≡◌, ℕ, ◌+◌, ◌*◌, ◌/◌, ◌^◌, ◌<◌, Bool, List, ℤ, pos, get_or, take, sym, ◌∙◌, refl, add-one, length-take, get_or-take, w32, arith, rules}
use Rattle.std.proofs.lemmas.Int.{to_z-of_z}
use Rattle.limits.specs.Tests.{All, all_next, all_fails}
use Rattle.codes.specs.Bits.{bits_at}
use Rattle.cells.specs.CellLaws.{between}
use Rattle.bounds.specs.Inside.{run_inside}
use Rattle.bounds.proofs.Walk.{sets_out, index, region, goes_on_lem}
use Rattle.bounds.proofs.inside.run_inside.Goals as goal

-- the test of component t + 1, and that it was made
abbrev test : List ℤ → List ℕ → ℕ → ℕ → ℕ → List ℤ → ℕ → Bool
test marks codes w bit start vector t = between marks (start + t * (2 ^ w + 1) + bits_at codes (bit + t * w) w) (get_or vector t (pos 0))

tests : (marks : List ℤ) (codes : List ℕ) (w bit start : ℕ) (vector : List ℤ)
    → All (run_inside marks codes w bit start vector) (test marks codes w bit start vector)
unfolding run_inside
tests marks codes w bit start vector = record { next = λ t. refl }

pub returns-then-count-eq0 : goal.returns-then-count-eq0
unfolding run_inside
returns-then-count-eq0 c = rw c.if-count-eq0.true

pub loop-component-init : goal.loop-component-init
unfolding run_inside
loop-component-init c = record { walk = sets_out c.args.first_start c.args.count c.begin-buffer.ensures; so_far = refl }

pub is_between-requires : goal.is_between-requires
is_between-requires c =
    let less : c.loop-component.component-index < c.args.count = omega (arith, length-take c.args.count c.args.vector.now) in
    index c.loop-component.invariant.walk c.requires.0 less c.requires.2 (c.take-buffer.result.bits / 2 ^ c.take-buffer.result.count)

pub returns-then-not-is_between : goal.returns-then-not-is_between
returns-then-not-is_between c =
    let a = c.args in
    let t = c.loop-component.component-index in
    let walk = c.loop-component.invariant.walk in
    let less : t < a.count = omega (arith, length-take a.count a.vector.now) in
    let component = to_z-of_z w32 (get_or (take a.count a.vector.now) t (pos 0)) (search rules) ∙ get_or-take a.count a.vector.now t (pos 0) less in
    let told : c.is_between.result ≡ test a.marks.now a.codes.now a.w a.first_bit a.first_start a.vector.now t =
    c.is_between.ensures ∙ rw (component, region walk c.requires.0 less c.take-buffer.ensures, walk.start_is) in
    sym (all_fails (tests a.marks.now a.codes.now a.w a.first_bit a.first_start a.vector.now) a.count t less
    (sym told ∙ c.if-not-is_between.true))

pub loop-component-preserved : goal.loop-component-preserved
loop-component-preserved c =
    let a = c.args in
    let t = c.loop-component.component-index in
    let at = c.loop-component.invariant in
    let less : t < a.count = omega (arith, length-take a.count a.vector.now) in
    let component = to_z-of_z w32 (get_or (take a.count a.vector.now) t (pos 0)) (search rules) ∙ get_or-take a.count a.vector.now t (pos 0) less in
    let told : c.is_between.result ≡ test a.marks.now a.codes.now a.w a.first_bit a.first_start a.vector.now t =
    c.is_between.ensures ∙ rw (component, region at.walk c.requires.0 less c.take-buffer.ensures, at.walk.start_is) in
    record {
      walk = goes_on_lem at.walk c.requires.0 less c.take-buffer.ensures;
      so_far = rw add-one
          (all_next (tests a.marks.now a.codes.now a.w a.first_bit a.first_start a.vector.now) t at.so_far
          ∙ sym told ∙ c.if-not-is_between.false);
    }
