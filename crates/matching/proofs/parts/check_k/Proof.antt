-- `check_k` meets its contract: each return is that of the first cause that holds, and the last that of none. Assumes nothing.
use Rattle.std.specs.Prelude.{Ok, Err}
use mathlib.Core.Path.{◌≡◌, sym, ap, ◌∙◌}
use mathlib.Core.Bool.{Bool, cond, ◌&&◌}
use Prim.Native.Nat.{ℕ}
use lib.Dec.{leb}
use borrow.Author.Rules.{rules}
use borrow.Author.Tests.{not-true, not-false}
use Rattle.refusal.specs.declared.Refusal.TheVariants.{Neighbours}
use Rattle.refusal.specs.First.{first}
use Rattle.matching.specs.Match.{k_causes}
use Rattle.matching.specs.Steps.{k_truncated, k_tested}
use Rattle.matching.proofs.parts.check_k.Statement.{statement}
use Rattle.matching.proofs.parts.check_k.Tie as tie

-- the test of a k that is there
tested : (c : tie.After-is_neighbour_count) → let args = c.args in
    first (k_causes args.n args.rest.now) ≡ cond c.is_neighbour_count.result (Ok tt) (Err Neighbours)
tested c =
    let args = c.args in
    k_tested args.n args.rest.now c.if-rest-lt-K_LENGTH.false
    ∙ ap (λ (t : Bool). cond t (Ok tt) (Err Neighbours))
    (ap (λ (k : ℕ). leb 1 k && leb k args.n) (sym c.u16_at.ensures) ∙ sym c.is_neighbour_count.ensures)

returns : tie.Need-returns-then-rest-lt-K_LENGTH
returns c = sym (k_truncated c.args.n c.args.rest.now c.if-rest-lt-K_LENGTH.true)

returns_2 : tie.Need-returns-then-not-is_neighbour_count
returns_2 c =
    sym (tested c.before
    ∙ ap (λ (t : Bool). cond t (Ok tt) (Err Neighbours)) (not-true c.is_neighbour_count.result c.if-not-is_neighbour_count.true-raw))

returns_3 : tie.Need-returns
returns_3 c =
    sym (tested c.before
    ∙ ap (λ (t : Bool). cond t (Ok tt) (Err Neighbours)) (not-false c.is_neighbour_count.result c.if-not-is_neighbour_count.false-raw))

pub check_k_spec : {M : Type 1} → statement M
check_k_spec = tie.close (tie.spec returns (λ c κs. search rules) (λ c. search rules) (λ c κs. search rules) returns_2 returns_3)
