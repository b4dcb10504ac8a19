-- `main` meets its contract: the text stands in the output. Assumes nothing.
use mathlib.Core.Path.{◌≡◌, refl, sym, ap, ◌∙◌}
use Prim.Native.Nat.{suc, ◌≤◌}
use native.Mathlib.Omega.{arith}
use lib.ListN.{length, take, length-take}
use lib.Seq.{length-take-le, take_all}
use borrow.Author.Rules.{rules}
use Rattle.matching.specs.Longest.{longest_match, longest_match_lem, front_within}
use Rattle.kit.proofs.main.Statement.{statement}
use Rattle.kit.proofs.main.Tie as tie

-- the buffer has one byte more than the longest match, and what was read stands in it
room : (c : tie.After-read_full-n) → length c.read_full-n.new.buf ≡ suc longest_match
room c = c.read_full-n.auto.buf ∙ ap suc (sym longest_match_lem)

read_within : (c : tie.After-read_full-n) → c.read_full-n.result ≤ suc longest_match
read_within c = omega (arith, c.read_full-n.ensures, room c)

output_holds : tie.Need-slice_bounds-output-end
output_holds c =
    let ran = c in
    let read = ran in
    let bytes = take read.read_full-n.result read.read_full-n.new.buf in
    let few : length bytes ≤ suc longest_match =
    omega (arith, length-take read.read_full-n.result read.read_full-n.new.buf, read_within read.before.before.before.before.before) in
    front_within (ran.print-length.ensures bytes (take_all (suc longest_match) bytes few))

pub main_spec : {M : Type 1} → statement M
main_spec =
    tie.close
    (tie.spec
    (λ c. search rules)
    (λ c κs. search rules)
    (λ c. search rules)
    (λ c. search rules)
    (λ c κs. (room c.before.before.before, read_within c.before.before.before, refl))
    output_holds
    (λ c. sym (length-take-le _ _ (output_holds c.before)))
    (λ c κs. search rules)
    (λ c. search rules))
