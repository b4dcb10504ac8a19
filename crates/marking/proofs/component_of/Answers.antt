-- The difference fits, and is the component.
use Rattle.std.proofs.Common.{◌≡◌, ap, ◌∙◌, ℕ, ◌^◌, ℤ, pos, ◌-ℤ◌, w32, w64, to_z, of_z, FitsSigned, arith}
use Rattle.std.proofs.Math.Path.{subst⁻¹}
use Rattle.std.proofs.lemmas.Int.{to_z_pos, to_z-of_z}
use Rattle.signed.specs.Keys.{component_small}
use Rattle.marking.specs.KeysInOrder.{whole_of, ComponentKey, key_component, key_between}
use Rattle.marking.proofs.component_of.Goals as goal

module _ (key : ℕ) (of : ComponentKey key) where
  -- the difference as the code has it
  difference : to_z w64 key -ℤ pos (2 ^ 31) ≡ whole_of key
  unfolding whole_of
  difference = ap (λ (y : ℤ). y -ℤ pos (2 ^ 31)) (to_z_pos w64 key (omega (arith, (key_between of).below)))

  small : FitsSigned w32 (whole_of key)
  small = record { sfits = component_small (whole_of key) (key_component of) }

  difference_fits : FitsSigned w64 (to_z w64 key -ℤ pos (2 ^ 31))
  difference_fits = subst⁻¹ (FitsSigned w64) difference (record { sfits = omega (arith, small.sfits) })

  back : to_z w64 (of_z w64 (to_z w64 key -ℤ pos (2 ^ 31))) ≡ whole_of key
  back = to_z-of_z w64 (to_z w64 key -ℤ pos (2 ^ 31)) difference_fits ∙ difference

pub overflow_cast-result : goal.overflow_cast-result
overflow_cast-result c = record { sfits = omega (arith, (key_between c.requires).below) }

pub overflow_sub-result : goal.overflow_sub-result
overflow_sub-result c = difference_fits c.args.key c.requires

pub overflow_cast-result-2 : goal.overflow_cast-result-2
overflow_cast-result-2 c = subst⁻¹ (FitsSigned w32) (back c.args.key c.requires) (small c.args.key c.requires)

pub returns : goal.returns
returns c =
    ap (λ (z : ℤ). to_z w32 (of_z w32 z)) (back c.args.key c.requires)
    ∙ to_z-of_z w32 (whole_of c.args.key) (small c.args.key c.requires)
