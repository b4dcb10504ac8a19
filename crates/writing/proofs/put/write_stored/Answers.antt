-- `write_stored` meets its contract: a turn writes one component. Assumes nothing.
use Rattle.std.proofs.Common.{◌≡◌, sym, ap, ◌∙◌, append_assoc, append-nil, ◌+◌, ◌-◌, ◌*◌, ◌<◌, pos, w32, ℤ, length-take, get_or, take, drop, arith, of_z}
use Rattle.std.proofs.lemmas.List.{get_or-take, get_or-drop}
use Rattle.std.proofs.lemmas.Int.{to_z-of_z}
use Rattle.std.specs.Int.{w16}
use Rattle.signed.specs.Components.{component_at_lem}
use Rattle.records.specs.Bytes.{low_first}
use Rattle.library.specs.Each.{tabulate}
use Rattle.library.specs.EachLaws.{tabulate_at}
use Rattle.writing.specs.SignedBytes.{Bits, low_component}
use Rattle.writing.specs.Writable.{component_fits}
use Rattle.writing.specs.WriteLaws.{components_next, components_none}
use Rattle.writing.proofs.put.write_stored.Goals as goal

pub loop-t-preserved : goal.loop-t-preserved
loop-t-preserved c =
    let d = c.args.d in
    let from = c.args.from in
    let t = c.loop-t.t in
    let numbers = c.args.components.now in
    let z = get_or numbers (from + t) (pos 0) in
    let stored = tabulate d (λ t. of_z w16 (get_or numbers (from + t) (pos 0))) in
    let among : t < d = omega (arith, length-take {A = ℤ}) in
    let item = get_or (take (from + d - from) (drop from numbers)) t (pos 0) in
    let is : item ≡ z =
    get_or-take (from + d - from) (drop from numbers) t (pos 0) (omega arith) ∙ get_or-drop from numbers t (pos 0) in
    let bits : Bits c.bits_of.result z =
    rw (to_z-of_z w32 item (record { sfits = omega arith }), is) at c.bits_of.ensures in
    let fits = component_fits z (component_at_lem numbers c.requires.1.of_components (from + t)) in
    let here : low_first 2 c.bits_of.result ≡ low_first 2 (get_or stored t 0) =
    low_component c.bits_of.result z bits fits.sfits
    ∙ ap (low_first 2) (sym (tabulate_at d (λ t. of_z w16 (get_or numbers (from + t) (pos 0))) 0 t among)) in
    let place : c.args.at + 2 * t + 2 ≡ c.args.at + 2 * (t + 1) = omega arith in
    rw (← place, c.put_pair.ensures, here, append_assoc, ← components_next d t stored among) c.loop-t.invariant

pub returns : goal.returns
returns c =
    let d = c.args.d in
    let all : c.loop-t.t ≡ d = omega (arith, length-take {A = ℤ}) in
    rw (components_none d c.loop-t.t _ (omega arith), append-nil, all) at c.loop-t.invariant
