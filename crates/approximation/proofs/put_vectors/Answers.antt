-- What is packed is the region numbers that came back.
use Rattle.std.specs.Prelude.{Ok}
use Rattle.std.proofs.Common.{◌≡◌, sym, ap, ◌∙◌, true, not, List, [], ◌∷◌, ℕ, ◌*◌, ◌≤◌, ℤ, length, arith}
use Rattle.std.proofs.Math.Seq.{length-take-le}
use Rattle.limits.specs.Limits.{max_dimensions, max_vectors}
use Rattle.refusal.specs.declared.Refusal.TheVariants.{Code}
use Rattle.refusal.specs.First.{◌⇒◌, first, outcome, first_append, outcome_accepted}
use Rattle.codes.specs.Codes.{regions_fit, packed}
use Rattle.codes.specs.Pack.{size_causes, pack_causes, sizes, numbers_le}
use Rattle.approximation.specs.Vectors.{vector_regions, vector_codes}
use Rattle.approximation.specs.OwnCodes.{length_regions, regions_fit_lem}
use Rattle.approximation.specs.VectorCauses.{Inside}
use Rattle.approximation.proofs.put_vectors.Goals as goal

module _ (d b n : ℕ) (vectors marks : List ℤ) (room : ℕ) (sized : first (size_causes d b n (length vectors) room) ≡ Ok tt)
    (given : Inside d b marks vectors) {regions : List ℕ} (are : regions ≡ vector_regions d b marks vectors) where
  all_fit_lem : first ((not (regions_fit d b 0 regions) ⇒ Code) ∷ []) ≡ Ok tt
  unfolding first
  all_fit_lem =
      let fit : regions_fit d b 0 regions ≡ true = rw are (regions_fit_lem d b marks vectors given.inside) in
      rw fit

  -- Region numbers that are the vectors' can be packed, and make their codes.
  packs : first (pack_causes d b n regions room) ≡ Ok tt
  packs =
      let as_many : length regions ≡ length vectors = ap length are ∙ length_regions d b marks 0 vectors in
      let sizes-pass : first (size_causes d b n (length regions) room) ≡ Ok tt = rw as_many sized in
      first_append (size_causes d b n (length regions) room) ((not (regions_fit d b 0 regions) ⇒ Code) ∷ [])
      ∙ outcome_accepted _ _ sizes-pass
      ∙ all_fit_lem

  codes_are : (codes before : List ℕ) → codes ≡ outcome (first (pack_causes d b n regions room)) (packed d b n regions) (λ _. before)
      → codes ≡ vector_codes d b n marks vectors
  codes_are codes before is = is ∙ outcome_accepted _ _ packs ∙ ap (packed d b n) are

-- There is room for all region numbers.
room_for : (d b n count room : ℕ) → first (size_causes d b n count room) ≡ Ok tt → count ≤ max_vectors * max_dimensions
room_for d b n count room right =
    let size = sizes d b n count room right in
    rw size.rows (numbers_le n size.shaped size.few)

pub locate_all-requires : goal.locate_all-requires
locate_all-requires c =
    (c.requires.1, room_for c.args.layout.d c.args.layout.b c.args.n (length c.args.vectors.now) (length c.args.codes.now) c.requires.0)

pub slice_bounds-regions-end : goal.slice_bounds-regions-end
slice_bounds-regions-end c =
    let enough = room_for c.args.layout.d c.args.layout.b c.args.n (length c.args.vectors.now) (length c.args.codes.now) c.requires.0 in
    omega (arith, enough, c.locate_all.auto.regions)

pub slice_bounds-pack-end : goal.slice_bounds-pack-end
slice_bounds-pack-end c =
    let enough = room_for c.args.layout.d c.args.layout.b c.args.n (length c.args.vectors.now) (length c.args.codes.now) c.requires.0 in
    sym (length-take-le (length c.args.vectors.now) c.locate_all.new.regions (omega (arith, enough, c.locate_all.auto.regions)))

pub returns : goal.returns
returns c =
    let a = c.args in
    codes_are a.layout.d a.layout.b a.n a.vectors.now a.marks.now (length a.codes.now) c.requires.0 c.requires.1 c.locate_all.ensures _ _
    c.pack.ensures.codes_after

pub unwrap-requires : goal.unwrap-requires
unwrap-requires c =
    let a = c.args in
    let d = a.layout.d in
    let b = a.layout.b in
    rw (c.pack.ensures.value ∙ packs d b a.n a.vectors.now a.marks.now (length a.codes.now) c.requires.0 c.requires.1 c.locate_all.ensures)
