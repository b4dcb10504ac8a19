-- `answer` meets its contract: the codes are those that packing gives. Assumes nothing.
use Rattle.std.specs.Prelude.{Ok}
use Rattle.std.proofs.Common.{◌≡◌, sym, ap, ◌∙◌, List, ◌++◌, ℕ, ◌*◌, ◌≤◌, ℤ, length, take, drop, replicate, arith}
use Rattle.std.proofs.Math.Nat.{mul-le-mul}
use Rattle.std.proofs.lemmas.List.{length-take-le}
use Rattle.refusal.specs.First.{first, outcome, outcome_accepted, accepted_front}
use Rattle.layout.specs.Stretch.{shape_causes, codes_length, codes_length_is}
use Rattle.codes.specs.Codes.{code_length}
use Rattle.codes.specs.Pack.{length_causes, size_causes, sizes}
use Rattle.approximation.specs.VectorCauses.{locate_causes, pack_vectors_causes}
use Rattle.approximation.specs.Vectors.{vector_codes}
use Rattle.search.specs.Search.{searched}
use Rattle.search.specs.Ready.{index_of, query_of}
use Rattle.text.specs.Puts.{puts_same}
use Rattle.matching.specs.Answer.{answer_lines}
use Rattle.order.proofs.Prefix.{back_within, shared_is}
use Rattle.matching.proofs.answer.answer.Goals as goal

-- the bits of all codes are few
few_bits : (d b n codes : ℕ) (vectors marks : List ℤ) → first (pack_vectors_causes d b n vectors marks codes) ≡ Ok tt → n * b ≤ 98304
few_bits d b n codes vectors marks accepted =
    let is =
    sizes d b n (length vectors) codes
    (accepted_front (size_causes d b n (length vectors) codes) (locate_causes d b vectors marks) accepted) in
    mul-le-mul {n₂ = 512} {m₂ = 192} is.few (omega (arith, is.shaped.bits, is.shaped.few))

-- so many bytes the codes have
length_is : (d b n codes : ℕ) (vectors marks : List ℤ) → first (pack_vectors_causes d b n vectors marks codes) ≡ Ok tt
    → codes_length d b n ≡ code_length b n
length_is d b n codes vectors marks accepted =
    let sized = accepted_front (size_causes d b n (length vectors) codes) (locate_causes d b vectors marks) accepted in
    codes_length_is d b n (accepted_front (shape_causes d b) (length_causes d b n (length vectors) codes) sized)
    (sizes d b n (length vectors) codes sized).few

-- the buffer has room for the codes
codes_hold : (d b n size : ℕ) (vectors marks : List ℤ) → first (pack_vectors_causes d b n vectors marks (code_length b n)) ≡ Ok tt
    → size ≡ codes_length d b n → size ≤ 12288
codes_hold d b n size vectors marks accepted is =
    omega (
      arith,
      few_bits d b n (code_length b n) vectors marks accepted,
      is ∙ length_is d b n (code_length b n) vectors marks accepted,
    )

-- what packing gives for a buffer of the right length
packed_are : (d b n : ℕ) (vectors marks : List ℤ) (old : List ℕ) {new : List ℕ} (room : ℕ)
    → first (pack_vectors_causes d b n vectors marks (code_length b n)) ≡ Ok tt → room ≡ code_length b n
    → new ≡ outcome (first (pack_vectors_causes d b n vectors marks room)) (vector_codes d b n marks vectors) (λ _. old)
    → new ≡ vector_codes d b n marks vectors
packed_are d b n vectors marks old room accepted exact New-is =
    New-is ∙ outcome_accepted _ _ (ap (λ (m : ℕ). first (pack_vectors_causes d b n vectors marks m)) exact ∙ accepted)

pub slice_bounds-codes-end : goal.slice_bounds-codes-end
slice_bounds-codes-end c =
    let terms = c.args.terms in
    let marks = c.args.marks.now in
    let components = c.args.components.now in
    let size = c.codes_length-size.result in
    let hold = codes_hold terms.d terms.b terms.n size components marks c.requires.n_value c.codes_length-size.ensures in
    hold

pub slice_bounds-pack_vectors-end : goal.slice_bounds-pack_vectors-end
slice_bounds-pack_vectors-end c =
    let terms = c.args.terms in
    let marks = c.args.marks.now in
    let components = c.args.components.now in
    let size = c.codes_length-size.result in
    let hold = codes_hold terms.d terms.b terms.n size components marks c.requires.n_value c.codes_length-size.ensures in
    sym (length-take-le _ _ hold)

pub slice_bounds-codes-end-2 : goal.slice_bounds-codes-end-2
slice_bounds-codes-end-2 c =
    let terms = c.args.terms in
    let marks = c.args.marks.now in
    let components = c.args.components.now in
    let size = c.codes_length-size.result in
    let hold = codes_hold terms.d terms.b terms.n size components marks c.requires.n_value c.codes_length-size.ensures in
    back_within _ _ c.pack_vectors.new.codes hold c.pack_vectors.auto.codes

pub slice_bounds-answer_coded-end : goal.slice_bounds-answer_coded-end
slice_bounds-answer_coded-end c =
    let terms = c.args.terms in
    let marks = c.args.marks.now in
    let components = c.args.components.now in
    let size = c.codes_length-size.result in
    let hold = codes_hold terms.d terms.b terms.n size components marks c.requires.n_value c.codes_length-size.ensures in
    sym (length-take-le _ _ (back_within _ _ c.pack_vectors.new.codes hold c.pack_vectors.auto.codes))

pub answer_coded-requires-clause-n_value : goal.answer_coded-requires-clause-n_value
answer_coded-requires-clause-n_value c =
    let terms = c.args.terms in
    let marks = c.args.marks.now in
    let components = c.args.components.now in
    let size = c.codes_length-size.result in
    let hold = codes_hold terms.d terms.b terms.n size components marks c.requires.n_value c.codes_length-size.ensures in
    let exact = c.codes_length-size.ensures ∙ length_is terms.d terms.b terms.n _ components marks c.requires.n_value in
    let codes : take size (c.pack_vectors.new.codes ++ drop size (replicate 12288 0)) ≡ vector_codes terms.d terms.b terms.n marks components =
    shared_is _ _ c.pack_vectors.new.codes hold c.pack_vectors.auto.codes
    ∙ packed_are terms.d terms.b terms.n components marks _ _ c.requires.n_value (length-take-le _ _ hold ∙ exact)
    c.pack_vectors.ensures.codes_after in
    rw codes c.requires.n_value_2

pub answer_coded-requires-clause-k_in_bounds : goal.answer_coded-requires-clause-k_in_bounds
answer_coded-requires-clause-k_in_bounds c =
    let terms = c.args.terms in
    let marks = c.args.marks.now in
    let components = c.args.components.now in
    let size = c.codes_length-size.result in
    let hold = codes_hold terms.d terms.b terms.n size components marks c.requires.n_value c.codes_length-size.ensures in
    let exact = c.codes_length-size.ensures ∙ length_is terms.d terms.b terms.n _ components marks c.requires.n_value in
    let codes : take size (c.pack_vectors.new.codes ++ drop size (replicate 12288 0)) ≡ vector_codes terms.d terms.b terms.n marks components =
    shared_is _ _ c.pack_vectors.new.codes hold c.pack_vectors.auto.codes
    ∙ packed_are terms.d terms.b terms.n components marks _ _ c.requires.n_value (length-take-le _ _ hold ∙ exact)
    c.pack_vectors.ensures.codes_after in
    rw codes c.requires.k_in_bounds

pub returns : goal.returns
returns c =
    let terms = c.args.terms in
    let marks = c.args.marks.now in
    let components = c.args.components.now in
    let size = c.codes_length-size.result in
    let hold = codes_hold terms.d terms.b terms.n size components marks c.requires.n_value c.codes_length-size.ensures in
    let exact = c.codes_length-size.ensures ∙ length_is terms.d terms.b terms.n _ components marks c.requires.n_value in
    let codes : take size (c.pack_vectors.new.codes ++ drop size (replicate 12288 0)) ≡ vector_codes terms.d terms.b terms.n marks components =
    shared_is _ _ c.pack_vectors.new.codes hold c.pack_vectors.auto.codes
    ∙ packed_are terms.d terms.b terms.n components marks _ _ c.requires.n_value (length-take-le _ _ hold ∙ exact)
    c.pack_vectors.ensures.codes_after in
    puts_same (ap
    (λ (codes : List ℕ). answer_lines c.args.settings.now terms.k
    (searched (index_of terms marks codes components) (query_of terms c.args.query.now) terms.k))
    codes)
    c.answer_coded.ensures
