-- `match_loaded` meets its contract: the library stands in the fronts of its buffers, and the rest of the match behind it. Assumes nothing.
use Rattle.std.proofs.Common.{◌≡◌, sym, ap₂, ◌∙◌, List, ℕ, ◌*◌, ◌-◌, ◌≤◌, ℤ, length, take, drop, arith}
use Rattle.std.proofs.lemmas.List.{length-take-le}
use borrow.Author.Rules.{part_to_end}
use Rattle.library.specs.Library.{library_with, mark_total}
use Rattle.library.specs.Sizes.{marks_length_is}
use Rattle.text.specs.Puts.{puts_same}
use Rattle.matching.specs.Match.{match_text}
use Rattle.matching.specs.Steps.{HoldsLibrary, rest_text, begins_within, held_shape, held_few, held_within, held_marks, held_settings}
use Rattle.matching.specs.Steps.{held_components, held_ready, held_text}
use Rattle.matching.proofs.match_loaded.Goals as goal

module _ {input : List ℕ} {d b n used : ℕ} {marks : List ℤ} {settings : List ℕ} {components : List ℤ}
    (held : HoldsLibrary input d b n used marks settings components) where
  marks_within : mark_total d b ≤ length marks
  marks_within = omega (arith, held_marks held, begins_within _ marks held.marks_begin)

  settings_within : n ≤ length settings
  settings_within = omega (arith, held_settings held, begins_within _ settings held.settings_begin)

  components_within : n * d ≤ length components
  components_within = omega (arith, held_components held, begins_within _ components held.components_begin)

  -- the text, from the parts that are handed on
  text_is : {m : ℕ} → m ≡ mark_total d b
      → rest_text (library_with d b n (take m marks) (take n settings) (take (n * d) components)) (take (length input - used) (drop used input))
      ≡ match_text input
  text_is size =
      ap₂ (λ (m : ℕ) (rest : List ℕ). rest_text (library_with d b n (take m marks) (take n settings) (take (n * d) components)) rest)
      size (part_to_end input used)
      ∙ held_text held

pub overflow_mul-count : goal.overflow_mul-count
overflow_mul-count c = omega (arith, held_few c.requires.holds_library)

pub slice_bounds-match_rest-count : goal.slice_bounds-match_rest-count
slice_bounds-match_rest-count c = held_within c.requires.holds_library

pub slice_bounds-match_rest-start : goal.slice_bounds-match_rest-start
slice_bounds-match_rest-start c = held_within c.requires.holds_library

pub slice_bounds-match_rest-end-2 : goal.slice_bounds-match_rest-end-2
slice_bounds-match_rest-end-2 c =
    let size = c.marks_length-m.ensures ∙ marks_length_is c.args.loaded.d c.args.loaded.b (held_shape c.requires.holds_library) in
    sym (length-take-le _ _ (rw size (marks_within c.requires.holds_library)))

pub slice_bounds-match_rest-end-3 : goal.slice_bounds-match_rest-end-3
slice_bounds-match_rest-end-3 c = sym (length-take-le _ _ (settings_within c.requires.holds_library))

pub slice_bounds-match_rest-end-4 : goal.slice_bounds-match_rest-end-4
slice_bounds-match_rest-end-4 c = sym (length-take-le _ _ (components_within c.requires.holds_library))

pub match_rest-requires-clause-ready : goal.match_rest-requires-clause-ready
match_rest-requires-clause-ready c =
    let size = c.marks_length-m.ensures ∙ marks_length_is c.args.loaded.d c.args.loaded.b (held_shape c.requires.holds_library) in
    rw size (held_ready c.requires.holds_library)

pub match_rest-requires-clause-rest_in_bounds : goal.match_rest-requires-clause-rest_in_bounds
match_rest-requires-clause-rest_in_bounds c =
    let size = c.marks_length-m.ensures ∙ marks_length_is c.args.loaded.d c.args.loaded.b (held_shape c.requires.holds_library) in
    rw (text_is c.requires.holds_library size) c.requires.input_in_bounds

pub returns : goal.returns
returns c =
    let size = c.marks_length-m.ensures ∙ marks_length_is c.args.loaded.d c.args.loaded.b (held_shape c.requires.holds_library) in
    puts_same (text_is c.requires.holds_library size) c.match_rest.ensures
