-- The answer and the buffers of loading, from the counts that the head holds. Assumes nothing.
use Rattle.std.specs.Prelude.{◌≡◌, List, ◌++◌, ℕ, ◌*◌, ◌/◌, ◌%◌, ℤ, drop, Ok}
use Rattle.library.specs.Each.{tabulate}
use Rattle.library.specs.EachLaws.{tabulate_length}
use Rattle.library.specs.Library.{mark_total, library_length, mark_at, settings_at, component_at, read_library}
use Rattle.loading.specs.declared.Loaded.{Loaded}
use Rattle.loading.specs.Load.{loaded, filled}
use Rattle.loading.specs.Heads.{HeadOf}

module _ {d b n : ℕ} (bytes : List ℕ) (is : HeadOf bytes d b n) where
  pub counts_are : {used : ℕ} → used ≡ library_length d b n
      → ◌≡◌ {A = Loaded} (record { d = d; b = b; n = n; used = used }) (loaded (read_library bytes))
  counts_are used_is = rw (used_is, is.of_shape.d_is, is.of_shape.b_is, is.n_is)

  pub marks_filled : (old : List ℤ)
      → tabulate (mark_total d b) (mark_at bytes) ++ drop (mark_total d b) old ≡ filled (Ok tt) (read_library bytes).marks old
  unfolding read_library
  marks_filled old = rw (is.of_shape.d_is, is.of_shape.b_is, tabulate_length (mark_total d b) (mark_at bytes))

  pub settings_filled : (old : List ℕ)
      → tabulate n (settings_at (mark_total d b) bytes) ++ drop n old ≡ filled (Ok tt) (read_library bytes).settings old
  unfolding read_library
  settings_filled old = rw (is.of_shape.d_is, is.of_shape.b_is, is.n_is, tabulate_length n (settings_at (mark_total d b) bytes))

  pub components_filled : (old : List ℤ)
      → tabulate (n * d) (λ k. component_at (mark_total d b) bytes (k / d) (k % d)) ++ drop (n * d) old
      ≡ filled (Ok tt) (read_library bytes).components old
  unfolding read_library
  components_filled old =
      rw
      (is.of_shape.d_is, is.of_shape.b_is, is.n_is, tabulate_length (n * d) (λ k. component_at (mark_total d b) bytes (k / d) (k % d)))
