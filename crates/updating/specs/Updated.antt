-- A library with a vector added, or with one removed, its marks kept (document 02, Slip 3). Assumes nothing.
use Rattle.std.specs.Prelude.{List, [], ◌∷◌, ◌++◌, ℕ, suc, ◌-◌, ◌*◌, ℤ, take}
use Rattle.codes.specs.Bits.{bytes_of, byte_bits}
use Rattle.codes.specs.Codes.{joined, code_length}
use Rattle.approximation.specs.Vectors.{vector_regions}
use Rattle.splicing.specs.Splice.{spliced}

-- n vectors of d components with their settings, under marks, with codes of b bits
pub record CodedLibrary : Type 0 where
  pub d : ℕ
  pub b : ℕ
  pub n : ℕ
  pub marks : List ℤ
  pub codes : List ℕ
  pub settings : List ℕ
  pub vectors : List ℤ

abbrev pub coded_library : ℕ → ℕ → ℕ → List ℤ → List ℕ → List ℕ → List ℤ → CodedLibrary
coded_library d b n marks codes settings vectors = record {
  d = d;
  b = b;
  n = n;
  marks = marks;
  codes = codes;
  settings = settings;
  vectors = vectors;
}

-- the bits of n codes
abbrev pub code_bits : ℕ → ℕ → List ℕ → List ℕ
code_bits b n codes = take (n * b) (byte_bits codes)

-- the bits of a vector's code
abbrev pub vector_bits : ℕ → ℕ → List ℤ → List ℤ → List ℕ
vector_bits d b marks vector = joined d b 0 (vector_regions d b marks vector)

-- "Adding puts the new pattern last and changes no earlier code": its code's bits stand behind the others'
unfoldable pub added_codes : ℕ → ℕ → ℕ → List ℤ → List ℕ → List ℤ → List ℕ
added_codes d b n marks codes vector = bytes_of (code_length b (suc n)) (code_bits b n codes ++ vector_bits d b marks vector)

abbrev pub added : CodedLibrary → List ℤ → ℕ → CodedLibrary
added l vector setting = record {
  d = l.d;
  b = l.b;
  n = suc l.n;
  marks = l.marks;
  codes = added_codes l.d l.b l.n l.marks l.codes vector;
  settings = l.settings ++ (setting ∷ []);
  vectors = l.vectors ++ vector;
}

-- a list without row i, where each row has so many elements: later rows move down by one
abbrev pub without : {A : Type 0} → ℕ → ℕ → List A → List A
without size i list = spliced list (i * size) list (suc i * size)

-- "removing moves later patterns, settings and codes down by one": a code is a row of b bits
unfoldable pub removed_codes : ℕ → ℕ → List ℕ → ℕ → List ℕ
removed_codes b n codes i = bytes_of (code_length b (n - 1)) (without b i (code_bits b n codes))

abbrev pub removed : CodedLibrary → ℕ → CodedLibrary
removed l i = record {
  d = l.d;
  b = l.b;
  n = l.n - 1;
  marks = l.marks;
  codes = removed_codes l.b l.n l.codes i;
  settings = without 1 i l.settings;
  vectors = without l.d i l.vectors;
}
