-- A library remade (document 02, Slip 2): "Where the old marks came by 01's rule from the same patterns and the old codes were their own,
-- codes and neighbours of a library remade so are the old ones". Nothing is said of the reads. The theorems are in proofs/: Kept.antt (the
-- codes), Neighbours.antt and Entries.antt. Assumes nothing.
use Rattle.std.specs.Prelude.{◌≡◌, List, ℤ, length, Ok}
use Rattle.refusal.specs.First.{first}
use Rattle.codes.specs.BitLaws.{Bytes}
use Rattle.codes.specs.Codes.{code_length}
use Rattle.approximation.specs.Vectors.{vector_codes}
use Rattle.search.specs.Search.{Index}
use Rattle.search.specs.Settled.{OwnCodes}
use Rattle.marking.specs.Made.{made_marks}
use Rattle.marking.specs.Making.{make_causes}
use Rattle.remade.specs.Former.{former_marks}

-- a library whose marks came by 01's rule from its own vectors, which are such that marks can be made from them, and whose codes were the
-- vectors' own
pub record FormerLibrary (l : Index) : Type 0 where
  pub makeable : first (make_causes l.d l.b l.n l.vectors (length l.marks)) ≡ Ok tt
  pub marks : l.marks ≡ former_marks l.d l.b l.n l.vectors
  pub bytes : Bytes l.codes
  pub size : length l.codes ≡ code_length l.b l.n
  pub own : OwnCodes l

-- the library remade: the same vectors, the marks made from them, and their codes packed afresh
abbrev pub new_marks : Index → List ℤ
new_marks l = made_marks l.d l.b l.n l.vectors

abbrev pub remade : Index → Index
remade l = record {
  d = l.d;
  b = l.b;
  n = l.n;
  marks = new_marks l;
  codes = vector_codes l.d l.b l.n (new_marks l) l.vectors;
  vectors = l.vectors;
}
