-- What a turn of listing keeps: what is put so far, with the lines of the entries that are left, is the whole. Assumes nothing.
use Rattle.std.proofs.Common.{◌≡◌, sym, ap, ◌∙◌, List, ◌++◌, ℕ, ◌+◌, ◌≤◌, ◌<◌, length, get_or, arith, append_assoc, append-nil, length-append}
use Rattle.order.specs.Pairs.{pair}
use Rattle.entries.specs.declared.Entry.{Entry}
use Rattle.text.specs.Puts.{Puts, puts_length, puts_more, puts_same}
use Rattle.matching.specs.Answer.{entry_line, entry_lines}
use Rattle.matching.specs.Lines.{pairs_in, lines_from, lines_next, lines_none}

-- i of the entries are listed behind an index
pub record Lines (settings text₀ : List ℕ) (at : ℕ) (entries : List Entry) (text : List ℕ) (next i : ℕ) : Type 0 where
  pub front : List ℕ
  pub puts : Puts front at text₀ text next
  pub whole : front ++ lines_from settings entries i ≡ entry_lines settings (pairs_in entries)

abbrev none : Entry
none = record { number = 0; distance = 0 }

module _ {settings text₀ : List ℕ} {at : ℕ} {entries : List Entry} {text : List ℕ} {next i : ℕ}
    (is : Lines settings text₀ at entries text next i) where
  module _ (more : i < length entries) where
    abbrev line : List ℕ
    line = entry_line settings (pair (get_or entries i none).distance (get_or entries i none).number)

    split : (is.front ++ line) ++ lines_from settings entries (i + 1) ≡ entry_lines settings (pairs_in entries)
    split =
        let rest = lines_from settings entries (i + 1) in
        let next-is : lines_from settings entries i ≡ line ++ rest = lines_next settings entries none i more in
        append_assoc is.front line rest ∙ ap (λ (lines : List ℕ). is.front ++ lines) (sym next-is) ∙ is.whole

    -- the line has room behind what is put so far
    pub line_room : at + length (entry_lines settings (pairs_in entries)) ≤ length text₀ → next + length line ≤ length text
    line_room fits =
        let rest = lines_from settings entries (i + 1) in
        let long = sym (ap length split) ∙ length-append (is.front ++ line) rest in
        omega (arith, fits, long, length-append is.front line, is.puts.end, puts_length is.puts)

    pub lines_more : {then : List ℕ} {next' : ℕ} → Puts line next text then next' → Lines settings text₀ at entries then next' (i + 1)
    lines_more puts = record { front = is.front ++ line; puts = puts_more is.puts puts; whole = split }

  pub lines_end : length entries ≤ i → Puts (entry_lines settings (pairs_in entries)) at text₀ text next
  lines_end past =
      let nothing = lines_none settings entries i past in
      puts_same (sym (append-nil is.front) ∙ ap (λ (rest : List ℕ). is.front ++ rest) (sym nothing) ∙ is.whole) is.puts
