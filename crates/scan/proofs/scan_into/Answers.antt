use Rattle.std.proofs.Common.{◌≡◌, ℕ, ◌≤◌, List, map, length, take, ap, ◌∙◌, arith, length-take-le}
use Rattle.refusal.specs.First.{first, outcome, outcome_accepted}
use Rattle.limits.specs.Limits.{max_vectors}
use Rattle.limits.specs.Tests.{Neighbours}
use Rattle.presence.specs.Presence.{factors_of}
use Rattle.order.specs.Pair.{Pair, count_from}
use Rattle.order.specs.Pairs.{pairs_of}
use Rattle.order.specs.Rank.{key_at, ranking}
use Rattle.order.proofs.Prefix.{shared_is}
use Rattle.selection.specs.Reading.{scan}
use Rattle.least.specs.Selected.{least_causes, none_refuses}
use Rattle.distance.specs.Small.{word_small}
use Rattle.distance.specs.Values.{values_from, values_length}
use Rattle.entries.specs.Entries.{entries_of, in_array}
use Rattle.scan.specs.Scanning.{distances_of}
use Rattle.scan.specs.Scanned.{scan_pairs}
use Rattle.scan.proofs.scan_into.Goals as goal

pub measure_all-requires : goal.measure_all-requires
measure_all-requires c =
    let t = c.args.terms in (
      rw c.requires.2 c.requires.0,
      rw c.requires.3 (word_small t.word),
    )

-- the least of n keys are selected, and their pairs are the scan's
selected : (f : ℕ → ℕ) (n k : ℕ) (keys numbers least old-numbers old-least : List ℕ) (room more words : ℕ) → n ≤ max_vectors
    → Neighbours n k
    → keys ≡ values_from f 0 n
    → numbers ≡ outcome (first (least_causes (length keys) room more words)) (take room (ranking keys)) (λ _. old-numbers)
    → least ≡ outcome (first (least_causes (length keys) room more words)) (map (key_at keys) (take room (ranking keys))) (λ _. old-least)
    → room ≡ k → more ≡ k → k ≤ words → pairs_of least numbers ≡ scan k f (count_from 0 n)
selected f n k keys numbers least old-numbers old-least room more words few among are numbers_are least-are of_numbers of-least of_words =
    let count : length keys ≡ n = ap length are ∙ values_length f 0 n in
    let none =
    none_refuses (length keys) room more words (omega arith) (omega (arith, of_numbers, among.some))
    (omega (arith, of_numbers, among.enough))
    (omega (arith, of_numbers, of-least))
    (omega (arith, of_numbers, of_words)) in
    rw (numbers_are ∙ outcome_accepted _ _ none, least-are ∙ outcome_accepted _ _ none, of_numbers) (scan_pairs f n k keys are)

pub returns : goal.returns
returns c =
    let t = c.args.terms in
    let f = distances_of t.d (factors_of t.word) c.args.query.now c.args.vectors.now in
    let by_word = ap (λ (fs : List ℕ). values_from (distances_of t.d fs c.args.query.now c.args.vectors.now) 0
    (length c.args.distances.now)) c.requires.3 in
    let held = c.requires.1.few in
    let pairs =
    selected f t.n t.k _ _ _ _ _ _ _ _ c.requires.0.count c.requires.1
    (c.measure_all.ensures ∙ by_word ∙ ap (values_from f 0) c.requires.2)
    c.select.ensures.numbers_after c.select.ensures.least_after (length-take-le _ _ held) (length-take-le _ _ held)
    c.requires.1.few in
    c.entries_of.ensures
    ∙ ap (λ (ps : List Pair). in_array (entries_of ps))
    (rw (
      shared_is _ _ c.select.new.least held c.select.auto.least,
      shared_is _ _ c.select.new.numbers held c.select.auto.numbers,
    ) pairs)
