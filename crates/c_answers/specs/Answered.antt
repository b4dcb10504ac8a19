-- What a call from C that takes a reading in, looks a region up or measures a distance gives and leaves. Assumes nothing.
use Rattle.std.specs.Prelude.{◌≡◌, ℕ, ℤ, Ok, Err, Result, Option}
use Rattle.refusal.specs.declared.Refusal.{Refusal}
use Rattle.loading.specs.declared.Loaded.{Loaded}
use Rattle.reading.specs.Intake.{intake_number, component_or, presence_number, filler_or, present_bit}

-- the number is the answer's, and where old stood there is now the component, or old where the reading is refused
pub record Answered (answer : Result ℤ Refusal) (number : ℕ) (old new : ℤ) : Type 0 where
  pub status : number ≡ intake_number answer
  pub component : new ≡ component_or old answer

-- the same of the second intake, which leaves 0 where the reading is absent, and tells beside it whether it is present
pub record AnsweredPresence (answer : Result (Option ℤ) Refusal) (number : ℕ) (old new : ℤ) (told : ℕ) : Type 0 where
  pub status : number ≡ presence_number answer
  pub component : new ≡ filler_or old answer
  pub present : told ≡ present_bit answer

-- what an answer leaves where old stood
abbrev pub value_or : {A : Type 0} → A → Result A Refusal → A
value_or old (Ok value) = value
value_or old (Err cause) = old

-- what an answer leaves where a region is wanted and old stood
abbrev pub region_or : ℕ → Result ℕ Refusal → ℕ
region_or = value_or

-- what an answer leaves where a distance is wanted and old stood
abbrev pub distance_or : ℕ → Result ℕ Refusal → ℕ
distance_or = value_or

-- a count of a loaded library, 0 where it is refused
abbrev pub count_of : (Loaded → ℕ) → Result Loaded Refusal → ℕ
count_of count (Ok loaded) = count loaded
count_of count (Err cause) = 0
