-- Whole runs of assembled words.
use Rattle.std.specs.Prelude.{◌≡◌, ℕ, suc, ◌+◌, ◌*◌, ◌<◌, List, [], ◌∷◌, ◌++◌, Some, None, Bool, true, false, slice_get, sum_by}
use Rattle.std.specs.List.{AllByRecursion}
use Rattle.chip_tables.specs.declared.outside.PinReading.{PinReading}
use Rattle.runs.specs.Run.{Moment, moment, first_moment}
use Rattle.byte_code.specs.declared.prim.BytePrim.{BytePrim}
use Rattle.byte_code.specs.declared.prim.Paced.{Paced}
use Rattle.byte_code.specs.declared.state.Bytes.{Bytes}
use Rattle.byte_code.specs.Table.{shape_of}
use Rattle.byte_code.specs.Machine.{is_name, label_place}
use Rattle.byte_code.specs.Counts.{KeepsCounts}
use Rattle.target_core.specs.Law.{Target, label_named, is_start}
use Rattle.target_core.specs.Laid.{IsFollowed, Laid, LaidHolds}

-- the word place of each primitive, and at the end the number of words
abbrev pub places_from : (BytePrim → ℕ) → ℕ → List Paced → List ℕ
places_from words at [] = at ∷ []
places_from words at (p ∷ ps) = at ∷ places_from words (at + words p.prim) ps

abbrev pub words_sum : {M : Type 0} → Target M → List Paced → ℕ
words_sum t code = sum_by (λ p. t.words_in p.prim) code

-- the flash has fewer words than the code
abbrev pub IsTooLong : {M : Type 0} → Target M → List Paced → Type 0
IsTooLong t code = t.size < words_sum t code

-- what each segment behind the first may cost, and what the first may cost
abbrev pub cycles_sum : {M : Type 0} → Target M → List Paced → ℕ
cycles_sum t code = sum_by (λ p. t.cycles_in p.prim * p.turns) code

abbrev pub boot_sum : {M : Type 0} → Target M → List Paced → ℕ
boot_sum t code = sum_by (λ p. t.cycles_in p.prim * p.boot) code

-- a byte state in front of the start
pub record IsFresh (s : Bytes) : Type 0 where
  pub place : s.place ≡ 0
  pub started : s.started ≡ false
  pub open_call : s.open_call ≡ None

-- the machine over this flash, with the code at its places
abbrev pub laid : {M : Type 0} → Target M → List Paced → List ℕ → Laid M
laid t code flash = record {
  step = t.step flash;
  stands = t.stands (places_from t.words_in 0 code);
  awaits = λ m s. (p : Paced) × (slice_get code s.place ≡ Some p) × t.awaits (places_from t.words_in 0 code) p.prim m s;
  shows = t.shows;
  reads = t.reads;
  wait = t.wait;
}

-- Whatever stands behind the words in flash, each run of them whose byte run keeps its counts stands for that byte run, and these numbers bound what
-- its segments cost.
abbrev pub RunsAs : {M : Type 0} → Target M → List Paced → List ℕ → ℕ → ℕ → Type 0
RunsAs {M} t code words cycles boot =
    (rest : List ℕ) (m : M) (s : Bytes) (readings : List PinReading) (answers : List Bool) →
    IsFresh s → AllByRecursion t.reads readings → t.stands (places_from t.words_in 0 code) m s → KeepsCounts code s readings answers →
    (n : ℕ) (c : Moment M) → moment (t.step (words ++ rest)) n (first_moment m readings answers) ≡ Some c →
    LaidHolds (laid t code (words ++ rest)) code s readings answers cycles boot c

-- the label stands once, and somewhere behind it a primitive that has words
pub record IsPlaced (code : List Paced) (l : ℕ) : Type 0 where
  pub stands : (q : Paced) × (slice_get code (label_place code l) ≡ Some q) × (is_name (shape_of q.prim) l ≡ true)
  pub once : (k : ℕ) (q : Paced) → slice_get code k ≡ Some q → is_name (shape_of q.prim) l ≡ true → k ≡ label_place code l
  pub before : IsFollowed code (suc (label_place code l))

-- What the assembler asks of its code: the start stands first and nowhere else, each primitive is admitted, and each label that is named stands
-- once, and behind it a primitive that has words.
pub record IsWhole {M : Type 0} (t : Target M) (code : List Paced) : Type 0 where
  pub first : (p : Paced) × (slice_get code 0 ≡ Some p) × (is_start p.prim ≡ true)
  pub others : (i : ℕ) (p : Paced) → slice_get code (suc i) ≡ Some p → is_start p.prim ≡ false
  pub admitted : (i : ℕ) (p : Paced) → slice_get code i ≡ Some p → t.admits p.prim
  pub labels : (i l : ℕ) (p : Paced) → slice_get code i ≡ Some p → label_named p.prim ≡ Some l → IsPlaced code l
