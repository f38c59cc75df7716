-- Calls of the routines.
use Rattle.std.specs.Prelude.{◌≡◌, ◌≢◌, ℕ, ◌+◌, ◌/◌, ◌%◌, ◌<◌, ◌≤◌, ◌==◌, true, List, [], ◌∷◌, ◌++◌, drop, length, Some, None, slice_get, count_by}
use Rattle.chip_tables.specs.Outside.{no_reading}
use Rattle.chip_tables.specs.Scratch.{scratch_of}
use Rattle.chip_tables.specs.declared.memory.TheConstants.{DATA_ADDRESSES}
use Rattle.chip_tables.specs.declared.outside.Poll.TheVariants.{NoPoll}
use Rattle.chip_tables.specs.declared.scratch.Scratch.{Scratch}
use Rattle.chip_tables.specs.declared.target.Target.{Target}
use Rattle.runs.specs.Run.{Went}
use Rattle.byte_code.specs.declared.prim.Paced.{Paced}
use Rattle.byte_code.specs.declared.state.Bytes.{Bytes}
use Rattle.byte_code.specs.declared.store.Store.{Store}
use Rattle.byte_code.specs.Machine.{byte_step, label_place}
use Rattle.byte_code.specs.Store.{cell}
use Rattle.byte_routines.specs.Routines.{multiply, divide}
use Rattle.byte_routines.specs.Words.{product, quotient}
use Rattle.byte_routines.specs.declared.routines.TheConstants.{MULTIPLY_LOOP, DIVIDE_LOOP, DIVIDE_BY_ZERO}

-- a cell is none of a word's
abbrev pub Off : ℕ → ℕ → Type 0
Off c a = (c ≢ a) × (c ≢ a + 1)

-- a word of 16 bits, in two cells of which the first has its low byte
pub record IsWord (d : Store) (at n : ℕ) : Type 0 where
  pub small : n < 65536
  pub low : cell d at ≡ n % 256
  pub high : cell d (at + 1) ≡ n / 256

-- a cell that the routines do not use
pub record IsOther (s : Scratch) (c : ℕ) : Type 0 where
  pub left : Off c s.left
  pub right : Off c s.right
  pub outcome : Off c s.outcome
  pub count : c ≢ s.count
  pub sign : c ≢ s.sign

-- steps that take no reading and send nothing lead from one state to another, and begin these places
pub data Leads (code : List Paced) : Bytes → Bytes → List ℕ → Type 0 where
  stays : {s : Bytes} → Leads code s s []
  goes : {s e : Bytes} {places : List ℕ} (w : Went Bytes) → byte_step code s true no_reading ≡ Some w → w.poll ≡ NoPoll → w.sent ≡ [] →
      Leads code w.next e places → Leads code s e (w.next.place ∷ places)

-- the routine at a place was called, with the words a and b, and a return leads to `back`
pub record IsCalled (s : Scratch) (at back a b : ℕ) (e : Bytes) : Type 0 where
  pub place : e.place ≡ at
  pub opened : e.open_call ≡ Some back
  pub scratch : e.store.scratch ≡ s
  pub cells : length e.store.cells ≡ DATA_ADDRESSES
  pub left : IsWord e.store s.left a
  pub right : IsWord e.store s.right b

-- It comes back with the number n in the word `to`. Of the cells only the routines' are others, and nothing else is but the flag; and each of the routine's
-- places is begun as often at most as it says for one call.
pub record ComesBack (code : List Paced) (s : Scratch) (routine : List Paced) (at back to n : ℕ) (e : Bytes) : Type 0 where
  pub end : Bytes
  pub begun : List ℕ
  pub leads : Leads code e end begun
  pub place : end.place ≡ back
  pub closed : end.open_call ≡ None
  pub result : IsWord end.store to n
  pub kept : (c : ℕ) → IsOther s c → cell end.store c ≡ cell e.store c
  pub rest : end.store ≡ record e.store { cells = end.store.cells; flag = end.store.flag }
  pub counts : (k : ℕ) (q : Paced) → slice_get routine k ≡ Some q → count_by (λ i. i == k + at) (at ∷ begun) ≤ q.turns

-- The routine of products, wherever it stands behind its calls, comes back with the product as its outcome.
abbrev pub ProductsAreMade : Type 0
ProductsAreMade =
    (t : Target) (s : Scratch) → scratch_of t ≡ Some s → (code : List Paced) (calls at back a b : ℕ) (rest : List Paced) →
    drop at code ≡ multiply s calls ++ rest → label_place code MULTIPLY_LOOP ≡ at + 3 → back < at →
    (e : Bytes) → IsCalled s at back a b e → ComesBack code s (multiply s 1) at back s.outcome (product a b) e

-- and that of quotients with the quotient in the left word
abbrev pub QuotientsAreMade : Type 0
QuotientsAreMade =
    (t : Target) (s : Scratch) → scratch_of t ≡ Some s → (code : List Paced) (calls at back a b : ℕ) (rest : List Paced) →
    drop at code ≡ divide s calls ++ rest → label_place code DIVIDE_LOOP ≡ at + 8 → label_place code DIVIDE_BY_ZERO ≡ at + 13 → back < at →
    (e : Bytes) → IsCalled s at back a b e → ComesBack code s (divide s 1) at back s.left (quotient a b) e
