-- The routines of products and quotients.
use Rattle.std.specs.Prelude.{ℕ, ◌+◌, ◌*◌, true, List, [], ◌∷◌, ◌++◌}
use Rattle.chip_tables.specs.declared.scratch.Scratch.{Scratch}
use Rattle.byte_code.specs.declared.prim.BytePrim.{BytePrim}
use Rattle.byte_code.specs.declared.prim.BytePrim.TheVariants.{Label, JumpWhere, Return, Byte, Word, Compare}
use Rattle.byte_code.specs.declared.prim.Test.TheVariants as test
use Rattle.byte_code.specs.declared.prim.ByteOp.TheVariants as bytes
use Rattle.byte_code.specs.declared.prim.WordOp.TheVariants as words
use Rattle.byte_code.specs.declared.prim.CompareOp.TheVariants as compares
use Rattle.byte_code.specs.declared.prim.FlagKind.TheVariants as kind
use Rattle.byte_code.specs.declared.prim.WordSource.{WordSource}
use Rattle.byte_code.specs.declared.prim.WordSource.TheVariants as word
use Rattle.byte_code.specs.declared.prim.Paced.{Paced}
use Rattle.byte_routines.specs.declared.routines.TheConstants.{MULTIPLY, MULTIPLY_LOOP, DIVIDE, DIVIDE_LOOP, DIVIDE_BY_ZERO}

-- begun so often in a cycle, and not in front of the first
abbrev pub begun : ℕ → BytePrim → Paced
begun turns p = record { prim = p; boot = 0; turns = turns }

abbrev pub zero_word : WordSource
zero_word = word.Number 0 0

-- Shift and add: the outcome becomes the product of the left and the right word. In each of eight steps one bit of each byte of the right word is used. It is
-- called so often in a cycle.
abbrev pub multiply : Scratch → ℕ → List Paced
multiply s calls =
    begun calls (Label MULTIPLY)
    ∷ begun calls (Word (words.Move s.outcome zero_word))
    ∷ begun calls (Byte (bytes.Put s.count 8))
    ∷ begun (calls * 8) (Label MULTIPLY_LOOP)
    ∷ begun (calls * 8) (Word words.MultiplyStep)
    ∷ begun (calls * 8) (JumpWhere test.LoopsOn MULTIPLY_LOOP)
    ∷ begun calls Return
    ∷ []

-- the sign of the quotient, the numbers without their signs, and the jump of a quotient by 0
abbrev pub divide_front : Scratch → ℕ → List Paced
divide_front s calls =
    begun calls (Label DIVIDE)
    ∷ begun calls (Byte (bytes.Xor s.sign (s.left + 1) (s.right + 1)))
    ∷ begun calls (Word (words.NegateIf s.left (s.left + 1)))
    ∷ begun calls (Word (words.NegateIf s.right (s.right + 1)))
    ∷ begun calls (Word (words.Move s.outcome zero_word))
    ∷ begun calls (Byte (bytes.Put s.count 16))
    ∷ begun calls (Compare (compares.Equal s.right zero_word))
    ∷ begun calls (JumpWhere (test.Flag kind.Equal true) DIVIDE_BY_ZERO)
    ∷ []

abbrev pub divide_steps : Scratch → ℕ → List Paced
divide_steps s calls =
    begun (calls * 16) (Label DIVIDE_LOOP)
    ∷ begun (calls * 16) (Word words.DivideStep)
    ∷ begun (calls * 16) (JumpWhere test.LoopsOn DIVIDE_LOOP)
    ∷ begun calls (Word (words.NegateIf s.left s.sign))
    ∷ begun calls Return
    ∷ begun calls (Label DIVIDE_BY_ZERO)
    ∷ begun calls (Word (words.Move s.left zero_word))
    ∷ begun calls Return
    ∷ []

-- Shift and subtract: the left word becomes the quotient of the left and the right word. Each of sixteen steps gives one bit. It is called so often in a
-- cycle.
abbrev pub divide : Scratch → ℕ → List Paced
divide s calls = divide_front s calls ++ divide_steps s calls
