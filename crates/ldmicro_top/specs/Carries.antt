-- When bytes carry a project: cycle by cycle, what its target does with them is what the ladder does.
use Rattle.std.specs.Prelude.{◌≡◌, ℕ, ◌≤◌, List, [], ◌∷◌, length, map}
use Rattle.chip_tables.specs.declared.target.Target.{Target}
use Rattle.chip_tables.specs.declared.target.Target.TheVariants.{F628, F877, Mega16, Interp, AnsiC}
use Rattle.texts.specs.Lines.{lines}
use Rattle.texts.specs.declared.limits.TheConstants.{CODE_BYTES}
use Rattle.ladder_tree.specs.declared.names.Names.{Names}
use Rattle.ladder_tree.specs.declared.project.Project.{Project}
use Rattle.ladder_tree.specs.Names.{names_of}
use Rattle.ladder_meaning.specs.declared.reading.Reading.{Reading}
use Rattle.ladder_meaning.specs.State.{seen}
use Rattle.ladder_meaning.specs.Cycle.{Ended, start, history}
use Rattle.int_code.specs.Meaning.{Moment}
use Rattle.int_code.specs.Meaning as int
use Rattle.int_code.specs.Store as store
use Rattle.ladder_lower.specs.Correct.{ShowsEnd}
use Rattle.c_output.specs.Text.{c_text}
use Rattle.interp_code.specs.declared.program.InterpProgram.{InterpProgram}
use Rattle.interp_code.specs.Program.{IsProgram}
use Rattle.avr_file.specs.Carries.{CarriesHex}

-- a cycle ends as the ladder's does, and at most so many operations were executed
pub record EndsWithin (n : Names) (most : ℕ) (e : Ended) (m : Moment) : Type 0 where
  pub ends : ShowsEnd n e m
  pub few : m.count ≤ most

-- the same at the end of each cycle, of which there are as many on both sides
abbrev pub EachEnds : Names → ℕ → List Ended → List Moment → Type 0
EachEnds n most [] [] = Unit {0}
EachEnds n most (e ∷ es) (m ∷ ms) = EndsWithin n most e m × EachEnds n most es ms
EachEnds n most [] (m ∷ ms) = ⊥
EachEnds n most (e ∷ es) [] = ⊥

-- An interpretable text. From the start with any EEPROM, on any readings: its program has the project's cycle time and names, and ends every cycle with
-- the outputs, relays, variables, memories, EEPROM, duty and sent bytes of the ladder, after at most as many operations as the text has.
pub record CarriesInterp (p : Project) (code : List ℕ) (most : ℕ) : Type 0 where
  pub program : InterpProgram
  pub read : IsProgram (lines code) program
  pub within : length code ≤ CODE_BYTES
  pub cycle : program.cycle ≡ p.cycle
  pub inputs : program.names.inputs ≡ (names_of p.rungs).inputs
  pub outputs : program.names.outputs ≡ (names_of p.rungs).outputs
  pub analogs : program.names.analog ≡ (names_of p.rungs).analog
  pub variables : program.names.variables ≡ (names_of p.rungs).variables
  pub relays : program.names.relays ≡ (names_of p.rungs).relays
  pub persistent : program.names.persistent ≡ (names_of p.rungs).persistent
  pub operations : length program.program.ops ≡ most
  pub each : (eeprom : ℕ → ℕ) (rs : List Reading) → EachEnds (names_of p.rungs) most
      (history p (start p eeprom) (map (seen (names_of p.rungs)) rs))
      (int.history program.program.ops (store.start program.program.starts eeprom) rs)

-- On a target the bytes do what the project's ladder means. At most so many cycles pass in a cycle of the ladder, and so many before the first: instruction
-- cycles of a chip, and operations of the interpreter, which has none before the first. A C text is that of the ladder, and what its compiler makes of it is
-- not spoken of. Of a target that is not built no bytes carry a project.
abbrev pub CarriesOn : Target → Project → List ℕ → ℕ → ℕ → Type 0
CarriesOn F628 p code cycles boot = ⊥
CarriesOn F877 p code cycles boot = ⊥
CarriesOn Mega16 p code cycles boot = CarriesHex p code cycles boot
CarriesOn Interp p code cycles boot = CarriesInterp p code cycles
CarriesOn AnsiC p code cycles boot = code ≡ c_text p

abbrev pub Carries : Project → List ℕ → ℕ → ℕ → Type 0
Carries p code cycles boot = CarriesOn p.target p code cycles boot
