-- The report of a project that was compiled.
use Rattle.std.specs.Prelude.{◌≡◌, ℕ, List, ◌++◌, length, codes, Ok}
use Rattle.std.specs.Fmt.{decimal}
use Rattle.chip_tables.specs.declared.target.Target.{Target}
use Rattle.chip_tables.specs.declared.target.Target.TheVariants.{F628, F877, Mega16, Interp, AnsiC}
use Rattle.ladder_tree.specs.Names.{names_of}
use Rattle.ladder_tree.specs.declared.names.Names.{Names}
use Rattle.ladder_tree.specs.declared.project.Project.{Project}
use Rattle.intel_hex.specs.Verdict.{hex_verdict}
use Rattle.intel_hex.specs.declared.image.Image.{Image}
use Rattle.mem_plan.specs.Needs.{ram_need, eeprom_need}
use Rattle.ldmicro_top.specs.Verdict.{kept_of}

-- the report of an interpretable text with so many operations, which are also the most that a cycle executes
abbrev pub report : Names → ℕ → List ℕ
report n operations =
    codes "target Interpretable\noperations " ++ (decimal operations
    ++ (codes "\nram " ++ (decimal (ram_need (kept_of n))
    ++ (codes " of 8192\neeprom " ++ (decimal (eeprom_need (kept_of n))
    ++ (codes " of 512\ncycles " ++ (decimal operations ++ codes "\n")))))))

-- the report of a C text, whose cycles depend on its compiler
abbrev pub c_report : Names → List ℕ
c_report n =
    codes "target ANSI-C\nram " ++ (decimal (ram_need (kept_of n))
    ++ (codes " of 8192\neeprom " ++ (decimal (eeprom_need (kept_of n)) ++ codes " of 512\n")))

-- the report of so many words for the ATmega16, which take so many instruction cycles in a cycle of the ladder and before the first
abbrev pub avr_report : Names → ℕ → ℕ → ℕ → List ℕ
avr_report n words cycles boot =
    codes "target ATmega16\nwords " ++ (decimal words
    ++ (codes " of 8192\nram " ++ (decimal (ram_need (kept_of n))
    ++ (codes " of 960\neeprom " ++ (decimal (eeprom_need (kept_of n))
    ++ (codes " of 512\ncycles " ++ (decimal cycles ++ (codes "\nboot " ++ (decimal boot ++ codes "\n")))))))))

-- the report of a HEX file: of the words of its image
pub record ReportsHex (p : Project) (code : List ℕ) (cycles boot : ℕ) (printed : List ℕ) : Type 0 where
  pub image : Image
  pub read : hex_verdict Mega16 code ≡ Ok image
  pub text : printed ≡ avr_report (names_of p.rungs) (length image.words) cycles boot

-- What is printed of a target's code that takes at most so many cycles in a cycle of the ladder, and so many before the first. Of a target that is not
-- built nothing is.
abbrev pub ReportsOn : Target → Project → List ℕ → ℕ → ℕ → List ℕ → Type 0
ReportsOn F628 p code cycles boot printed = ⊥
ReportsOn F877 p code cycles boot printed = ⊥
ReportsOn Mega16 p code cycles boot printed = ReportsHex p code cycles boot printed
ReportsOn Interp p code cycles boot printed = printed ≡ report (names_of p.rungs) cycles
ReportsOn AnsiC p code cycles boot printed = printed ≡ c_report (names_of p.rungs)

abbrev pub Reports : Project → List ℕ → ℕ → ℕ → List ℕ → Type 0
Reports p code cycles boot printed = ReportsOn p.target p code cycles boot printed
