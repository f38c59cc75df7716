-- What the code holds, as the definitions have it.
use Rattle.std.specs.Prelude.{◌≡◌, ℕ, Bool, List, length, Option, Ok, Err}
use Rattle.std.specs.Option.{option_map}
use Rattle.texts.specs.Keys.{keys_of, Takes}
use Rattle.std.specs.HashSet.{HashSet}
use Rattle.std.specs.Borrow.{Bor}
use Rattle.ladder_tree.specs.declared.names.Names.{Names}
use Rattle.ladder_meaning.specs.declared.reading.Reading.{Reading}
use Rattle.ladder_trace.specs.declared.levels.Levels.{Levels}
use Rattle.ladder_trace.specs.declared.reader.Reader.{Reader}
use Rattle.ladder_trace.specs.declared.trace.Outcome.{Outcome}
use Rattle.ladder_trace.specs.declared.trace.Outcome.TheVariants as outcome
use Rattle.ladder_trace.specs.Token.{Given}
use Rattle.ladder_trace.specs.Line.{Draft}
use Rattle.ladder_trace.specs.Trace.{read}

abbrev pub reading : Levels → Reading
reading l = record { inputs = l.inputs.items; analog = l.analog.items; rx = l.rx; tx_busy = l.tx_busy; ee_busy = l.ee_busy }

-- an answer to all tokens of a step, and the reading that they leave where it is yes
abbrev pub Gives : Option Given → Bool → Reading → Type 0
Gives o ok r = Takes (option_map (λ g. g.reading) o) ok r

abbrev pub given : {S : Type 0} → HashSet (Bor (List ℕ)) S → Levels → Given
given keys levels = record { keys = keys_of keys; reading = reading levels }

abbrev pub draft : Reader → Draft
draft r = record { begun = r.begun; eeprom = r.eeprom; reading = reading r.levels; cycles = r.cycles; steps = r.steps }

-- how far lines were read
abbrev pub IsOutcome : Names → List (List ℕ) → Outcome → Type 0
IsOutcome n ls (outcome.All reader count) = (read n ls ≡ Ok (draft reader)) × (count ≡ length ls)
IsOutcome n ls (outcome.Stopped line) = read n ls ≡ Err line
