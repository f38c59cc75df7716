-- What a trace says: its steps and its EEPROM, or the first line at which it is refused.
use Rattle.std.specs.Prelude.{◌≡◌, ℕ, ◌+◌, ◌<◌, ◌≤◌, Bool, true, false, List, [], ◌∷◌, length, Option, None, Some, Result, Ok, Err, All, sum_by}
use Rattle.texts.specs.Lines.{lines}
use Rattle.texts.specs.Limits.{judged, is_over}
use Rattle.texts.specs.declared.limits.TheConstants.{FILE_BYTES}
use Rattle.ladder_tree.specs.declared.names.Names.{Names}
use Rattle.ladder_trace.specs.declared.trace.Trace.{Trace}
use Rattle.ladder_trace.specs.declared.trace.TraceError.{TraceError}
use Rattle.ladder_trace.specs.declared.trace.TraceError.TheVariants.{Fault, Memory}
use Rattle.ladder_trace.specs.Token.{IsReadingOf, IsMeasuredReading}
use Rattle.ladder_trace.specs.Line.{Draft, start, line_says, most_cycles, eeprom_size}

abbrev pub or_refused : {A : Type 0} → ℕ → (Draft → Result A ℕ) → Option Draft → Result A ℕ
or_refused line go_on None = Err line
or_refused line go_on (Some d) = go_on d

-- The lines behind so many others, which made the draft. Lines are counted from 1.
abbrev pub read_from : Names → ℕ → Draft → List (List ℕ) → Result Draft ℕ
read_from n passed d [] = Ok d
read_from n passed d (l ∷ ls) = or_refused (passed + 1) (λ e. read_from n (passed + 1) e ls) (line_says n d l)

abbrev pub read : Names → List (List ℕ) → Result Draft ℕ
read n ls = read_from n 0 (start n) ls

abbrev pub trace_of : Draft → Trace
trace_of d = record { eeprom = d.eeprom; steps = d.steps }

-- over: the trace is longer than it may be, and its last line here holds the first byte past that
abbrev pub verdict_by : Bool → ℕ → Result Draft ℕ → Result Trace ℕ
verdict_by over count (Err line) = Err line
verdict_by true count (Ok d) = Err count
verdict_by false count (Ok d) = Ok (trace_of d)

abbrev pub verdict : Names → List ℕ → Result Trace ℕ
verdict n text = verdict_by (is_over FILE_BYTES text) (length (lines (judged FILE_BYTES text))) (read n (lines (judged FILE_BYTES text)))

-- a fault names the line at which the trace is refused, and memory may be refused at any time
abbrev pub IsCaused : Names → List ℕ → TraceError → Type 0
IsCaused n text (Fault line) = verdict n text ≡ Err line
IsCaused n text (Memory e) = Unit {0}

-- a trace as it is read: readings of the names, no more cycles than there may be, and a whole EEPROM of bytes
pub record IsTraceOf (n : Names) (t : Trace) : Type 0 where
  pub readings : All (λ s. IsReadingOf n s.reading) t.steps
  pub cycles : sum_by (λ s. s.times) t.steps ≤ most_cycles
  pub eeprom : length t.eeprom ≡ eeprom_size
  pub measured : All (λ s. IsMeasuredReading s.reading) t.steps
  pub bytes : All (λ byte. byte < 256) t.eeprom
